-- A reader of lossy text that takes one byte at a time. It holds the bytes of a character that has begun, at most three, and gives
-- out what they and the next byte settle. That what it gives out is the lossy text is `lossy-run` in
-- proofs/ReaderLaws.antt. Assumes nothing.
use Rattle.std.specs.Prelude.{cond, List, [], ◌∷◌, ◌++◌, ℕ, length, drop}
use Rattle.std.specs.Prelude.{Option, None, Some}
use Rattle.spec.specs.Utf8.{Range, within, after, replacement}

-- ── One byte ─────────────────────────────────────────────────────────

-- What a byte brings: the bytes that go out, and those that are held from then on.
pub record Turn : Type 0 where
  pub out : List ℕ
  pub held : List ℕ

abbrev pub followers : Option (List Range) → List Range
followers None = []
followers (Some rs) = rs

-- the ranges of the bytes that must follow the held ones, by the rule of the first of them
unfoldable pub wants : List ℕ → List Range
unfolding after
wants [] = []
wants (a ∷ h) = drop (length h) (followers (after a))

-- Bytes that fit the grammar so far: out if nothing must follow them, held if something must.
abbrev pub taken : List Range → List ℕ → Turn
taken [] h = record { out = h; held = [] }
taken (r ∷ rs) h = record { out = []; held = h }

abbrev pub begun : Option (List Range) → ℕ → Turn
begun None b = record { out = replacement; held = [] }
begun (Some rs) b = taken rs (b ∷ [])

-- a byte where none is held
unfoldable pub start : ℕ → Turn
unfolding after
start b = begun (after b) b

-- the held bytes are an ill-formed part: U+FFFD for them, then what the byte brings by itself
abbrev pub broken : Turn → Turn
broken t = record { out = replacement ++ t.out; held = t.held }

abbrev pub pushed : List Range → List ℕ → ℕ → Turn
pushed [] h b = start b
pushed (r ∷ rs) h b = cond (within r b) (taken rs (h ++ b ∷ [])) (broken (start b))

-- The byte b after the held bytes h.
unfoldable pub push_of : List ℕ → ℕ → Turn
unfolding wants start
push_of h b = pushed (wants h) h b

-- The end after the held bytes: they are cut off.
abbrev pub finish_of : List ℕ → Turn
finish_of [] = record { out = []; held = [] }
finish_of (a ∷ h) = record { out = replacement; held = [] }

-- ── A string ─────────────────────────────────────────────────────────

-- one turn, then another
abbrev pub joined : Turn → Turn → Turn
joined t u = record { out = t.out ++ u.out; held = u.held }

-- the bytes of s one after another, from the held bytes h on
unfoldable pub run : List ℕ → List ℕ → Turn
unfolding push_of
run h [] = record { out = []; held = h }
run h (b ∷ s) = joined (push_of h b) (run (push_of h b).held s)
