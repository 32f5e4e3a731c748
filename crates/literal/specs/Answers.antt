-- What a literal's reader leaves. Assumes nothing.
use Rattle.std.specs.Prelude.{Option, None, Some}
use Rattle.std.specs.Prelude.{cond, List, ℕ, ◌+◌, length, take}
use Rattle.std.proofs.lemmas.List.Edits.{sets}
use Rattle.spec.specs.Literal.{Read}
use Rattle.spec.specs.Lists.{over}

-- bytes written over the first cells, as far as they fit
abbrev pub stored : List ℕ → List ℕ → List ℕ
stored bytes cells = over (take (length cells) bytes) cells

-- ── A reader on its way ──────────────────────────────────────────────

-- What a reader leaves behind: the cells of its output, and the length that it answers, none if the literal is bad.
pub record Left : Type 0 where
  pub cells : List ℕ
  pub answer : Option ℕ

abbrev pub ended : Option ℕ → List ℕ → Left
ended answer cells = record { cells = cells; answer = answer }

-- what a reader leaves that has written n bytes and reads r from here on; a store past the last cell changes nothing
unfoldable pub left : List ℕ → ℕ → Read → Left
left cells n r = record { cells = sets cells n r.bytes; answer = cond r.good (Some (n + length r.bytes)) None }
