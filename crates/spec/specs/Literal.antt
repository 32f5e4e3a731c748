-- Literals: document 01, "Literals", and document 02, W-205. A literal is read byte by byte; an escape is one step that says which bytes
-- it stands for and how far it reaches. The set of escapes is a parameter of the reading: `escapes_of` gives that of an edition.
-- Assumes nothing.
use Rattle.std.specs.Prelude.{Bool, ◌&&◌, ◌||◌, ℕ, zero, suc, ◌-◌, eqb, leb, ltb, length, take, drop, get_or}
use Rattle.std.proofs.Math.Bool.{true, false, cond}
use Rattle.std.specs.Prelude.{Option, None, Some}
use Rattle.std.specs.Option.{option_or}
use Rattle.spec.specs.Options.{bind}
use mathlib.Core.List.{List, [], ◌∷◌, ◌++◌}
use Rattle.spec.specs.Utf8.{◌to◌, within, utf8_of}
use Rattle.spec.specs.Digits.{hex_after, hex_run, octal_after, octal_run}

-- ── Bytes with a meaning ─────────────────────────────────────────────

-- `b`, `'`, `"` and `\`
abbrev pub letter_b : ℕ
letter_b = 0x62

abbrev pub apostrophe : ℕ
apostrophe = 0x27

abbrev pub double_quote : ℕ
double_quote = 0x22

abbrev pub backslash : ℕ
backslash = 0x5C

-- ── One step inside the quotes ────────────────────────────────────────

-- What stands at a place: the bytes it stands for, and how many bytes behind the first belong to it.
pub record Piece : Type 0 where
  pub bytes : List ℕ
  pub more : ℕ

-- A set of escapes: in a `b` literal or not, the piece that a backslash and the bytes behind it make; none if that is bad.
abbrev pub Escapes : Type 0
Escapes = Bool → List ℕ → Option Piece

-- "`n t r \ ' "` as in Python; `0` is one zero byte in any company": each letter and its byte
unfoldable pub letters : List (ℕ × ℕ)
letters =
    (0x6E, 0x0A) ∷
    (0x74, 0x09) ∷
    (0x72, 0x0D) ∷
    (backslash, backslash) ∷
    (apostrophe, apostrophe) ∷
    (double_quote, double_quote) ∷
    (0x30, 0x00) ∷
    []

-- what a table gives for a letter
unfoldable pub look_up : List (ℕ × ℕ) → ℕ → Option (List ℕ)
look_up [] c = None
look_up (p ∷ ps) c = cond (eqb c p.0) (Some (p.1 ∷ [])) (look_up ps c)

-- so many bytes behind the backslash stand for these bytes
abbrev pub escaped : ℕ → Option (List ℕ) → Option Piece
escaped n None = None
escaped n (Some bs) = Some (record { bytes = bs; more = n })

-- "`x` and two hexadecimal digits, one byte in `b`, else that code point in UTF-8"; s stands behind the letter
unfoldable pub byte_escape : Escapes
unfolding bind hex_after utf8_of
byte_escape in_b s = escaped 3 (bind (hex_run 2 s) (λ v. Some (cond in_b (v ∷ []) (utf8_of v))))

-- A code point in n hexadecimal digits. "`u` and four, never in `b`, never a surrogate (D800 to DFFF)"; "`\U` with eight", and "a `\U`
-- that is in `b`, a surrogate or above 10FFFF hex, it is 12" (W-205): four digits don't come as far.
unfoldable pub point_escape : ℕ → Escapes
unfolding bind hex_after utf8_of
point_escape n in_b s =
    escaped (suc n) (bind (hex_run n s) (λ v. cond (in_b || (within (0xD800 to 0xDFFF) v || ltb 0x10FFFF v)) None (Some (utf8_of v))))

-- Edition 1, the base's escapes: "The byte after a backslash decides", "Anything else is bad".
unfoldable pub escape : Escapes
unfolding letters look_up byte_escape point_escape
escape in_b [] = None
escape in_b (c ∷ s) =
    cond (eqb c 0x78) (byte_escape in_b s)
    (cond (eqb c 0x75) (point_escape 4 in_b s)
    (escaped 1 (look_up letters c)))

-- ---- edition 2 (W-205)

-- "Edition 2 adds `\a` 7, `\b` 8, `\f` 12, `\v` 11": each letter and its byte
unfoldable pub more_letters : List (ℕ × ℕ)
more_letters =
    (0x61, 0x07) ∷
    (0x62, 0x08) ∷
    (0x66, 0x0C) ∷
    (0x76, 0x0B) ∷
    []

-- "one to three octal digits": "Octal is a code point in a string and a byte in `b`; above 377 octal in `b` .. it is 12"
unfoldable pub octal_escape : Escapes
unfolding octal_after utf8_of
octal_escape in_b s =
    let o = octal_run 3 s in
    escaped o.count (cond (in_b && ltb 0xFF o.value) None (Some (cond in_b (o.value ∷ []) (utf8_of o.value))))

-- Edition 2: octal, `\U` and its letters, and else what edition 1 has.
unfoldable pub escape2 : Escapes
unfolding more_letters look_up point_escape octal_escape escape
escape2 in_b [] = None
escape2 in_b (c ∷ s) =
    cond (within (0x30 to 0x37) c) (octal_escape in_b (c ∷ s))
    (cond (eqb c 0x55) (point_escape 8 in_b s)
    (option_or (escaped 1 (look_up more_letters c)) (escape in_b (c ∷ s))))

-- The escapes of an edition. A load refuses "any edition but 1 and 2" before it reads a literal.
unfoldable pub escapes_of : ℕ → Escapes
unfolding escape escape2
escapes_of edition = cond (eqb edition 2) escape2 escape

-- "Inside, that quote bare is bad; other bytes stand for themselves, but in `b` literals only ASCII."
abbrev pub plain : Bool → ℕ → ℕ → Option Piece
plain in_b quote b = cond (eqb b quote || (in_b && leb 0x80 b)) None (Some (record { bytes = b ∷ []; more = 0 }))

-- ── The whole literal ────────────────────────────────────────────────

-- What a reader has when it stops: the bytes up to the end or to the first fault, and whether there was no fault.
pub record Read : Type 0 where
  pub bytes : List ℕ
  pub good : Bool

abbrev pub bad : Read
bad = record { bytes = []; good = false }

-- these bytes, and then what the rest gives
abbrev pub put : List ℕ → Read → Read
put bs r = record { bytes = bs ++ r.bytes; good = r.good }

-- a piece, and then what stands behind it: rest leaves out so many bytes
abbrev pub piece : Option Piece → (ℕ → Read) → Read
piece None rest = bad
piece (Some p) rest = put p.bytes (rest p.more)

-- "`'` or `"`, closed by the same byte at the end; at least two bytes of quotes"
abbrev pub is_quote : ℕ → Bool
is_quote b = eqb b apostrophe || eqb b double_quote

abbrev pub closed : List ℕ → Bool
closed s = leb 2 (length s) && (is_quote (get_or s 0 0) && eqb (get_or s (length s - 1) 0) (get_or s 0 0))

module _ (escapes : Escapes) where
  -- one step at a byte and those behind it
  abbrev pub piece_at : Bool → ℕ → ℕ → List ℕ → Option Piece
  piece_at in_b quote b s = cond (eqb b backslash) (escapes in_b s) (plain in_b quote b)

  -- what stands between the quotes, the first k bytes left out
  unfoldable pub inside : Bool → ℕ → List ℕ → ℕ → Read
  inside in_b quote [] k = record { bytes = []; good = true }
  inside in_b quote (b ∷ s) zero = piece (piece_at in_b quote b s) (λ k. inside in_b quote s k)
  inside in_b quote (b ∷ s) (suc k) = inside in_b quote s k

  -- quotes and what they hold
  unfoldable pub quoted : Bool → List ℕ → Read
  unfolding inside
  quoted in_b s = cond (closed s) (inside in_b (get_or s 0 0) (take (length s - 2) (drop 1 s)) 0) bad

  -- "Optional `b`", then the quotes
  unfoldable pub read_with : List ℕ → Read
  unfolding quoted
  read_with [] = bad
  read_with (b ∷ s) = cond (eqb b letter_b) (quoted true s) (quoted false (b ∷ s))

abbrev pub whole : Read → Option (List ℕ)
whole r = cond r.good (Some r.bytes) None

-- What an edition reads of a literal.
unfoldable pub read : ℕ → List ℕ → Read
unfolding read_with escapes_of
read edition s = read_with (escapes_of edition) s

-- The bytes of a literal; none if it is bad (refusal 12).
unfoldable pub literal : ℕ → List ℕ → Option (List ℕ)
unfolding read
literal edition s = whole (read edition s)
