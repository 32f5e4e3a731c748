-- UTF-8 by RFC 3629, lossy text, and White_Space. A byte string is a list of numbers; a number of 256 or more is an ill-formed byte.
-- Document 01, "Text": "UTF-8 by RFC 3629; lossy text puts U+FFFD for each maximal ill-formed part as in Unicode chapter 3."
-- One step says what stands at the start of a string; a string is cut into parts by it, and everything else folds over the parts.
-- Assumes nothing.
use Rattle.std.specs.Prelude.{Bool, true, false, ◌&&◌, cond, List, [], ◌∷◌, ℕ, zero, suc, pred, ◌+◌, ◌*◌, ◌/◌, ◌%◌, leb, take}
use Rattle.std.specs.Prelude.{Option, None, Some}
use Rattle.spec.specs.Lists.{any, all, each}

-- ── Ranges of numbers ────────────────────────────────────────────────

-- the numbers from low to high, both included
pub record Range : Type 0 where
  pub low : ℕ
  pub high : ℕ

infix 40 ◌to◌
abbrev pub ◌to◌ : ℕ → ℕ → Range
low to high = record { low = low; high = high }

abbrev pub within : Range → ℕ → Bool
within r n = leb r.low n && leb n r.high

-- ── The grammar ──────────────────────────────────────────────────────

-- A rule of the grammar: the range of a character's first byte, and those of the bytes that follow it.
pub record Rule : Type 0 where
  pub first : Range
  pub others : List Range

infix 30 ◌then◌
abbrev pub ◌then◌ : Range → List Range → Rule
first then others = record { first = first; others = others }

-- "UTF8-tail = %x80-BF"
abbrev pub tail : Range
tail = 0x80 to 0xBF

-- UTF8-1 to UTF8-4 of RFC 3629, section 4, rule by rule
unfoldable pub grammar : List Rule
grammar =
    (0x00 to 0x7F then []) ∷
    (0xC2 to 0xDF then tail ∷ []) ∷
    (0xE0 to 0xE0 then (0xA0 to 0xBF) ∷ tail ∷ []) ∷
    (0xE1 to 0xEC then tail ∷ tail ∷ []) ∷
    (0xED to 0xED then (0x80 to 0x9F) ∷ tail ∷ []) ∷
    (0xEE to 0xEF then tail ∷ tail ∷ []) ∷
    (0xF0 to 0xF0 then (0x90 to 0xBF) ∷ tail ∷ tail ∷ []) ∷
    (0xF1 to 0xF3 then tail ∷ tail ∷ tail ∷ []) ∷
    (0xF4 to 0xF4 then (0x80 to 0x8F) ∷ tail ∷ tail ∷ []) ∷
    []

unfoldable pub rule_for : List Rule → ℕ → Option (List Range)
rule_for [] b = None
rule_for (r ∷ rs) b = cond (within r.first b) (Some r.others) (rule_for rs b)

-- what must follow a first byte: none if no character begins with it
unfoldable pub after : ℕ → Option (List Range)
unfolding rule_for grammar
after b = rule_for grammar b

-- ── One step ─────────────────────────────────────────────────────────

-- What stands at the start of a string.
pub data Step : Type 0 where
  -- a well-formed character of so many bytes (1 to 4)
  char : ℕ → Step
  -- a maximal ill-formed part of so many bytes (1 to 3): they begin a character and the next byte breaks it off, or it is
  -- one byte that begins none
  bad : ℕ → Step
  -- the string ends after so many bytes (1 to 3), which begin a character
  cut : ℕ → Step

-- n bytes have been taken, and bytes of the ranges rs must follow
unfoldable pub follow : ℕ → List Range → List ℕ → Step
follow n [] s = char n
follow n (r ∷ rs) [] = cut n
follow n (r ∷ rs) (b ∷ s) = cond (within r b) (follow (suc n) rs s) (bad n)

abbrev pub followed : Option (List Range) → List ℕ → Step
followed None s = bad 1
followed (Some rs) s = follow 1 rs s

-- The step of a string; the empty string is cut off after 0 bytes.
unfoldable pub step_of : List ℕ → Step
unfolding after follow
step_of [] = cut 0
step_of (b ∷ s) = followed (after b) s

abbrev pub size : Step → ℕ
size (char n) = n
size (bad n) = n
size (cut n) = n

abbrev pub is_char : Step → Bool
is_char (char n) = true
is_char (bad n) = false
is_char (cut n) = false

-- ── The parts of a string ────────────────────────────────────────────

-- A part of a string: what it is, and its bytes.
pub record Part : Type 0 where
  pub step : Step
  pub bytes : List ℕ

-- the part that a step takes from a string
abbrev pub part_of : Step → List ℕ → Part
part_of t s = record { step = t; bytes = take (size t) s }

-- the parts of a string whose first k bytes belong to a part before
unfoldable pub parts_at : ℕ → List ℕ → List Part
unfolding step_of
parts_at k [] = []
parts_at zero (b ∷ s) = part_of (step_of (b ∷ s)) (b ∷ s) ∷ parts_at (pred (size (step_of (b ∷ s)))) s
parts_at (suc k) (b ∷ s) = parts_at k s

-- A string cut from its start into characters and maximal ill-formed parts. At most the last is cut off.
abbrev pub parts : List ℕ → List Part
parts s = parts_at 0 s

-- ── Well-formed text ─────────────────────────────────────────────────

abbrev pub is_whole : Part → Bool
is_whole p = is_char p.step

-- UTF-8: every part is a character.
unfoldable pub well_formed : List ℕ → Bool
unfolding all parts_at
well_formed s = all is_whole (parts s)

-- the offset of the first part that is no character, the first of all standing at i
unfoldable pub bad_part : ℕ → List Part → Option ℕ
bad_part i [] = None
bad_part i (p ∷ ps) = cond (is_whole p) (bad_part (i + size p.step) ps) (Some i)

-- the first bad offset of a string that stands at i
unfoldable pub first_bad_from : ℕ → List ℕ → Option ℕ
unfolding bad_part parts_at
first_bad_from i s = bad_part i (parts s)

-- The first bad offset (2 and 29), none if the string is UTF-8.
unfoldable pub first_bad : List ℕ → Option ℕ
unfolding first_bad_from
first_bad s = first_bad_from 0 s

-- ── Lossy text ───────────────────────────────────────────────────────

-- U+FFFD in UTF-8
abbrev pub replacement : List ℕ
replacement = 0xEF ∷ 0xBF ∷ 0xBD ∷ []

-- a character as it is, anything else replaced
abbrev pub shown : Part → List ℕ
shown p = cond (is_whole p) p.bytes replacement

-- "Lossy text puts U+FFFD for each maximal ill-formed part"; what the end cuts off is one such part.
unfoldable pub lossy : List ℕ → List ℕ
unfolding each parts_at
lossy s = each shown (parts s)

-- ── Code points ──────────────────────────────────────────────────────

-- The bytes of a character, by the table of RFC 3629, section 3. The surrogates D800 to DFFF and the numbers above 10FFFF are no
-- characters ("The definition of UTF-8 prohibits encoding character numbers between U+D800 and U+DFFF") and have no bytes.
unfoldable pub utf8_of : ℕ → List ℕ
utf8_of c =
    cond (leb c 0x7F) (c ∷ [])
    (cond (leb c 0x7FF) ((0xC0 + c / 64) ∷ (0x80 + c % 64) ∷ [])
    (cond (within (0xD800 to 0xDFFF) c) []
    (cond (leb c 0xFFFF) ((0xE0 + c / 4096) ∷ (0x80 + c / 64 % 64) ∷ (0x80 + c % 64) ∷ [])
    (cond (leb c 0x10FFFF) ((0xF0 + c / 262144) ∷ (0x80 + c / 4096 % 64) ∷ (0x80 + c / 64 % 64) ∷ (0x80 + c % 64) ∷ [])
    []))))

-- The code point that the bytes of one character stand for, by the same table; 0 for a list of another length.
abbrev pub point_of : List ℕ → ℕ
point_of [] = 0
point_of (a ∷ []) = a
point_of (a ∷ b ∷ []) = a % 32 * 64 + b % 64
point_of (a ∷ b ∷ c ∷ []) = a % 16 * 4096 + b % 64 * 64 + c % 64
point_of (a ∷ b ∷ c ∷ d ∷ []) = a % 8 * 262144 + b % 64 * 4096 + c % 64 * 64 + d % 64
point_of (a ∷ b ∷ c ∷ d ∷ e ∷ s) = 0

-- ── White_Space ──────────────────────────────────────────────────────

-- "White_Space means U+0009 to 000D, 0020, 0085, 00A0, 1680, 2000 to 200A, 2028, 2029, 202F, 205F, 3000."
unfoldable pub white_ranges : List Range
white_ranges =
    (0x0009 to 0x000D) ∷
    (0x0020 to 0x0020) ∷
    (0x0085 to 0x0085) ∷
    (0x00A0 to 0x00A0) ∷
    (0x1680 to 0x1680) ∷
    (0x2000 to 0x200A) ∷
    (0x2028 to 0x2029) ∷
    (0x202F to 0x202F) ∷
    (0x205F to 0x205F) ∷
    (0x3000 to 0x3000) ∷
    []

unfoldable pub white_space : ℕ → Bool
unfolding any white_ranges
white_space c = any (λ r. within r c) white_ranges

-- an ill-formed part is no White_Space
unfoldable pub white_part : Part → Bool
unfolding white_space
white_part p = is_whole p && white_space (point_of p.bytes)

-- Refusal 3: "only White_Space characters, or empty".
unfoldable pub blank : List ℕ → Bool
unfolding all white_part parts_at
blank s = all white_part (parts s)
