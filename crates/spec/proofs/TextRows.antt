-- Rows by computation on UTF-8, lines and literals: document 01's other examples of literals (the starred ones stand in Examples), those
-- of document 02's edition 2, every number of CR before an LF and at a text's end, and UTF-8 at its edges. Assumes nothing.
use mathlib.Core.Path.{◌≡◌, refl}
use mathlib.Core.Bool.{true, false}
use Rattle.std.specs.Prelude.{None, Some}
use mathlib.Core.List.{[], ◌∷◌}
use Rattle.spec.specs.Utf8.{char, bad, cut, step_of, first_bad, lossy, utf8_of, blank}
use Rattle.spec.specs.Line.{lf, cr, lines}
use Rattle.spec.specs.Literal.{literal}

-- ── UTF-8 ────────────────────────────────────────────────────────────

example_two_bytes : step_of (0xC3 ∷ 0xA9 ∷ []) ≡ char 2
unfolding step_of
example_two_bytes = refl

example_cut : step_of (0xE2 ∷ 0x82 ∷ []) ≡ cut 2
unfolding step_of
example_cut = refl

example_overlong : step_of (0xF0 ∷ 0x80 ∷ 0x80 ∷ 0x80 ∷ []) ≡ bad 1
unfolding step_of
example_overlong = refl

example_surrogate : step_of (0xED ∷ 0xA0 ∷ 0x80 ∷ []) ≡ bad 1
unfolding step_of
example_surrogate = refl

example_above : step_of (0xF4 ∷ 0x90 ∷ 0x80 ∷ 0x80 ∷ []) ≡ bad 1
unfolding step_of
example_above = refl

example_broken_off : lossy (0xF0 ∷ 0x90 ∷ 0x80 ∷ 0x41 ∷ []) ≡ 0xEF ∷ 0xBF ∷ 0xBD ∷ 0x41 ∷ []
unfolding lossy
example_broken_off = refl

example_cut_off : lossy (0x41 ∷ 0xE2 ∷ 0x82 ∷ []) ≡ 0x41 ∷ 0xEF ∷ 0xBF ∷ 0xBD ∷ []
unfolding lossy
example_cut_off = refl

example_first_bad : first_bad (0x41 ∷ 0xC3 ∷ 0xA9 ∷ 0xFF ∷ 0x41 ∷ 0x80 ∷ []) ≡ Some 3
unfolding first_bad
example_first_bad = refl

example_euro : utf8_of 0x20AC ≡ 0xE2 ∷ 0x82 ∷ 0xAC ∷ []
unfolding utf8_of
example_euro = refl

example_no_surrogate : utf8_of 0xD800 ≡ []
unfolding utf8_of
example_no_surrogate = refl

-- U+3000 and a space; U+200B is no White_Space
example_blank : blank (0xE3 ∷ 0x80 ∷ 0x80 ∷ 0x20 ∷ []) ≡ true
unfolding blank
example_blank = refl

example_not_blank : blank (0x20 ∷ 0xE2 ∷ 0x80 ∷ 0x8B ∷ []) ≡ false
unfolding blank
example_not_blank = refl

-- ── Lines: the table of CR and LF ────────────────────────────────────

-- none, one, two, three CR before an LF
crs_with_lf :
    lines (0x61 ∷ lf ∷ 0x61 ∷ cr ∷ lf ∷ 0x61 ∷ cr ∷ cr ∷ lf ∷ 0x61 ∷ cr ∷ cr ∷ cr ∷ lf ∷ [])
    ≡ (0x61 ∷ []) ∷ (0x61 ∷ []) ∷ (0x61 ∷ []) ∷ (0x61 ∷ cr ∷ []) ∷ []
unfolding lines
crs_with_lf = refl

-- none, one, two CR at the end of a text without LF
no_cr_at_end : lines (0x61 ∷ []) ≡ (0x61 ∷ []) ∷ []
unfolding lines
no_cr_at_end = refl

one-cr_at_end : lines (0x61 ∷ cr ∷ []) ≡ (0x61 ∷ []) ∷ []
unfolding lines
one-cr_at_end = refl

two_crs_at_end : lines (0x61 ∷ cr ∷ cr ∷ []) ≡ (0x61 ∷ cr ∷ []) ∷ []
unfolding lines
two_crs_at_end = refl

-- no text, no line; an LF alone, one empty line; a CR alone too
no_text : lines [] ≡ []
unfolding lines
no_text = refl

lf-alone : lines (lf ∷ []) ≡ [] ∷ []
unfolding lines
lf-alone = refl

cr-alone : lines (cr ∷ []) ≡ [] ∷ []
unfolding lines
cr-alone = refl

-- ── Literals ─────────────────────────────────────────────────────────

-- `'\ud800'` is bad
surrogate_bad : literal 1 (0x27 ∷ 0x5C ∷ 0x75 ∷ 0x64 ∷ 0x38 ∷ 0x30 ∷ 0x30 ∷ 0x27 ∷ []) ≡ None
unfolding literal
surrogate_bad = refl

-- `b'\u0041'` is bad
u_in_bytes_bad : literal 1 (0x62 ∷ 0x27 ∷ 0x5C ∷ 0x75 ∷ 0x30 ∷ 0x30 ∷ 0x34 ∷ 0x31 ∷ 0x27 ∷ []) ≡ None
unfolding literal
u_in_bytes_bad = refl

-- `'a\'` is bad
open_escape_bad : literal 1 (0x27 ∷ 0x61 ∷ 0x5C ∷ 0x27 ∷ []) ≡ None
unfolding literal
open_escape_bad = refl

-- ── Literals of edition 2 ────────────────────────────────────────────

-- `'\01'` is "the byte 1, where edition 1 keeps zero and `1`"
octal_one : literal 2 (0x27 ∷ 0x5C ∷ 0x30 ∷ 0x31 ∷ 0x27 ∷ []) ≡ Some (0x01 ∷ [])
unfolding literal
octal_one = refl

-- three digits at most: `'\0012'` is 01 32
octal_three : literal 2 (0x27 ∷ 0x5C ∷ 0x30 ∷ 0x30 ∷ 0x31 ∷ 0x32 ∷ 0x27 ∷ []) ≡ Some (0x01 ∷ 0x32 ∷ [])
unfolding literal
octal_three = refl

-- as many as there are: `'\08'` is 00 38, `'\8'` is bad
octal_ends : literal 2 (0x27 ∷ 0x5C ∷ 0x30 ∷ 0x38 ∷ 0x27 ∷ []) ≡ Some (0x00 ∷ 0x38 ∷ [])
unfolding literal
octal_ends = refl

eight_bad : literal 2 (0x27 ∷ 0x5C ∷ 0x38 ∷ 0x27 ∷ []) ≡ None
unfolding literal
eight_bad = refl

-- "Octal is a code point in a string": `'\400'` is C4 80, `'\777'` U+01FF
octal_point : literal 2 (0x27 ∷ 0x5C ∷ 0x34 ∷ 0x30 ∷ 0x30 ∷ 0x27 ∷ []) ≡ Some (0xC4 ∷ 0x80 ∷ [])
unfolding literal
octal_point = refl

octal_last : literal 2 (0x27 ∷ 0x5C ∷ 0x37 ∷ 0x37 ∷ 0x37 ∷ 0x27 ∷ []) ≡ Some (0xC7 ∷ 0xBF ∷ [])
unfolding literal
octal_last = refl

-- "and a byte in `b`; above 377 octal in `b` .. it is 12"
octal_377 : literal 2 (0x62 ∷ 0x27 ∷ 0x5C ∷ 0x33 ∷ 0x37 ∷ 0x37 ∷ 0x27 ∷ []) ≡ Some (0xFF ∷ [])
unfolding literal
octal_377 = refl

octal_400 : literal 2 (0x62 ∷ 0x27 ∷ 0x5C ∷ 0x34 ∷ 0x30 ∷ 0x30 ∷ 0x27 ∷ []) ≡ None
unfolding literal
octal_400 = refl

-- `\a`, `\b`, `\f` and `\v`, in `b` and in a string
letters-in_bytes : literal 2 (0x62 ∷ 0x27 ∷ 0x5C ∷ 0x61 ∷ 0x5C ∷ 0x62 ∷ 0x5C ∷ 0x66 ∷ 0x5C ∷ 0x76 ∷ 0x27 ∷ [])
    ≡ Some (0x07 ∷ 0x08 ∷ 0x0C ∷ 0x0B ∷ [])
unfolding literal
letters-in_bytes = refl

letters-in_string : literal 2 (0x27 ∷ 0x5C ∷ 0x61 ∷ 0x5C ∷ 0x62 ∷ 0x5C ∷ 0x66 ∷ 0x5C ∷ 0x76 ∷ 0x27 ∷ [])
    ≡ Some (0x07 ∷ 0x08 ∷ 0x0C ∷ 0x0B ∷ [])
unfolding literal
letters-in_string = refl

-- `\U` at its last code point, above it, at a surrogate, and in `b`
wide_last : literal 2 (0x27 ∷ 0x5C ∷ 0x55 ∷ 0x30 ∷ 0x30 ∷ 0x31 ∷ 0x30 ∷ 0x66 ∷ 0x66 ∷ 0x66 ∷ 0x66 ∷ 0x27 ∷ [])
    ≡ Some (0xF4 ∷ 0x8F ∷ 0xBF ∷ 0xBF ∷ [])
unfolding literal
wide_last = refl

wide_above : literal 2 (0x27 ∷ 0x5C ∷ 0x55 ∷ 0x30 ∷ 0x30 ∷ 0x31 ∷ 0x31 ∷ 0x30 ∷ 0x30 ∷ 0x30 ∷ 0x30 ∷ 0x27 ∷ []) ≡ None
unfolding literal
wide_above = refl

wide_surrogate : literal 2 (0x27 ∷ 0x5C ∷ 0x55 ∷ 0x30 ∷ 0x30 ∷ 0x30 ∷ 0x30 ∷ 0x64 ∷ 0x38 ∷ 0x30 ∷ 0x30 ∷ 0x27 ∷ []) ≡ None
unfolding literal
wide_surrogate = refl

wide_in_bytes : literal 2 (0x62 ∷ 0x27 ∷ 0x5C ∷ 0x55 ∷ 0x30 ∷ 0x30 ∷ 0x30 ∷ 0x30 ∷ 0x30 ∷ 0x30 ∷ 0x34 ∷ 0x31 ∷ 0x27 ∷ []) ≡ None
unfolding literal
wide_in_bytes = refl

-- what edition 1 reads stays, and what is bad there stays bad: `\N`, a backslash before a line's end, `\u` in `b`
first-edition : literal 2 (0x27 ∷ 0x5C ∷ 0x75 ∷ 0x30 ∷ 0x30 ∷ 0x65 ∷ 0x39 ∷ 0x5C ∷ 0x78 ∷ 0x34 ∷ 0x31 ∷ 0x5C ∷ 0x6E ∷ 0x27 ∷ [])
    ≡ Some (0xC3 ∷ 0xA9 ∷ 0x41 ∷ 0x0A ∷ [])
unfolding literal
first-edition = refl

named_bad : literal 2 (0x27 ∷ 0x5C ∷ 0x4E ∷ 0x7B ∷ 0x44 ∷ 0x41 ∷ 0x53 ∷ 0x48 ∷ 0x7D ∷ 0x27 ∷ []) ≡ None
unfolding literal
named_bad = refl

line_end_bad : literal 2 (0x27 ∷ 0x5C ∷ 0x0A ∷ 0x27 ∷ []) ≡ None
unfolding literal
line_end_bad = refl

u_in_bytes_bad_2 : literal 2 (0x62 ∷ 0x27 ∷ 0x5C ∷ 0x75 ∷ 0x30 ∷ 0x30 ∷ 0x34 ∷ 0x31 ∷ 0x27 ∷ []) ≡ None
unfolding literal
u_in_bytes_bad_2 = refl

-- none of what edition 2 adds is in edition 1
alert_in_edition_1 : literal 1 (0x27 ∷ 0x5C ∷ 0x61 ∷ 0x27 ∷ []) ≡ None
unfolding literal
alert_in_edition_1 = refl

wide_in_edition_1 : literal 1 (0x27 ∷ 0x5C ∷ 0x55 ∷ 0x30 ∷ 0x30 ∷ 0x30 ∷ 0x30 ∷ 0x30 ∷ 0x30 ∷ 0x34 ∷ 0x31 ∷ 0x27 ∷ []) ≡ None
unfolding literal
wide_in_edition_1 = refl
