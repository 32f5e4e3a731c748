-- The fields of a line, where it has them. Assumes nothing.
use mathlib.Core.Path.{◌≡◌}
use mathlib.Core.Bool.{false}
use Rattle.std.specs.Prelude.{Some}
use mathlib.Core.List.{List}
use Prim.Native.Nat.{ℕ, suc, ◌+◌, ◌-◌, ◌<◌}
use native.Mathlib.Numerals.{add-one}
use native.Mathlib.Omega.{arith}
use lib.ListN.{length, take, drop, length-drop}
use lib.Seq.{take_all}
use borrow.Author.Tests.{lt-ltb}
use Rattle.spec.specs.Check.{pass, given, need}
use Rattle.spec.specs.Utf8.{blank}
use Rattle.spec.specs.Line.{Fields, first_space, last_space, parted, fields}
use Rattle.line.proofs.Spaces.{first-lt, last_lt}

-- that the places of the spaces are in the line
pub ruleset ends = (first-lt, last_lt)

-- the parts as the code takes them
abbrev pub cut : ℕ → ℕ → List ℕ → Fields
cut first last line = record {
  id = take first line;
  literal = take (last - (first + 1)) (drop (first + 1) line);
  length = take (length line - (last + 1)) (drop (last + 1) line);
}

cut-parted : (first last : ℕ) (line : List ℕ) → cut first last line ≡ parted first last line
cut-parted first last line =
    let z = take_all (length line - (last + 1)) (drop (last + 1) line) (omega (arith, length-drop (last + 1) line)) in
    rw (z, add-one first, add-one last)

pub found : (line : List ℕ) (first last : ℕ) → blank line ≡ false → first_space line ≡ Some first → last_space line ≡ Some last
    → 0 < first → suc first < last → suc last < length line → pass (cut first last line) ≡ fields line
unfolding fields need given
found line first last d f l h k m =
    rw (cut-parted first last line, d, f, l, lt-ltb 0 first h, lt-ltb (suc first) last k, lt-ltb (suc last) (length line) m)
