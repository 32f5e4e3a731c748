-- The loop's invariant: the first bad offset from i on is the first bad offset. The measure is what is left of the string.
use mathlib.Core.Path.{◌≡◌}
use Prim.Native.Nat.{◌-◌, ◌≤◌}
use lib.ListN.{length, drop}
use Rattle.spec.specs.Utf8.{first_bad, first_bad_from}
use Rattle.utf8.proofs.first_bad.Given as goal

abbrev pub invariant-loop-i : goal.invariant-loop-i
invariant-loop-i l = (l.i ≤ length l.s) × (first_bad_from l.i (drop l.i l.s) ≡ first_bad l.s)

abbrev pub decreases-loop-i : goal.decreases-loop-i
decreases-loop-i l = length l.s - l.i
