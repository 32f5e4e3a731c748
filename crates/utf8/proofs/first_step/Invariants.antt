-- The loop's invariant: what is left to follow, after n + 1 bytes, gives the first step.
use mathlib.Core.Path.{◌≡◌}
use Prim.Native.Nat.{◌+◌, ◌≤◌}
use lib.ListN.{length, drop}
use Rattle.spec.specs.Utf8.{follow, step_of}
use Rattle.utf8.specs.Means.{ranges}
use Rattle.utf8.proofs.first_step.Given as goal

abbrev pub invariant-loop-n : goal.invariant-loop-n
invariant-loop-n l =
    (l.n ≤ length l.others) × (l.left.more + l.n ≡ l.lead.more)
    × (follow (l.n + 1) (ranges l.left.more l.left.low l.left.high) (drop l.n l.others) ≡ step_of (l.rest))
