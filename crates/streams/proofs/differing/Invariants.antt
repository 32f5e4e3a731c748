use Rattle.std.proofs.Common.{◌≤◌}
use Rattle.streams.proofs.differing.Given as goal

abbrev pub invariant-loop-code : goal.invariant-loop-code
invariant-loop-code l = l.n ≤ l.code
