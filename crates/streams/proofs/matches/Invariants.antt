use Rattle.std.proofs.Common.{◌≤◌}
use Rattle.streams.proofs.matches.Given as goal

abbrev pub invariant-loop-code : goal.invariant-loop-code
invariant-loop-code g l = l.n ≤ l.code
