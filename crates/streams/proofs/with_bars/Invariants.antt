use Rattle.std.proofs.Common.{◌*◌, ◌≤◌}
use Rattle.streams.proofs.with_bars.Given as goal

abbrev pub invariant-loop-place : goal.invariant-loop-place
invariant-loop-place l = l.n ≤ 2 * l.place
