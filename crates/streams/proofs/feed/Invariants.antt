use Rattle.std.proofs.Common.{◌≡◌, ◌≤◌, length}
use Rattle.streams.proofs.feed.Given as goal

abbrev pub invariant-loop-piece : goal.invariant-loop-piece
invariant-loop-piece g l = goal.F-IsAlwaysCallable g l.seen × (l.n ≤ length l.ids) × (length l.ids ≡ length l.initial.ids)
