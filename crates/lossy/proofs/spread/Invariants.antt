-- The loop's invariant: the text stands up to write, and the bytes of what is left of it from read on. The measure is what is left.
use Rattle.std.proofs.Common.{◌-◌, drop, length}
use Rattle.spec.specs.Utf8.{lossy}
use Rattle.lossy.proofs.LossyText.{Spreading}
use Rattle.lossy.proofs.spread.Given as goal

abbrev pub invariant-loop-part : goal.invariant-loop-part
invariant-loop-part l = Spreading (lossy (drop l.from l.initial.out)) (length l.initial.out) l.read l.write l.out

abbrev pub decreases-loop-part : goal.decreases-loop-part
decreases-loop-part l = length l.out - l.read
