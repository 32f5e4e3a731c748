use Rattle.std.proofs.Common.{◌≡◌, length}
use Rattle.memory.specs.Lent.{cells_of}
use Rattle.runs.proofs.RunTurns.{Left}
use Rattle.runs.proofs.run.Given as goal

abbrev pub invariant-loop-rest : goal.invariant-loop-rest
invariant-loop-rest l = record {
  long : length l.out ≡ length l.initial.out;
  left : Left (cells_of l.memory) l.src l.stop l.initial.out l.out l.rest l.given;
}

abbrev pub decreases-loop-rest : goal.decreases-loop-rest
decreases-loop-rest l = length l.rest
