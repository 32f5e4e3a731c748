use Rattle.std.proofs.Common.{length}
use Rattle.memory.specs.Lent.{cells_of}
use Rattle.encoding.proofs.EncodeTurns.{Left}
use Rattle.encoding.proofs.encode_sequential_bytes.Given as goal

abbrev pub invariant-loop-rest : goal.invariant-loop-rest
invariant-loop-rest l = Left (cells_of l.memory) l.src l.initial.out l.out l.rest l.given

abbrev pub decreases-loop-rest : goal.decreases-loop-rest
decreases-loop-rest l = length l.rest
