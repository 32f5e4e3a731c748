-- The loop's invariant: the bytes of the ids passed stand in the output.
use Rattle.memory.specs.Lent.{cells_of}
use Rattle.decoding.proofs.DecodePasses.{Written}
use Rattle.decoding.proofs.write_tokens.Given as goal

abbrev pub invariant-loop-id : goal.invariant-loop-id
invariant-loop-id l = Written (cells_of l.memory) l.ids l.id-index l.at l.out
