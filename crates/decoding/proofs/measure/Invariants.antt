-- The loop's invariant: the ids passed have bytes, and they fit.
use Rattle.memory.specs.Lent.{cells_of}
use Rattle.decoding.proofs.DecodePasses.{Passed}
use Rattle.decoding.proofs.measure.Given as goal

abbrev pub invariant-loop-index : goal.invariant-loop-index
invariant-loop-index l = Passed (cells_of l.memory) l.room l.ids l.index l.len
