-- The loop along the chain: what holds before each turn.
use Rattle.std.proofs.Common.{◌-◌, length}
use Rattle.slots.specs.Going.{Within}
use Rattle.slots.specs.Lent.{SameMarks}
use Rattle.packing.proofs.Chained.{Along}
use Rattle.packing.proofs.place_chain.Given as goal

abbrev pub invariant-loop : goal.invariant-loop
invariant-loop l = record {
  within : Within l.front (length l.fn.marks.used.now);
  same : SameMarks l.fn.marks l.marks;
  along : Along l.fn.nodes l.fn.marks.used.now l.fn.marks.bases.now l.fn.marks.cursors.now l.made l.first l.fn.at
      (length l.fn.marks.used.now) l.nodes l.marks.used.now l.marks.bases.now l.marks.cursors.now l.node l.front (l.made - l.counter);
}
