-- The loop: bit j of bad says that the slot of a label before this one is taken.
use Rattle.std.proofs.Common.{◌∷◌, take}
use Rattle.slots.proofs.Find.{ClashWord}
use Rattle.slots.proofs.marks.Marks.bad_word.Given as goal

abbrev pub invariant-loop-label : goal.invariant-loop-label
invariant-loop-label l = ClashWord l.self.used.now l.first (l.first ∷ take l.label-index l.others) l.i l.bad
