-- The loop: what is left to mark is what is left of the labels.
use Rattle.std.proofs.Common.{◌≡◌, drop}
use Rattle.slots.specs.Marks.{mark_all}
use Rattle.slots.proofs.search.mark_all.Given as goal

abbrev pub invariant-loop-label : goal.invariant-loop-label
invariant-loop-label l = mark_all l.base l.marks (drop l.label-index l.labels) ≡ mark_all l.base l.initial.marks l.labels
