-- The loop over the children: what is still to be written leads to what was to be written at first.
use Rattle.std.proofs.Common.{◌≡◌}
use Rattle.spec.specs.Lists.{fold}
use Rattle.laws.specs.Fill.{write}
use Rattle.nodes.specs.Run.{see}
use Rattle.nodes.specs.Walk.{children_left}
use Rattle.words.specs.NodeWords.{child_puts, child_writes}
use Rattle.packing.proofs.layout.Based.put_children.Given as goal

abbrev pub invariant-loop-child : goal.invariant-loop-child
invariant-loop-child l = fold write l.table (child_puts l.base (children_left l.child-iterator))
    ≡ fold write l.initial.table (child_writes (see l.self.nodes.now) l.self.made l.base 256 l.head)
