use Rattle.std.proofs.Common.{ℕ, List, sym, ap, ◌∙◌}
use Rattle.spec.specs.Lists.{fold}
use Rattle.laws.specs.Fill.{write}
use Rattle.nodes.specs.Walk.{children_left}
use Rattle.nodes.specs.declared.Node.{Node}
use Rattle.nodes.proofs.ChildWalk.{walk_made}
use Rattle.words.specs.NodeWords.{child_puts, child_writes}
use Rattle.words.proofs.WordTurns.{children-turn, children-done}
use Rattle.packing.proofs.layout.Based.put_children.Goals as goal

pub loop-child-init : goal.loop-child-init
unfolding child_writes
loop-child-init c =
    ap (λ (xs : List (ℕ × Node)). fold write c.args.table.now (child_puts c.args.base xs))
    (ap children_left c.into_iter-child-iterator.ensures.into_iter_gives ∙ c.new-child-items.ensures
    ∙ walk_made c.args.self.nodes.now c.args.self.made 256 c.args.head c.args.self.there)

pub loop-child-preserved : goal.loop-child-preserved
loop-child-preserved c =
    children-turn c.args.base c.in-Some.field-0-0 c.in-Some.child c.loop-child.table _ c.in-Some.ensures.steps c.put_child.ensures
    ∙ c.loop-child.invariant

pub returns : goal.returns
returns c = sym (children-done c.args.base c.loop-child.table c.in-None.ensures.steps.0) ∙ c.loop-child.invariant
