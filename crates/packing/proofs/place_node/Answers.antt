-- The turn of a node, as the code has it.
use Rattle.std.proofs.Common.{ℕ, Some, length, ap, ◌∙◌, arith}
use Rattle.nodes.specs.Run.{see, set_node}
use Rattle.nodes.specs.Insertion.{set_tail}
use Rattle.slots.specs.Going.{onward}
use Rattle.slots.proofs.Onward.{onward-within}
use Rattle.packing.proofs.Walked.{turned_none, turned_at}
use Rattle.packing.proofs.place_node.Goals as goal

pub returns-in_err-base-clause-stands : goal.returns-in_err-base-clause-stands
returns-in_err-base-clause-stands c = λ ps I goal fuel e z A.
    rw c.from_residual.ensures
    (turned_none c.args.made c.args.node c.gather-n.result (length c.args.marks.now.used.now) c.args.nodes.now _ _ _ c.args.labels.now _ _ _
    c.gather-n.new.out c.args.at c.place.result c.gather-n.ensures.stands c.place.ensures.stands ps I goal fuel e z A c.in_err-base.was)

pub returns-clause-stands : goal.returns-clause-stands
unfolding set_tail set_node see
returns-clause-stands c = λ ps I goal fuel e z A.
    let K = c.args.marks.now in
    let K' = c.place.new.self in
    let b = c.in_ok-base.base in
    rw (c.passed.ensures ∙ ap (λ (end : ℕ). Some (onward K'.used.now c.args.at end b)) c.place.ensures.same.used.1)
    (turned_at c.args.made c.args.node c.gather-n.result (length K.used.now) c.args.nodes.now _ _ _ c.args.labels.now _ _ _
    c.gather-n.new.out c.args.at c.place.result c.gather-n.ensures.stands c.place.ensures.stands ps I goal fuel e z A b
    c.in_ok-base.was (omega arith) c.requires.2.from_le K.blocks c.in_ok-base.ensures.small)

pub returns-clause-within : goal.returns-clause-within
returns-clause-within c =
    let K = c.args.marks.now in
    let K' = c.place.new.self in
    let b = c.in_ok-base.base in
    rw (c.passed.ensures ∙ ap (λ (end : ℕ). Some (onward K'.used.now c.args.at end b)) c.place.ensures.same.used.1)
    (onward-within K'.used.now c.args.at (length K.used.now) b c.requires.2.from_le c.requires.2.high_le K.blocks
    c.in_ok-base.ensures.small)
