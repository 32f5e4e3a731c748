use Rattle.std.proofs.Common.{◌+◌, refl, sym, ◌∙◌, length-take-le, arith}
use Rattle.nodes.specs.Run.{see}
use Rattle.nodes.proofs.NodeRun.{see-behind}
use Rattle.words.proofs.WordTurns.{nodes-turn, nodes-done}
use Rattle.packing.proofs.layout.Based.put_words.Goals as goal

pub returns-in_default : goal.returns-in_default
returns-in_default c =
    let n = length-take-le c.args.self.made c.args.self.nodes.now c.args.self.there in
    sym (nodes-done (see c.args.self.nodes.now) c.args.self.made c.args.table.now 1 (omega (arith, c.in_default.ensures.cases)))

pub loop-n-preserved : goal.loop-n-preserved
loop-n-preserved c =
    let n = length-take-le c.args.self.made c.args.self.nodes.now c.args.self.there in
    let all = c.in-Some.ensures.cases in
    sym (nodes-turn (see c.args.self.nodes.now) c.args.self.made c.loop-n.table c.put_children.new.table (c.loop-n.n-index + 1) _ _
    (omega (arith, all.1)) (see-behind _ _ _ _ all.0 c.loop-n.n-index (omega (arith, all.1))) refl c.put_children.ensures)
    ∙ c.loop-n.invariant

pub returns : goal.returns
returns c =
    let n = length-take-le c.args.self.made c.args.self.nodes.now c.args.self.there in
    let all = c.in-Some.ensures.cases in
    sym (nodes-done (see c.args.self.nodes.now) c.args.self.made c.loop-n.table (c.loop-n.n-index + 1) (omega (arith, all.1)))
    ∙ c.loop-n.invariant
