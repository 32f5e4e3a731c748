-- Each way to leave the loop gives what the whole promises.
use Rattle.std.proofs.Common.{◌≡◌, ℕ, ◌+◌, ◌-◌, ◌*◌, ◌<◌, Some, get_or, sym, ap, subst, ◌∙◌, arith}
use Rattle.spec.specs.Layout.{words}
use Rattle.nodes.specs.Run.{blank}
use Rattle.nodes.specs.Links.{link}
use Rattle.nodes.specs.declared.Node.{Node}
use Rattle.nodes.proofs.NodeRun.{see-is}
use Rattle.slots.specs.Going.{Within}
use Rattle.packing.specs.PlaceWalk.{Amid, Turned}
use Rattle.packing.proofs.Chained.{at_none, at_fuel, at-full, goes_on}
use Rattle.packing.proofs.place_chain.Goals as goal

pub returns-in_default-clause-stands : goal.returns-in_default-clause-stands
returns-in_default-clause-stands c =
    at_none c.loop.invariant.along (c.in_default.ensures.means ∙ ap (λ (k : ℕ). link k c.args.made) c.from.ensures)

pub returns-in_err-front-clause-stands : goal.returns-in_err-front-clause-stands
returns-in_err-front-clause-stands c =
    let l = c.loop in
    rw c.from_residual.ensures
    (at-full l.invariant.along (λ z. omega (arith, c.in-Some.ensures.there)) (λ ps I goal k em z A.
    subst (λ (end : ℕ). end * 64 < words goal) l.invariant.same.used.1
    (c.in_err-front.ensures.stands ps I goal k em z
    (subst (λ (end : ℕ). Amid ps I goal l.nodes l.marks.used.now l.marks.bases.now l.marks.cursors.now l.node k l.front end)
    (sym l.invariant.same.used.1) A)))
    c.place_node.new.nodes)

pub loop-preserved : goal.loop-preserved
loop-preserved c =
    let l = c.loop in
    let v = l.invariant in
    let t = c.in_ok-front.ensures in
    let s = c.in_ok-front.ensures.same in
    let left : c.args.made - (l.counter + 1) ≡ c.args.made - l.counter - 1 = omega arith in
    record {
      within = subst (Within c.in_ok-front.front) v.same.used.1 t.within;
      same = record {
        used = (s.used.0 ∙ v.same.used.0, s.used.1 ∙ v.same.used.1);
        bases = (s.bases.0 ∙ v.same.bases.0, s.bases.1 ∙ v.same.bases.1);
        cursors = (s.cursors.0 ∙ v.same.cursors.0, s.cursors.1 ∙ v.same.cursors.1);
      };
      along = goes_on v.along (λ z. omega (arith, c.in-Some.ensures.there))
          (subst (λ (end : ℕ). Turned c.args.made l.node l.nodes l.marks.used.now l.marks.bases.now l.marks.cursors.now l.front end
          c.place_node.new.nodes c.place_node.new.marks.used.now c.place_node.new.marks.bases.now c.place_node.new.marks.cursors.now
          (Some c.in_ok-front.front)) v.same.used.1 t.stands)
          _ _ (ap (λ (i : ℕ). (get_or l.nodes i blank).tail) (c.in-Some.ensures.there.0 ∙ c.from.ensures)
          ∙ ap (λ (n : Node). n.tail) (see-is l.nodes l.node)) left;
    }

pub returns-clause-stands : goal.returns-clause-stands
returns-clause-stands c = at_fuel c.loop.invariant.along (omega arith)
