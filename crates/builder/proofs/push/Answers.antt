use Rattle.std.proofs.Common.{ℕ, List, drop, ap, ◌∙◌, subst}
use Rattle.entry.specs.TokenOf.{token_of}
use Rattle.tokens.specs.Built.{room_for, PushedIn}
use Rattle.tokens.proofs.PushMeans.{same-built}
use Rattle.builder.proofs.push.Goals as goal

pub returns-clause-stands : goal.returns-clause-stands
returns-clause-stands c = λ table ts B.
    let a = c.args in
    let e = c.enter-entered.ensures in
    let r = e.rest in
    let n = c.enter-entered.new in
    let p = c.push_entered in
    subst (λ (bl : List ℕ). PushedIn (room_for a.nodes.now bl table) ts (token_of a.token) p.result p.new.memory n.nodes) r.2
    (p.ensures.stands table ts a.memory.now.roots.now p.new.memory.roots.now a.nodes.now n.nodes (same-built r.0 r.1 r.2 B)
    (λ x. rw p.ensures.rest.0 (e.stands ts _ _ B x)) c.enter-entered.auto.nodes)

pub returns-clause-kept : goal.returns-clause-kept
returns-clause-kept c =
    let e = c.enter-entered.ensures in
    let k = c.push_entered.ensures.kept in
    record {
      single = k.single ∙ ap (drop 256) e.rest.0;
      offsets = k.offsets ∙ ap (drop 65537) e.rest.1;
      roots = k.roots ∙ e.kept.behind;
    }

pub returns-clause-table : goal.returns-clause-table
returns-clause-table c = c.push_entered.ensures.rest.1 ∙ c.enter-entered.ensures.rest.3
