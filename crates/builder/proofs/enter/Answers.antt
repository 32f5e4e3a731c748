use Rattle.std.proofs.Common.{ℕ, ◌<◌, ◌≤◌, get_or, refl, sym, ap, ◌∙◌, subst, ltb-true, ltb-false, arith}
use Rattle.spec.specs.Memory.{Memory}
use Rattle.tokens.specs.Built.{one_entered}
use Rattle.tokens.proofs.PushMeans.{enter-none, enter-byte, enter-more}
use Rattle.builder.proofs.enter.Goals as goal

pub returns-then-is_full-clause-stands : goal.returns-then-is_full-clause-stands
returns-then-is_full-clause-stands c =
    let a = c.args in
    let full = ltb-true c.capacity-most.result a.st.made (sym c.is_full.ensures.same ∙ c.if-is_full.true) in
    λ ts os bl B r. enter-none B _ (subst (λ (x : ℕ). x < a.st.made) c.capacity-most.ensures full)

pub returns-then-token-eq1-clause-stands : goal.returns-then-token-eq1-clause-stands
returns-then-token-eq1-clause-stands c =
    let a = c.args in
    let fits = ltb-false c.capacity-most.result a.st.made (sym c.is_full.ensures.same ∙ c.if-is_full.false) in
    λ ts os bl B r. enter-byte B _ r (subst (λ (x : ℕ). a.st.made ≤ x) c.capacity-most.ensures fits) c.if-token-eq1.true _ refl _
    (c.enter_one.ensures ∙ ap (λ (m : Memory). one_entered m.single a.st.made (get_or a.token.bytes.now 0 0)) c.as_memory.ensures)

pub insert-requires : goal.insert-requires
insert-requires c =
    let a = c.args in
    let fits = ltb-false c.capacity-most.result a.st.made (sym c.is_full.ensures.same ∙ c.if-is_full.false) in
    let r = c.requires in
    let e = c.capacity-most.ensures in
    let one = c.if-token-eq1.false in
    (r.0.roots, omega arith, r.1, fits, omega arith)

pub returns-clause-stands : goal.returns-clause-stands
returns-clause-stands c =
    let i = c.insert in
    λ ts os bl B r. enter-more B _ r c.capacity-most.result c.capacity-most.ensures i.new.roots i.new.nodes i.result
    (i.ensures.stands ts)
