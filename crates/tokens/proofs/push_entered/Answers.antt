use Rattle.std.proofs.Common.{refl, arith}
use Rattle.std.proofs.lemmas.Result.{err_from_is_err_and}
use Rattle.tokens.proofs.PushMeans.{reads_of, pushed-refused, pushed_short, pushed-taken, all-kept}
use Rattle.tokens.proofs.push_entered.Goals as goal

pub returns-in_err-made-clause-stands : goal.returns-in_err-made-clause-stands
returns-in_err-made-clause-stands c = λ table ts rs rs' ns ns' B G same.
    let e = err_from_is_err_and c.from_residual.result c.from_residual.ensures.1 in
    let r = reads_of B c.args.token c.requires.2 (omega arith) in
    rw (e.1, e.2) (pushed-refused B _ r table _ ns' _ (G r) _ c.in_err-made.was)

pub returns-then-memory-st-clause-stands : goal.returns-then-memory-st-clause-stands
returns-then-memory-st-clause-stands c = λ table ts rs rs' ns ns' B G same.
    let r = reads_of B c.args.token c.requires.2 (omega arith) in
    pushed_short B _ r table _ ns' _ (G r) _ c.in_ok-made.was c.if-memory-st.true

pub returns-clause-stands : goal.returns-clause-stands
returns-clause-stands c = λ table ts rs rs' ns ns' B G same.
    let p = c.requires in
    let r = reads_of B c.args.token p.2 (omega arith) in
    let e = c.write.ensures in
    pushed-taken B _ r table _ ns' _ (G r) _ c.in_ok-made.was p.0 p.1 c.if-memory-st.false same _ e.single _ e.offsets _ e.blob _
    (λ ts' u C i k. c.counted.ensures ts' u C i k)

pub returns-clause-kept : goal.returns-clause-kept
returns-clause-kept c =
    let a = c.args in
    let e = c.write.ensures in
    all-kept a.token.bytes.now a.st.previous a.token.id a.st.used (a.token.fits 0) c.requires.2 (omega arith) e.single e.offsets refl
