-- `decoding::lookup` meets its contract: each test is one of the definition's. Assumes nothing.
use Rattle.std.proofs.Common.{arith}
use Rattle.decoding.proofs.LookupLaws.{if_any-none, lookup-far, lookup-unpaired, lookup-outside, between}
use Rattle.decoding.proofs.lookup.Goals as goal

pub returns-then-i-ge65536 : goal.returns-then-i-ge65536
returns-then-i-ge65536 c = if_any-none _ (lookup-far _ _ c.if-i-ge65536.true)

pub returns-in_err-start : goal.returns-in_err-start
returns-in_err-start c =
    rw c.from_residual.ensures
    (if_any-none _ (lookup-unpaired _ _ (omega arith) (omega (arith, c.in_err-start.ensures.lookup.3))))

pub returns-in_err-end : goal.returns-in_err-end
returns-in_err-end c =
    rw c.from_residual-in_err-end.ensures
    (if_any-none _ (lookup-unpaired _ _ (omega arith) (omega (arith, c.in_err-end.ensures.lookup.3))))

pub returns-in_err-token : goal.returns-in_err-token
returns-in_err-token c =
    rw c.from_residual-in_err-token.ensures
    (if_any-none _ (lookup-outside _ _ (omega arith)
    (rw (← c.in_ok-start.ensures.lookup.3.1 0, ← c.in_ok-end.ensures.lookup.3.1 0) c.in_err-token.ensures.lookup.0)))

pub returns-then-token-eq0 : goal.returns-then-token-eq0
returns-then-token-eq0 c =
    let t = c.in_ok-token.ensures.lookup.0 in
    (between _ _ (omega arith) _ _ (c.in_ok-start.ensures.lookup.3.1 0) (c.in_ok-end.ensures.lookup.3.1 0) t.0 t.1 _ t.2).bad
    (λ some short. omega arith)

pub returns-then-token-gt255 : goal.returns-then-token-gt255
returns-then-token-gt255 c =
    let t = c.in_ok-token.ensures.lookup.0 in
    (between _ _ (omega arith) _ _ (c.in_ok-start.ensures.lookup.3.1 0) (c.in_ok-end.ensures.lookup.3.1 0) t.0 t.1 _ t.2).bad
    (λ some short. omega arith)

pub returns : goal.returns
returns c =
    let t = c.in_ok-token.ensures.lookup.0 in
    (between _ _ (omega arith) _ _ (c.in_ok-start.ensures.lookup.3.1 0) (c.in_ok-end.ensures.lookup.3.1 0) t.0 t.1 _ t.2).good
    (omega arith) (omega arith)
