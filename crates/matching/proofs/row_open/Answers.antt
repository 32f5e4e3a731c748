-- `matching::row_open` meets its contract: `any` over the row of roots is that of the definition. Assumes nothing.
use Rattle.std.proofs.Common.{◌≡◌, ℕ, ◌+◌, ◌-◌, ◌*◌, not, eqb, take, drop, ap₂, ◌∙◌, rules, tests, arith}
use Rattle.std.proofs.lemmas.Iterator.{YieldsList-from_slice}
use Rattle.std.proofs.lemmas.Iterator.Search.{any_from_yields_List}
use Rattle.spec.specs.Lists.{any}
use Rattle.spec.specs.Match.{undecided_on}
use Rattle.matching.proofs.Row.{list_any-is}
use Rattle.matching.proofs.row_open.Goals as goal

pub returns : goal.returns
unfolding undecided_on
returns c =
    let row = c.from-row.result in
    let wide : row * 256 + 256 - row * 256 ≡ 256 = omega arith in
    any_from_yields_List (λ (w : ℕ). not (eqb w 0)) _ _ c.any.result c.any.ensures.ran
    (YieldsList-from_slice _ c.iter.ensures.rest) (λ x b q k. search (rules, tests))
    ∙ list_any-is (λ w. not (eqb w 0)) (take (row * 256 + 256 - row * 256) (drop (row * 256) c.args.memory.roots.now))
    ∙ ap₂ (λ (n r : ℕ). any (λ w. not (eqb w 0)) (take n (drop (r * 256) c.args.memory.roots.now))) wide c.from-row.ensures
