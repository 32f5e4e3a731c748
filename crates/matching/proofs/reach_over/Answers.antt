-- `matching::reach_over` meets its contract: the root of the first two bytes, and the walk from there. Assumes nothing.
use Rattle.std.proofs.Common.{ap₂, ◌∙◌, ℕ, ◌+◌, get_or, take, drop, length, ◌-◌}
use Rattle.spec.specs.Memory.{memory}
use Rattle.spec.specs.Match.{id_in, base_in, enter}
use Rattle.spec.specs.LookedOn.{read_from}
use Rattle.matching.proofs.Walking.{walk-short, walk-long}
use Rattle.matching.proofs.Reading.{looked-short, looked-long}
use Rattle.matching.proofs.reach_over.Goals as goal

pub returns-in_default-clause-trail : goal.returns-in_default-clause-trail
unfolding id_in base_in
returns-in_default-clause-trail c single offsets blob = walk-short _ _ c.in_default.len_below

pub returns-in_default-clause-read : goal.returns-in_default-clause-read
returns-in_default-clause-read c single offsets blob = looked-short _ _ c.in_default.len_below

pub returns-clause-trail : goal.returns-clause-trail
returns-clause-trail c single offsets blob =
    let a = c.args in
    let m = memory single offsets blob a.roots.now a.table.now in
    c.enter.ensures.trail
    ∙ ap₂ (λ (r n : ℕ). enter a.table.now (get_or a.roots.now r 0) (take n (take (length a.rest.now - 2) (drop 2 a.rest.now))))
    c.root_index.ensures.0 c.min.ensures
    ∙ walk-long m a.rest.now c.in-len2-up.len_at_least

pub returns-clause-read : goal.returns-clause-read
returns-clause-read c single offsets blob =
    let a = c.args in
    let m = memory single offsets blob a.roots.now a.table.now in
    c.enter.ensures.read
    ∙ ap₂ (λ (r n : ℕ). 2 + read_from a.table.now (get_or a.roots.now r 0) (take n (take (length a.rest.now - 2) (drop 2 a.rest.now))))
    c.root_index.ensures.0 c.min.ensures
    ∙ looked-long m a.rest.now c.in-len2-up.len_at_least
