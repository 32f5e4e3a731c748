-- `matching::walk_at` meets its contract: the same walk, its words as numbers. Assumes nothing.
use Rattle.std.proofs.Common.{ap, ◌∙◌}
use Rattle.spec.specs.Match.{base_in}
use Rattle.matching.specs.Answers.{walk_of, trail_of}
use Rattle.matching.proofs.walk_at.Goals as goal

pub returns : goal.returns
unfolding base_in
returns c =
    let t = trail_of c.reach_over.result.trail in
    ap (λ l. record { longest = l; used = t.used; base = t.base }) c.longest.ensures ∙ ap walk_of (c.reach_over.ensures.trail _ _ _)
