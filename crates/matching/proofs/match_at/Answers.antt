-- `matching::match_at` meets its contract: the walk's token where it passed one, and else the one-byte token. Assumes nothing.
use Rattle.std.proofs.Common.{ap, ◌∙◌}
use Rattle.matching.proofs.Walking.{match-long, match-one}
use Rattle.matching.specs.Answers.{longest}
use Rattle.matching.proofs.match_at.Goals as goal

pub returns-in_default-clause-longest : goal.returns-in_default-clause-longest
returns-in_default-clause-longest c =
    c.one_byte-longest.ensures ∙ match-one _ _ c.requires.0 (c.in_default.ensures ∙ ap longest (c.reach_over-reach.ensures.trail _ _ _))

pub returns-clause-longest : goal.returns-clause-longest
returns-clause-longest c = match-long _ _ c.requires.0 _ (c.in-Some.ensures ∙ ap longest (c.reach_over-reach.ensures.trail _ _ _))
