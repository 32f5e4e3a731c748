-- `utf8::first_step` meets its contract, at each byte that follows the first. Assumes nothing.
use Rattle.std.proofs.Common.{rules, arith}
use Rattle.utf8.proofs.StepTurns.{step_none, one_fewer, walk_on}
use Rattle.utf8.proofs.first_step.Goals as goal

pub returns-in_default-lead_of : goal.returns-in_default-lead_of
returns-in_default-lead_of c = step_none _ _ _ c.in-Some.ensures.cases.0 (search rules)

pub loop-n-preserved : goal.loop-n-preserved
loop-n-preserved c =
    let found = c.in-Some-get.ensures.lookup in (omega arith, search (one_fewer, rules), search (walk_on, rules))
