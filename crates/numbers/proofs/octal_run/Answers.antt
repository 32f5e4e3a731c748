-- A digit more: the value does not wrap, and the rest of the run goes on behind it.
use Rattle.std.proofs.Common.{arith, ◌∙◌}
use Rattle.laws.specs.LiteralLaws.{octal_grows}
use Rattle.numbers.proofs.Numbers.{octal-digit}
use Rattle.numbers.proofs.octal_run.Goals as goal

pub loop-count-preserved : goal.loop-count-preserved
loop-count-preserved c = (
  octal_grows _ _ _ c.loop-count.invariant.0 (omega arith),
  octal-digit _ _ _ c.loop-count-test.true (omega arith) (omega arith) _ (omega arith) ∙ c.loop-count.invariant.1,
)
