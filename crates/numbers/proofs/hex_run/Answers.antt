-- A digit more: the value does not wrap, and the rest of the run goes on behind it.
use Rattle.std.proofs.Common.{sym, ◌∙◌}
use Rattle.laws.specs.LiteralLaws.{hex_grows}
use Rattle.numbers.proofs.Numbers.{hex-digit}
use Rattle.numbers.proofs.hex_run.Goals as goal

pub loop-b-preserved : goal.loop-b-preserved
loop-b-preserved c = (
  hex_grows _ _ _ c.loop-b.invariant.0 c.in_ok-value.ensures.small,
  hex-digit _ _ _ c.loop-b-test.true _ (sym c.in_ok-value.ensures.value) ∙ c.loop-b.invariant.1,
)
