use Rattle.std.proofs.Common.{ℤ, to_z, of_z, w32, ap, ◌∙◌, arith}
use Rattle.tokens.proofs.Stores.{single_one, single_other}
use mir.Facts.{to_z_pos}
use Rattle.tokens.proofs.set_single.Goals as goal

pub returns-then-bytes-eq1 : goal.returns-then-bytes-eq1
returns-then-bytes-eq1 c =
    single_one _ _ _ _ _ c.if-bytes-eq1.true c.from-then-bytes-eq1.ensures
    (ap (λ (z : ℤ). to_z w32 (of_z w32 z)) c.from.ensures ∙ to_z_pos w32 (omega arith))

pub returns-else-bytes-eq1 : goal.returns-else-bytes-eq1
returns-else-bytes-eq1 c = single_other _ _ _ c.if-bytes-eq1.false
