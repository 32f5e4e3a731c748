use Rattle.std.proofs.Common.{arith}
use Rattle.tokens.proofs.Stores.{part_filled}
use Rattle.tokens.proofs.set_offsets.Goals as goal

pub returns : goal.returns
returns c = part_filled _ _ _ _ _ _ c.from.ensures c.requires.1 (omega (arith, c.requires)) (c.fill.ensures.after (λ y e. e))
