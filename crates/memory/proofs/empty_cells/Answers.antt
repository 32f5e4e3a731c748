-- Each of the five slices has one value in the cells that `emptied` names.
use Rattle.spec.specs.Memory.{emptied}
use Rattle.memory.proofs.Emptying.{all_emptied}
use Rattle.memory.proofs.empty_cells.Goals as goal

pub returns : goal.returns
unfolding emptied
returns c =
    all_emptied 256 65537 65536 _ _ _ _ _ c.requires.0 c.requires.1 c.requires.2 _ _ _ _ _
    (c.fill.ensures.after (λ y e. e))
    (c.fill-2.ensures.after (λ y e. e))
    (c.fill-3.ensures.after (λ y e. e))
    (c.fill-4.ensures.after (λ y e. e))
    (c.fill-5.ensures.after (λ y e. e))
