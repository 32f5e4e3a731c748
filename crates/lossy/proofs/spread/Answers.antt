-- `lossy::spread` meets its contract. Assumes nothing.
use Rattle.std.proofs.Common.{arith, subst, List, ℕ}
use Rattle.std.proofs.lemmas.List.{take_rest}
use Rattle.lossy.specs.Lossy.{Breaks}
use Rattle.lossy.proofs.LossyText.{spread-more}
use Rattle.lossy.proofs.spread.Goals as goal

pub loop-part-preserved : goal.loop-part-preserved
loop-part-preserved c =
    let l = c.loop-part in
    let part = c.in-Some.part in
    spread-more _ _ l.read l.write l.out c.requires.1 l.invariant part
    (subst (λ (u : List ℕ). Breaks u part) (take_rest l.out l.read) c.in-Some.ensures) _ _ _ c.copy_within.ensures.after
    c.copy_from_slice.ensures.after (omega arith)
