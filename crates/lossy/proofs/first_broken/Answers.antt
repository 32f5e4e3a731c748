-- `lossy::first_broken` meets its contract. Assumes nothing.
use Rattle.std.proofs.Common.{◌≡◌, ◌⊎◌, inl, inr, ℕ, ◌+◌, ◌-◌, List, length, take, drop, refl, sym, ap, ◌∙◌, arith}
use Rattle.std.specs.Prelude.{Some}
use Rattle.spec.specs.Utf8.{step_of, first_bad, char, bad, cut}
use Rattle.utf8.specs.declared.Step.{Step as Found}
use Rattle.utf8.specs.declared.Step.TheVariants.{Char, Bad, Cut}
use Rattle.utf8.specs.Means.{step_means}
use Rattle.lossy.specs.Lossy.{Breaks}
use Rattle.lossy.proofs.LossyText.{bad_within, breaks}
use Rattle.lossy.proofs.first_broken.Goals as goal

pub slice_bounds-first_step-start : goal.slice_bounds-first_step-start
slice_bounds-first_step-start c = bad_within _ _ c.in_ok-at.ensures

pub slice_bounds-first_step-count : goal.slice_bounds-first_step-count
slice_bounds-first_step-count c = bad_within _ _ c.in_ok-at.ensures

-- the part at the first bad offset, for each way that its step can end
part : (s : List ℕ) (at len : ℕ) (r : Found) → Some at ≡ first_bad s → step_means r ≡ step_of (take (length s - at) (drop at s))
    → (r ≡ Char len) ⊎ ((r ≡ Bad len) ⊎ (r ≡ Cut len)) → Breaks s (record { start = at; end = at + len })
part s at len r f e (inl h) = breaks s at len (char len) f (sym (ap step_means h) ∙ e) refl
part s at len r f e (inr (inl h)) = breaks s at len (bad len) f (sym (ap step_means h) ∙ e) refl
part s at len r f e (inr (inr h)) = breaks s at len (cut len) f (sym (ap step_means h) ∙ e) refl

pub overflow_add-result : goal.overflow_add-result
overflow_add-result c =
    let p = part _ _ c.in-Char.len _ c.in_ok-at.ensures c.first_step.ensures c.in-Char.is in omega (arith, p.inside)

pub returns : goal.returns
returns c = part _ _ c.in-Char.len _ c.in_ok-at.ensures c.first_step.ensures c.in-Char.is
