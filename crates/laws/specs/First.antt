-- The smallest number that passes a test, and how a search for it may go. Assumes nothing.
use Rattle.std.specs.Prelude.{◌≡◌, Bool, true, false, ℕ, zero, suc, ◌+◌, ◌-◌, ◌≤◌, ◌<◌, eqb}
use Rattle.std.proofs.Math.Path.{refl, ap}
use Rattle.std.proofs.Common.{sym, ap₂, ◌∙◌, inl, inr, add-zero, arith, eqb-true}
use Rattle.std.proofs.Math.Bool.{cond}
use Rattle.std.proofs.lemmas.Bool.{eqb-false}
use Rattle.spec.specs.Layout.{first_from}
use Rattle.laws.specs.Tests.{Tested, either}

-- ---- the search finds the smallest

pub first_passes : (f : ℕ → Bool) (n s : ℕ) → f (s + n) ≡ true → f (first_from f n s) ≡ true
unfolding first_from
first_passes f zero s e = ap f (sym (add-zero s)) ∙ e
first_passes f (suc n) s e = go (f s) refl (first_passes f n (suc s))
  where
    go : (c : Bool) → f s ≡ c → (f (suc s + n) ≡ true → f (first_from f n (suc s)) ≡ true) → f (cond c s (first_from f n (suc s))) ≡ true
    go true p r = p
    go false p r = r (ap f (omega arith) ∙ e)

pub least : (f : ℕ → Bool) (n s t : ℕ) → s ≤ t → t < first_from f n s → f t ≡ false
unfolding first_from
least f zero s t h k = absurd (omega arith)
least f (suc n) s t h k = go (f s) refl k (least f n (suc s) t)
  where
    go : (c : Bool) → f s ≡ c → t < cond c s (first_from f n (suc s)) → (suc s ≤ t → t < first_from f n (suc s) → f t ≡ false) → f t ≡ false
    go true p q r = absurd (omega arith)
    go false p q r = at (either (eqb s t))
      where
        at : Tested (eqb s t) → f t ≡ false
        at (inl e) = ap f (sym (eqb-true s t e)) ∙ p
        at (inr e) = let ne = eqb-false s t e in r (omega (arith, ne)) q

pub from_le : (f : ℕ → Bool) (n s : ℕ) → s ≤ first_from f n s
unfolding first_from
from_le f zero s = omega arith
from_le f (suc n) s = go (f s) (from_le f n (suc s))
  where
    go : (c : Bool) → suc s ≤ first_from f n (suc s) → s ≤ cond c s (first_from f n (suc s))
    go true r = omega arith
    go false r = omega arith

pub from_most : (f : ℕ → Bool) (n s : ℕ) → first_from f n s ≤ s + n
unfolding first_from
from_most f zero s = omega arith
from_most f (suc n) s = go (f s) (from_most f n (suc s))
  where
    go : (c : Bool) → first_from f n (suc s) ≤ suc s + n → cond c s (first_from f n (suc s)) ≤ s + suc n
    go true r = omega arith
    go false r = omega arith

-- ---- a later start finds the same slot

pub skip : (f : ℕ → Bool) (n s d : ℕ) → ((t : ℕ) → s ≤ t → t < s + d → f t ≡ false) → first_from f (d + n) s ≡ first_from f n (s + d)
unfolding first_from
skip f n s zero h = let a : 0 + n ≡ n = omega arith in let b : s ≡ s + 0 = omega arith in ap₂ (first_from f) a b
skip f n s (suc d) h =
    let a : suc d + n ≡ suc (d + n) = omega arith in
    let b : suc s + d ≡ s + suc d = omega arith in
    ap (λ (z : ℕ). first_from f z s) a
    ∙ ap (λ (c : Bool). cond c s (first_from f (d + n) (suc s))) (h s (omega arith) (omega arith))
    ∙ skip f n (suc s) d (λ t p q. h t (omega arith) (omega arith))
    ∙ ap (first_from f n) b

-- fuel beyond the first that passes changes nothing
pub enough : (f : ℕ → Bool) (n e s : ℕ) → f (s + n) ≡ true → first_from f (n + e) s ≡ first_from f n s
unfolding first_from
enough f zero zero s h = refl
enough f zero (suc e) s h =
    let a : 0 + suc e ≡ suc e = omega arith in
    ap (λ (z : ℕ). first_from f z s) a ∙ ap (λ (c : Bool). cond c s (first_from f e (suc s))) (ap f (sym (add-zero s)) ∙ h)
enough f (suc n) e s h =
    let a : suc n + e ≡ suc (n + e) = omega arith in
    let b : s + suc n ≡ suc s + n = omega arith in
    ap (λ (z : ℕ). first_from f z s) a ∙ ap (cond (f s) s) (enough f n e (suc s) (ap f (sym b) ∙ h))

-- ---- what a loop has to show

pub first-is : (f : ℕ → Bool) (n s r : ℕ) → s ≤ r → r ≤ s + n → f r ≡ true → ((t : ℕ) → s ≤ t → t < r → f t ≡ false) → first_from f n s ≡ r
first-is f n s r a b e h =
    let p : n ≡ (r - s) + (n - (r - s)) = omega arith in
    let q : s + (r - s) ≡ r = omega arith in
    ap (λ (z : ℕ). first_from f z s) p ∙ skip f (n - (r - s)) s (r - s) (λ t c d. h t c (omega arith)) ∙ ap (first_from f (n - (r - s))) q
    ∙ passes (n - (r - s))
  where
    passes : (k : ℕ) → first_from f k r ≡ r
    passes zero = unfold first_from in refl
    passes (suc k) = unfold first_from in ap (λ (c : Bool). cond c r (first_from f k (suc r))) e
