-- What tests say: those of Lists of membership, one over every number below n of each. Proofs use untruncated membership, `List.Memᴰ`.
-- Assumes nothing.
use Rattle.std.specs.Prelude.{◌≡◌, ◌⊎◌, Bool, ◌&&◌, ◌||◌, cond, ℕ, zero, suc, ◌≤◌, ◌<◌, eqb, length}
use Rattle.std.proofs.Math.Path.{refl, ap}
use Rattle.std.proofs.Common.{sym, ap₂, ◌∙◌, subst, inl, inr, true≢false, arith, eqb-true, eq-eqb}
use Rattle.std.proofs.Math.Bool.{true, false, or_assoc}
use Rattle.std.proofs.lemmas.Bool.{false≢true, eqb-false}
use mathlib.Core.List.Memᴰ.{head as here}
use mathlib.Core.List.Memᴰ.{tail as there}
use mathlib.Core.List.{List, [], ◌∷◌, ◌++◌, Memᴰ as Mem}
use mathlib.Core.List.Memᴰ.{append_cases}
use mathlib.Core.List.Memᴰ.{cases_cons}
use mathlib.Core.List.Memᴰ.{not-nil}
use mathlib.Core.List.Memᴰ.{append_left as mem-left}
use mathlib.Core.List.Memᴰ.{append_right as mem-right}
use mathlib.Core.List.Memᴰ.{cast as mem-cast}
use Rattle.spec.specs.Lists.{any, keep, each, same, has, byte_in}

-- ---- Booleans

-- a choice by a test whose outcome is known
pub yes_case : {A : Type 0} (a b : A) {c : Bool} → c ≡ true → cond c a b ≡ a
yes_case a b e = ap (λ (d : Bool). cond d a b) e

pub no_case : {A : Type 0} (a b : A) {c : Bool} → c ≡ false → cond c a b ≡ b
no_case a b e = ap (λ (d : Bool). cond d a b) e

pub clash : {b : Bool} → b ≡ true → b ≡ false → ⊥
clash p q = true≢false (sym p ∙ q)

-- a test came out one way or the other
abbrev pub Tested : Bool → Type 0
Tested b = (b ≡ true) ⊎ (b ≡ false)

pub either : (b : Bool) → Tested b
either true = inl refl
either false = inr refl

pub or_cases : (a b : Bool) → (a || b) ≡ true → (a ≡ true) ⊎ (b ≡ true)
or_cases true b e = inl refl
or_cases false b e = inr e

pub or_l : (a b : Bool) → a ≡ true → (a || b) ≡ true
or_l true b e = refl
or_l false b e = absurd (false≢true e)

pub or_r : (a b : Bool) → b ≡ true → (a || b) ≡ true
or_r true b e = refl
or_r false b e = e

pub and_l : (a b : Bool) → (a && b) ≡ true → a ≡ true
and_l true b e = refl
and_l false b e = absurd (false≢true e)

pub and_r : (a b : Bool) → (a && b) ≡ true → b ≡ true
and_r true b e = e
and_r false b e = absurd (false≢true e)

pub neither : (a b : Bool) → (a || b) ≡ false → (a ≡ false) × (b ≡ false)
neither true b e = absurd (true≢false e)
neither false b e = (refl, e)

pub no_true : (b : Bool) → (b ≡ true → ⊥) → b ≡ false
no_true true h = absurd (h refl)
no_true false h = refl

pub iff_eq : (a b : Bool) → (a ≡ true → b ≡ true) → (b ≡ true → a ≡ true) → a ≡ b
iff_eq true b f g = sym (f refl)
iff_eq false true f g = g refl
iff_eq false false f g = refl

-- ---- a test of every number below n, which computes

unfoldable pub all_below : ℕ → (ℕ → Bool) → Bool
all_below zero f = true
all_below (suc n) f = f n && all_below n f

pub below : (n : ℕ) (f : ℕ → Bool) → all_below n f ≡ true → (i : ℕ) → i < n → f i ≡ true
unfolding all_below
below zero f e i h = absurd (omega arith)
below (suc n) f e i h = go (either (eqb i n)) (below n f (and_r (f n) (all_below n f) e) i)
  where
    go : Tested (eqb i n) → (i < n → f i ≡ true) → f i ≡ true
    go (inl q) r = ap f (eqb-true i n q) ∙ and_l (f n) (all_below n f) e
    go (inr q) r = let ne = eqb-false i n q in r (omega (arith, ne))

-- ---- any

module _ {A : Type 0} (f : A → Bool) where
  pub any-find : (l : List A) → any f l ≡ true → (x : A) × Mem x l × (f x ≡ true)
  unfolding any
  any-find [] e = absurd (false≢true e)
  any-find (y ∷ l) e = go (or_cases (f y) (any f l) e) (any-find l)
    where
      go : (f y ≡ true) ⊎ (any f l ≡ true) → (any f l ≡ true → (x : A) × Mem x l × (f x ≡ true)) → (x : A) × Mem x (y ∷ l) × (f x ≡ true)
      go (inl p) r = (y, here refl, p)
      go (inr p) r = ((r p).0, there (r p).1, (r p).2)

  pub any-mem : {x : A} {l : List A} → Mem x l → f x ≡ true → any f l ≡ true
  unfolding any
  any-mem (here {x = y} {xs = l} e) p = or_l (f y) (any f l) (ap f (sym e) ∙ p)
  any-mem (there {x = y} {xs = l} m) p = or_r (f y) (any f l) (any-mem m p)

  pub any_none : {x : A} {l : List A} → any f l ≡ false → Mem x l → f x ≡ false
  any_none {x} e m = no_true (f x) (λ p. clash (any-mem m p) e)

  pub none_any : (l : List A) → ((x : A) → Mem x l → f x ≡ true → ⊥) → any f l ≡ false
  none_any l h = no_true (any f l) (λ p. let r = any-find l p in h r.0 r.1 r.2)

pub any_append : {A : Type 0} (f : A → Bool) (s t : List A) → any f (s ++ t) ≡ (any f s || any f t)
unfolding any
any_append f [] t = refl
any_append f (x ∷ s) t = ap (λ (c : Bool). f x || c) (any_append f s t) ∙ sym (or_assoc (f x) (any f s) (any f t))

-- ---- bytes in a list

pub in_mem : (l : List ℕ) (b : ℕ) → byte_in l b ≡ true → Mem b l
unfolding byte_in
in_mem l b e = let r = any-find (eqb b) l e in mem-cast (eqb-true b r.0 r.2) r.1

pub mem_in : {l : List ℕ} {b : ℕ} → Mem b l → byte_in l b ≡ true
unfolding byte_in
mem_in {b} m = any-mem (eqb b) m (eq-eqb b b refl)

-- ---- equal byte strings

pub same-eq : (p q : List ℕ) → same p q ≡ true → p ≡ q
unfolding same
same-eq [] [] e = refl
same-eq [] (y ∷ q) e = absurd (false≢true e)
same-eq (x ∷ p) [] e = absurd (false≢true e)
same-eq (x ∷ p) (y ∷ q) e =
    ap₂ (λ (a : ℕ) (l : List ℕ). a ∷ l) (eqb-true x y (and_l (eqb x y) (same p q) e)) (same-eq p q (and_r (eqb x y) (same p q) e))

pub same_refl : (p : List ℕ) → same p p ≡ true
unfolding same
same_refl [] = refl
same_refl (x ∷ p) = ap₂ ◌&&◌ (eq-eqb x x refl) (same_refl p)

pub has-mem : (ps : List (List ℕ)) (p : List ℕ) → has ps p ≡ true → Mem p ps
unfolding has
has-mem ps p e = let r = any-find (same p) ps e in mem-cast (same-eq p r.0 r.2) r.1

pub mem_has : {ps : List (List ℕ)} {p : List ℕ} → Mem p ps → has ps p ≡ true
unfolding has
mem_has {p} m = any-mem (same p) m (same_refl p)

-- ---- membership in what is built

module _ {A B : Type 0} (f : A → List B) where
  pub each-mem : {x : A} {l : List A} {y : B} → Mem x l → Mem y (f x) → Mem y (each f l)
  unfolding each
  each-mem {x} {y} (here {x = z} {xs = l} e) m = mem-left (each f l) (subst (λ (w : A). Mem y (f w)) e m)
  each-mem (there {x = z} {xs = l} n) m = mem-right (f z) (each-mem n m)

  pub each-find : (l : List A) {y : B} → Mem y (each f l) → (x : A) × Mem x l × Mem y (f x)
  unfolding each
  each-find [] m = absurd (not-nil m)
  each-find (z ∷ l) {y} m = go (append_cases (f z) m) (each-find l)
    where
      go : Mem y (f z) ⊎ Mem y (each f l) → (Mem y (each f l) → (x : A) × Mem x l × Mem y (f x)) → (x : A) × Mem x (z ∷ l) × Mem y (f x)
      go (inl n) r = (z, here refl, n)
      go (inr n) r = ((r n).0, there (r n).1, (r n).2)

module _ {A : Type 0} (f : A → Bool) where
  pub keep-mem : {x : A} {l : List A} → Mem x l → f x ≡ true → Mem x (keep f l)
  unfolding keep
  keep-mem {x} (here {x = z} {xs = l} e) t = go (f z) (ap f (sym e) ∙ t)
    where
      go : (c : Bool) → c ≡ true → Mem x (cond c (z ∷ keep f l) (keep f l))
      go true p = here e
      go false p = absurd (false≢true p)
  keep-mem {x} (there {x = z} {xs = l} m) t = go (f z) (keep-mem m t)
    where
      go : (c : Bool) → Mem x (keep f l) → Mem x (cond c (z ∷ keep f l) (keep f l))
      go true r = there r
      go false r = r

  pub keep-find : (l : List A) {x : A} → Mem x (keep f l) → Mem x l × (f x ≡ true)
  unfolding keep
  keep-find [] m = absurd (not-nil m)
  keep-find (z ∷ l) {x} m = go (f z) refl m (keep-find l)
    where
      go : (c : Bool) → f z ≡ c → Mem x (cond c (z ∷ keep f l) (keep f l)) → (Mem x (keep f l) → Mem x l × (f x ≡ true))
          → Mem x (z ∷ l) × (f x ≡ true)
      go true p n r = at (cases_cons n)
        where
          at : (x ≡ z) ⊎ Mem x (keep f l) → Mem x (z ∷ l) × (f x ≡ true)
          at (inl e) = (here e, ap f e ∙ p)
          at (inr k) = (there (r k).0, (r k).1)
      go false p n r = (there (r n).0, (r n).1)

-- a list with a member is not empty
pub mem_pos : {A : Type 0} {x : A} {l : List A} → Mem x l → 1 ≤ length l
mem_pos (here e) = omega arith
mem_pos (there m) = omega arith
