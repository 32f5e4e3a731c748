-- Prefixes, and how a token's bytes lie against a string in terms of them: what `fit` says, and that more bytes change nothing but what
-- was too short. Assumes nothing.
use Rattle.std.specs.Prelude.{◌≡◌, refl, ◌≢◌, ◌↔◌, Bool, true, false, ℕ, pred, ◌≤◌, ◌<◌, eqb, length, take}
use Rattle.std.proofs.Common.{sym, ◌∙◌, ap, arith, eqb-true, eq-eqb, length-append}
use mathlib.Core.List.{List, [], ◌∷◌, ◌++◌, append_assoc, append-nil, nil≢cons}
use Rattle.std.proofs.Math.Seq.{take-append_seam}
use Rattle.spec.specs.Lists.{Bytes}
use Rattle.spec.specs.Plain.{Prefix}
use Rattle.spec.specs.Token.{Fit, fits, short, off, fit_if, fit}

-- s is a proper prefix of p
abbrev pub Proper : List ℕ → List ℕ → Type 0
Proper s p = (c : ℕ) × (y : List ℕ) × (p ≡ s ++ c ∷ y)

-- ---- prefixes

pub prefix_nothing : (i : ℕ) (is : List ℕ) → Prefix (i ∷ is) [] → ⊥
prefix_nothing i is (r, e) = nil≢cons e

pub prefix_cons : (i j : ℕ) (is js : List ℕ) → Prefix (i ∷ is) (j ∷ js) → (j ≡ i) × Prefix is js
prefix_cons i j is js (r, e) = (cc, (r, cc))

pub prefix_length : (p s : List ℕ) → Prefix p s → length p ≤ length s
prefix_length p s (r, e) = omega (arith, simp length-append at (ap length e))

-- what begins another and is no shorter is the other
pub no_shorter : (p r : List ℕ) → length (p ++ r) ≤ length p → p ++ r ≡ p
no_shorter p [] h = append-nil p
no_shorter p (c ∷ r) h = absurd (omega (arith, simp length-append at h))

pub prefix_both : (p q : List ℕ) → Prefix p q → Prefix q p → p ≡ q
prefix_both p q (r, e) w = sym (e ∙ no_shorter p r (rw e at (prefix_length q p w)))

pub prefix_trans : (p q s : List ℕ) → Prefix p q → Prefix q s → Prefix p s
prefix_trans p q s (r, e) (r', e') = (r ++ r', cc (append_assoc p r r'))

pub proper_length : (s p : List ℕ) → Proper s p → length s < length p
proper_length s p (c, y, e) = omega (arith, simp length-append at (ap length e))

-- what begins b ∷ s and is not empty is b and the first bytes of s
pub prefix_head : (p : List ℕ) (b : ℕ) (s : List ℕ) → 1 ≤ length p → Prefix p (b ∷ s) → p ≡ b ∷ take (pred (length p)) s
prefix_head [] b s n w = absurd (omega arith)
prefix_head (a ∷ p) b s n (r, e) =
    let z : s ≡ p ++ r = cc in
    cc (take-append_seam p r)

-- ---- bytes

pub bytes_left : (p q : List ℕ) → Bytes (p ++ q) → Bytes p
bytes_left [] q h = tt
bytes_left (b ∷ p) q h = (h.0, bytes_left p q h.1)

pub bytes_right : (p q : List ℕ) → Bytes (p ++ q) → Bytes q
bytes_right [] q h = h
bytes_right (b ∷ p) q h = bytes_right p q h.1

pub bytes_append : (p q : List ℕ) → Bytes p → Bytes q → Bytes (p ++ q)
bytes_append [] q h k = k
bytes_append (b ∷ p) q h k = (h.0, bytes_append p q h.1 k)

-- ---- what `fit` says

pub fits≢short : fits ≢ short
fits≢short e = let z : ◌≡◌ {A = ℕ} 0 1 = cc in omega arith

pub fits≢off : fits ≢ off
fits≢off e = let z : ◌≡◌ {A = ℕ} 0 1 = cc in omega arith

pub short≢off : short ≢ off
short≢off e = let z : ◌≡◌ {A = ℕ} 0 1 = cc in omega arith

fit_if-on : (c : Bool) (f g : Fit) → g ≢ off → fit_if c f ≡ g → (c ≡ true) × (f ≡ g)
fit_if-on true f g n e = (refl, e)
fit_if-on false f g n e = absurd (n (sym e))

fit-fits : (p s : List ℕ) → fit p s ≡ fits → Prefix p s
unfolding fit
fit-fits [] s e = (s, refl)
fit-fits (a ∷ p) [] e = absurd (fits≢short (sym e))
fit-fits (a ∷ p) (b ∷ s) e =
    let on = fit_if-on (eqb a b) (fit p s) fits fits≢off e in
    let (r, q) = fit-fits p s on.1 in
    (r, cc (eqb-true a b on.0))

fits_of : (p r : List ℕ) → fit p (p ++ r) ≡ fits
unfolding fit
fits_of [] r = refl
fits_of (a ∷ p) r = rw (eq-eqb a a refl) (fits_of p r)

-- it fits where it begins the string
pub fits_iff : (p s : List ℕ) → (fit p s ≡ fits) ↔ Prefix p s
fits_iff p s = (fit-fits p s, λ w. rw w.1 (fits_of p w.0))

fit-short : (p s : List ℕ) → fit p s ≡ short → Proper s p
unfolding fit
fit-short [] s e = absurd (fits≢short e)
fit-short (a ∷ p) [] e = (a, p, refl)
fit-short (a ∷ p) (b ∷ s) e =
    let on = fit_if-on (eqb a b) (fit p s) short short≢off e in
    let (c, y, q) = fit-short p s on.1 in
    (c, y, cc (eqb-true a b on.0))

short_of : (s : List ℕ) (c : ℕ) (y : List ℕ) → fit (s ++ c ∷ y) s ≡ short
unfolding fit
short_of [] c y = refl
short_of (a ∷ s) c y = rw (eq-eqb a a refl) (short_of s c y)

-- the string is too short for it where it is a proper prefix of it
pub short_iff : (p s : List ℕ) → (fit p s ≡ short) ↔ Proper s p
short_iff p s = (fit-short p s, λ w. rw w.2 (short_of s w.0 w.1))

fit_if-stable : (c : Bool) (f g : Fit) → (f ≢ short → g ≡ f) → fit_if c f ≢ short → fit_if c g ≡ fit_if c f
fit_if-stable true f g h n = h n
fit_if-stable false f g h n = refl

-- more bytes change nothing but what was short
pub fit-stable : (p s y : List ℕ) → fit p s ≢ short → fit p (s ++ y) ≡ fit p s
unfolding fit
fit-stable [] s y n = refl
fit-stable (a ∷ p) [] y n = absurd (n refl)
fit-stable (a ∷ p) (b ∷ s) y n = fit_if-stable (eqb a b) (fit p s) (fit p (s ++ y)) (fit-stable p s y) n
