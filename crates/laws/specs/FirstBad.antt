-- The first bad offset of a string: there is none just where the string is UTF-8; otherwise it lies in the string, no character starts
-- there, and all before it is UTF-8. Assumes nothing.
use Rattle.std.specs.Prelude.{◌≡◌, refl, Bool, true, false, cond, List, [], ◌∷◌, ℕ, zero, suc, ◌+◌, ◌≤◌, ◌<◌, length, take, drop}
use Rattle.std.proofs.Common.{sym, ap, ◌∙◌, subst, arith, length-drop, length-take-le, take-add, drop_at, drop-drop}
use Rattle.std.specs.Prelude.{Option, None, Some}
use Rattle.spec.specs.Utf8.{Range, within, after, Step, char, bad, cut, follow, followed, step_of, size, is_char, well_formed}
use Rattle.spec.specs.Utf8.{first_bad_from, first_bad}
use Rattle.laws.specs.Utf8Laws.{char_within, first-bad_zero, first-bad_nil, first-bad-char, first-bad-other}
use Rattle.laws.specs.Utf8Laws.{well_formed_nil, well-formed-char, is_none, well_formed_first}
use Rattle.laws.specs.Tests.{clash}

-- ---- whether there is one

pub well_formed_none : (s : List ℕ) → well_formed s ≡ true → first_bad s ≡ None
well_formed_none s w = go (first_bad s) (sym w ∙ well_formed_first s)
  where
    go : (o : Option ℕ) → true ≡ is_none o → o ≡ None
    go None e = refl
    go (Some k) e = absurd (clash refl e)

pub not-well_formed : (s : List ℕ) → well_formed s ≡ false → (k : ℕ) × (first_bad s ≡ Some k)
not-well_formed s w = go (first_bad s) (sym w ∙ well_formed_first s)
  where
    go : (o : Option ℕ) → false ≡ is_none o → (k : ℕ) × (o ≡ Some k)
    go None e = absurd (clash refl (sym e))
    go (Some k) e = (k, refl)

-- ---- a character does not depend on what follows it

not-char : (t : Step) (n : ℕ) → is_char t ≡ false → t ≡ char n → ⊥
not-char t n f e = clash (ap is_char e) f

follow-size : (n : ℕ) (rs : List Range) (s : List ℕ) (m : ℕ) → follow n rs s ≡ char m → m ≡ n + length rs
unfolding follow
follow-size n [] s m e = let z = ap size e in omega arith
follow-size n (r ∷ rs) [] m e = absurd (not-char (cut n) m refl e)
follow-size n (r ∷ rs) (b ∷ s) m e = go (within r b) (follow-size (suc n) rs s m) e
  where
    go : (c : Bool) → (follow (suc n) rs s ≡ char m → m ≡ suc n + length rs)
        → cond c (follow (suc n) rs s) (bad n) ≡ char m → m ≡ n + suc (length rs)
    go true ih e = let z = ih e in omega arith
    go false ih e = absurd (not-char (bad n) m refl e)

follow-kept : (n : ℕ) (rs : List Range) (s : List ℕ) (m k : ℕ) → follow n rs s ≡ char m → length rs ≤ k
    → follow n rs (take k s) ≡ char m
unfolding follow
follow-kept n [] s m k e h = e
follow-kept n (r ∷ rs) [] m k e h = absurd (not-char (cut n) m refl e)
follow-kept n (r ∷ rs) (b ∷ s) m zero e h = absurd (omega arith)
follow-kept n (r ∷ rs) (b ∷ s) m (suc k) e h = go (within r b) (λ q. follow-kept (suc n) rs s m k q (omega arith)) e
  where
    go : (c : Bool) → (follow (suc n) rs s ≡ char m → follow (suc n) rs (take k s) ≡ char m)
        → cond c (follow (suc n) rs s) (bad n) ≡ char m → cond c (follow (suc n) rs (take k s)) (bad n) ≡ char m
    go true ih e = ih e
    go false ih e = e

step_kept : (s : List ℕ) (n k : ℕ) → step_of s ≡ char n → n ≤ k → step_of (take k s) ≡ char n
unfolding step_of
step_kept [] n k e h = absurd (not-char (cut 0) n refl e)
step_kept (b ∷ s) n zero e h = absurd (let z = char_within (b ∷ s) n (omega arith) e in omega arith)
step_kept (b ∷ s) n (suc k) e h = go (after b) e
  where
    go : (o : Option (List Range)) → followed o s ≡ char n → followed o (take k s) ≡ char n
    go None e = e
    go (Some rs) e = follow-kept 1 rs s n k e (let z = follow-size 1 rs s n e in omega arith)

-- ---- it is the first

-- k is the first bad offset of s, which stands at i
abbrev First : List ℕ → ℕ → ℕ → Type 0
First s i k = (j : ℕ) × (k ≡ i + j) × (j < length s) × (is_char (step_of (drop j s)) ≡ false) × (well_formed (take j s) ≡ true)

-- what is bad at once
here : (s : List ℕ) (i k : ℕ) → 0 < length s → first_bad_from i s ≡ Some k → (t : Step) → step_of s ≡ t → is_char t ≡ false → First s i k
here s i k h e t q f =
    let z : Some i ≡ Some k = sym (first-bad-other s h i t q f) ∙ e in
    let y : i ≡ k = cc in
    (0, omega arith, h, ap is_char q ∙ f, well_formed_nil)

-- what is bad after a character of n bytes
past : (s : List ℕ) (i k n : ℕ) → 0 < length s → step_of s ≡ char n → First (drop n s) (i + n) k → First s i k
past s i k n h q (j, a, l, o, w) =
    let (least, most) = char_within s n h q in
    let inside : n + j < length s = omega (arith, simp length-drop at l) in
    let whole = length-take-le (n + j) s (omega arith) in
    let rest : drop n (take (n + j) s) ≡ take j (drop n s) = ap (drop n) (take-add n j s)
    ∙ drop_at (take n s) _ n (length-take-le n s most) in (
      n + j,
      omega arith,
      inside,
      subst (λ (r : List ℕ). is_char (step_of r) ≡ false) (drop-drop j n s) o,
      well-formed-char (take (n + j) s) (omega arith) n (step_kept s n (n + j) q (omega arith)) ∙ ap well_formed rest ∙ w,
    )

nil_good : (i k : ℕ) → first_bad_from i [] ≡ Some k → ⊥
nil_good i k e = clash refl (ap is_none (sym (first-bad_nil i) ∙ e))

first-in : (f : ℕ) (s : List ℕ) → length s ≤ f → (i k : ℕ) → first_bad_from i s ≡ Some k → First s i k
first-in zero [] h i k e = absurd (nil_good i k e)
first-in zero (b ∷ s) h i k e = absurd (omega arith)
first-in (suc f) [] h i k e = absurd (nil_good i k e)
first-in (suc f) (b ∷ s) h i k e = go (step_of (b ∷ s)) refl (λ r l i k e. first-in f r l i k e)
  where
    go : (t : Step) → step_of (b ∷ s) ≡ t → ((r : List ℕ) → length r ≤ f → (i k : ℕ) → first_bad_from i r ≡ Some k → First r i k)
        → First (b ∷ s) i k
    go (char n) q ih =
        let (least, most) = char_within (b ∷ s) n (omega arith) q in
        let fewer : length (drop n (b ∷ s)) ≤ f = simp length-drop (omega arith) in
        past (b ∷ s) i k n (omega arith) q
        (ih (drop n (b ∷ s)) fewer (i + n) k (sym (first-bad-char (b ∷ s) (omega arith) i n q) ∙ e))
    go (bad n) q ih = here (b ∷ s) i k (omega arith) e (bad n) q refl
    go (cut n) q ih = here (b ∷ s) i k (omega arith) e (cut n) q refl

pub first-bad_is_first : (s : List ℕ) (k : ℕ) → first_bad s ≡ Some k
    → (k < length s) × (is_char (step_of (drop k s)) ≡ false) × (well_formed (take k s) ≡ true)
first-bad_is_first s k e =
    let (j, a, l, o, w) = first-in (length s) s (omega arith) 0 k (sym (first-bad_zero s) ∙ e) in
    let z : k ≡ j = omega arith in
    subst (λ (i : ℕ). (i < length s) × (is_char (step_of (drop i s)) ≡ false) × (well_formed (take i s) ≡ true)) (sym z) (l, o, w)
