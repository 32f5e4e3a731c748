-- The longest token at the start of a string, and the strings that are undecided, in terms of prefixes alone; and that neither
-- changes with more bytes where a string is decided. Assumes nothing.
use Rattle.std.specs.Prelude.{◌≡◌, refl, ◌≢◌, ◌↔◌, ◌⊎◌, Bool, true, false, ◌||◌, cond, ℕ, ◌≤◌, ltb, length}
use Rattle.std.proofs.Common.{sym, ◌∙◌, ap, inl, inr, true≢false, arith, ltb-true, ltb-false, take_at}
use Rattle.std.proofs.lemmas.Bool.{false≢true}
use Rattle.std.specs.Prelude.{Option, None, Some}
use mathlib.Core.List.Memᴰ.{head as here}
use mathlib.Core.List.Memᴰ.{tail as there}
use mathlib.Core.List.{List, [], ◌∷◌, ◌++◌, append-nil, nil≢cons, Memᴰ as Mem}
use Rattle.spec.specs.Lists.{any}
use Rattle.spec.specs.Token.{Token, Fit, fits, short, off, fit, pick, longest, is_short, proper_prefix, undecided}
use Rattle.spec.specs.Plain.{Prefix}
use Rattle.spec.specs.Valid.{Distinct, Valid}
use Rattle.running.specs.Prefixes.{Proper, prefix_length, prefix_trans}
use Rattle.running.specs.Prefixes.{fits≢short, fits≢off, short≢off, fits_iff, short_iff, fit-stable}

-- ---- the longest token

-- the token is one that fits, and none that fits is longer; or none fits
abbrev pub Best : List Token → List ℕ → Option Token → Type 0
Best ts s None = (u : Token) → Mem u ts → fit u.bytes s ≢ fits
Best ts s (Some t) =
    Mem t ts × (fit t.bytes s ≡ fits) × ((u : Token) → Mem u ts → fit u.bytes s ≡ fits → length u.bytes ≤ length t.bytes)

module _ (t : Token) (ts : List Token) (s : List ℕ) where
  best_none : fit t.bytes s ≢ fits → Best ts s None → Best (t ∷ ts) s None
  best_none n h u (here e) f = n (ap (λ (v : Token). fit v.bytes s) (sym e) ∙ f)
  best_none n h u (there m) f = h u m f

  top-other : (v : Token) → fit t.bytes s ≢ fits → Best ts s (Some v)
      → (u : Token) → Mem u (t ∷ ts) → fit u.bytes s ≡ fits → length u.bytes ≤ length v.bytes
  top-other v n h u (here e) f = absurd (n (ap (λ (v : Token). fit v.bytes s) (sym e) ∙ f))
  top-other v n h u (there m) f = h.2 u m f

  -- a token that does not fit changes nothing
  best-other : (m : Option Token) → fit t.bytes s ≢ fits → Best ts s m → Best (t ∷ ts) s m
  best-other None n h = best_none n h
  best-other (Some v) n h = (there h.0, h.1, top-other v n h)

  top-here : (k : ℕ) → length t.bytes ≤ k → ((u : Token) → Mem u ts → fit u.bytes s ≡ fits → length u.bytes ≤ k)
      → (u : Token) → Mem u (t ∷ ts) → fit u.bytes s ≡ fits → length u.bytes ≤ k
  top-here k l h u (here p) f = omega (arith, ap (λ (w : Token). length w.bytes) p)
  top-here k l h u (there m) f = h u m f

  best-first : fit t.bytes s ≡ fits → Best ts s None → Best (t ∷ ts) s (Some t)
  best-first f h = (here refl, f, top-here (length t.bytes) (omega arith) (λ u m g. absurd (h u m g)))

  best-two : (v : Token) → fit t.bytes s ≡ fits → Best ts s (Some v)
      → (c : Bool) → ltb (length v.bytes) (length t.bytes) ≡ c → Best (t ∷ ts) s (Some (cond c t v))
  best-two v f h true e =
      (here refl, f, top-here (length t.bytes) (omega arith) (λ u m g. omega (arith, h.2 u m g, ltb-true)))
  best-two v f h false e = (there h.0, h.1, top-here (length v.bytes) (omega (arith, ltb-false)) h.2)

  best-pick : (f : Fit) → fit t.bytes s ≡ f → (m : Option Token) → Best ts s m → Best (t ∷ ts) s (pick f t m)
  best-pick fits f None h = best-first f h
  best-pick fits f (Some v) h = best-two v f h (ltb (length v.bytes) (length t.bytes)) refl
  best-pick short f m h = best-other m (λ g. fits≢short (sym g ∙ f)) h
  best-pick off f m h = best-other m (λ g. fits≢off (sym g ∙ f)) h

pub best : (ts : List Token) (s : List ℕ) → Best ts s (longest ts s)
unfolding longest
best [] s = λ u m. elim m [ ]
best (t ∷ ts) s = best-pick t ts s (fit t.bytes s) refl (longest ts s) (best ts s)

-- a token is told by its bytes
pub bytes_tell : (ts : List Token) → Distinct ts → (t u : Token) → Mem t ts → Mem u ts → t.bytes ≡ u.bytes → t ≡ u
bytes_tell [] d t u m _ e = elim m [ ]
bytes_tell (x ∷ ts) d t u (here p) (here q) e = p ∙ sym q
bytes_tell (x ∷ ts) d t u (here p) (there m) e = absurd (d.0 u m (ap (λ (t : Token). t.bytes) (sym p) ∙ e))
bytes_tell (x ∷ ts) d t u (there m) (here q) e = absurd (d.0 t m (sym (e ∙ ap (λ (t : Token). t.bytes) q)))
bytes_tell (x ∷ ts) d t u (there m) (there n) e = bytes_tell ts d.1 t u m n e

-- t begins s, and no token that begins s is longer
abbrev pub IsLongest : List Token → List ℕ → Token → Type 0
IsLongest ts s t =
    Mem t ts × Prefix t.bytes s × ((u : Token) → Mem u ts → Prefix u.bytes s → length u.bytes ≤ length t.bytes)

-- "the longest token there"
pub longest-iff : (ts : List Token) → Valid ts → (s : List ℕ) (t : Token) → (longest ts s ≡ Some t) ↔ IsLongest ts s t
longest-iff ts v s t = (λ e. to (rw e at (best ts s)), λ w. from w (longest ts s) (best ts s))
  where
    to : Best ts s (Some t) → IsLongest ts s t
    to h = (h.0, (fits_iff t.bytes s).0 h.1, λ u m w. h.2 u m ((fits_iff u.bytes s).1 w))

    from : IsLongest ts s t → (m : Option Token) → Best ts s m → m ≡ Some t
    from w None h = absurd (h t w.0 ((fits_iff t.bytes s).1 w.1))
    from w (Some u) h =
        let (r, p) = w.1 in
        let (r', p') = (fits_iff u.bytes s).0 h.1 in
        let n : length t.bytes ≡ length u.bytes =
        omega (arith, w.2 u h.0 (r', p'), h.2 t w.0 ((fits_iff t.bytes s).1 (r, p))) in
        let b : u.bytes ≡ t.bytes =
        cc (take_at t.bytes r (length u.bytes) n, take_at u.bytes r' (length u.bytes) refl) in
        ap Some (bytes_tell ts v.distinct u t h.0 w.0 b)

pub longest-none_iff : (ts : List Token) (s : List ℕ) → (longest ts s ≡ None) ↔ ((u : Token) → Mem u ts → Prefix u.bytes s → ⊥)
longest-none_iff ts s = (λ e u m w. to (rw e at (best ts s)) u m w, λ w. from w (longest ts s) (best ts s))
  where
    to : Best ts s None → (u : Token) → Mem u ts → Prefix u.bytes s → ⊥
    to h u m w = h u m ((fits_iff u.bytes s).1 w)

    from : ((u : Token) → Mem u ts → Prefix u.bytes s → ⊥) → (m : Option Token) → Best ts s m → m ≡ None
    from w None h = refl
    from w (Some u) h = absurd (w u h.0 ((fits_iff u.bytes s).0 h.1))

-- a token is the longest one at its own bytes
pub longest-self : (ts : List Token) → Valid ts → (u : Token) → Mem u ts → longest ts u.bytes ≡ Some u
longest-self ts v u m =
    (longest-iff ts v u.bytes u).1 (m, ([], sym (append-nil u.bytes)), λ w n b. prefix_length w.bytes u.bytes b)

-- the longest token stays the longest in a prefix of the string that still has it
pub longest-cut : (ts : List Token) → Valid ts → (s p : List ℕ) (t : Token) → longest ts s ≡ Some t → Prefix p s → Prefix t.bytes p
    → longest ts p ≡ Some t
longest-cut ts v s p t e w b =
    let (m, f, top) = (longest-iff ts v s t).0 e in
    (longest-iff ts v p t).1 (m, b, λ u n c. top u n (prefix_trans u.bytes p s c w))

-- ---- undecided

is_short-true : (f : Fit) → is_short f ≡ true → f ≡ short
is_short-true fits e = absurd (false≢true e)
is_short-true short e = refl
is_short-true off e = absurd (false≢true e)

is_short-false : (f : Fit) → is_short f ≡ false → f ≢ short
is_short-false fits e = fits≢short
is_short-false short e = absurd (true≢false e)
is_short-false off e = λ o. short≢off (sym o)

neither : (a b : Bool) → (a || b) ≡ false → (a ≡ false) × (b ≡ false)
neither true b e = absurd (true≢false e)
neither false b e = (refl, e)

proper_none : (ts : List Token) (s : List ℕ) → proper_prefix ts s ≡ false → (u : Token) → Mem u ts → fit u.bytes s ≢ short
unfolding proper_prefix any
proper_none [] s e u m = elim m [ ]
proper_none (t ∷ ts) s e u (here p) =
    rw p (is_short-false (fit t.bytes s) (neither (is_short (fit t.bytes s)) (proper_prefix ts s) e).0)
proper_none (t ∷ ts) s e u (there m) = proper_none ts s (neither (is_short (fit t.bytes s)) (proper_prefix ts s) e).1 u m

proper_some : (ts : List Token) (s : List ℕ) → proper_prefix ts s ≡ true → (u : Token) × Mem u ts × (fit u.bytes s ≡ short)
unfolding proper_prefix any
proper_some [] s e = absurd (false≢true e)
proper_some (t ∷ ts) s e = go (is_short (fit t.bytes s)) refl e (proper_some ts s)
  where
    go : (c : Bool) → is_short (fit t.bytes s) ≡ c → (c || proper_prefix ts s) ≡ true
        → (proper_prefix ts s ≡ true → (u : Token) × Mem u ts × (fit u.bytes s ≡ short))
        → (u : Token) × Mem u (t ∷ ts) × (fit u.bytes s ≡ short)
    go true f d ih = (t, here refl, is_short-true (fit t.bytes s) f)
    go false f d ih = let (u, m, g) = ih d in (u, there m, g)

pub proper_iff : (ts : List Token) (s : List ℕ) → (proper_prefix ts s ≡ true) ↔ ((u : Token) × Mem u ts × Proper s u.bytes)
proper_iff ts s = (to, λ w. from w.0 w.1 w.2 (proper_prefix ts s) refl)
  where
    to : proper_prefix ts s ≡ true → (u : Token) × Mem u ts × Proper s u.bytes
    to e = let (u, m, f) = proper_some ts s e in (u, m, (short_iff u.bytes s).0 f)

    from : (u : Token) → Mem u ts → Proper s u.bytes → (c : Bool) → proper_prefix ts s ≡ c → c ≡ true
    from u m w true e = refl
    from u m w false e = absurd (proper_none ts s e u m ((short_iff u.bytes s).1 w))

-- "A position is decided when the bytes from it are no proper prefix of any token (the empty run is a prefix of all)."
pub undecided-iff : (ts : List Token) (s : List ℕ) → (undecided ts s ≡ true) ↔ ((s ≡ []) ⊎ ((u : Token) × Mem u ts × Proper s u.bytes))
unfolding undecided
undecided-iff ts [] = (λ e. inl refl, λ w. refl)
undecided-iff ts (b ∷ s) = (λ e. inr ((proper_iff ts (b ∷ s)).0 e), from)
  where
    from : ((b ∷ s ≡ []) ⊎ ((u : Token) × Mem u ts × Proper (b ∷ s) u.bytes)) → proper_prefix ts (b ∷ s) ≡ true
    from (inl e) = absurd (nil≢cons (sym e))
    from (inr w) = (proper_iff ts (b ∷ s)).1 w

-- ---- more bytes

pub longest-stable : (ts : List Token) (s y : List ℕ) → proper_prefix ts s ≡ false → longest ts (s ++ y) ≡ longest ts s
unfolding proper_prefix any longest
longest-stable [] s y e = refl
longest-stable (t ∷ ts) s y e =
    let on = neither (is_short (fit t.bytes s)) (proper_prefix ts s) e in
    cc (fit-stable t.bytes s y (is_short-false (fit t.bytes s) on.0), longest-stable ts s y on.1)

pub proper_stable : (ts : List Token) (s y : List ℕ) → proper_prefix ts s ≡ false → proper_prefix ts (s ++ y) ≡ false
unfolding proper_prefix any
proper_stable [] s y e = refl
proper_stable (t ∷ ts) s y e =
    let on = neither (is_short (fit t.bytes s)) (proper_prefix ts s) e in
    let f = fit-stable t.bytes s y (is_short-false (fit t.bytes s) on.0) in
    rw (f, on.0) (proper_stable ts s y on.1)
