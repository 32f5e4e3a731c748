-- What the tokens of an accepted vocabulary satisfy. Assumes nothing.
use Rattle.std.specs.Prelude.{◌≡◌, refl, ◌⊎◌, Bool, true, false, cond, ℕ, ◌≤◌, ◌<◌}
use Rattle.std.proofs.Common.{sym, ap, ◌∙◌, subst, inl, inr, arith}
use mathlib.Core.List.Memᴰ.{head as here}
use mathlib.Core.List.Memᴰ.{tail as there}
use mathlib.Core.List.{List, [], ◌∷◌, Memᴰ as Mem}
use Rattle.spec.specs.Lists.{same, Bytes}
use Rattle.spec.specs.Token.{Token, id_of}
use Rattle.spec.specs.Valid.{Valid}
use Rattle.running.specs.Longest.{bytes_tell}
use Rattle.running.specs.Joined.{rising_above}
use Rattle.laws.specs.Tests.{same-eq, same_refl}

-- ---- bytes

pub byte_at : {b : ℕ} {s : List ℕ} → Bytes s → Mem b s → b < 256
byte_at h (here e) = subst (λ (z : ℕ). z < 256) (sym e) h.0
byte_at h (there m) = byte_at h.1 m

-- ---- ids

-- the token with the bytes p, which gives them their id
abbrev pub TokenOf : List Token → List ℕ → Type 0
TokenOf ts p = (t : Token) × Mem t ts × (t.bytes ≡ p) × (id_of ts p ≡ t.id)

pub id_cases : (ts : List Token) (p : List ℕ) → (id_of ts p ≡ 0) ⊎ TokenOf ts p
unfolding id_of
id_cases [] p = inl refl
id_cases (y ∷ ts) p = go (same p y.bytes) refl (id_cases ts p)
  where
    go : (c : Bool) → same p y.bytes ≡ c → (id_of ts p ≡ 0) ⊎ TokenOf ts p
        → (id_of (y ∷ ts) p ≡ 0) ⊎ TokenOf (y ∷ ts) p
    go true e r = inr (y, here refl, sym (same-eq p y.bytes e), ap (λ (c : Bool). cond c y.id (id_of ts p)) e)
    go false e (inl z) = inl (ap (λ (c : Bool). cond c y.id (id_of ts p)) e ∙ z)
    go false e (inr h) = inr (h.0, there h.1, h.2, ap (λ (c : Bool). cond c y.id (id_of ts p)) e ∙ h.3)

pub id_pos : {t : Token} {ts : List Token} (p : List ℕ) → ((u : Token) → Mem u ts → 1 ≤ u.id) → Mem t ts → t.bytes ≡ p → 1 ≤ id_of ts p
unfolding id_of
id_pos {t} p low (here {x = y} {xs = ts} i) e = subst (λ (c : Bool). 1 ≤ cond c y.id (id_of ts p)) (sym equal) (low y (here refl))
  where
    equal : same p y.bytes ≡ true
    equal = ap (λ (z : List ℕ). same p z) (ap (λ (z : Token). z.bytes) (sym i) ∙ e) ∙ same_refl p
id_pos {t} p low (there {x = y} {xs = ts} m) e = go (same p y.bytes) (id_pos p (λ u k. low u (there k)) m e)
  where
    go : (c : Bool) → 1 ≤ id_of ts p → 1 ≤ cond c y.id (id_of ts p)
    go true h = low y (here refl)
    go false h = h

module _ (ts : List Token) (v : Valid ts) where
  -- no id is 0
  pub id-low : (t : Token) → Mem t ts → 1 ≤ t.id
  id-low t m = let k = rising_above 0 ts v.rising t m in omega arith

  pub id-bound : (p : List ℕ) → id_of ts p < 65536
  id-bound p = go (id_cases ts p)
    where
      go : (id_of ts p ≡ 0) ⊎ TokenOf ts p → id_of ts p < 65536
      go (inl z) = omega arith
      go (inr h) = let k = v.id-fits h.0 h.1 in let e = h.3 in omega arith

  -- the bytes of a token have its id
  pub id-token : (t : Token) → Mem t ts → id_of ts t.bytes ≡ t.id
  id-token t m = go (id_cases ts t.bytes)
    where
      go : (id_of ts t.bytes ≡ 0) ⊎ TokenOf ts t.bytes → id_of ts t.bytes ≡ t.id
      go (inl z) = let k = id_pos t.bytes id-low m refl in absurd (omega arith)
      go (inr (u, n, e, j)) = j ∙ ap (λ (w : Token). w.id) (bytes_tell ts v.distinct u t n m e)
