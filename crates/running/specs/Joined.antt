-- Tokens by their ids, and the bytes of a list of ids. Assumes nothing.
use Rattle.std.specs.Prelude.{◌≡◌, refl, Bool, true, false, ◌||◌, ℕ, ◌<◌, eqb}
use Rattle.std.proofs.Common.{sym, ◌∙◌, ap, arith, eq-eqb, ne_eqb}
use mathlib.Core.List.Memᴰ.{head as here}
use mathlib.Core.List.Memᴰ.{tail as there}
use mathlib.Core.List.{List, [], ◌∷◌, ◌++◌, append_assoc, Memᴰ as Mem}
use Rattle.spec.specs.Lists.{any, each}
use Rattle.spec.specs.Token.{Token, bytes_of, joined, present}
use Rattle.spec.specs.Valid.{Rising, Valid}

pub rising_above : (low : ℕ) (ts : List Token) → Rising low ts → (t : Token) → Mem t ts → low < t.id
rising_above low [] r t m = elim m [ ]
rising_above low (x ∷ ts) r t (here p) = omega (arith, ap (λ (t : Token). t.id) p)
rising_above low (x ∷ ts) r t (there m) = omega (arith, rising_above x.id ts r.1 t m)

-- a token is told by its id
rising_tells : (low : ℕ) (ts : List Token) → Rising low ts → (t u : Token) → Mem t ts → Mem u ts → t.id ≡ u.id → t ≡ u
rising_tells low [] r t u m _ e = elim m [ ]
rising_tells low (x ∷ ts) r t u (here p) (here q) e = p ∙ sym q
rising_tells low (x ∷ ts) r t u (here p) (there m) e =
    absurd (omega (arith, rising_above x.id ts r.1 u m, ap (λ (t : Token). t.id) p))
rising_tells low (x ∷ ts) r t u (there m) (here q) e =
    absurd (omega (arith, rising_above x.id ts r.1 t m, ap (λ (t : Token). t.id) q))
rising_tells low (x ∷ ts) r t u (there m) (there n) e = rising_tells x.id ts r.1 t u m n e

pub ids_tell : (ts : List Token) → Valid ts → (t u : Token) → Mem t ts → Mem u ts → t.id ≡ u.id → t ≡ u
ids_tell ts v = rising_tells 0 ts v.rising

rising_bytes : (low : ℕ) (ts : List Token) → Rising low ts → (t : Token) → Mem t ts → bytes_of ts t.id ≡ t.bytes
unfolding bytes_of
rising_bytes low [] r t m = elim m [ ]
rising_bytes low (x ∷ ts) r t (here p) =
    rw (eq-eqb x.id t.id (ap (λ (t : Token). t.id) (sym p)), bytes_of) (ap (λ (t : Token). t.bytes) (sym p))
rising_bytes low (x ∷ ts) r t (there m) =
    let n : x.id ≡ t.id → ⊥ = λ e. omega (arith, rising_above x.id ts r.1 t m) in
    rw (ne_eqb x.id t.id n, bytes_of) (rising_bytes x.id ts r.1 t m)

-- an id stands for its token's bytes
pub bytes_of_token : (ts : List Token) → Valid ts → (t : Token) → Mem t ts → bytes_of ts t.id ≡ t.bytes
bytes_of_token ts v = rising_bytes 0 ts v.rising

pub present-token : (ts : List Token) (t : Token) → Mem t ts → present ts t.id ≡ true
unfolding present any
present-token [] t m = elim m [ ]
present-token (x ∷ ts) t (here p) = rw (eq-eqb x.id t.id (ap (λ (t : Token). t.id) (sym p)))
present-token (x ∷ ts) t (there m) = go (eqb x.id t.id) (present-token ts t m)
  where
    go : (c : Bool) → present ts t.id ≡ true → (c || present ts t.id) ≡ true
    go true e = refl
    go false e = e

-- ---- joined

pub joined-nil : (ts : List Token) → joined ts [] ≡ []
unfolding joined each
joined-nil ts = refl

pub joined-cons : (ts : List Token) → Valid ts → (t : Token) → Mem t ts → (is : List ℕ) → joined ts (t.id ∷ is) ≡ t.bytes ++ joined ts is
unfolding joined each
joined-cons ts v t m is = rw (bytes_of_token ts v t m)

pub joined-append : (ts : List Token) (is js : List ℕ) → joined ts (is ++ js) ≡ joined ts is ++ joined ts js
unfolding joined each
joined-append ts [] js = refl
joined-append ts (i ∷ is) js = cc (joined-append ts is js, append_assoc (bytes_of ts i) (joined ts is) (joined ts js))
