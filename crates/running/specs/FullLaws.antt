-- With a full vocabulary, one in which every single byte is a token, the scan never fails and the running form is never stuck.
-- Assumes nothing.
use Rattle.std.specs.Prelude.{◌≡◌, refl, ◌≢◌, Bool, true, false, ◌&&◌, ◌||◌, ℕ, zero, suc, pred, ◌<◌, eqb, length}
use Rattle.std.proofs.Common.{sym, ◌∙◌, ap, eqb-true}
use Rattle.std.proofs.lemmas.Bool.{false≢true}
use Rattle.std.specs.Prelude.{Option, None, Some}
use mathlib.Core.List.Memᴰ.{head as here}
use mathlib.Core.List.Memᴰ.{tail as there}
use mathlib.Core.List.{List, [], ◌∷◌, ◌++◌, Memᴰ as Mem}
use Rattle.spec.specs.Lists.{any, same, Bytes}
use Rattle.spec.specs.Token.{Token, longest, seen, Full}
use Rattle.spec.specs.Scan.{done, scan_at, scan, stuck, run}
use Rattle.running.specs.Longest.{longest-none_iff}
use Rattle.running.specs.ScanLaws.{done≢failed, scan-some}
use Rattle.running.specs.Claims.{claim_B_place}

both : (a b : Bool) → (a && b) ≡ true → (a ≡ true) × (b ≡ true)
both true b e = (refl, e)
both false b e = absurd (false≢true e)

pub same_true : (p q : List ℕ) → same p q ≡ true → p ≡ q
unfolding same
same_true [] [] e = refl
same_true [] (y ∷ q) e = absurd (false≢true e)
same_true (x ∷ p) [] e = absurd (false≢true e)
same_true (x ∷ p) (y ∷ q) e =
    let (h, t) = both (eqb x y) (same p q) e in
    cc (eqb-true x y h, same_true p q t)

pub seen-token : (ts : List Token) (p : List ℕ) → seen ts p ≡ true → (t : Token) × Mem t ts × (p ≡ t.bytes)
unfolding seen any
seen-token [] p e = absurd (false≢true e)
seen-token (t ∷ ts) p e = go (same p t.bytes) refl e (seen-token ts p)
  where
    go : (c : Bool) → same p t.bytes ≡ c → (c || seen ts p) ≡ true → (seen ts p ≡ true → (u : Token) × Mem u ts × (p ≡ u.bytes))
        → (u : Token) × Mem u (t ∷ ts) × (p ≡ u.bytes)
    go true s d ih = (t, here refl, same_true p t.bytes s)
    go false s d ih =
        let (u, m, q) = ih d in
        (u, there m, q)

-- some token begins every string of bytes
full-matches : (ts : List Token) → Full ts → (b : ℕ) (s : List ℕ) → b < 256 → longest ts (b ∷ s) ≢ None
full-matches ts f b s l e =
    let (t, m, q) = seen-token ts (b ∷ []) (f b l) in
    (longest-none_iff ts (b ∷ s)).0 e t m (s, ap (λ (p : List ℕ). p ++ s) q)

full_from : (ts : List Token) → Full ts → (pos k : ℕ) (s : List ℕ) → Bytes s → (scan_at ts pos k s).end ≡ done
unfolding scan_at
full_from ts f pos k [] h = refl
full_from ts f pos (suc k) (b ∷ s) h = full_from ts f (suc pos) k s h.1
full_from ts f pos zero (b ∷ s) h = go (longest ts (b ∷ s)) refl (λ k. full_from ts f (suc pos) k s h.1)
  where
    go : (m : Option Token) → longest ts (b ∷ s) ≡ m → ((k : ℕ) → (scan_at ts (suc pos) k s).end ≡ done)
        → (scan_at ts pos 0 (b ∷ s)).end ≡ done
    go None e ih = absurd (full-matches ts f b s h.0 e)
    go (Some t) e ih = rw (scan-some ts pos b s t e) (ih (pred (length t.bytes)))

pub scan-full : (ts : List Token) → Full ts → (s : List ℕ) → Bytes s → (scan ts s).end ≡ done
scan-full ts f s h = full_from ts f 0 0 s h

pub run-full : (ts : List Token) → Full ts → (T : List ℕ) → Bytes T → (at b : ℕ) → (run ts T).stop ≢ stuck at b
run-full ts f T h at b e = done≢failed at b (sym (scan-full ts f T h) ∙ ap (λ r. r.end) (claim_B_place ts T at b e))
