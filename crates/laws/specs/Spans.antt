-- On loaded memory the bytes from offset id to offset id + 1 are those of the id's token: the theorem `looking`. Assumes nothing.
use Rattle.std.specs.Prelude.{◌≡◌, ◌⊎◌, Bool, true, false, ◌&&◌, cond, ℕ, suc, ◌+◌, ◌-◌, ◌≤◌, ◌<◌, eqb, ltb, leb, take, get_or, replicate}
use Rattle.std.proofs.Math.Path.{refl, ap, ap₂}
use Rattle.std.proofs.Common.{sym, ◌∙◌, inl, inr, add-one, lit<, take_at}
use mathlib.Core.List.Memᴰ.{head as here}
use mathlib.Core.List.Memᴰ.{tail as there}
use mathlib.Core.List.{List, [], ◌∷◌, ◌++◌, append_assoc, Memᴰ as Mem}
use mathlib.Core.List.Memᴰ.{cases_cons}
use native.Mathlib.Omega.{arith}
use Rattle.std.proofs.Math.ListN.{length, length-append, drop}
use Rattle.std.proofs.Math.Seq.{drop-append-add}
use borrow.Author.Tests.{eqb-true, eqb-false, eq-eqb, ltb-true, ne_eqb, ltb-false, le-leb, lt-ltb, le-ltb}
use Rattle.spec.specs.Lists.{each}
use Rattle.spec.specs.Token.{Token, bytes_of, present}
use Rattle.spec.specs.Valid.{Rising, Valid}
use Rattle.spec.specs.Memory.{Memory, length_before, blob_bytes, Loaded}
use Rattle.spec.specs.Decode.{lookup}
use Rattle.spec.specs.Theorems.{Looking}
use Rattle.running.specs.Joined.{bytes_of_token, rising_above}
use Rattle.laws.specs.Tests.{clash, Tested, either, any-find, any_none}
use Rattle.laws.specs.Reads.{offset_at}

-- ---- ids that no token has

pub absent_bytes : (ts : List Token) (i : ℕ) → ((t : Token) → Mem t ts → t.id ≡ i → ⊥) → bytes_of ts i ≡ []
unfolding bytes_of
absent_bytes [] i h = refl
absent_bytes (t ∷ ts) i h = rw (ne_eqb t.id i (h t (here refl)), bytes_of) (absent_bytes ts i (λ u m. h u (there m)))

-- ---- offsets

module _ (ts : List Token) (i : ℕ) where
  before_above : (t : Token) → i ≤ t.id → length_before (t ∷ ts) i ≡ length_before ts i
  unfolding length_before
  before_above t h = rw (le-ltb t.id i h) (omega arith)

  before-below : (t : Token) → t.id < i → length_before (t ∷ ts) i ≡ length t.bytes + length_before ts i
  unfolding length_before
  before-below t h = rw (lt-ltb t.id i h)

-- nothing stands before the first id
before-first : (ts : List Token) (low i : ℕ) → Rising low ts → i ≤ suc low → length_before ts i ≡ 0
before-first [] low i r h = unfold length_before in refl
before-first (t ∷ ts) low i r h =
    let a = r.0 in
    before_above ts i t (omega arith) ∙ before-first ts t.id i r.1 (omega arith)

-- where an id's bytes stand in the blob, and how long they are
pub record Span (ts : List Token) (r : List ℕ) (i : ℕ) : Type 0 where
  pub rest : List ℕ
  pub from : drop (length_before ts i) (blob_bytes ts ++ r) ≡ bytes_of ts i ++ rest
  pub next : length_before ts (suc i) ≡ length_before ts i + length (bytes_of ts i)

pub spanned : (ts : List Token) (low : ℕ) → Rising low ts → (r : List ℕ) (i : ℕ) → Span ts r i
spanned [] low rise r i = unfold length_before bytes_of blob_bytes in record { rest = r; from = refl; next = refl }
spanned (t ∷ ts) low rise r i = go (either (ltb t.id i)) (either (eqb t.id i)) (spanned ts t.id rise.1 r i)
  where
    blob : blob_bytes (t ∷ ts) ++ r ≡ t.bytes ++ (blob_bytes ts ++ r)
    blob = unfold blob_bytes each in append_assoc t.bytes (blob_bytes ts) r

    go : Tested (ltb t.id i) → Tested (eqb t.id i) → Span ts r i → Span (t ∷ ts) r i
    go (inl e) q s =
        let h = ltb-true t.id i e in
        let b : bytes_of (t ∷ ts) i ≡ bytes_of ts i = unfold bytes_of in rw (ne_eqb t.id i (λ z. omega arith)) in
        record {
          rest = s.rest;
          from =
              ap₂ (λ (n : ℕ) (l : List ℕ). drop n l) (before-below ts i t h) blob
              ∙ drop-append-add t.bytes (blob_bytes ts ++ r) (length_before ts i) ∙ s.from ∙ ap (λ (z : List ℕ). z ++ s.rest) (sym b);
          next =
              let x = before-below ts i t h in
              let y = before-below ts (suc i) t (omega arith) in
              let z = s.next in
              let w = ap length b in
              omega arith;
        }
    go (inr e) (inl q) s =
        let z = eqb-true t.id i q in
        let b : bytes_of (t ∷ ts) i ≡ t.bytes = unfold bytes_of in rw q in
        let x : length_before (t ∷ ts) i ≡ 0 = before_above ts i t (omega arith) ∙ before-first ts t.id i rise.1 (omega arith) in
        let y = before-first ts t.id (suc i) rise.1 (omega arith) in
        record {
          rest = blob_bytes ts ++ r;
          from = ap₂ (λ (n : ℕ) (l : List ℕ). drop n l) x blob ∙ ap (λ (k : List ℕ). k ++ (blob_bytes ts ++ r)) (sym b);
          next = let w = before-below ts (suc i) t (omega arith) in let u = ap length b in omega arith;
        }
    go (inr e) (inr q) s =
        let h = ltb-false t.id i e in
        let ne = eqb-false t.id i q in
        let above : i < t.id = omega (arith, ne) in
        let b : bytes_of (t ∷ ts) i ≡ [] = absent_bytes (t ∷ ts) i (other above) in
        let x : length_before (t ∷ ts) i ≡ 0 = before_above ts i t (omega arith) ∙ before-first ts t.id i rise.1 (omega arith) in
        let y : length_before (t ∷ ts) (suc i) ≡ 0 =
        before_above ts (suc i) t (omega arith) ∙ before-first ts t.id (suc i) rise.1 (omega arith) in
        record {
          rest = blob_bytes (t ∷ ts) ++ r;
          from = ap (λ (n : ℕ). drop n (blob_bytes (t ∷ ts) ++ r)) x ∙ ap (λ (k : List ℕ). k ++ (blob_bytes (t ∷ ts) ++ r)) (sym b);
          next = let u = ap length b in omega arith;
        }
      where
        other : i < t.id → (u : Token) → Mem u (t ∷ ts) → u.id ≡ i → ⊥
        other above u m j = at (cases_cons m)
          where
            at : (u ≡ t) ⊎ Mem u ts → ⊥
            at (inl k) = let z = ap (λ (w : Token). w.id) k in omega arith
            at (inr k) = let z = rising_above t.id ts rise.1 u k in omega arith

-- "the last is the total"
pub before-all : (ts : List Token) (i : ℕ) → ((t : Token) → Mem t ts → t.id < i) → length_before ts i ≡ length (blob_bytes ts)
before-all [] i h = unfold length_before blob_bytes in refl
before-all (t ∷ ts) i h =
    let a = before-below ts i t (h t (here refl)) in
    let b = before-all ts i (λ u m. h u (there m)) in
    let c : length (blob_bytes (t ∷ ts)) ≡ length t.bytes + length (blob_bytes ts) = unfold blob_bytes each in
    length-append t.bytes (blob_bytes ts) in
    omega arith

pub before-le : (ts : List Token) (i : ℕ) → length_before ts i ≤ length (blob_bytes ts)
before-le [] i = unfold length_before blob_bytes in omega arith
before-le (t ∷ ts) i = go (either (ltb t.id i)) (before-le ts i) (unfold blob_bytes each in length-append t.bytes (blob_bytes ts))
  where
    go : Tested (ltb t.id i) → length_before ts i ≤ length (blob_bytes ts)
        → length (blob_bytes (t ∷ ts)) ≡ length t.bytes + length (blob_bytes ts) → length_before (t ∷ ts) i ≤ length (blob_bytes (t ∷ ts))
    go (inl e) h l = let a = before-below ts i t (ltb-true t.id i e) in omega arith
    go (inr e) h l = let a = before_above ts i t (ltb-false t.id i e) in omega arith

pub offset_total : {m : Memory} {ts : List Token} → Loaded m ts → get_or m.offsets 65536 0 ≡ length (blob_bytes ts)
offset_total {ts} L = offset_at L 65536 (lit< tt) ∙ before-all ts 65536 L.valid.id-fits

-- ---- the bytes of an id

-- an id that is not present has no bytes
pub not-present : (ts : List Token) (i : ℕ) → present ts i ≡ false → bytes_of ts i ≡ []
unfolding present
not-present ts i e = absent_bytes ts i (λ t m q. clash (eq-eqb t.id i q) (any_none (λ (t : Token). eqb t.id i) e m))

present-cases : (ts : List Token) (i : ℕ) → ((t : Token) × Mem t ts × (t.id ≡ i)) ⊎ (present ts i ≡ false)
unfolding present
present-cases ts i = go (either (present ts i))
  where
    go : Tested (present ts i) → ((t : Token) × Mem t ts × (t.id ≡ i)) ⊎ (present ts i ≡ false)
    go (inl e) = let (t, m, q) = any-find (λ (t : Token). eqb t.id i) ts e in inl (t, m, eqb-true t.id i q)
    go (inr e) = inr e

module _ (ts : List Token) (v : Valid ts) (i : ℕ) where
  pub bytes-short : length (bytes_of ts i) ≤ 255
  bytes-short = go (present-cases ts i)
    where
      go : ((t : Token) × Mem t ts × (t.id ≡ i)) ⊎ (present ts i ≡ false) → length (bytes_of ts i) ≤ 255
      go (inl (t, m, q)) = omega (arith, ap length (ap (bytes_of ts) (sym q) ∙ bytes_of_token ts v t m), v.short t m)
      go (inr f) = omega (arith, ap length (not-present ts i f))

  pub present-bytes : present ts i ≡ true → 1 ≤ length (bytes_of ts i)
  present-bytes e = go (present-cases ts i)
    where
      go : ((t : Token) × Mem t ts × (t.id ≡ i)) ⊎ (present ts i ≡ false) → 1 ≤ length (bytes_of ts i)
      go (inl (t, m, q)) = omega (arith, ap length (ap (bytes_of ts) (sym q) ∙ bytes_of_token ts v t m), v.nonempty t m)
      go (inr f) = absurd (clash e f)

-- ---- the theorem

pub looking : Looking
unfolding lookup
looking m ts L i = go (either (ltb i 65536))
  where
    v : Valid ts
    v = L.valid

    A : ℕ
    A = get_or m.offsets i 0

    E : ℕ
    E = get_or m.offsets (i + 1) 0

    -- the pair is in order, within the blob and not too far apart
    good : Bool
    good = leb A E && (leb E (length m.blob) && leb (E - A) 255)

    go : Tested (ltb i 65536) → cond (ltb i 65536 && good) (take (E - A) (drop A m.blob)) [] ≡ bytes_of ts i
    go (inr e) =
        let h = ltb-false i 65536 e in
        rw e (sym (absent_bytes ts i (λ t k q. let x = v.id-fits t k in omega arith)))
    go (inl e) =
        let h = ltb-true i 65536 e in
        let s = spanned ts 0 v.rising (replicate (length m.blob - length (blob_bytes ts)) 0) i in
        let a : A ≡ length_before ts i = offset_at L i (omega arith) in
        let b : E ≡ length_before ts (suc i) = offset_at L (i + 1) (omega arith) ∙ ap (length_before ts) (add-one i) in
        let n = s.next in
        let l = bytes-short ts v i in
        let t = before-le ts (suc i) in
        let r = L.blob-room in
        let d : E - A ≡ length (bytes_of ts i) = omega arith in
        let in_order = le-leb A E (omega arith) in
        let inside = le-leb E (length m.blob) (omega arith) in
        let short = le-leb (E - A) 255 (omega arith) in
        ap (λ (c : Bool). cond c (take (E - A) (drop A m.blob)) []) (ap₂ ◌&&◌ e (ap₂ ◌&&◌ in_order (ap₂ ◌&&◌ inside short)))
        ∙ ap₂ (λ (k j : ℕ). take k (drop j m.blob)) d a
        ∙ ap (λ (k : List ℕ). take (length (bytes_of ts i)) (drop (length_before ts i) k)) L.blob
        ∙ ap (take (length (bytes_of ts i))) s.from
        ∙ take_at (bytes_of ts i) s.rest (length (bytes_of ts i)) refl
