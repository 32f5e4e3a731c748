-- On loaded memory an encoding is the scan, cut where the output is full: the theorems `encoding-is_scan` and `encoding-is_cut`.
-- Assumes nothing.
use Rattle.std.specs.Prelude.{◌≡◌, Bool, true, cond, ◌&&◌, leb, take}
use Rattle.std.proofs.Math.Path.{refl, sym, ap}
use Rattle.std.proofs.Common.{ap₂, ◌∙◌, inl, inr, zero-add, length-append, leb-true, leb-false, le-leb}
use Rattle.std.specs.Prelude.{Option, None, Some}
use mathlib.Core.List.{List, [], ◌∷◌, Memᴰ as Mem}
use Prim.Native.Nat.{ℕ, zero, suc, ◌+◌, ◌≤◌, ◌<◌, pred}
use native.Mathlib.Omega.{arith}
use Rattle.std.proofs.Math.ListN.{length}
use Rattle.std.proofs.lemmas.Bool.{lt-leb}
use Rattle.spec.specs.Lists.{all, Bytes}
use Rattle.spec.specs.Token.{Token, longest, joined, present}
use Rattle.spec.specs.Scan.{Scan, scanned, scan_at, scan, done}
use Rattle.spec.specs.Memory.{Memory, Loaded}
use Rattle.spec.specs.Match.{match_on, nothing, found}
use Rattle.spec.specs.Encode.{Encoding, encoded, encode_at, encoding}
use Rattle.spec.specs.Encode as encode
use Rattle.spec.specs.Theorems.{match_of, encode_end, EncodingIsScan, EncodingIsCut}
use Rattle.running.specs.Longest.{longest-iff}
use Rattle.running.specs.Joined.{joined-cons, joined-nil}
use Rattle.running.specs.ScanLaws.{ids_present, nowhere, scan-none, scan-some}
use Rattle.laws.specs.Tests.{Tested, either, and_l, and_r}
use Rattle.laws.specs.Matching.{matching}

-- ---- the equations of `encode_at`

module _ (m : Memory) (pos b : ℕ) (s : List ℕ) where
  pub encode-unmatched : (n : ℕ) → match_on m (b ∷ s) ≡ nothing
      → encode_at m n pos 0 (b ∷ s) ≡ record { ids = []; end = encode.unmatched pos b }
  unfolding encode_at
  encode-unmatched n e = rw (e, encode_at)

  pub encode-full : (i len : ℕ) → match_on m (b ∷ s) ≡ found i len → encode_at m 0 pos 0 (b ∷ s)
      ≡ record { ids = []; end = encode.full pos }
  unfolding encode_at
  encode-full i len e = rw (e, encode_at)

  pub encode-more : (n i len : ℕ) → match_on m (b ∷ s) ≡ found i len
      → encode_at m (suc n) pos 0 (b ∷ s) ≡ encoded i (encode_at m n (suc pos) (pred len) s)
  unfolding encode_at
  encode-more n i len e = rw (e, encode_at)

-- ---- the scan, cut

-- the first n ids of a scan that stands at offset pos
cut : List Token → ℕ → ℕ → Scan → Encoding
cut ts pos n r = cond (leb (length r.ids) n)
    (record { ids = r.ids; end = encode_end r.end })
    (record { ids = take n r.ids; end = encode.full (pos + length (joined ts (take n r.ids))) })

cut-room : (ts : List Token) (pos n : ℕ) (r : Scan) → length r.ids ≤ n
    → cut ts pos n r ≡ record { ids = r.ids; end = encode_end r.end }
unfolding cut
cut-room ts pos n r h = rw (le-leb (length r.ids) n h)

cut-full : (ts : List Token) (pos n : ℕ) (r : Scan) → n < length r.ids
    → cut ts pos n r ≡ record { ids = take n r.ids; end = encode.full (pos + length (joined ts (take n r.ids))) }
unfolding cut
cut-full ts pos n r h = rw (lt-leb (length r.ids) n h)

module _ {m : Memory} {ts : List Token} (L : Loaded m ts) where
  -- one token more
  cut-more : (t : Token) → Mem t ts → (pos n : ℕ) (r : Scan)
      → encoded t.id (cut ts (suc pos + pred (length t.bytes)) n r) ≡ cut ts (pos + 0) (suc n) (scanned t.id r)
  cut-more t k pos n r = go (either (leb (length r.ids) n))
    where
      go : Tested (leb (length r.ids) n)
          → encoded t.id (cut ts (suc pos + pred (length t.bytes)) n r) ≡ cut ts (pos + 0) (suc n) (scanned t.id r)
      go (inl e) =
          let h = leb-true (length r.ids) n e in
          ap (encoded t.id) (cut-room ts (suc pos + pred (length t.bytes)) n r h)
          ∙ sym (cut-room ts (pos + 0) (suc n) (scanned t.id r) (omega arith))
      go (inr e) =
          let h = leb-false (length r.ids) n e in
          let J : List ℕ = joined ts (take n r.ids) in
          let l : length (joined ts (t.id ∷ take n r.ids)) ≡ length t.bytes + length J =
          ap length (joined-cons ts L.valid t k (take n r.ids)) ∙ length-append t.bytes J in
          let o = L.valid.nonempty t k in
          let p : suc pos + pred (length t.bytes) + length J ≡ pos + 0 + length (joined ts (t.id ∷ take n r.ids)) = omega arith in
          ap (encoded t.id) (cut-full ts (suc pos + pred (length t.bytes)) n r h)
          ∙ ap (λ (z : ℕ). record { ids = t.id ∷ take n r.ids; end = encode.full z }) p
          ∙ sym (cut-full ts (pos + 0) (suc n) (scanned t.id r) (omega arith))

  encode-cut : (s : List ℕ) (k pos n : ℕ) → Bytes s → encode_at m n pos k s ≡ cut ts (pos + k) n (scan_at ts pos k s)
  encode-cut [] k pos n small = unfold encode_at scan_at in sym (cut-room ts (pos + k) n (record { ids = []; end = done }) (omega arith))
  encode-cut (b ∷ s) (suc k) pos n small = within (encode-cut s k (suc pos) n small.1)
    where
      within : encode_at m n (suc pos) k s ≡ cut ts (suc pos + k) n (scan_at ts (suc pos) k s)
          → encode_at m n pos (suc k) (b ∷ s) ≡ cut ts (pos + suc k) n (scan_at ts pos (suc k) (b ∷ s))
      within e =
          unfold encode_at scan_at in e
          ∙ (let p : suc pos + k ≡ pos + suc k = omega arith in ap (λ (z : ℕ). cut ts z n (scan_at ts (suc pos) k s)) p)
  encode-cut (b ∷ s) zero pos n small =
      go (longest ts (b ∷ s)) refl n (matching m ts L (b ∷ s) small) (λ j i. encode-cut s j (suc pos) i small.1)
    where
      go : (o : Option Token) → longest ts (b ∷ s) ≡ o → (n : ℕ) → match_on m (b ∷ s) ≡ match_of (longest ts (b ∷ s))
          → ((j i : ℕ) → encode_at m i (suc pos) j s ≡ cut ts (suc pos + j) i (scan_at ts (suc pos) j s))
          → encode_at m n pos 0 (b ∷ s) ≡ cut ts (pos + 0) n (scan_at ts pos 0 (b ∷ s))
      go None e n q ih =
          encode-unmatched m pos b s n (q ∙ ap match_of e)
          ∙ sym (ap (cut ts (pos + 0) n) (scan-none ts pos b s e) ∙ cut-room ts (pos + 0) n (nowhere pos b) (omega arith))
      go (Some t) e zero q ih =
          let z : pos + 0 + 0 ≡ pos = omega arith in
          encode-full m pos b s t.id (length t.bytes) (q ∙ ap match_of e)
          ∙ sym (ap (cut ts (pos + 0) 0) (scan-some ts pos b s t e) ∙ cut-full ts (pos + 0) 0
          (scanned t.id (scan_at ts (suc pos) (pred (length t.bytes)) s)) (omega arith)
          ∙ ap (λ (x : List ℕ). record { ids = []; end = encode.full (pos + 0 + length x) }) (joined-nil ts)
          ∙ ap (λ (x : ℕ). record { ids = []; end = encode.full x }) z)
      go (Some t) e (suc n) q ih =
          encode-more m pos b s n t.id (length t.bytes) (q ∙ ap match_of e)
          ∙ ap (encoded t.id) (ih (pred (length t.bytes)) n)
          ∙ cut-more t ((longest-iff ts L.valid (b ∷ s) t).0 e).0 pos n (scan_at ts (suc pos) (pred (length t.bytes)) s)
          ∙ ap (cut ts (pos + 0) (suc n)) (sym (scan-some ts pos b s t e))

pub encoding-is_scan : EncodingIsScan
unfolding encoding
encoding-is_scan m ts L s small n h = encode-cut L s 0 0 n small ∙ cut-room ts 0 n (scan ts s) h

pub encoding-is_cut : EncodingIsCut
unfolding encoding
encoding-is_cut m ts L s small n h =
    encode-cut L s 0 0 n small ∙ cut-full ts 0 n (scan ts s) h
    ∙ ap (λ (z : ℕ). record { ids = take n (scan ts s).ids; end = encode.full z })
    (zero-add (length (joined ts (take n (scan ts s).ids))))

all_take : {A : Type 0} (f : A → Bool) (n : ℕ) (l : List A) → all f l ≡ true → all f (take n l) ≡ true
unfolding all
all_take f zero l e = refl
all_take f (suc n) [] e = refl
all_take f (suc n) (x ∷ l) e = ap₂ ◌&&◌ (and_l (f x) (all f l) e) (all_take f n l (and_r (f x) (all f l) e))

-- every id handed out has a token
pub encoding-present : {m : Memory} {ts : List Token} → Loaded m ts → (s : List ℕ) → Bytes s → (n : ℕ)
    → all (present ts) (encoding m n s).ids ≡ true
encoding-present {m} {ts} L s small n = go (either (leb (length (scan ts s).ids) n))
  where
    go : Tested (leb (length (scan ts s).ids) n) → all (present ts) (encoding m n s).ids ≡ true
    go (inl e) = rw (encoding-is_scan m ts L s small n (leb-true (length (scan ts s).ids) n e)) (ids_present ts L.valid s)
    go (inr e) =
        rw (encoding-is_cut m ts L s small n (leb-false (length (scan ts s).ids) n e))
        (all_take (present ts) n (scan ts s).ids (ids_present ts L.valid s))
