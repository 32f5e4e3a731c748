-- The bytes looked at on any memory: a match looks at 255 at most, and at no more than there are; so do the sums, one token after the
-- other. Assumes nothing.
use Rattle.std.specs.Prelude.{◌≡◌, Bool, true, false, not, ◌&&◌, ◌||◌, cond, List, [], ◌∷◌, ℕ, zero, suc, pred, ◌+◌, ◌*◌, ◌≤◌, ◌<◌, eqb}
use Rattle.std.specs.Prelude.{length, take, drop, get_or}
use Rattle.std.specs.Int.Bits.{bit_xor}
use Rattle.std.proofs.Math.Path.{refl}
use Rattle.std.proofs.Common.{sym, ap, ap₂, ◌∙◌, arith, add-zero, length-take, drop-cons, drop-drop, eq-eqb, ne_eqb}
use Rattle.spec.specs.Memory.{Memory}
use Rattle.spec.specs.Match.{base_in, id_in, goes, Match, nothing, found, match_on}
use Rattle.spec.specs.LookedOn.{read_on, read_from, looked_on, sum_on}
use Rattle.spec.specs.Encode.{encode_on, encode_looked}
use Rattle.spec.specs.Theorems.{LooksShort, TotalShort}

-- ---- the walk's bytes, case by case

module _ (table : List ℕ) (b : ℕ) (s : List ℕ) (base : ℕ) where
  abbrev here : ℕ
  here = get_or table (bit_xor base b) 0

  -- the byte leads nowhere: it was read, and is the last
  pub read_on-stops : goes here b ≡ false → read_on table (b ∷ s) base ≡ 1
  unfolding read_on
  read_on-stops e = rw (e, read_on)

  pub read_on-leaf : base_in here ≡ 0 → read_on table (b ∷ s) base ≡ 1
  unfolding read_on
  read_on-leaf z = go (goes here b) refl
    where
      go : (c : Bool) → goes here b ≡ c → read_on table (b ∷ s) base ≡ 1
      go true e = rw (e, eq-eqb (base_in here) 0 z, read_on)
      go false e = rw (e, read_on)

  pub read_on-goes : goes here b ≡ true → (base_in here ≡ 0 → ⊥) → read_on table (b ∷ s) base ≡ suc (read_on table s (base_in here))
  unfolding read_on
  read_on-goes e z = rw (e, ne_eqb (base_in here) 0 z, read_on)

module _ (table : List ℕ) (w : ℕ) (s : List ℕ) where
  pub read_from-none : w ≡ 0 → read_from table w s ≡ 0
  unfolding read_from
  read_from-none z = rw (eq-eqb w 0 z, read_from)

  -- an id with base 0
  pub read_from-leaf : (id_in w ≡ 0 → ⊥) → base_in w ≡ 0 → read_from table w s ≡ 0
  unfolding read_from
  read_from-leaf i z = go (eqb w 0)
    where
      go : (c : Bool) → cond (c || (not (eqb (id_in w) 0) && eqb (base_in w) 0)) 0 (read_on table s (base_in w)) ≡ 0
      go true = refl
      go false = rw (ne_eqb (id_in w) 0 i, eq-eqb (base_in w) 0 z)

  pub read_from-goes : (w ≡ 0 → ⊥) → (base_in w ≡ 0 → ⊥) → read_from table w s ≡ read_on table s (base_in w)
  unfolding read_from
  read_from-goes i z = rw (ne_eqb w 0 i, read_from) (go (not (eqb (id_in w) 0)) (eqb (base_in w) 0) (ne_eqb (base_in w) 0 z))
    where
      go : (c d : Bool) → d ≡ false → cond (c && d) 0 (read_on table s (base_in w)) ≡ read_on table s (base_in w)
      go true d e = rw e
      go false d e = refl

-- ---- one match

read-short : (table s : List ℕ) (k : ℕ) → read_on table s k ≤ length s
unfolding read_on
read-short table [] k = omega arith
read-short table (b ∷ s) k =
    let w = get_or table (bit_xor k b) 0 in go (goes w b && not (eqb (base_in w) 0)) (read-short table s (base_in w))
  where
    go : (c : Bool) {n : ℕ} → n ≤ length s → suc (cond c n 0) ≤ suc (length s)
    go true h = omega arith
    go false h = omega arith

from-short : (table : List ℕ) (w : ℕ) (s : List ℕ) → read_from table w s ≤ length s
unfolding read_from
from-short table w s = go (eqb w 0 || (not (eqb (id_in w) 0) && eqb (base_in w) 0)) (read-short table s (base_in w))
  where
    go : (c : Bool) {n : ℕ} → n ≤ length s → cond c 0 n ≤ length s
    go true h = omega arith
    go false h = h

pub looks-short : LooksShort
unfolding looked_on
looks-short m [] = (omega arith, omega arith)
looks-short m (a ∷ []) = (omega arith, omega arith)
looks-short m (a ∷ b ∷ s) =
    let h = from-short m.table (get_or m.roots (a * 256 + b) 0) (take 253 s) in
    let l = length-take 253 s in
    (omega arith, omega arith)

-- ---- sums

module _ (m : Memory) where
  pub sum-zero : (s : List ℕ) → sum_on m 0 0 s ≡ 0
  unfolding sum_on
  sum-zero [] = refl
  sum-zero (b ∷ s) = refl

  pub sum-skip : (n k : ℕ) (s : List ℕ) → sum_on m n k s ≡ sum_on m n 0 (drop k s)
  unfolding sum_on
  sum-skip n zero s = refl
  sum-skip n (suc k) [] = refl
  sum-skip n (suc k) (b ∷ s) = sum-skip n k s

  -- no token, and nothing is added
  pub sum-none : (n b : ℕ) (s : List ℕ) → match_on m (b ∷ s) ≡ nothing → sum_on m n 0 (b ∷ s) ≡ 0
  unfolding sum_on
  sum-none zero b s e = refl
  sum-none (suc n) b s e = rw (e, sum_on)

  pub sum-some : (n b : ℕ) (s : List ℕ) (id len : ℕ) → match_on m (b ∷ s) ≡ found id len
      → sum_on m (suc n) 0 (b ∷ s) ≡ looked_on m (b ∷ s) + sum_on m n (pred len) s
  unfolding sum_on
  sum-some n b s id len e = rw (e, sum_on)

  -- a token more, at i
  pub sum-more : (src : List ℕ) (i : ℕ) → i < length src → (id len : ℕ) → match_on m (drop i src) ≡ found id len → 1 ≤ len → (n : ℕ)
      → sum_on m (suc n) 0 (drop i src) ≡ looked_on m (drop i src) + sum_on m n 0 (drop (i + len) src)
  sum-more src i h id len e one n =
      let cons : drop i src ≡ get_or src i 0 ∷ drop (suc i) src = drop-cons src i 0 h in
      let step : suc i + pred len ≡ i + len = omega arith in
      ap (sum_on m (suc n) 0) cons ∙ sum-some n (get_or src i 0) (drop (suc i) src) id len (ap (match_on m) (sym cons) ∙ e)
      ∙ ap₂ (λ (x y : ℕ). x + y) (ap (looked_on m) (sym cons))
      (sum-skip n (pred len) (drop (suc i) src)
      ∙ ap (sum_on m n 0) (drop-drop (pred len) (suc i) src ∙ ap (λ (p : ℕ). drop p src) step))

  -- 255 for each of the tokens at most
  pub sum-short : (n k : ℕ) (s : List ℕ) → sum_on m n k s ≤ 255 * n
  unfolding sum_on
  sum-short n k [] = omega arith
  sum-short n (suc k) (b ∷ s) = sum-short n k s
  sum-short zero zero (b ∷ s) = omega arith
  sum-short (suc n) zero (b ∷ s) = go (match_on m (b ∷ s)) refl (λ k. sum-short n k s)
    where
      go : (o : Match) → match_on m (b ∷ s) ≡ o → ((k : ℕ) → sum_on m n k s ≤ 255 * n) → sum_on m (suc n) 0 (b ∷ s) ≤ 255 * suc n
      go nothing e ih = let z = sum-none (suc n) b s e in omega arith
      go (found i len) e ih =
          let z = sum-some n b s i len e in
          let h = (looks-short m (b ∷ s)).0 in
          let k = ih (pred len) in
          omega arith

-- ---- sums so far

-- before the place i of s: n tokens, for which so many bytes were looked at; what is looked at for more comes on top
abbrev pub Summed : Memory → List ℕ → ℕ → ℕ → ℕ → Type 0
Summed m s i n looked = (k : ℕ) → sum_on m (n + k) 0 s ≡ looked + sum_on m k 0 (drop i s)

pub summed-first : (m : Memory) (s : List ℕ) → Summed m s 0 0 0
summed-first m s k = let e : 0 + k ≡ k = omega arith in ap (λ (n : ℕ). sum_on m n 0 s) e ∙ omega arith

module _ (m : Memory) (s : List ℕ) (i n looked : ℕ) (so_far : Summed m s i n looked) where
  -- a token more, at i
  pub summed-next : i < length s → (id len : ℕ) → match_on m (drop i s) ≡ found id len → 1 ≤ len
      → Summed m s (i + len) (n + 1) (looked + looked_on m (drop i s))
  summed-next h id len e one k =
      let more : n + 1 + k ≡ n + suc k = omega arith in
      let here = sum-more m s i h id len e one k in
      ap (λ (j : ℕ). sum_on m j 0 s) more ∙ omega (arith, so_far (suc k), here)

  pub summed-are : sum_on m n 0 s ≡ looked
  summed-are = let z = sum-zero m (drop i s) in ap (λ (j : ℕ). sum_on m j 0 s) (sym (add-zero n)) ∙ omega (arith, so_far 0, z)

  pub summed-short : looked ≤ 255 * n
  summed-short = omega (arith, summed-are, sum-short m n 0 s)

pub total-short : TotalShort
unfolding encode_looked
total-short m n s = sum-short m (length (encode_on m n s).cells) 0 s
