-- What cannot overflow: at most 65,535 tokens of at most 255 bytes, so that offsets and node numbers stay below 2^24; and each placing
-- opens at most one new block, so that bases and the table's size stay below 2^32, and every word below 2^64. Assumes nothing.
use Rattle.std.specs.Prelude.{◌≡◌, refl, ◌⊎◌, length}
use Rattle.std.proofs.Common.{sym, ap, subst, inl, inr, length-append}
use Rattle.std.proofs.Math.Bool.{Bool, true, false, cond}
use mathlib.Core.List.Memᴰ.{head as here}
use mathlib.Core.List.Memᴰ.{tail as there}
use mathlib.Core.List.{List, [], ◌∷◌, ◌++◌, Memᴰ as Mem}
use Prim.Native.Nat.{ℕ, zero, suc, ◌+◌, ◌*◌, ◌/◌, ◌%◌, ◌^◌, ◌-◌, ◌≤◌, ◌<◌}
use native.Mathlib.Omega.{arith}
use Rattle.std.specs.Int.Bits.{bit_xor}
use Rattle.std.proofs.Math.Dec.{lit<}
use Rattle.spec.specs.Lists.{each, fold, has}
use Rattle.spec.specs.Token.{Token}
use Rattle.spec.specs.Trie.{extended, cuts, add_new, nodes, node_count, labels, order}
use Rattle.spec.specs.Layout.{Put, first_from, top, words, first, free, choose, put, place, base_of, pack, slot_word, puts, word_of}
use Rattle.spec.specs.Layout.{table_at}
use Rattle.spec.specs.Layout.{root_at, table_words}
use Rattle.spec.specs.Valid.{Rising, Valid}
use Rattle.spec.specs.Memory.{blob_bytes}
use Rattle.spec.specs.Theorems.{Bounds}
use Rattle.laws.specs.Tokens.{id-bound}
use Rattle.laws.specs.Nodes.{ByteLabels, labels-small, order-find}
use Rattle.laws.specs.Numbered.{nodes-fresh, fresh-within}
use Rattle.laws.specs.Xor.{xor_block_of}
use Rattle.laws.specs.First.{from_most}
use Rattle.laws.specs.Placed.{top-le, first_small}
use Rattle.laws.specs.Slots.{Owner, owner}
use Rattle.laws.specs.Step.{Holds, Unheld, base_cases}
use Rattle.laws.specs.Fill.{order-fresh}

-- ---- tokens and bytes

rising_count : (ts : List Token) (low bound : ℕ) → Rising low ts → ((t : Token) → Mem t ts → t.id < bound) → low < bound
    → low + length ts < bound
rising_count [] low bound r h l = omega arith
rising_count (t ∷ ts) low bound r h l =
    let k = rising_count ts t.id bound r.1 (λ u m. h u (there m)) (h t (here refl)) in
    let a = r.0 in
    omega arith

pub tokens-few : (ts : List Token) → Valid ts → length ts ≤ 65535
tokens-few ts v = let k = rising_count ts 0 65536 v.rising v.id-fits (lit< tt) in omega arith

each_length : {A B : Type 0} (f : A → List B) (n : ℕ) (l : List A) → ((x : A) → Mem x l → length (f x) ≤ n)
    → length (each f l) ≤ length l * n
unfolding each
each_length f n [] h = omega arith
each_length f n (x ∷ l) h =
    let a = h x (here refl) in
    let b = each_length f n l (λ y m. h y (there m)) in
    let c = length-append (f x) (each f l) in
    let d : suc (length l) * n ≡ length l * n + n = omega arith in
    omega arith

pub blob_small : (ts : List Token) → Valid ts → length (blob_bytes ts) ≤ 65535 * 255
unfolding blob_bytes
blob_small ts v =
    let a = each_length (λ (t : Token). t.bytes) 255 ts v.short in
    let b = tokens-few ts v in
    omega arith

-- ---- nodes

extended-length : (p bs : List ℕ) → length (extended p bs) ≡ length bs
unfolding extended
extended-length p [] = refl
extended-length p (b ∷ bs) = ap suc (extended-length (p ++ (b ∷ [])) bs)

cuts-length : (s : List ℕ) → length (cuts s) ≡ length s - 1
unfolding cuts
cuts-length [] = refl
cuts-length (a ∷ bs) = let e = extended-length (a ∷ []) bs in omega arith

new_length : (ps : List (List ℕ)) (p : List ℕ) → length (add_new ps p) ≤ suc (length ps)
unfolding add_new
new_length ps p = go (has ps p)
  where
    go : (c : Bool) → length (cond c ps (ps ++ (p ∷ []))) ≤ suc (length ps)
    go true = omega arith
    go false = let k = length-append ps (p ∷ []) in omega arith

all-length : (l ps : List (List ℕ)) → length (fold add_new ps l) ≤ length ps + length l
unfolding fold
all-length [] ps = omega arith
all-length (p ∷ l) ps = let a = new_length ps p in let b = all-length l (add_new ps p) in omega arith

-- a token of n bytes makes at most n - 1 nodes
pub nodes-few : (ts : List Token) → Valid ts → length (nodes ts) ≤ 65535 * 254
unfolding nodes
nodes-few ts v =
    let C : Token → List (List ℕ) = λ t. cuts t.bytes in
    let a = all-length (each C ts) [] in
    let b = each_length C 254 ts (λ t m. let k = v.short t m in let e = cuts-length t.bytes in omega arith) in
    let c = tokens-few ts v in
    omega arith

pub node_count-small : (ts : List Token) → Valid ts → node_count ts < 2 ^ 24
unfolding node_count
node_count-small ts v = let k = nodes-few ts v in omega arith

-- ---- blocks

module _ (L : List ℕ → List ℕ) (small : ByteLabels L) where
  put-top : (xs : List Put) (p : List ℕ) → top (put L xs p) ≤ suc (top xs)
  unfolding put top choose words
  put-top xs p =
      let F : ℕ → Bool = λ s. free L xs (L p) (bit_xor s (first (L p))) in
      let s : ℕ = first_from F (256 * (1 + top xs) - 256) 256 in
      let a = from_most F (256 * (1 + top xs) - 256) 256 in
      let b = xor_block_of s (first (L p)) (first_small L small p) in
      omega arith

  pub place-top : (ps : List (List ℕ)) (xs : List Put) → top (fold (put L) xs ps) ≤ top xs + length ps
  unfolding fold
  place-top [] xs = omega arith
  place-top (p ∷ ps) xs = let a = put-top xs p in let b = place-top ps (put L xs p) in omega arith

module _ (ts : List Token) (v : Valid ts) where
  pub puts-top : top (puts ts) ≤ length (nodes ts)
  unfolding puts place top
  puts-top =
      let a = place-top (labels (nodes ts)) (labels-small ts v) (order (nodes ts)) [] in
      let b = fresh-within (order (nodes ts)) (nodes ts) (order-fresh (nodes ts) (nodes-fresh ts)) (λ p m. (order-find (nodes ts) m).0) in
      omega arith

  pub table_words-small : table_words ts < 2 ^ 32
  unfolding table_words words
  table_words-small = let a = puts-top in let b = nodes-few ts v in omega arith

  -- a base lies in the table
  pub base-lt : (p : List ℕ) → base_of (puts ts) p < table_words ts
  unfolding table_words words
  base-lt p = go (base_cases (puts ts) p)
    where
      go : Holds (puts ts) p ⊎ Unheld (puts ts) p → base_of (puts ts) p < 256 * (1 + top (puts ts))
      go (inl h) = let a = top-le h.mem in let b = h.base-eq in omega arith
      go (inr h) = let b = h.0 in omega arith

  -- ---- words

  pub word_small : (p : List ℕ) (l : ℕ) → l < 256 → word_of ts p l < 2 ^ 64
  unfolding word_of pack
  word_small p l h = let a = base-lt p in let b = table_words-small in let c = id-bound ts v p in omega arith

  pub root-small : (i : ℕ) → root_at ts i < 2 ^ 64
  unfolding root_at
  root-small i = go (has (nodes ts) (i / 256 ∷ i % 256 ∷ []))
    where
      go : (c : Bool) → cond c (word_of ts (i / 256 ∷ i % 256 ∷ []) zero) zero < 2 ^ 64
      go true = word_small (i / 256 ∷ i % 256 ∷ []) zero (lit< tt)
      go false = lit< tt

  pub table-small : (i : ℕ) → table_at ts i < 2 ^ 64
  unfolding table_at
  table-small i = go (owner (labels (nodes ts)) (word_of ts) (puts ts) i)
    where
      T : ℕ
      T = slot_word (labels (nodes ts)) (word_of ts) (puts ts) i

      go : (T ≡ 0) ⊎ Owner (labels (nodes ts)) (word_of ts) (puts ts) i → T < 2 ^ 64
      go (inl z) = subst (λ (w : ℕ). w < 2 ^ 64) (sym z) (lit< tt)
      go (inr o) =
          subst (λ (w : ℕ). w < 2 ^ 64) (sym o.is)
          (word_small (o.own.node ++ (o.lab ∷ [])) o.lab (labels-small ts v o.own.node o.lab o.child))

pub bounds : Bounds
bounds ts v = record {
  tokens = tokens-few ts v;
  blob = (let k = blob_small ts v in omega arith);
  nodes = node_count-small ts v;
  table = table_words-small ts v;
}
