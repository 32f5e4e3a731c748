-- Lists that a function of the index makes, and the table as one. Assumes nothing.
use Rattle.std.specs.Prelude.{◌≡◌, refl, ◌⊎◌, List, ℕ, zero, suc, ◌+◌, ◌/◌, ◌≤◌, ◌<◌, ltb, length}
use Rattle.std.proofs.Math.Path.{sym, ap}
use Rattle.std.proofs.Common.{◌∙◌, inl, inr, add-zero}
use native.Mathlib.Omega.{arith}
use Rattle.std.proofs.Math.ListN.{get_or, get_or-eq_default}
use borrow.Author.Tests.{ltb-true, ltb-false}
use Rattle.spec.specs.Lists.{up_from}
use Rattle.spec.specs.Token.{Token}
use Rattle.spec.specs.Trie.{nodes, labels}
use Rattle.spec.specs.Layout.{words, slot_word, puts, word_of, table_at, table_words}
use Rattle.spec.specs.Valid.{Valid}
use Rattle.spec.specs.Memory.{table_list}
use Rattle.laws.specs.Tests.{Tested, either}
use Rattle.laws.specs.Nodes.{labels-small}
use Rattle.laws.specs.Xor.{xor_block_of}
use Rattle.laws.specs.Placed.{top-le}
use Rattle.laws.specs.Slots.{Owner, owner}

pub up_length : {A : Type 0} (f : ℕ → A) (n i : ℕ) → length (up_from f n i) ≡ n
unfolding up_from
up_length f zero i = refl
up_length f (suc n) i = ap suc (up_length f n (suc i))

pub up_at : {A : Type 0} (f : ℕ → A) (n i k : ℕ) (d : A) → k < n → get_or (up_from f n i) k d ≡ f (i + k)
unfolding up_from
up_at f zero i k d h = absurd (omega arith)
up_at f (suc n) i zero d h = ap f (sym (add-zero i))
up_at f (suc n) i (suc k) d h = let e : suc i + k ≡ i + suc k = omega arith in up_at f n (suc i) k d (omega arith) ∙ ap f e

module _ (ts : List Token) where
  module _ (v : Valid ts) where
    -- every slot lies in the table
    pub past : (i : ℕ) → table_words ts ≤ i → table_at ts i ≡ 0
    unfolding table_words words table_at
    past i h = go (owner (labels (nodes ts)) (word_of ts) (puts ts) i)
      where
        go : (slot_word (labels (nodes ts)) (word_of ts) (puts ts) i ≡ 0) ⊎ Owner (labels (nodes ts)) (word_of ts) (puts ts) i
            → slot_word (labels (nodes ts)) (word_of ts) (puts ts) i ≡ 0
        go (inl z) = z
        go (inr o) =
            let t = top-le o.mem in
            let q = xor_block_of o.own.base o.lab (labels-small ts v o.own.node o.lab o.child) in
            let r = ap (λ (z : ℕ). z / 256) o.at in
            absurd (omega arith)

    -- a read with 0 past the end is the function
    pub table-read : (i : ℕ) → get_or (table_list ts) i 0 ≡ table_at ts i
    unfolding table_list
    table-read i = go (either (ltb i (table_words ts)))
      where
        go : Tested (ltb i (table_words ts)) → get_or (up_from (table_at ts) (table_words ts) 0) i 0 ≡ table_at ts i
        go (inl e) =
            let z : 0 + i ≡ i = omega arith in up_at (table_at ts) (table_words ts) 0 i 0 (ltb-true i (table_words ts) e)
            ∙ ap (table_at ts) z
        go (inr e) =
            let h = ltb-false i (table_words ts) e in
            let k = up_length (table_at ts) (table_words ts) 0 in
            get_or-eq_default (up_from (table_at ts) (table_words ts) 0) 0 (omega arith) ∙ sym (past i h)
