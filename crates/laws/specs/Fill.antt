-- No node is placed twice; and the writes of each child's word at its slot, in any order, make the table. Assumes nothing.
use Rattle.std.specs.Prelude.{◌≡◌, refl, ◌⊎◌, eqb, set, replicate}
use Rattle.std.proofs.Math.Path.{sym, ap, subst}
use Rattle.std.proofs.Common.{◌∙◌, inl, inr, length-set, get_or-set_same}
use mathlib.Core.List.Memᴰ.{head as here}
use mathlib.Core.List.Memᴰ.{tail as there}
use mathlib.Core.List.{List, [], ◌∷◌, ◌++◌, map, Memᴰ as Mem}
use mathlib.Core.List.Memᴰ.{append_cases}
use mathlib.Core.List.Memᴰ.{cases_cons}
use mathlib.Core.List.Memᴰ.{not-nil}
use mathlib.Core.List.Memᴰ.{cast as mem-cast}
use mathlib.Core.List.Memᴰ.{map as mem-map}
use mathlib.Core.List.Memᴰ.{of_map as mem-of-map}
use Prim.Native.Nat.{ℕ, zero, suc, ◌+◌, ◌/◌, ◌≤◌, ◌<◌}
use native.Mathlib.Omega.{arith}
use Rattle.std.specs.Int.Bits.{bit_xor}
use Rattle.std.proofs.Math.ListN.{length, get_or, length-replicate}
use Rattle.std.proofs.lemmas.List.{get_or-replicate}
use Rattle.std.proofs.Math.Seq.{get_or-set_other, ext_get_or}
use borrow.Author.Tests.{eqb-true, eqb-false}
use Rattle.spec.specs.Lists.{up_from, each, fold}
use Rattle.spec.specs.Token.{Token}
use Rattle.spec.specs.Trie.{nodes, labels, with_count, falling, order}
use Rattle.spec.specs.Layout.{Put, words, put, place, base_of, slot_word, puts, word_of, table_at, table_words}
use Rattle.spec.specs.Valid.{Valid}
use Rattle.spec.specs.Memory.{table_list}
use Rattle.laws.specs.Tests.{Tested, either, each-mem, each-find, mem_pos}
use Rattle.laws.specs.Nodes.{label-node, labels-small, with-count, order-find}
use Rattle.laws.specs.Numbered.{Fresh, nodes-fresh, keep_fresh}
use Rattle.laws.specs.Xor.{xor_block_of}
use Rattle.laws.specs.Placed.{top-le}
use Rattle.laws.specs.Slots.{Owner, owner}
use Rattle.laws.specs.Step.{put-find, Holds, Unheld, base_cases, placed, step-word}
use Rattle.laws.specs.Listed.{up_length, up_at}

-- ---- no node twice

fresh-append : {A : Type 0} (s t : List A) → Fresh s → Fresh t → ((x : A) → Mem x s → Mem x t → ⊥) → Fresh (s ++ t)
fresh-append [] t f g h = g
fresh-append (x ∷ s) t f g h = ((λ m. go (append_cases s m)), fresh-append s t f.1 g (λ y m. h y (there m)))
  where
    go : Mem x s ⊎ Mem x t → ⊥
    go (inl m) = f.0 m
    go (inr m) = h x (here refl) m

falling-le : (ps : List (List ℕ)) (n : ℕ) {p : List ℕ} → Mem p (falling ps n) → length (labels ps p) ≤ n
unfolding falling with_count
falling-le ps zero m = absurd (not-nil m)
falling-le ps (suc n) {p} m = go (append_cases (with_count ps (suc n)) m) (falling-le ps n)
  where
    go : Mem p (with_count ps (suc n)) ⊎ Mem p (falling ps n) → (Mem p (falling ps n) → length (labels ps p) ≤ n)
        → length (labels ps p) ≤ suc n
    go (inl k) r = let e = (with-count ps (suc n) k).1 in omega arith
    go (inr k) r = let h = r k in omega arith

falling-fresh : (ps : List (List ℕ)) (n : ℕ) → Fresh ps → Fresh (falling ps n)
unfolding falling with_count
falling-fresh ps zero f = tt
falling-fresh ps (suc n) f = fresh-append (with_count ps (suc n)) (falling ps n) (keep_fresh _ ps f) (falling-fresh ps n f) apart
  where
    apart : (p : List ℕ) → Mem p (with_count ps (suc n)) → Mem p (falling ps n) → ⊥
    apart p m k = omega (arith, (with-count ps (suc n) m).1, falling-le ps n k)

pub order-fresh : (ps : List (List ℕ)) → Fresh ps → Fresh (order ps)
unfolding order
order-fresh ps f = falling-fresh ps (length ps) f

fresh-fold : (L : List ℕ → List ℕ) (ps : List (List ℕ)) (xs : List Put) → Fresh ps → Fresh (map (λ (x : Put). x.node) xs)
    → ((p : List ℕ) → Mem p (map (λ (x : Put). x.node) xs) → Mem p ps → ⊥) → Fresh (map (λ (x : Put). x.node) (fold (put L) xs ps))
unfolding fold put
fresh-fold L [] xs f g h = g
fresh-fold L (p ∷ ps) xs f g h = fresh-fold L ps (put L xs p) f.1 ((λ m. h p m (here refl)), g) apart
  where
    apart : (q : List ℕ) → Mem q (p ∷ map (λ (x : Put). x.node) xs) → Mem q ps → ⊥
    apart q m k = go (cases_cons m)
      where
        go : (q ≡ p) ⊎ Mem q (map (λ (x : Put). x.node) xs) → ⊥
        go (inl e) = f.0 (mem-cast (sym e) k)
        go (inr n) = h q n (there k)

pub unique : {A B : Type 0} (f : A → B) (xs : List A) → Fresh (map f xs) → {x y : A} → Mem x xs → Mem y xs → f x ≡ f y → x ≡ y
unique f [] h m n e = absurd (not-nil m)
unique {A} f (z ∷ xs) h {x} {y} m n e = go (cases_cons m) (cases_cons n) (λ a b. unique f xs h.1 a b e)
  where
    go : (x ≡ z) ⊎ Mem x xs → (y ≡ z) ⊎ Mem y xs → (Mem x xs → Mem y xs → x ≡ y) → x ≡ y
    go (inl p) (inl q) r = p ∙ sym q
    go (inl p) (inr q) r = absurd (h.0 (mem-cast (ap f (sym p) ∙ e) (mem-map f q)))
    go (inr p) (inl q) r = absurd (h.0 (mem-cast (ap f (sym q) ∙ sym e) (mem-map f p)))
    go (inr p) (inr q) r = r p q

pub puts_fresh : (ts : List Token) → Fresh (map (λ (x : Put). x.node) (puts ts))
unfolding puts place
puts_fresh ts = fresh-fold (labels (nodes ts)) (order (nodes ts)) [] (order-fresh (nodes ts) (nodes-fresh ts)) tt (λ p m k. not-nil m)

-- ---- writes

pub record Write : Type 0 where
  pub at : ℕ
  pub val : ℕ

unfoldable pub write : List ℕ → Write → List ℕ
write t w = set t w.at w.val

unfoldable pub write_all : List Write → List ℕ → List ℕ
unfolding fold write
write_all ws t = fold write t ws

pub length-writes : (ws : List Write) (t : List ℕ) → length (fold write t ws) ≡ length t
unfolding fold write
length-writes [] t = refl
length-writes (w ∷ ws) t = length-writes ws (write t w) ∙ length-set t w.at w.val

module _ (F : ℕ → ℕ) where
  one-write : (w : Write) (t : List ℕ) (i : ℕ) → w.val ≡ F w.at → w.at < length t → (get_or t i 0 ≡ F i) ⊎ (w.at ≡ i)
      → get_or (write t w) i 0 ≡ F i
  unfolding write
  one-write w t i v h c = go (either (eqb w.at i)) c
    where
      go : Tested (eqb w.at i) → (get_or t i 0 ≡ F i) ⊎ (w.at ≡ i) → get_or (set t w.at w.val) i 0 ≡ F i
      go (inl e) c =
          subst (λ (z : ℕ). get_or (set t w.at w.val) z 0 ≡ F z) (eqb-true w.at i e) (get_or-set_same t w.at w.val 0 h ∙ v)
      go (inr e) (inl k) = get_or-set_other t w.at i w.val 0 (λ q. eqb-false w.at i e (sym q)) ∙ k
      go (inr e) (inr k) = absurd (eqb-false w.at i e k)

  pub after : (ws : List Write) (t : List ℕ) (i : ℕ) → ((w : Write) → Mem w ws → w.val ≡ F w.at)
      → ((w : Write) → Mem w ws → w.at < length t)
      → (get_or t i 0 ≡ F i) ⊎ ((w : Write) × Mem w ws × (w.at ≡ i)) → get_or (fold write t ws) i 0 ≡ F i
  unfolding fold
  after [] t i v h (inl k) = k
  after [] t i v h (inr k) = absurd (not-nil k.1)
  after (w ∷ ws) t i v h c = after ws (write t w) i (λ u m. v u (there m)) inside (go c)
    where
      same_len : length (write t w) ≡ length t
      same_len = length-writes (w ∷ []) t

      inside : (u : Write) → Mem u ws → u.at < length (write t w)
      inside u m = let a = h u (there m) in omega (arith, same_len)

      at_once : (get_or t i 0 ≡ F i) ⊎ (w.at ≡ i) → get_or (write t w) i 0 ≡ F i
      at_once d = one-write w t i (v w (here refl)) (h w (here refl)) d

      go : (get_or t i 0 ≡ F i) ⊎ ((u : Write) × Mem u (w ∷ ws) × (u.at ≡ i))
          → (get_or (write t w) i 0 ≡ F i) ⊎ ((u : Write) × Mem u ws × (u.at ≡ i))
      go (inl k) = inl (at_once (inl k))
      go (inr k) = pick (cases_cons k.1)
        where
          pick : (k.0 ≡ w) ⊎ Mem k.0 ws → (get_or (write t w) i 0 ≡ F i) ⊎ ((u : Write) × Mem u ws × (u.at ≡ i))
          pick (inl e) = inl (at_once (inr (ap (λ (u : Write). u.at) (sym e) ∙ k.2)))
          pick (inr m) = inr (k.0, m, k.2)

-- ---- the table's writes: each node, in order, each of its labels

module _ (ts : List Token) where
  unfoldable pub child_write : List ℕ → ℕ → Write
  unfolding word_of
  child_write p l = record { at = bit_xor (base_of (puts ts) p) l; val = word_of ts (p ++ (l ∷ [])) l }

  unfoldable pub writes : List Write
  unfolding each child_write
  writes = each (λ p. map (child_write p) (labels (nodes ts) p)) (nodes ts)

  module _ (v : Valid ts) where
    write-of : (w : Write) → Mem w writes → (p : List ℕ) × Mem p (nodes ts) × ((l : ℕ) × Mem l (labels (nodes ts) p)
        × (child_write p l ≡ w))
    unfolding writes
    write-of w m =
        let a = each-find (λ (p : List ℕ). map (child_write p) (labels (nodes ts) p)) (nodes ts) m in
        let b = mem-of-map (child_write a.0) (labels (nodes ts) a.0) a.2 in
        (a.0, a.1, (b.0, b.1, b.2))

    right : (w : Write) → Mem w writes → w.val ≡ table_at ts w.at
    unfolding child_write
    right w m =
        let r = write-of w m in
        let l = r.2.0 in
        let k = r.2.1 in
        subst (λ (z : Write). z.val ≡ table_at ts z.at) r.2.2
        (sym (step-word ts v r.0 r.1 l (labels-small ts v r.0 l k) (label-node (nodes ts) r.0 l k)))

    pub in_table : (w : Write) → Mem w writes → w.at < table_words ts
    unfolding child_write table_words words
    in_table w m =
        let r = write-of w m in
        let l = r.2.0 in
        let k = r.2.1 in
        let h = placed ts v r.0 r.1 (mem_pos k) in
        let t = top-le h.mem in
        let b = ap (λ (z : ℕ). z / 256) h.base-eq in
        let x = xor_block_of (base_of (puts ts) r.0) l (labels-small ts v r.0 l k) in
        let y = ap (λ (z : Write). z.at / 256) r.2.2 in
        omega arith

    -- a slot's owner wrote it
    written : (i : ℕ) → Owner (labels (nodes ts)) (word_of ts) (puts ts) i → (w : Write) × Mem w writes × (w.at ≡ i)
    unfolding writes child_write
    written i o = (
      child_write p o.lab,
      each-mem (λ (q : List ℕ). map (child_write q) (labels (nodes ts) q))
          (in-nodes (put-find (labels (nodes ts)) (order (nodes ts)) [] own-mem)) (mem-map (child_write p) o.child),
      ap (λ (z : ℕ). bit_xor z o.lab) own-base ∙ o.at,
    )
      where
        p : List ℕ
        p = o.own.node

        own-mem : Mem o.own (fold (put (labels (nodes ts))) [] (order (nodes ts)))
        own-mem = placed-list o.mem
          where
            placed-list : Mem o.own (puts ts) → Mem o.own (fold (put (labels (nodes ts))) [] (order (nodes ts)))
            placed-list m = m

        in-nodes : Mem o.own [] ⊎ Mem p (order (nodes ts)) → Mem p (nodes ts)
        in-nodes (inl k) = absurd (not-nil k)
        in-nodes (inr k) = (order-find (nodes ts) k).0

        own-base : base_of (puts ts) p ≡ o.own.base
        own-base = go (base_cases (puts ts) p)
          where
            go : Holds (puts ts) p ⊎ Unheld (puts ts) p → base_of (puts ts) p ≡ o.own.base
            go (inl h) =
                h.base-eq
                ∙ ap (λ (x : Put). x.base) (unique (λ (x : Put). x.node) (puts ts) (puts_fresh ts) h.mem o.mem h.node-eq)
            go (inr h) = absurd (h.1 o.own o.mem refl)

    pub table_filled : write_all writes (replicate (table_words ts) 0) ≡ table_list ts
    unfolding write_all table_list
    table_filled = ext_get_or 0 _ _ (length-writes writes Z ∙ length-replicate n 0 ∙ sym (up_length (table_at ts) n 0)) cell
      where
        n : ℕ
        n = table_words ts

        Z : List ℕ
        Z = replicate n 0

        cell : (i : ℕ) → i < length (fold write Z writes) → get_or (fold write Z writes) i 0 ≡ get_or (up_from (table_at ts) n 0) i 0
        cell i h =
            let lz = length-replicate {A = ℕ} n 0 in
            let lw = length-writes writes Z in
            let hi : i < n = omega arith in
            let z : i ≡ 0 + i = omega arith in
            after (table_at ts) writes Z i right (λ w m. let a = in_table w m in omega arith)
            (go (owner (labels (nodes ts)) (word_of ts) (puts ts) i) hi)
            ∙ ap (table_at ts) z ∙ sym (up_at (table_at ts) n 0 i 0 hi)
          where
            go : (slot_word (labels (nodes ts)) (word_of ts) (puts ts) i ≡ 0) ⊎ Owner (labels (nodes ts)) (word_of ts) (puts ts) i → i < n
                → (get_or Z i 0 ≡ table_at ts i) ⊎ ((w : Write) × Mem w writes × (w.at ≡ i))
            go (inl e) hi = inl (get_or-replicate n i 0 0 hi ∙ sym (to-zero e))
              where
                to-zero : slot_word (labels (nodes ts)) (word_of ts) (puts ts) i ≡ 0 → table_at ts i ≡ 0
                to-zero q = q
            go (inr o) hi = inr (written i o)
