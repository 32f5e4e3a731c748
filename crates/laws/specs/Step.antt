-- One step of the walk goes on just where the trie does. Assumes nothing.
use Rattle.std.specs.Prelude.{◌≡◌, refl, ◌⊎◌, Bool, true, false, ◌&&◌, cond}
use Rattle.std.proofs.Common.{sym, ◌∙◌, inl, inr, eq-eqb, ne_eqb}
use Rattle.std.proofs.Math.Path.{ap, ap₂, subst}
use Rattle.std.proofs.Math.Bool.{not, and-false}
use mathlib.Core.List.Memᴰ.{head as here}
use mathlib.Core.List.Memᴰ.{tail as there}
use mathlib.Core.List.{List, [], ◌∷◌, ◌++◌, append-nil, Memᴰ as Mem}
use mathlib.Core.List.Memᴰ.{cases_cons}
use mathlib.Core.List.Memᴰ.{not-nil}
use Prim.Native.Nat.{ℕ, ◌/◌, ◌%◌, ◌≤◌, ◌<◌}
use native.Mathlib.Omega.{arith}
use Rattle.std.specs.Int.Bits.{bit_xor}
use Rattle.std.proofs.Math.Dec.{eqb}
use Rattle.std.proofs.Math.ListN.{length}
use Rattle.spec.specs.Lists.{fold, same, has}
use Rattle.spec.specs.Token.{Token, id_of}
use Rattle.spec.specs.Trie.{nodes, labels, order}
use Rattle.spec.specs.Layout.{Put, choose, put, place, base_of, pack, slot_word, puts, word_of, table_at}
use Rattle.spec.specs.Valid.{Valid}
use Rattle.spec.specs.Match.{base_in, id_in, goes}
use Rattle.laws.specs.Tests.{clash, Tested, either, same-eq, same_refl, has-mem, mem_has, mem_pos}
use Rattle.laws.specs.Tokens.{id_pos, id-low, id-bound}
use Rattle.laws.specs.Nodes.{IsNode, node-is, token-node, label-node, node_label, labels-small, order-mem, order-find}
use Rattle.laws.specs.Placed.{Good, place-good}
use Rattle.laws.specs.Slots.{hit, Owner, owner, ours, block-zero}

-- ---- what is placed

put_keeps : (L : List ℕ → List ℕ) (ps : List (List ℕ)) (xs : List Put) {x : Put} → Mem x xs → Mem x (fold (put L) xs ps)
unfolding fold put
put_keeps L [] xs m = m
put_keeps L (p ∷ ps) xs m = put_keeps L ps (put L xs p) (there m)

put_has : (L : List ℕ → List ℕ) {p : List ℕ} (xs : List Put) {ps : List (List ℕ)} → Mem p ps
    → (x : Put) × Mem x (fold (put L) xs ps) × (x.node ≡ p)
unfolding fold put
put_has L xs (here {x = q} {xs = ps} e) = (_, put_keeps L ps (put L xs q) (here refl), sym e)
put_has L xs (there {x = q} {xs = ps} m) = put_has L (put L xs q) m

pub put-find : (L : List ℕ → List ℕ) (ps : List (List ℕ)) (xs : List Put) {x : Put} → Mem x (fold (put L) xs ps)
    → Mem x xs ⊎ Mem x.node ps
unfolding fold put
put-find L [] xs m = inl m
put-find L (p ∷ ps) xs {x} m = go (put-find L ps (put L xs p) m)
  where
    go : Mem x (put L xs p) ⊎ Mem x.node ps → Mem x xs ⊎ Mem x.node (p ∷ ps)
    go (inr n) = inr (there n)
    go (inl n) = at (cases_cons n)
      where
        at : (x ≡ record { node = p; base = choose L xs (L p) }) ⊎ Mem x xs → Mem x xs ⊎ Mem x.node (p ∷ ps)
        at (inl e) = inr (here (ap (λ (z : Put). z.node) e))
        at (inr k) = inl k

-- p is placed, at its base
pub record Holds (xs : List Put) (p : List ℕ) : Type 0 where
  pub put : Put
  pub mem : Mem put xs
  pub node-eq : put.node ≡ p
  pub base-eq : base_of xs p ≡ put.base

-- p is not placed
abbrev pub Unheld : List Put → List ℕ → Type 0
Unheld xs p = (base_of xs p ≡ 0) × ((x : Put) → Mem x xs → x.node ≡ p → ⊥)

pub base_cases : (xs : List Put) (p : List ℕ) → Holds xs p ⊎ Unheld xs p
unfolding base_of
base_cases [] p = inr (refl, λ x m e. not-nil m)
base_cases (y ∷ xs) p = go (same p y.node) refl (base_cases xs p)
  where
    go : (c : Bool) → same p y.node ≡ c → Holds xs p ⊎ Unheld xs p
        → Holds (y ∷ xs) p ⊎ Unheld (y ∷ xs) p
    go true e r =
        inl (record {
          put = y;
          mem = here refl;
          node-eq = sym (same-eq p y.node e);
          base-eq = ap
              (λ (c : Bool). cond c y.base (base_of xs p)) e;
        })
    go false e (inl h) =
        inl (record {
          put = h.put;
          mem = there h.mem;
          node-eq = h.node-eq;
          base-eq = ap
              (λ (c : Bool). cond c y.base (base_of xs p)) e ∙ h.base-eq;
        })
    go false e (inr h) = inr (ap (λ (c : Bool). cond c y.base (base_of xs p)) e ∙ h.0, other)
      where
        other : (x : Put) → Mem x (y ∷ xs) → x.node ≡ p → ⊥
        other x m q = at (cases_cons m)
          where
            at : (x ≡ y) ⊎ Mem x xs → ⊥
            at (inl i) = clash (ap (λ (z : List ℕ). same p z) (ap (λ (z : Put). z.node) (sym i) ∙ q) ∙ same_refl p) e
            at (inr k) = h.1 x k q

-- ---- the step

module _ (ts : List Token) (v : Valid ts) where
  pub good : Good (labels (nodes ts)) (puts ts)
  unfolding puts
  good = place-good (labels (nodes ts)) (labels-small ts v) (order (nodes ts))

  -- a node with a child is placed, and one without is not
  pub placed : (p : List ℕ) → Mem p (nodes ts) → 1 ≤ length (labels (nodes ts) p) → Holds (puts ts) p
  unfolding puts place
  placed p m h = go (base_cases (puts ts) p)
    where
      w : (x : Put) × Mem x (puts ts) × (x.node ≡ p)
      w = put_has (labels (nodes ts)) [] (order-mem (nodes ts) p m h)

      go : Holds (puts ts) p ⊎ Unheld (puts ts) p → Holds (puts ts) p
      go (inl k) = k
      go (inr k) = absurd (k.1 w.0 w.1 w.2)

  pub held-child : (p : List ℕ) → Holds (puts ts) p → 1 ≤ length (labels (nodes ts) p)
  unfolding puts place
  held-child p h = go (put-find (labels (nodes ts)) (order (nodes ts)) [] h.mem)
    where
      go : Mem h.put [] ⊎ Mem h.put.node (order (nodes ts)) → 1 ≤ length (labels (nodes ts) p)
      go (inl k) = absurd (not-nil k)
      go (inr k) = subst (λ (z : List ℕ). 1 ≤ length (labels (nodes ts) z)) h.node-eq (order-find (nodes ts) k).1

  base-block : (xs : List Put) → Good (labels (nodes ts)) xs → {x : Put} → Mem x xs → 1 ≤ x.base / 256
  base-block [] g m = absurd (not-nil m)
  base-block (y ∷ ys) g {x} m = pick (cases_cons m) (base-block ys g.3)
    where
      pick : (x ≡ y) ⊎ Mem x ys → (Mem x ys → 1 ≤ x.base / 256) → 1 ≤ x.base / 256
      pick (inl e) r = subst (λ (z : Put). 1 ≤ z.base / 256) (sym e) g.0
      pick (inr n) r = r n

  pub base-pos : (p : List ℕ) → Holds (puts ts) p → 1 ≤ base_of (puts ts) p
  base-pos p h = let k = base-block (puts ts) good h.mem in let e = h.base-eq in omega arith

  -- ---- the parts of a word

  pub word_low : (p : List ℕ) (l : ℕ) → l < 256 → word_of ts p l % 256 ≡ l
  unfolding word_of pack
  word_low p l h = omega arith

  pub word-base : (p : List ℕ) (l : ℕ) → l < 256 → base_in (word_of ts p l) ≡ base_of (puts ts) p
  unfolding word_of pack base_in
  word-base p l h = let k = id-bound ts v p in omega arith

  pub word-id : (p : List ℕ) (l : ℕ) → l < 256 → id_in (word_of ts p l) ≡ id_of ts p
  unfolding word_of pack id_in
  word-id p l h = let k = id-bound ts v p in omega arith

  -- a node's word is not 0
  pub word-pos : (p : List ℕ) (l : ℕ) → Mem p (nodes ts) → 1 ≤ word_of ts p l
  unfolding word_of pack
  word-pos p l m = go n.cut.rest n.cut.split
    where
      n : IsNode ts p
      n = node-is ts m

      go : (r : List ℕ) → n.tok.bytes ≡ p ++ r → 1 ≤ word_of ts p l
      go [] e = let k = id_pos p (id-low ts v) n.mem (e ∙ append-nil p) in omega arith
      go (c ∷ r) e =
          let two = n.cut.two in
          let child = token-node ts p c r n.mem e (omega arith) in
          let k = base-pos p (placed p m (mem_pos (node_label (nodes ts) p c child))) in
          omega arith

  goes-not : (w b : ℕ) → (w ≡ 0) ⊎ (w % 256 ≡ b → ⊥) → goes w b ≡ false
  unfolding goes
  goes-not w b (inl z) = ap (λ (c : Bool). not c && eqb (w % 256) b) (eq-eqb w 0 z)
  goes-not w b (inr z) = ap (λ (c : Bool). not (eqb w 0) && c) (ne_eqb (w % 256) b z) ∙ and-false (not (eqb w 0))

  goes-yes : (w b : ℕ) → 1 ≤ w → w % 256 ≡ b → goes w b ≡ true
  unfolding goes
  goes-yes w b h e = ap₂ (λ (c d : Bool). not c && d) (ne_eqb w 0 (λ z. omega arith)) (eq-eqb (w % 256) b e)

  -- ---- the theorem of one step

  module _ (p : List ℕ) (m : Mem p (nodes ts)) (b : ℕ) (hb : b < 256) where
    pub step-word : Mem (p ++ (b ∷ [])) (nodes ts) → table_at ts (bit_xor (base_of (puts ts) p) b) ≡ word_of ts (p ++ (b ∷ [])) b
    unfolding table_at
    step-word k =
        let l : Mem b (labels (nodes ts) p) = node_label (nodes ts) p b k in
        let h = placed p m (mem_pos l) in
        let T : ℕ → ℕ = slot_word (labels (nodes ts)) (word_of ts) (puts ts) in
        ap (λ (z : ℕ). T (bit_xor z b)) h.base-eq
        ∙ hit (labels (nodes ts)) (word_of ts) b good h.mem (subst (λ (z : List ℕ). Mem b (labels (nodes ts) z)) (sym h.node-eq) l)
        ∙ ap (λ (z : List ℕ). word_of ts (z ++ (b ∷ [])) b) h.node-eq

    pub step-none : (Mem (p ++ (b ∷ [])) (nodes ts) → ⊥) → goes (table_at ts (bit_xor (base_of (puts ts) p) b)) b ≡ false
    unfolding table_at
    step-none none-there = goes-not (T (bit_xor (base_of (puts ts) p) b)) b (go (base_cases (puts ts) p))
      where
        L : List ℕ → List ℕ
        L = labels (nodes ts)

        T : ℕ → ℕ
        T = slot_word L (word_of ts) (puts ts)

        held : (h : Holds (puts ts) p) → (T (bit_xor h.put.base b) ≡ 0) ⊎ Owner L (word_of ts) (puts ts) (bit_xor h.put.base b)
            → (T (bit_xor h.put.base b) ≡ 0) ⊎ (T (bit_xor h.put.base b) % 256 ≡ b → ⊥)
        held h (inl z) = inl z
        held h (inr o) = inr (λ e.
            let same-lab : o.lab ≡ b =
            sym (word_low (o.own.node ++ (o.lab ∷ [])) o.lab (labels-small ts v o.own.node o.lab o.child))
            ∙ ap (λ (z : ℕ). z % 256) (sym o.is) ∙ e in
            none-there (label-node (nodes ts) p b
            (subst (λ (z : List ℕ). Mem b (L z)) h.node-eq (ours L (word_of ts) b good h.mem o same-lab))))

        go : Holds (puts ts) p ⊎ Unheld (puts ts) p
            → (T (bit_xor (base_of (puts ts) p) b) ≡ 0) ⊎ (T (bit_xor (base_of (puts ts) p) b) % 256 ≡ b → ⊥)
        go (inl h) =
            subst (λ (z : ℕ). (T (bit_xor z b) ≡ 0) ⊎ (T (bit_xor z b) % 256 ≡ b → ⊥)) (sym h.base-eq)
            (held h (owner L (word_of ts) (puts ts) (bit_xor h.put.base b)))
        go (inr h) = inl (ap (λ (z : ℕ). T (bit_xor z b)) h.0 ∙ block-zero L (word_of ts) (puts ts) (labels-small ts v) good b hb)

    pub step-goes : goes (table_at ts (bit_xor (base_of (puts ts) p) b)) b ≡ has (nodes ts) (p ++ (b ∷ []))
    step-goes = go (either (has (nodes ts) (p ++ (b ∷ []))))
      where
        go : Tested (has (nodes ts) (p ++ (b ∷ []))) → goes (table_at ts (bit_xor (base_of (puts ts) p) b)) b
            ≡ has (nodes ts) (p ++ (b ∷ []))
        go (inl e) =
            let k = has-mem (nodes ts) (p ++ (b ∷ [])) e in
            let w = step-word k in
            goes-yes _ b (subst (λ (z : ℕ). 1 ≤ z) (sym w) (word-pos (p ++ (b ∷ [])) b k))
            (ap (λ (z : ℕ). z % 256) w ∙ word_low (p ++ (b ∷ [])) b hb) ∙ sym e
        go (inr e) = step-none (λ k. clash (mem_has k) e) ∙ sym e
