-- A new child, a new root and a new id keep what the memory stands for. For the proofs. Assumes nothing.
use Rattle.std.proofs.Common.{◌≡◌, ℕ, suc, ◌+◌, ◌*◌, ◌%◌, ◌^◌, ◌<◌, ◌≤◌, true, false, cond, eqb, ◌⊎◌, List, [], ◌∷◌, ◌++◌, length, get_or}
use Rattle.std.proofs.Common.{set, sym, refl, ap, ◌∙◌, subst, ap₂, inl, inr, arith, length-append, get_or-set_other, get_or-set_same}
use Rattle.std.proofs.Common.{eq-eqb, ne_eqb, eqb-true}
use mathlib.Core.List.Memᴰ.{append_left as mem-left}
use mathlib.Core.List.Memᴰ.{head as here}
use mathlib.Core.List.{Memᴰ as Mem}
use mathlib.Core.List.Memᴰ.{append_right as mem-right}
use mathlib.Core.List.Memᴰ.{cast as mem-cast}
use borrow.Author.Tests.{eqb-false}
use Rattle.laws.specs.Tests.{either, yes_case, no_case}
use Rattle.laws.specs.Numbered.{number, Fresh, fresh-snoc}
use Rattle.laws.specs.OneMore.{snoc_inj}
use Rattle.laws.specs.Chain.{kids, number-inj, kids-self, kids-other, one_parent, kids-fresh}
use Rattle.nodes.specs.Run.{Nodes, room, see, set_node}
use Rattle.nodes.proofs.NodeRun.{see-same, see-other}
use Rattle.nodes.specs.Insertion.{leaf, grown, with_term, add_child}
use Rattle.nodes.specs.Stands.{final, Chain, num, NodeAt, NodeIs, Tree, Growing}
use Rattle.nodes.proofs.Chains.{final-snoc, snoc_view, snoc_mem, fresh-last, chain_frame, chain_join, chain_head, equal, num-in}
use Rattle.nodes.proofs.Chains.{num-other, number_lt, number-stays, number-new, kid_of, kid_lt, kids-length, labels-few, no_kids}
use Rattle.nodes.proofs.Linked.{Alike, alike_same, Linked, linked-first, linked-more}
use Rattle.nodes.specs.declared.Node.{Node}

-- ---- a node that stays, and a new one

pub node_alike : (m m' : Nodes) (k : ℕ) (l : List ℕ) (id lab : ℕ) → Alike (see m' k) (see m k)
    → ((c : ℕ) → Mem c l → (see m' c).next ≡ (see m c).next) → NodeAt m k l id lab → NodeAt m' k l id lab
node_alike m m' k l id lab al nx n = record {
  chain = subst (λ (h : ℕ). Chain (λ c. (see m' c).next) h l) (sym al.head)
      (chain_frame (λ c. (see m c).next) (λ c. (see m' c).next) l (see m k).head nx n.chain);
  count = al.count ∙ n.count;
  term = al.term ∙ n.term;
  label = al.label ∙ n.label;
}

node_leaf : (m' : Nodes) (k b : ℕ) → see m' k ≡ leaf b → NodeAt m' k [] 0 b
unfolding leaf
node_leaf m' k b e = record {
  chain = ap (λ (x : Node). x.head) e;
  count = ap (λ (x : Node). x.count) e;
  term = ap (λ (x : Node). x.term) e;
  label = ap (λ (x : Node). x.label) e;
}

leaf-tail : (m' : Nodes) (k b : ℕ) → see m' k ≡ leaf b → (see m' k).tail ≡ final []
unfolding leaf final
leaf-tail m' k b e = ap (λ (x : Node). x.tail) e

-- the same, elsewhere
node_cast : {m : Nodes} {k k' : ℕ} {l l' : List ℕ} {id id' lab lab' : ℕ} → k ≡ k' → l ≡ l' → id ≡ id' → lab ≡ lab'
    → NodeAt m k l id lab → NodeAt m k' l' id' lab'
node_cast {m} {k} {k'} {l} {l'} {id} {id'} {lab} {lab'} p q r s n =
    subst (λ (z : ℕ). NodeAt m z l' id' lab') p
    (subst (λ (z : List ℕ). NodeAt m k z id' lab') q
    (subst (λ (z : ℕ). NodeAt m k l z lab') r (subst (λ (z : ℕ). NodeAt m k l id z) s n)))

-- the parent of a new child; tail is the number of its last child
node_grown : (m m' : Nodes) (made k b : ℕ) (l : List ℕ) (id lab : ℕ) → Linked m m' made k b → 1 ≤ made → length l + 1 < 65536 → Fresh l
    → ((c : ℕ) → Mem c l → c < made) → (see m k).tail ≡ final l → NodeAt m k l id lab → NodeAt m' k (l ++ (made ∷ [])) id lab
unfolding grown leaf
node_grown m m' made k b l id lab L pos small fr lts tl n = record {
  chain =
      subst (λ (h : ℕ). Chain (λ c. (see m' c).next) h (l ++ (made ∷ []))) (sym (ap (λ (x : Node). x.head) L.par)) (go (snoc_view l));
  count = ap (λ (x : Node). x.count) L.par ∙ ap (λ (x : ℕ). (x + 1) % 2 ^ 16) n.count ∙ fits;
  term = ap (λ (x : Node). x.term) L.par ∙ n.term;
  label = ap (λ (x : Node). x.label) L.par ∙ n.label;
}
  where
    fits : (length l + 1) % 2 ^ 16 ≡ length (l ++ (made ∷ []))
    fits = let a = length-append l (made ∷ []) in let b : length (made ∷ []) ≡ 1 = refl in omega arith

    end : (see m' made).next ≡ 0
    end = ap (λ (x : Node). x.next) L.new

    first : ℕ
    first = cond (eqb (see m k).head 0) made (see m k).head

    go : (l ≡ []) ⊎ ((i : List ℕ) × (l ≡ i ++ (final l ∷ [])))
        → Chain (λ c. (see m' c).next) (cond (eqb (see m k).head 0) made (see m k).head) (l ++ (made ∷ []))
    go (inl e) =
        let z : (see m k).head ≡ 0 = subst (Chain (λ c. (see m c).next) (see m k).head) e n.chain in
        subst (λ (x : List ℕ). Chain (λ c. (see m' c).next) (cond (eqb (see m k).head 0) made (see m k).head) (x ++ (made ∷ []))) (sym e)
        (yes_case _ _ (eq-eqb (see m k).head 0 z), pos, end)
    go (inr r) =
        let i = r.0 in
        let t = final l in
        let ch : Chain (λ c. (see m c).next) (see m k).head (i ++ (t ∷ [])) = subst (Chain (λ c. (see m c).next) (see m k).head) r.1
        n.chain in
        let nz : (see m k).head ≡ 0 → ⊥ = chain_head (λ c. (see m c).next) i (see m k).head t ch in
        let fi : Fresh (i ++ (t ∷ [])) = subst Fresh r.1 fr in
        let up : (see m' t).next ≡ made = ap (λ (x : ℕ). (see m' x).next) (sym tl) ∙ L.last nz in
        let old : (x : ℕ) → Mem x i → (see m' x).next ≡ (see m x).next =
        λ x mx. L.nxt x (λ e. let lt = lts x (subst (Mem x) (sym r.1) (mem-left (t ∷ []) mx)) in omega arith)
        (inr (λ e. fresh-last i t x fi mx (e ∙ tl))) in
        subst (λ (x : List ℕ). Chain (λ c. (see m' c).next) (cond (eqb (see m k).head 0) made (see m k).head) (x ++ (made ∷ [])))
        (sym r.1)
        (subst (λ (h : ℕ). Chain (λ c. (see m' c).next) h ((i ++ (t ∷ [])) ++ (made ∷ []))) (sym (no_case _ _ (ne_eqb (see m k).head 0 nz)))
        (chain_join (λ c. (see m c).next) (λ c. (see m' c).next) i (see m k).head t (made ∷ []) old (up, pos, end) ch))

-- ---- a new child

module _ {ps : List (List ℕ)} {I : List ℕ → ℕ} {rs : List ℕ} {m : Nodes} (G : Growing ps I rs m) (p : List ℕ) (b : ℕ) (hb : b < 256)
    (mp : Mem p ps) (new : Mem (p ++ (b ∷ [])) ps → ⊥) (fit : suc (length ps) < room m) where
  abbrev q : List ℕ
  q = p ++ (b ∷ [])

  abbrev ps' : List (List ℕ)
  ps' = ps ++ (q ∷ [])

  abbrev made : ℕ
  made = suc (length ps)

  abbrev k : ℕ
  k = number ps p

  abbrev m' : Nodes
  m' = add_child m made k b

  abbrev T : Tree ps I m
  T = G.tree

  np : NodeAt m k (kids ps p) (I p) (final p)
  np = T.node p mp

  q-long : 3 ≤ length q
  q-long = let a = T.long p mp in let c = length-append p (b ∷ []) in let d : length (b ∷ []) ≡ 1 = refl in omega arith

  q-not-p : q ≡ p → ⊥
  q-not-p e = new (mem-cast e mp)

  tail-in : ((see m k).head ≡ 0 → ⊥) → Mem (see m k).tail (kids ps p)
  tail-in z = go (snoc_view (kids ps p))
    where
      go : (kids ps p ≡ []) ⊎ ((i : List ℕ) × (kids ps p ≡ i ++ (final (kids ps p) ∷ []))) → Mem (see m k).tail (kids ps p)
      go (inl e) = absurd (z (subst (Chain (λ c. (see m c).next) (see m k).head) e np.chain))
      go (inr r) = subst (Mem (see m k).tail) (sym r.1) (mem-right r.0 (here (G.last p mp)))

  link : Linked m m' made k b
  link = go (either (eqb (see m k).head 0))
    where
      not-self : (l : ℕ) → p ++ (l ∷ []) ≡ p → ⊥
      not-self l s = let a = ap length s in let c = length-append p (l ∷ []) in let d : length (l ∷ []) ≡ 1 = refl in omega arith

      go : (eqb (see m k).head 0 ≡ true) ⊎ (eqb (see m k).head 0 ≡ false) → Linked m m' made k b
      go (inl e) = linked-first m made k b fit (number_lt mp) hb (eqb-true (see m k).head 0 e)
      go (inr e) =
          let z = eqb-false (see m k).head 0 e in
          let kd = kid_of ps p (tail-in z) in
          linked-more m made k b fit (number_lt mp) hb (kid_lt ps p (tail-in z))
          (λ s. not-self kd.0 (number-inj ps kd.1 mp (kd.2 ∙ s))) z

  others : (x : List ℕ) → (x ≡ p → ⊥) → (c : ℕ) → Mem c (kids ps x) → (see m' c).next ≡ (see m c).next
  others x ne c mc = link.nxt c (λ e. let a = kid_lt ps x mc in omega arith) (go (either (eqb (see m k).head 0)))
    where
      go : (eqb (see m k).head 0 ≡ true) ⊎ (eqb (see m k).head 0 ≡ false) → ((see m k).head ≡ 0) ⊎ (c ≡ (see m k).tail → ⊥)
      go (inl e) = inl (eqb-true (see m k).head 0 e)
      go (inr e) = inr (λ s. ne (one_parent ps x p c mc (mem-cast s (tail-in (eqb-false (see m k).head 0 e)))))

  alike : (x : List ℕ) → Mem x ps → (x ≡ p → ⊥) → Alike (see m' (number ps x)) (see m (number ps x))
  alike x mx ne = link.oth (number ps x) (λ e. let a = number_lt mx in omega arith) (λ e. ne (number-inj ps mx mp e))

  kids-new : kids ps' q ≡ []
  kids-new = kids-other ps p b new q q-not-p ∙ no_kids T q (let a = q-long in omega arith) new

  node' : (x : List ℕ) → Mem x ps ⊎ (x ≡ q) → NodeIs ps' I m' x
  node' x (inr e) = subst (NodeIs ps' I m') (sym e)
      (node_cast (sym (number-new ps q new)) (sym kids-new) (sym (G.none q (let a = q-long in omega arith) new)) (sym (final-snoc p b))
      (node_leaf m' made b link.new))
  node' x (inl mx) = go (equal x p)
    where
      go : (x ≡ p) ⊎ (x ≡ p → ⊥) → NodeIs ps' I m' x
      go (inl e) = subst (NodeIs ps' I m') (sym e)
          (node_cast (sym (number-stays (q ∷ []) mp)) (sym (kids-self ps p b new)) refl refl
          (node_grown m m' made k b (kids ps p) (I p) (final p) link (omega arith)
          (let a = kids-length ps p in let c = labels-few T p in omega arith) (kids-fresh ps p T.fresh) (λ c mc. kid_lt ps p mc)
          (G.last p mp) np))
      go (inr ne) =
          node_cast (sym (number-stays (q ∷ []) mx)) (sym (kids-other ps p b new x ne)) refl refl
          (node_alike m m' (number ps x) (kids ps x) (I x) (final x) (alike x mx ne) (others x ne) (T.node x mx))

  last' : (x : List ℕ) → Mem x ps ⊎ (x ≡ q) → (see m' (number ps' x)).tail ≡ final (kids ps' x)
  unfolding grown
  last' x (inr e) =
      ap (λ (z : List ℕ). (see m' (number ps' z)).tail) e ∙ ap (λ (z : ℕ). (see m' z).tail) (number-new ps q new)
      ∙ leaf-tail m' made b link.new ∙ ap final (sym kids-new) ∙ ap (λ (z : List ℕ). final (kids ps' z)) (sym e)
  last' x (inl mx) = go (equal x p)
    where
      go : (x ≡ p) ⊎ (x ≡ p → ⊥) → (see m' (number ps' x)).tail ≡ final (kids ps' x)
      go (inl e) =
          ap (λ (z : ℕ). (see m' z).tail) (number-stays (q ∷ []) mx) ∙ ap (λ (z : List ℕ). (see m' (number ps z)).tail) e
          ∙ ap (λ (z : Node). z.tail) link.par ∙ sym (final-snoc (kids ps p) made)
          ∙ ap final (sym (kids-self ps p b new)) ∙ ap (λ (z : List ℕ). final (kids ps' z)) (sym e)
      go (inr ne) =
          ap (λ (z : ℕ). (see m' z).tail) (number-stays (q ∷ []) mx) ∙ (alike x mx ne).tail ∙ G.last x mx
          ∙ ap final (sym (kids-other ps p b new x ne))

  pub child-keeps : Growing ps' I rs m'
  child-keeps = record {
    tree = record {
      fresh = fresh-snoc ps q T.fresh new;
      long = λ x mx. lo x (snoc_mem ps mx);
      closed = λ x l h mx. mem-left (q ∷ []) (cl x l h (snoc_mem ps mx));
      byte = λ x mx. by x (snoc_mem ps mx);
      node = λ x mx. node' x (snoc_mem ps mx);
    };
    root = λ a c ha hc. G.root a c ha hc
        ∙ sym (num-other ps q (a ∷ c ∷ [])
        (λ e. let l = q-long in let g = ap length e in let s : length (a ∷ c ∷ []) ≡ 2 = refl in omega arith));
    last = λ x mx. last' x (snoc_mem ps mx);
    none = λ x h n. G.none x h (λ mx. n (mem-left (q ∷ []) mx));
  }
    where
      lo : (x : List ℕ) → Mem x ps ⊎ (x ≡ q) → 2 ≤ length x
      lo x (inl mx) = T.long x mx
      lo x (inr e) = let l = q-long in let g = ap length e in omega arith

      cl : (x : List ℕ) (l : ℕ) → 2 ≤ length x → Mem (x ++ (l ∷ [])) ps ⊎ (x ++ (l ∷ []) ≡ q) → Mem x ps
      cl x l h (inl mx) = T.closed x l h mx
      cl x l h (inr e) = mem-cast (snoc_inj x p l b e) mp

      by : (x : List ℕ) → Mem x ps ⊎ (x ≡ q) → final x < 256
      by x (inl mx) = T.byte x mx
      by x (inr e) = subst (λ (z : ℕ). z < 256) (sym (ap final e ∙ final-snoc p b)) hb

-- ---- a new root

module _ {ps : List (List ℕ)} {I : List ℕ → ℕ} {rs : List ℕ} {m : Nodes} (G : Growing ps I rs m) (a b : ℕ) (ha : a < 256) (hb : b < 256)
    (new : Mem (a ∷ b ∷ []) ps → ⊥) (fit : suc (length ps) < room m) (many : 65536 ≤ length rs) where
  abbrev rq : List ℕ
  rq = a ∷ b ∷ []

  abbrev rps : List (List ℕ)
  rps = ps ++ (rq ∷ [])

  abbrev rmade : ℕ
  rmade = suc (length ps)

  abbrev rm : Nodes
  rm = set_node m rmade (leaf b)

  abbrev rrs : List ℕ
  rrs = set rs (a * 256 + b) rmade

  old : (j : ℕ) → j < rmade → see rm j ≡ see m j
  old j h = see-other m rmade (leaf b) j (λ e. omega arith)

  at_new : see rm rmade ≡ leaf b
  at_new = see-same m rmade (leaf b) fit

  short-q : (x : List ℕ) → 2 ≤ length x → x ≡ a ∷ [] → ⊥
  short-q x h e = let g = ap length e in let s : length (a ∷ []) ≡ 1 = refl in omega arith

  kids-old : (x : List ℕ) → Mem x ps → kids rps x ≡ kids ps x
  kids-old x mx = kids-other ps (a ∷ []) b new x (short-q x (G.tree.long x mx))

  kids-none : kids rps rq ≡ []
  kids-none = kids-other ps (a ∷ []) b new rq (short-q rq (omega arith)) ∙ no_kids G.tree rq (omega arith) new

  rnode : (x : List ℕ) → Mem x ps ⊎ (x ≡ rq) → NodeIs rps I rm x
  unfolding final
  rnode x (inl mx) =
      node_cast (sym (number-stays (rq ∷ []) mx)) (sym (kids-old x mx)) refl refl
      (node_alike m rm (number ps x) (kids ps x) (I x) (final x) (alike_same (old (number ps x) (number_lt mx)))
      (λ c mc. ap (λ (n : Node). n.next) (old c (kid_lt ps x mc))) (G.tree.node x mx))
  rnode x (inr e) = subst (NodeIs rps I rm) (sym e)
      (node_cast (sym (number-new ps rq new)) (sym kids-none) (sym (G.none rq (omega arith) new)) refl (node_leaf rm rmade b at_new))

  rlast : (x : List ℕ) → Mem x ps ⊎ (x ≡ rq) → (see rm (number rps x)).tail ≡ final (kids rps x)
  rlast x (inl mx) =
      ap (λ (z : ℕ). (see rm z).tail) (number-stays (rq ∷ []) mx) ∙ ap (λ (n : Node). n.tail) (old (number ps x) (number_lt mx))
      ∙ G.last x mx
      ∙ ap final (sym (kids-old x mx))
  rlast x (inr e) =
      ap (λ (z : List ℕ). (see rm (number rps z)).tail) e ∙ ap (λ (z : ℕ). (see rm z).tail) (number-new ps rq new)
      ∙ leaf-tail rm rmade b at_new
      ∙ ap final (sym kids-none) ∙ ap (λ (z : List ℕ). final (kids rps z)) (sym e)

  rroot : (c d : ℕ) → c < 256 → d < 256 → get_or rrs (c * 256 + d) 0 ≡ num rps (c ∷ d ∷ [])
  rroot c d hc hd = go (equal (c ∷ d ∷ []) rq)
    where
      go : (c ∷ d ∷ [] ≡ rq) ⊎ (c ∷ d ∷ [] ≡ rq → ⊥) → get_or rrs (c * 256 + d) 0 ≡ num rps (c ∷ d ∷ [])
      go (inl e) =
          let ec : c ≡ a = cc in
          let ed : d ≡ b = cc in
          ap₂ (λ (x y : ℕ). get_or rrs (x * 256 + y) 0) ec ed ∙ get_or-set_same rs (a * 256 + b) rmade 0 (omega arith)
          ∙ sym (number-new ps rq new) ∙ sym (num-in (mem-right ps (here refl))) ∙ ap (num rps) (sym e)
      go (inr n) =
          get_or-set_other rs (a * 256 + b) (c * 256 + d) rmade 0
          (λ e. n (let ec : c ≡ a = omega arith in let ed : d ≡ b = omega arith in cc))
          ∙ G.root c d hc hd ∙ sym (num-other ps rq (c ∷ d ∷ []) n)

  pub root-keeps : Growing rps I rrs rm
  unfolding final
  root-keeps = record {
    tree = record {
      fresh = fresh-snoc ps rq G.tree.fresh new;
      long = λ x mx. lo x (snoc_mem ps mx);
      closed = λ x l h mx. mem-left (rq ∷ []) (cl x l h (snoc_mem ps mx));
      byte = λ x mx. by x (snoc_mem ps mx);
      node = λ x mx. rnode x (snoc_mem ps mx);
    };
    root = rroot;
    last = λ x mx. rlast x (snoc_mem ps mx);
    none = λ x h n. G.none x h (λ mx. n (mem-left (rq ∷ []) mx));
  }
    where
      lo : (x : List ℕ) → Mem x ps ⊎ (x ≡ rq) → 2 ≤ length x
      lo x (inl mx) = G.tree.long x mx
      lo x (inr e) = let g = ap length e in let s : length rq ≡ 2 = refl in omega arith

      cl : (x : List ℕ) (l : ℕ) → 2 ≤ length x → Mem (x ++ (l ∷ [])) ps ⊎ (x ++ (l ∷ []) ≡ rq) → Mem x ps
      cl x l h (inl mx) = G.tree.closed x l h mx
      cl x l h (inr e) = absurd (short-q x h (snoc_inj x (a ∷ []) l b e))

      by : (x : List ℕ) → Mem x ps ⊎ (x ≡ rq) → final x < 256
      by x (inl mx) = G.tree.byte x mx
      by x (inr e) = subst (λ (z : List ℕ). final z < 256) (sym e) hb

-- ---- an id at a node

module _ {ps : List (List ℕ)} {I : List ℕ → ℕ} {rs : List ℕ} {m : Nodes} (G : Growing ps I rs m) (J : List ℕ → ℕ) (p : List ℕ)
    (mp : Mem p ps) (id : ℕ) (hid : id < 65536) (is : J p ≡ id) (rest : (x : List ℕ) → (x ≡ p → ⊥) → J x ≡ I x)
    (fit : number ps p < room m) where
  abbrev tk : ℕ
  tk = number ps p

  abbrev tn : Node
  tn = with_term (see m tk) id

  abbrev tm : Nodes
  tm = set_node m tk tn

  at-node : see tm tk ≡ tn
  at-node = see-same m tk tn fit

  next-same : (j : ℕ) → (see tm j).next ≡ (see m j).next
  next-same j = go (either (eqb j tk))
    where
      go : (eqb j tk ≡ true) ⊎ (eqb j tk ≡ false) → (see tm j).next ≡ (see m j).next
      go (inl e) =
          ap (λ (i : ℕ). (see tm i).next) (eqb-true j tk e) ∙ ap (λ (n : Node). n.next) at-node
          ∙ ap (λ (i : ℕ). (see m i).next) (sym (eqb-true j tk e))
      go (inr e) = ap (λ (n : Node). n.next) (see-other m tk tn j (eqb-false j tk e))

  tnode : (x : List ℕ) → Mem x ps → (x ≡ p) ⊎ (x ≡ p → ⊥) → NodeIs ps J tm x
  tnode x mx (inr ne) = node_cast refl refl (sym (rest x ne)) refl
      (node_alike m tm (number ps x) (kids ps x) (I x) (final x)
      (alike_same (see-other m tk tn (number ps x) (λ e. ne (number-inj ps mx mp e))))
      (λ c mc. next-same c) (G.tree.node x mx))
  tnode x mx (inl e) = subst (NodeIs ps J tm) (sym e) record {
    chain = subst (λ (h : ℕ). Chain (λ c. (see tm c).next) h (kids ps p)) (sym (ap (λ (n : Node). n.head) at-node))
        (chain_frame (λ c. (see m c).next) (λ c. (see tm c).next) (kids ps p) (see m tk).head (λ c mc. next-same c)
        (G.tree.node p mp).chain);
    count = ap (λ (n : Node). n.count) at-node ∙ (G.tree.node p mp).count;
    term = ap (λ (n : Node). n.term) at-node ∙ sym is;
    label = ap (λ (n : Node). n.label) at-node ∙ (G.tree.node p mp).label;
  }

  tlast : (x : List ℕ) → Mem x ps → (x ≡ p) ⊎ (x ≡ p → ⊥) → (see tm (number ps x)).tail ≡ final (kids ps x)
  tlast x mx (inl e) =
      ap (λ (z : List ℕ). (see tm (number ps z)).tail) e ∙ ap (λ (n : Node). n.tail) at-node ∙ G.last p mp
      ∙ ap (λ (z : List ℕ). final (kids ps z)) (sym e)
  tlast x mx (inr ne) =
      ap (λ (n : Node). n.tail) (see-other m tk tn (number ps x) (λ e. ne (number-inj ps mx mp e))) ∙ G.last x mx

  pub id-keeps : Growing ps J rs tm
  id-keeps = record {
    tree = record {
      fresh = G.tree.fresh;
      long = G.tree.long;
      closed = G.tree.closed;
      byte = G.tree.byte;
      node = λ x mx. tnode x mx (equal x p);
    };
    root = G.root;
    last = λ x mx. tlast x mx (equal x p);
    none = λ x h n. rest x (λ e. n (mem-cast e mp)) ∙ G.none x h n;
  }
