-- Chains of links, numbers of nodes, and what a search along a chain finds. For the proofs. Assumes nothing.
use Rattle.std.proofs.Common.{◌≡◌, ℕ, zero, suc, ◌-◌, ◌<◌, ◌≤◌, true, false, cond, eqb, ◌⊎◌, List, [], ◌∷◌, ◌++◌, map, length, get_or}
use Rattle.std.proofs.Common.{sym, refl, ap, ap₂, ◌∙◌, subst, inl, inr, arith, eqb-true}
use mathlib.Core.List.Memᴰ.{head as here}
use mathlib.Core.List.Memᴰ.{tail as there}
use mathlib.Core.List.{Memᴰ as Mem}
use mathlib.Core.List.Memᴰ.{append_cases}
use mathlib.Core.List.Memᴰ.{cases_cons}
use mathlib.Core.List.Memᴰ.{not-nil}
use mathlib.Core.List.Memᴰ.{append_left as mem-left}
use mathlib.Core.List.Memᴰ.{append_right as mem-right}
use mathlib.Core.List.Memᴰ.{eq_of_singleton as only}
use mathlib.Core.List.Memᴰ.{cast as mem-cast}
use mathlib.Core.List.Memᴰ.{map as mem-map}
use mathlib.Core.List.Memᴰ.{of_map}
use Rattle.std.proofs.lemmas.List.{length-map}
use borrow.Author.Tests.{eqb-false}
use Rattle.spec.specs.Lists.{same, has, Bytes}
use Rattle.spec.specs.Trie.{labels}
use Rattle.laws.specs.Tests.{either, clash, no_true, same-eq, same_refl, has-mem, mem_has, yes_case, no_case}
use Rattle.laws.specs.Nodes.{label-node, node_label, labels-short}
use Rattle.laws.specs.Numbered.{number, place_lt, place_stays, place_new, Fresh, labels-fresh, pigeon}
use Rattle.laws.specs.Chain.{kids, seek, seek_hit, seek-miss}
use Rattle.nodes.specs.Run.{Nodes, see}
use Rattle.nodes.specs.Insertion.{find}
use Rattle.nodes.proofs.InsertionCases.{find-end, find-here, find-on}
use Rattle.nodes.specs.Stands.{final, Chain, num, Tree}
use Rattle.nodes.specs.declared.Node.{Node}

-- ---- lists

pub final-snoc : (p : List ℕ) (b : ℕ) → final (p ++ (b ∷ [])) ≡ b
unfolding final
final-snoc [] b = refl
final-snoc (x ∷ []) b = refl
final-snoc (x ∷ y ∷ p) b = final-snoc (y ∷ p) b

-- a list is empty, or something before its last
pub snoc_view : (l : List ℕ) → (l ≡ []) ⊎ ((i : List ℕ) × (l ≡ i ++ (final l ∷ [])))
unfolding final
snoc_view [] = inl refl
snoc_view (x ∷ []) = inr ([], refl)
snoc_view (x ∷ y ∷ l) = go (snoc_view (y ∷ l))
  where
    go : (y ∷ l ≡ []) ⊎ ((i : List ℕ) × (y ∷ l ≡ i ++ (final (y ∷ l) ∷ [])))
        → (x ∷ y ∷ l ≡ []) ⊎ ((i : List ℕ) × (x ∷ y ∷ l ≡ i ++ (final (y ∷ l) ∷ [])))
    go (inl e) = let z : ◌≡◌ {A = ℕ} 0 1 = cc in absurd (omega arith)
    go (inr r) = inr (x ∷ r.0, ap (λ (k : List ℕ). x ∷ k) r.1)

pub map_same : {A B : Type 0} (f g : A → B) (l : List A) → ((x : A) → Mem x l → f x ≡ g x) → map f l ≡ map g l
map_same f g [] h = refl
map_same {B = B} f g (x ∷ l) h = ap₂ (λ (y : B) (r : List B). y ∷ r) (h x (here refl)) (map_same f g l (λ y m. h y (there m)))

pub no_mem : {A : Type 0} (l : List A) → ((x : A) → Mem x l → ⊥) → l ≡ []
no_mem [] h = refl
no_mem (x ∷ l) h = absurd (h x (here refl))

pub snoc_mem : {A : Type 0} (ps : List A) {q x : A} → Mem x (ps ++ (q ∷ [])) → Mem x ps ⊎ (x ≡ q)
snoc_mem {A} ps {q} {x} m = go (append_cases ps m)
  where
    go : Mem x ps ⊎ Mem x (q ∷ []) → Mem x ps ⊎ (x ≡ q)
    go (inl n) = inl n
    go (inr n) = inr (only n)

pub fresh-last : (l : List ℕ) (t x : ℕ) → Fresh (l ++ (t ∷ [])) → Mem x l → x ≡ t → ⊥
fresh-last [] t x f m e = not-nil m
fresh-last (y ∷ l) t x f m e = go (cases_cons m) (λ n. fresh-last l t x f.1 n e)
  where
    go : (x ≡ y) ⊎ Mem x l → (Mem x l → ⊥) → ⊥
    go (inl q) r = f.0 (mem-right l (here (sym q ∙ e)))
    go (inr n) r = r n

-- ---- chains

-- links outside the chain may change
pub chain_frame : (nx nx' : ℕ → ℕ) (l : List ℕ) (h : ℕ) → ((c : ℕ) → Mem c l → nx' c ≡ nx c) → Chain nx h l → Chain nx' h l
chain_frame nx nx' [] h f k = k
chain_frame nx nx' (c ∷ cs) h f k = (
  k.0,
  k.1,
  subst (λ (z : ℕ). Chain nx' z cs) (sym (f c (here refl))) (chain_frame nx nx' cs (nx c) (λ x m. f x (there m)) k.2),
)

-- the last link t leads on to another chain
pub chain_join : (nx nx' : ℕ → ℕ) (l : List ℕ) (h t : ℕ) (r : List ℕ) → ((x : ℕ) → Mem x l → nx' x ≡ nx x) → Chain nx' (nx' t) r
    → Chain nx h (l ++ (t ∷ [])) → Chain nx' h ((l ++ (t ∷ [])) ++ r)
chain_join nx nx' [] h t r f k c = (c.0, c.1, k)
chain_join nx nx' (x ∷ l) h t r f k c = (
  c.0,
  c.1,
  subst (λ (y : ℕ). Chain nx' y ((l ++ (t ∷ [])) ++ r)) (sym (f x (here refl)))
      (chain_join nx nx' l (nx x) t r (λ y m. f y (there m)) k c.2),
)

-- a chain of something does not begin with 0
pub chain_head : (nx : ℕ → ℕ) (l : List ℕ) (h t : ℕ) → Chain nx h (l ++ (t ∷ [])) → h ≡ 0 → ⊥
chain_head nx [] h t k e = let a = k.0 in let b = k.1 in omega arith
chain_head nx (x ∷ l) h t k e = let a = k.0 in let b = k.1 in omega arith

-- ---- the loop of a search finds what `seek` finds

pub find-seek : (M : ℕ → Node) (made b f h : ℕ) (l : List ℕ) → length l ≤ f → ((c : ℕ) → Mem c l → c < made)
    → Chain (λ c. (M c).next) h l → find M made b f h ≡ seek (λ c. (M c).label) b l
unfolding seek
find-seek M made b f h [] n s k = find-end M made b f h k
find-seek M made b zero h (c ∷ cs) n s k = absurd (omega arith)
find-seek M made b (suc f) h (c ∷ cs) n s k =
    ap (find M made b (suc f)) k.0
    ∙ go (either (eqb (M c).label b)) (find-seek M made b f (M c).next cs (omega arith) (λ x m. s x (there m)) k.2)
  where
    pos : 1 ≤ c
    pos = k.1

    lt : c < made
    lt = s c (here refl)

    go : (eqb (M c).label b ≡ true) ⊎ (eqb (M c).label b ≡ false) → find M made b f (M c).next ≡ seek (λ x. (M x).label) b cs
        → find M made b (suc f) c ≡ cond (eqb (M c).label b) c (seek (λ x. (M x).label) b cs)
    go (inl e) r =
        find-here M made b (suc f) c (M c) (omega arith) (λ z. omega (arith, pos)) lt refl (eqb-true (M c).label b e)
        ∙ sym (yes_case _ _ e)
    go (inr e) r =
        let q : suc f - 1 ≡ f = omega arith in
        find-on M made b (suc f) c (M c) (omega arith) (λ z. omega (arith, pos)) lt refl (eqb-false (M c).label b e)
        ∙ ap (λ (g : ℕ). find M made b g (M c).next) q ∙ r ∙ sym (no_case _ _ e)

-- ---- numbers

pub member : (ps : List (List ℕ)) (p : List ℕ) → Mem p ps ⊎ (Mem p ps → ⊥)
member ps p = go (either (has ps p))
  where
    go : (has ps p ≡ true) ⊎ (has ps p ≡ false) → Mem p ps ⊎ (Mem p ps → ⊥)
    go (inl e) = inl (has-mem ps p e)
    go (inr e) = inr (λ m. clash (mem_has m) e)

pub equal : (p q : List ℕ) → (p ≡ q) ⊎ (p ≡ q → ⊥)
equal p q = go (either (same p q))
  where
    go : (same p q ≡ true) ⊎ (same p q ≡ false) → (p ≡ q) ⊎ (p ≡ q → ⊥)
    go (inl e) = inl (same-eq p q e)
    go (inr e) = inr (λ r. clash (subst (λ (z : List ℕ). same p z ≡ true) r (same_refl p)) e)

pub num-in : {ps : List (List ℕ)} {p : List ℕ} → Mem p ps → num ps p ≡ number ps p
unfolding num
num-in m = yes_case _ _ (mem_has m)

pub num-out : (ps : List (List ℕ)) (p : List ℕ) → (Mem p ps → ⊥) → num ps p ≡ 0
unfolding num
num-out ps p h = no_case _ _ (no_true (has ps p) (λ e. h (has-mem ps p e)))

pub number-pos : (ps : List (List ℕ)) (p : List ℕ) → 1 ≤ number ps p
unfolding number
number-pos ps p = omega arith

pub number_lt : {ps : List (List ℕ)} {p : List ℕ} → Mem p ps → number ps p < suc (length ps)
unfolding number
number_lt m = let h = place_lt m in omega arith

pub number-stays : {ps : List (List ℕ)} {p : List ℕ} (r : List (List ℕ)) → Mem p ps → number (ps ++ r) p ≡ number ps p
unfolding number
number-stays r m = ap suc (place_stays r m)

pub number-new : (ps : List (List ℕ)) (p : List ℕ) → (Mem p ps → ⊥) → number (ps ++ (p ∷ [])) p ≡ suc (length ps)
unfolding number
number-new ps p h = ap suc (place_new ps p h)

pub num-other : (ps : List (List ℕ)) (q x : List ℕ) → (x ≡ q → ⊥) → num (ps ++ (q ∷ [])) x ≡ num ps x
num-other ps q x h = go (member ps x)
  where
    go : Mem x ps ⊎ (Mem x ps → ⊥) → num (ps ++ (q ∷ [])) x ≡ num ps x
    go (inl m) = num-in (mem-left (q ∷ []) m) ∙ number-stays (q ∷ []) m ∙ sym (num-in m)
    go (inr n) = num-out (ps ++ (q ∷ [])) x (λ m. at (snoc_mem ps m)) ∙ sym (num-out ps x n)
      where
        at : Mem x ps ⊎ (x ≡ q) → ⊥
        at (inl m) = n m
        at (inr e) = h e

-- ---- children

-- a child's number is that of p and one byte more
pub kid_of : (ps : List (List ℕ)) (p : List ℕ) {c : ℕ} → Mem c (kids ps p)
    → (l : ℕ) × Mem (p ++ (l ∷ [])) ps × (number ps (p ++ (l ∷ [])) ≡ c)
unfolding kids
kid_of ps p m =
    let r = of_map (λ (l : ℕ). number ps (p ++ (l ∷ []))) (labels ps p) m in
    (r.0, label-node ps p r.0 r.1, r.2)

pub of_kid : (ps : List (List ℕ)) (p : List ℕ) (l : ℕ) → Mem (p ++ (l ∷ [])) ps → Mem (number ps (p ++ (l ∷ []))) (kids ps p)
unfolding kids
of_kid ps p l m = mem-map (λ (k : ℕ). number ps (p ++ (k ∷ []))) (node_label ps p l m)

pub kid_lt : (ps : List (List ℕ)) (p : List ℕ) {c : ℕ} → Mem c (kids ps p) → c < suc (length ps)
kid_lt ps p {c} m = let r = kid_of ps p m in subst (λ (x : ℕ). x < suc (length ps)) r.2 (number_lt r.1)

pub kids-length : (ps : List (List ℕ)) (p : List ℕ) → length (kids ps p) ≡ length (labels ps p)
unfolding kids
kids-length ps p = length-map (labels ps p) (λ (l : ℕ). number ps (p ++ (l ∷ [])))

pub kids-short : (ps : List (List ℕ)) (p : List ℕ) → length (kids ps p) ≤ length ps
kids-short ps p = let a = kids-length ps p in let b = labels-short ps p in omega arith

module _ {ps : List (List ℕ)} {I : List ℕ → ℕ} {m : Nodes} (T : Tree ps I m) where
  -- every label is a byte, so that there are at most 256 of them
  pub label-byte : (p : List ℕ) (l : ℕ) → Mem l (labels ps p) → l < 256
  label-byte p l k = subst (λ (x : ℕ). x < 256) (final-snoc p l) (T.byte (p ++ (l ∷ [])) (label-node ps p l k))

  pub labels-few : (p : List ℕ) → length (labels ps p) ≤ 256
  labels-few p = pigeon 256 (labels ps p) (labels-fresh ps p T.fresh) (λ l k. label-byte p l k)

  kid-label : (p : List ℕ) {c : ℕ} (k : Mem c (kids ps p)) → (see m c).label ≡ (kid_of ps p k).0
  kid-label p {c} k = let r = kid_of ps p k in
      ap (λ (x : ℕ). (see m x).label) (sym r.2) ∙ (T.node (p ++ (r.0 ∷ [])) r.1).label ∙ final-snoc p r.0

  -- a search for b below p finds the node of p and b
  pub find-child : (p : List ℕ) (b : ℕ) → Mem p ps
      → find (see m) (suc (length ps)) b (suc (length ps)) (see m (number ps p)).head ≡ num ps (p ++ (b ∷ []))
  find-child p b mp =
      find-seek (see m) (suc (length ps)) b (suc (length ps)) (see m (number ps p)).head (kids ps p)
      (let s = kids-short ps p in omega arith)
      (λ c k. kid_lt ps p k) (T.node p mp).chain
      ∙ go (member ps (p ++ (b ∷ [])))
    where
      inj : (x y : ℕ) → Mem x (kids ps p) → Mem y (kids ps p) → (see m x).label ≡ (see m y).label → x ≡ y
      inj x y mx my e =
          sym (kid_of ps p mx).2 ∙ ap (λ (l : ℕ). number ps (p ++ (l ∷ []))) (sym (kid-label p mx) ∙ e ∙ kid-label p my)
          ∙ (kid_of ps p my).2

      go : Mem (p ++ (b ∷ [])) ps ⊎ (Mem (p ++ (b ∷ [])) ps → ⊥) → seek (λ c. (see m c).label) b (kids ps p) ≡ num ps (p ++ (b ∷ []))
      go (inl k) =
          seek_hit (λ c. (see m c).label) b (of_kid ps p b k) ((T.node (p ++ (b ∷ [])) k).label ∙ final-snoc p b) inj ∙ sym (num-in k)
      go (inr n) =
          seek-miss (λ c. (see m c).label) b (kids ps p)
          (λ c k e. n (mem-cast (ap (λ (l : ℕ). p ++ (l ∷ [])) (sym e ∙ kid-label p k)) (kid_of ps p k).1))
          ∙ sym (num-out ps (p ++ (b ∷ [])) n)

  -- what is no node has no children
  pub no_kids : (q : List ℕ) → 2 ≤ length q → (Mem q ps → ⊥) → kids ps q ≡ []
  no_kids q h n = no_mem (kids ps q) (λ c k. let r = kid_of ps q k in n (T.closed q r.0 h r.1))

-- a list of bytes, by its elements
pub bytes_of : (s : List ℕ) → ((k : ℕ) → get_or s k 0 < 256) → Bytes s
bytes_of [] h = tt
bytes_of (b ∷ s) h = (h 0, bytes_of s (λ k. h (suc k)))
