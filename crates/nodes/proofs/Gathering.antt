-- The labels that a walk along a chain of children gathers, turn by turn, and that they are the node's. Assumes nothing.
use Rattle.std.proofs.Common.{◌≡◌, ℕ, suc, ◌+◌, ◌<◌, ◌≤◌, List, [], ◌∷◌, ◌++◌, length}
use Rattle.std.proofs.Common.{take, drop, set, sym, refl, ap, ◌∙◌, subst, ap₂, append_assoc, append-nil, arith, take-append-drop}
use Rattle.std.proofs.Common.{length-take-le, drop-drop, take-suc-set, drop-set-lt}
use mathlib.Core.List.{Memᴰ as Mem}
use lib.Seq.{take-append_seam}
use Rattle.spec.specs.Trie.{labels}
use Rattle.laws.specs.Nodes.{label-node}
use Rattle.laws.specs.Numbered.{number}
use Rattle.laws.specs.Chain.{kids}
use Rattle.nodes.specs.Run.{Nodes, see}
use Rattle.nodes.specs.Stands.{Tree}
use Rattle.nodes.proofs.Chains.{map_same, final-snoc, kid_lt, kids-length, labels-few}
use Rattle.nodes.specs.declared.Node.{Node}
use Rattle.nodes.specs.Links.{children_from}
use Rattle.nodes.specs.Gather.{labels_in, labels_on, Gathered}
use Rattle.nodes.proofs.ChildWalk.{walk_few, walk_chain}
use Rattle.std.proofs.lemmas.Simd.{map-map}
use Rattle.std.proofs.lemmas.List.{map-id}

pub gathered_take : {ls out out' : List ℕ} {r : ℕ} → Gathered ls out out' r → take r out' ≡ ls
gathered_take {ls} {out} g = ap₂ take g.count g.cells ∙ take-append_seam ls (drop (length ls) out)

-- ---- turns

-- the labels of xs are still to come behind k of them
module _ (ls out₀ : List ℕ) where
  abbrev pub Partly : List ℕ → List (ℕ × Node) → ℕ → Type 0
  Partly out xs k = (k + length xs ≤ 256) × (take k out ++ labels_in xs ≡ ls) × (drop k out ≡ drop k out₀)

  pub partly-on : (out : List ℕ) {xs : List (ℕ × Node)} (ys : List (ℕ × Node)) (k c : ℕ) (n : Node) → k < length out
      → xs ≡ (c, n) ∷ ys → Partly out xs k
      → Partly (set out k n.label) ys (k + 1)
  partly-on out {xs} ys k c n ho e p =
      let q : k + 1 ≡ suc k = omega arith in
      let more = ap length e in (
        omega (arith, p.0),
        ap (λ (x : ℕ). take x (set out k n.label) ++ labels_in ys) q
            ∙ ap (λ (l : List ℕ). l ++ labels_in ys) (take-suc-set out k n.label ho)
            ∙ append_assoc (take k out) (n.label ∷ []) (labels_in ys)
            ∙ ap (λ (l : List (ℕ × Node)). take k out ++ labels_in l) (sym e) ∙ p.1,
        drop-set-lt (k + 1) out k n.label (omega arith) ∙ sym (drop-drop 1 k out) ∙ ap (drop 1) p.2 ∙ drop-drop 1 k out₀,
      )

  pub partly-all : (out : List ℕ) {xs : List (ℕ × Node)} (k : ℕ) → 256 ≤ length out → xs ≡ [] → Partly out xs k → Gathered ls out₀ out k
  partly-all out {xs} k len e p =
      let t : take k out ≡ ls =
      sym (append-nil (take k out)) ∙ ap (λ (l : List (ℕ × Node)). take k out ++ labels_in l) (sym e) ∙ p.1 in
      let n : k ≡ length ls = sym (length-take-le k out (omega (arith, p.0))) ∙ ap length t in
      let over = sym (take-append-drop k out) ∙ ap₂ ◌++◌ t (p.2 ∙ ap (λ (x : ℕ). drop x out₀) n) in
      record { count = n; cells = over; few = omega (arith, p.0) }

pub partly-start : (m : Nodes) (made node : ℕ) (out₀ : List ℕ) (n : Node) (xs : List (ℕ × Node)) → n ≡ see m node
    → xs ≡ children_from (see m) made 256 n.head → Partly (labels_on m made node) out₀ out₀ xs 0
unfolding labels_on
partly-start m made node out₀ n xs en ex =
    let few = walk_few (see m) made 256 n.head in
    let more = ap length ex in (
      omega arith,
      ap labels_in ex ∙ ap (λ (x : Node). labels_in (children_from (see m) made 256 x.head)) en,
      refl,
    )

-- ---- where the memory holds a tree

pub labels-are : {ps : List (List ℕ)} {I : List ℕ → ℕ} {m : Nodes} → Tree ps I m → (made node : ℕ) (p : List ℕ) → made ≡ suc (length ps)
    → Mem p ps → node ≡ number ps p → labels_on m made node ≡ labels ps p
unfolding labels_on kids
labels-are {ps} {I} {m} T made node p em mp en =
    ap₂ (λ (x y : ℕ). labels_in (children_from (see m) x 256 (see m y).head)) em en
    ∙ ap labels_in (walk_chain (see m) (suc (length ps)) (kids ps p) 256 (see m (number ps p)).head
    (let a = kids-length ps p in let b = labels-few T p in omega arith) (λ c mc. kid_lt ps p mc) (T.node p mp).chain)
    ∙ map-map (λ (x : ℕ × Node). x.1.label) (λ c. (c, see m c)) (kids ps p)
    ∙ map-map (λ c. (see m c).label) (λ l. number ps (p ++ (l ∷ []))) (labels ps p)
    ∙ map_same (λ l. (see m (number ps (p ++ (l ∷ [])))).label) (λ l. l) (labels ps p)
    (λ l ml. (T.node (p ++ (l ∷ [])) (label-node ps p l ml)).label ∙ final-snoc p l)
    ∙ map-id (labels ps p)

pub gathered_labels : (m : Nodes) (made node r : ℕ) (out out' : List ℕ) → Gathered (labels_on m made node) out out' r
    → (ps : List (List ℕ)) (I : List ℕ → ℕ) (p : List ℕ) → Tree ps I m → made ≡ suc (length ps) → Mem p ps → node ≡ number ps p
    → Gathered (labels ps p) out out' r
gathered_labels m made node r out out' g ps I p T em mp en =
    subst (λ (ls : List ℕ). Gathered ls out out' r) (labels-are T made node p em mp en) g
