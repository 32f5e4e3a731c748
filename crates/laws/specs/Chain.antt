-- The numbers of a node's children, what a new node changes in them, and the search for a child by its label. Assumes nothing.
use Rattle.std.specs.Prelude.{◌≡◌, refl, Bool, cond, eqb, length, get_or}
use Rattle.std.proofs.Common.{sym, ◌∙◌, inl, inr, arith, eqb-true, eq-eqb}
use Rattle.std.proofs.Math.Path.{ap, ap₂}
use mathlib.Core.List.{List, [], ◌∷◌, ◌++◌, map, append-nil, append_cancel_left, head-eq_of_cons-eq, Memᴰ as Mem}
use mathlib.Core.List.Memᴰ.{head as here}
use mathlib.Core.List.Memᴰ.{of_map as mem-of-map}
use mathlib.Core.List.Memᴰ.{tail as there}
use Prim.Native.Nat.{ℕ, suc}
use Rattle.spec.specs.Trie.{labels}
use Rattle.laws.specs.Tests.{Tested, either, no_true}
use Rattle.laws.specs.Nodes.{label-node}
use Rattle.laws.specs.Numbered.{place_of, number, at_place, place_stays, place_new, Fresh, fresh-map, labels-fresh}
use Rattle.laws.specs.OneMore.{labels-snoc, label-self, snoc_inj, label-other}

-- the numbers of p's children, in order
unfoldable pub kids : List (List ℕ) → List ℕ → List ℕ
unfolding labels number
kids ps p = map (λ l. number ps (p ++ (l ∷ []))) (labels ps p)

pub number-inj : (ps : List (List ℕ)) {p q : List ℕ} → Mem p ps → Mem q ps → number ps p ≡ number ps q → p ≡ q
unfolding number
number-inj ps {p} {q} m n e =
    let k : place_of ps p ≡ place_of ps q = omega arith in sym (at_place m) ∙ ap (λ (i : ℕ). get_or ps i []) k ∙ at_place n

map-append : {A B : Type 0} (f : A → B) (s t : List A) → map f (s ++ t) ≡ map f s ++ map f t
map-append f [] t = refl
map-append f (x ∷ s) t = ap (λ (l : List _). f x ∷ l) (map-append f s t)

map_same : {A B : Type 0} (f g : A → B) (l : List A) → ((x : A) → Mem x l → f x ≡ g x) → map f l ≡ map g l
map_same f g [] h = refl
map_same {A} {B} f g (x ∷ l) h = ap₂ (λ (y : B) (m : List B). y ∷ m) (h x (here refl)) (map_same f g l (λ y m. h y (there m)))

module _ (ps : List (List ℕ)) (q : List ℕ) (b : ℕ) (new : Mem (q ++ (b ∷ [])) ps → ⊥) where
  stays : (p : List ℕ) → map (λ l. number (ps ++ ((q ++ (b ∷ [])) ∷ [])) (p ++ (l ∷ []))) (labels ps p) ≡ kids ps p
  unfolding kids
  stays p = map_same _ _ (labels ps p) (λ l m. ap suc (place_stays ((q ++ (b ∷ [])) ∷ []) (label-node ps p l m)))

  pub kids-self : kids (ps ++ ((q ++ (b ∷ [])) ∷ [])) q ≡ kids ps q ++ (suc (length ps) ∷ [])
  unfolding kids
  kids-self =
      ap (map (λ l. number (ps ++ ((q ++ (b ∷ [])) ∷ [])) (q ++ (l ∷ []))))
      (labels-snoc ps (q ++ (b ∷ [])) q ∙ ap (λ (l : List ℕ). labels ps q ++ l) (label-self q b))
      ∙ map-append _ (labels ps q) (b ∷ [])
      ∙ ap₂ (λ (l : List ℕ) (n : ℕ). l ++ (suc n ∷ [])) (stays q) (place_new ps (q ++ (b ∷ [])) new)

  pub kids-other : (p : List ℕ) → (p ≡ q → ⊥) → kids (ps ++ ((q ++ (b ∷ [])) ∷ [])) p ≡ kids ps p
  unfolding kids
  kids-other p h =
      ap (map (λ l. number (ps ++ ((q ++ (b ∷ [])) ∷ [])) (p ++ (l ∷ []))))
      (labels-snoc ps (q ++ (b ∷ [])) p ∙ ap (λ (l : List ℕ). labels ps p ++ l) (label-other p q b h) ∙ append-nil (labels ps p))
      ∙ stays p

-- a child has one parent
pub one_parent : (ps : List (List ℕ)) (p q : List ℕ) (c : ℕ) → Mem c (kids ps p) → Mem c (kids ps q) → p ≡ q
unfolding kids
one_parent ps p q c m n =
    let a = mem-of-map (λ (l : ℕ). number ps (p ++ (l ∷ []))) (labels ps p) m in
    let b = mem-of-map (λ (l : ℕ). number ps (q ++ (l ∷ []))) (labels ps q) n in
    snoc_inj p q a.0 b.0 (number-inj ps (label-node ps p a.0 a.1) (label-node ps q b.0 b.1) (a.2 ∙ sym b.2))

last_inj : (p : List ℕ) (a b : ℕ) → p ++ (a ∷ []) ≡ p ++ (b ∷ []) → a ≡ b
last_inj p a b e = head-eq_of_cons-eq (append_cancel_left p (a ∷ []) (b ∷ []) e)

pub kids-fresh : (ps : List (List ℕ)) (p : List ℕ) → Fresh ps → Fresh (kids ps p)
unfolding kids
kids-fresh ps p f =
    fresh-map _ (labels ps p) (labels-fresh ps p f)
    (λ x y m n e. last_inj p x y (number-inj ps (label-node ps p x m) (label-node ps p y n) e))

-- ---- a child by its label

-- the first of cs with the label b, 0 if none has it
unfoldable pub seek : (ℕ → ℕ) → ℕ → List ℕ → ℕ
seek lab b [] = 0
seek lab b (c ∷ cs) = let r = seek lab b cs in cond (eqb (lab c) b) c r

pub seek_hit : (lab : ℕ → ℕ) (b : ℕ) {c : ℕ} {l : List ℕ} → Mem c l → lab c ≡ b → ((x y : ℕ) → Mem x l → Mem y l → lab x ≡ lab y → x ≡ y)
    → seek lab b l ≡ c
unfolding seek
seek_hit lab b {c} (here {x = y} {xs = l} e) h i =
    ap (λ (d : Bool). cond d y (seek lab b l)) (eq-eqb (lab y) b (ap lab (sym e) ∙ h)) ∙ sym e
seek_hit lab b {c} (there {x = y} {xs = l} m) h i = go (either (eqb (lab y) b)) (seek_hit lab b m h (λ u v p q. i u v (there p) (there q)))
  where
    go : Tested (eqb (lab y) b) → seek lab b l ≡ c → cond (eqb (lab y) b) y (seek lab b l) ≡ c
    go (inl e) r = ap (λ (d : Bool). cond d y (seek lab b l)) e ∙ i y c (here refl) (there m) (eqb-true (lab y) b e ∙ sym h)
    go (inr e) r = ap (λ (d : Bool). cond d y (seek lab b l)) e ∙ r

pub seek-miss : (lab : ℕ → ℕ) (b : ℕ) (l : List ℕ) → ((c : ℕ) → Mem c l → lab c ≡ b → ⊥) → seek lab b l ≡ 0
unfolding seek
seek-miss lab b [] h = refl
seek-miss lab b (c ∷ l) h =
    ap (λ (d : Bool). cond d c (seek lab b l)) (no_true (eqb (lab c) b) (λ e. h c (here refl) (eqb-true (lab c) b e)))
    ∙ seek-miss lab b l (λ x m. h x (there m))
