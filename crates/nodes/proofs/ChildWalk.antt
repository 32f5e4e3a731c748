-- The steps of a walk over the children of a node, and what it gives where they hang together. Assumes nothing.
use Rattle.std.proofs.Common.{◌≡◌, ℕ, zero, suc, ◌-◌, ◌<◌, ◌≤◌, Bool, true, false, cond, eqb, leb, List, [], ◌∷◌, map, length}
use Rattle.std.proofs.Common.{Option, Some, None, refl, ap, ◌∙◌, arith, ne_eqb}
use Rattle.std.proofs.Common.{◌⊎◌, inl, inr, eqb-true, leb-false, leb-true, take, length-take-le, get_or-take}
use Rattle.std.proofs.lemmas.Bool.{lt-leb}
use mathlib.Core.List.{Memᴰ as Mem}
use mathlib.Core.List.Memᴰ.{head as here, tail as there}
use Rattle.std.specs.Prelude.{option_map}
use Rattle.std.specs.Option.{option_map_or}
use Rattle.std.specs.List.{find as first}
use Rattle.laws.specs.Tests.{no_case}
use Rattle.nodes.specs.Insertion.{find, linked}
use Rattle.nodes.specs.Links.{link, children_from}
use Rattle.nodes.specs.Run.{Nodes, blank, see}
use Rattle.nodes.specs.Stands.{Chain}
use Rattle.nodes.specs.declared.Node.{Node}

pub link-to : (c made : ℕ) → 1 ≤ c → c < made → link c made ≡ Some c
unfolding link
link-to c made a b = no_case _ _ (ne_eqb c 0 (λ z. omega arith)) ∙ no_case _ _ (lt-leb made c b)

pub link-none : (c made : ℕ) → link c made ≡ None → (c ≡ 0) ⊎ (made ≤ c)
unfolding link
link-none c made = go (eqb c 0) (leb made c) refl refl
  where
    go : (d e : Bool) → eqb c 0 ≡ d → leb made c ≡ e → ◌≡◌ {A = Option ℕ} (cond d None (cond e None (Some c))) None → (c ≡ 0) ⊎ (made ≤ c)
    go true e z h q = inl (eqb-true c 0 z)
    go false true z h q = inr (leb-true made c h)
    go false false z h q = cc

module _ (M : ℕ → Node) (made : ℕ) where
  pub walk_zero : (f c : ℕ) → f ≡ 0 → children_from M made f c ≡ []
  unfolding children_from
  walk_zero f c e = ap (λ (k : ℕ). children_from M made k c) e

  pub walk_end : (f c : ℕ) → link c made ≡ None → children_from M made f c ≡ []
  unfolding children_from
  walk_end zero c e = refl
  walk_end (suc f) c e = ap (λ (o : Option ℕ). option_map_or (λ i. (i, M i) ∷ children_from M made f (M i).next) o []) e

  pub walk_on : (f c i : ℕ) → 0 < f → link c made ≡ Some i
      → children_from M made f c ≡ (i, M i) ∷ children_from M made (f - 1) (M i).next
  unfolding children_from
  walk_on zero c i p e = absurd (omega arith)
  walk_on (suc f) c i p e = let q : suc f - 1 ≡ f = omega arith in
      rw q (ap (λ (o : Option ℕ). option_map_or (λ j. (j, M j) ∷ children_from M made f (M j).next) o []) e)

  pub walk_few : (f c : ℕ) → length (children_from M made f c) ≤ f
  unfolding children_from
  walk_few zero c = omega arith
  walk_few (suc f) c = go (λ i. walk_few f (M i).next) (link c made)
    where
      go : ((i : ℕ) → length (children_from M made f (M i).next) ≤ f) → (o : Option ℕ)
          → length (option_map_or (λ i. (i, M i) ∷ children_from M made f (M i).next) o []) ≤ suc f
      go r None = omega arith
      go r (Some i) = let few = r i in omega arith

  -- the nodes past those made are not read
  pub walk_same : (M' : ℕ → Node) (f c : ℕ) → ((i : ℕ) → i < made → M' i ≡ M i) → children_from M' made f c ≡ children_from M made f c
  unfolding children_from link
  walk_same M' zero c h = refl
  walk_same M' (suc f) c h = go (eqb c 0) (leb made c) refl (walk_same M' f (M c).next h)
    where
      go : (d e : Bool) → leb made c ≡ e → children_from M' made f (M c).next ≡ children_from M made f (M c).next
          → option_map_or (λ i. (i, M' i) ∷ children_from M' made f (M' i).next) (cond d None (cond e None (Some c))) []
          ≡ option_map_or (λ i. (i, M i) ∷ children_from M made f (M i).next) (cond d None (cond e None (Some c))) []
      go true e q r = refl
      go false true q r = refl
      go false false q r =
          ap (λ (n : Node). (c, n) ∷ children_from M' made f n.next) (h c (leb-false made c q))
          ∙ ap (λ (l : List (ℕ × Node)). (c, M c) ∷ l) r

  -- the first with the label b
  pub walk_find : (b f c : ℕ)
      → linked (find M made b f c) ≡ option_map (λ x. x.0) (first (λ x. eqb x.1.label b) (children_from M made f c))
  unfolding children_from find link
  walk_find b zero c = refl
  walk_find b (suc f) c = go (eqb c 0) (leb made c) refl (walk_find b f (M c).next)
    where
      here-or : (g : Bool) → eqb c 0 ≡ false
          → linked (find M made b f (M c).next) ≡ option_map (λ x. x.0) (first (λ x. eqb x.1.label b) (children_from M made f (M c).next))
          → linked (cond g c (find M made b f (M c).next))
          ≡ option_map (λ x. x.0) (cond g (Some (c, M c)) (first (λ x. eqb x.1.label b) (children_from M made f (M c).next)))
      here-or true z r = no_case _ _ z
      here-or false z r = r

      go : (d e : Bool) → eqb c 0 ≡ d
          → linked (find M made b f (M c).next) ≡ option_map (λ x. x.0) (first (λ x. eqb x.1.label b) (children_from M made f (M c).next))
          → linked (cond d 0 (cond e 0 (cond (eqb (M c).label b) c (find M made b f (M c).next))))
          ≡ option_map (λ x. x.0) (first (λ x. eqb x.1.label b)
          (option_map_or (λ i. (i, M i) ∷ children_from M made f (M i).next) (cond d None (cond e None (Some c))) []))
      go true e z r = refl
      go false true z r = refl
      go false false z r = here-or (eqb (M c).label b) z r

  -- the chain's nodes, by its numbers
  pub walk_chain : (l : List ℕ) (f h : ℕ) → length l ≤ f → ((c : ℕ) → Mem c l → c < made) → Chain (λ c. (M c).next) h l
      → children_from M made f h ≡ map (λ c. (c, M c)) l
  unfolding link
  walk_chain [] f h n s k = ap (children_from M made f) k ∙ walk_end f 0 refl
  walk_chain (c ∷ l) f h n s k =
      ap (children_from M made f) k.0
      ∙ walk_on f c c (omega arith) (link-to c made k.1 (s c (here refl)))
      ∙ ap (λ (r : List (ℕ × Node)). (c, M c) ∷ r) (walk_chain l (f - 1) (M c).next (omega arith) (λ x m. s x (there m)) k.2)

-- a walk over the nodes that are made alone
pub walk_made : (m : Nodes) (made f c : ℕ) → made ≤ length m
    → children_from (see (take made m)) (length (take made m)) f c ≡ children_from (see m) made f c
unfolding see
walk_made m made f c h =
    ap (λ (k : ℕ). children_from (see (take made m)) k f c) (length-take-le made m h)
    ∙ walk_same (see m) made (see (take made m)) f c (λ i l. get_or-take made m i blank l)
