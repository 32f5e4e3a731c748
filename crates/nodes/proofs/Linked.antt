-- What a new child changes in a memory: the new node, its parent, and the last child's next. For the proofs. Assumes nothing.
use Rattle.std.proofs.Common.{◌≡◌, ℕ, ◌<◌, Bool, true, false, eqb, ◌⊎◌, length, sym, refl, ap, ◌∙◌, subst, inl, inr, arith, eqb-true}
use borrow.Author.Tests.{eqb-false}
use Rattle.nodes.specs.Run.{Nodes, room, see, set_node}
use Rattle.nodes.proofs.NodeRun.{length-set_node, see-same, see-other}
use Rattle.nodes.specs.Insertion.{leaf, grown, with_next, add_child}
use Rattle.nodes.proofs.InsertionCases.{last_none, last_next}
use Rattle.nodes.specs.declared.Node.{Node}

-- the fields other than next
pub record Alike (a b : Node) : Type 0 where
  pub head : a.head ≡ b.head
  pub tail : a.tail ≡ b.tail
  pub term : a.term ≡ b.term
  pub count : a.count ≡ b.count
  pub label : a.label ≡ b.label

pub alike_same : {a b : Node} → a ≡ b → Alike a b
alike_same e = record {
  head = ap (λ (x : Node). x.head) e;
  tail = ap (λ (x : Node). x.tail) e;
  term = ap (λ (x : Node). x.term) e;
  count = ap (λ (x : Node). x.count) e;
  label = ap (λ (x : Node). x.label) e;
}

pub record Linked (m m' : Nodes) (made p b : ℕ) : Type 0 where
  pub new : see m' made ≡ leaf b
  pub par : see m' p ≡ grown (see m p) made
  pub oth : (j : ℕ) → (j ≡ made → ⊥) → (j ≡ p → ⊥) → Alike (see m' j) (see m j)
  pub nxt : (j : ℕ) → (j ≡ made → ⊥) → ((see m p).head ≡ 0) ⊎ (j ≡ (see m p).tail → ⊥) → (see m' j).next ≡ (see m j).next
  pub last : ((see m p).head ≡ 0 → ⊥) → (see m' (see m p).tail).next ≡ made

module _ (m : Nodes) (made p b : ℕ) (fit : made < room m) (hp : p < made) (hb : b < 256) where
  abbrev ma : Nodes
  ma = set_node m made (leaf b)

  len-a : length ma ≡ length m
  len-a = length-set_node m made (leaf b)

  at-made : see ma made ≡ leaf b
  at-made = see-same m made (leaf b) fit

  module _ (mb : Nodes) (lb : length mb ≡ length m) where
    abbrev m' : Nodes
    m' = set_node mb p (grown (see m p) made)

    at_p : see m' p ≡ grown (see m p) made
    at_p = see-same mb p (grown (see m p) made) (omega (arith, lb))

    off-p : (j : ℕ) → (j ≡ p → ⊥) → see m' j ≡ see mb j
    off-p j h = see-other mb p (grown (see m p) made) j h

  grown-next : (grown (see m p) made).next ≡ (see m p).next
  unfolding grown
  grown-next = refl

  pub linked-first : (see m p).head ≡ 0 → Linked m (add_child m made p b) made p b
  unfolding add_child
  linked-first z =
      subst (λ (x : Nodes). Linked m (set_node x p (grown (see m p) made)) made p b) (sym (last_none ma (see m p) made z))
      record {
        new = off-p ma len-a made (λ e. omega arith) ∙ at-made;
        par = at_p ma len-a;
        oth = λ j h k. alike_same (off-p ma len-a j k ∙ see-other m made (leaf b) j h);
        nxt = λ j h k. go j h (eqb j p) refl;
        last = λ n. absurd (n z);
      }
    where
      go : (j : ℕ) → (j ≡ made → ⊥) → (d : Bool) → eqb j p ≡ d → (see (m' ma len-a) j).next ≡ (see m j).next
      go j h true e =
          ap (λ (i : ℕ). (see (m' ma len-a) i).next) (eqb-true j p e) ∙ ap (λ (x : Node). x.next) (at_p ma len-a) ∙ grown-next
          ∙ ap (λ (i : ℕ). (see m i).next) (sym (eqb-true j p e))
      go j h false e = ap (λ (x : Node). x.next) (off-p ma len-a j (eqb-false j p e) ∙ see-other m made (leaf b) j h)

  module _ (ht : (see m p).tail < made) (tp : (see m p).tail ≡ p → ⊥) where
    abbrev t : ℕ
    t = (see m p).tail

    abbrev nt : Node
    nt = with_next (see ma t) made

    abbrev mb : Nodes
    mb = set_node ma t nt

    lb : length mb ≡ length m
    lb = length-set_node ma t nt ∙ len-a

    old-t : see ma t ≡ see m t
    old-t = see-other m made (leaf b) t (λ e. omega arith)

    at-t : see mb t ≡ nt
    at-t = see-same ma t nt (omega (arith, len-a))

    off-t : (j : ℕ) → (j ≡ t → ⊥) → see mb j ≡ see ma j
    off-t j h = see-other ma t nt j h

    oth-t : (j : ℕ) → (j ≡ made → ⊥) → (d : Bool) → eqb j t ≡ d → Alike (see mb j) (see m j)
    oth-t j h false e = alike_same (off-t j (eqb-false j t e) ∙ see-other m made (leaf b) j h)
    oth-t j h true e =
        subst (λ (i : ℕ). Alike (see mb i) (see m i)) (sym (eqb-true j t e))
        (subst (λ (x : Node). Alike x (see m t)) (sym at-t) (under (alike_same old-t)))
      where
        under : Alike (see ma t) (see m t) → Alike nt (see m t)
        under a = record { head = a.head; tail = a.tail; term = a.term; count = a.count; label = a.label }

    pub linked-more : ((see m p).head ≡ 0 → ⊥) → Linked m (add_child m made p b) made p b
    unfolding add_child
    linked-more z =
        subst (λ (x : Nodes). Linked m (set_node x p (grown (see m p) made)) made p b)
        (sym (last_next ma (see m p) made (see ma t) z ht refl))
        record {
          new = off-p mb lb made (λ e. omega arith) ∙ off-t made (λ e. omega arith) ∙ at-made;
          par = at_p mb lb;
          oth = λ j h k. subst (λ (x : Node). Alike x (see m j)) (sym (off-p mb lb j k)) (oth-t j h (eqb j t) refl);
          nxt = λ j h k. go j h (eqb j p) refl (not_t j k);
          last = λ n. ap (λ (x : Node). x.next) (off-p mb lb t tp ∙ at-t);
        }
      where
        not_t : (j : ℕ) → ((see m p).head ≡ 0) ⊎ (j ≡ (see m p).tail → ⊥) → j ≡ t → ⊥
        not_t j (inl y) = absurd (z y)
        not_t j (inr y) = y

        go : (j : ℕ) → (j ≡ made → ⊥) → (d : Bool) → eqb j p ≡ d → (j ≡ t → ⊥) → (see (m' mb lb) j).next ≡ (see m j).next
        go j h true e k =
            ap (λ (i : ℕ). (see (m' mb lb) i).next) (eqb-true j p e) ∙ ap (λ (x : Node). x.next) (at_p mb lb) ∙ grown-next
            ∙ ap (λ (i : ℕ). (see m i).next) (sym (eqb-true j p e))
        go j h false e k = ap (λ (x : Node). x.next) (off-p mb lb j (eqb-false j p e) ∙ off-t j k ∙ see-other m made (leaf b) j h)
