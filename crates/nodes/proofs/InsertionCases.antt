-- One equation for each way a definition of Insertion can go, and what insertion keeps on any memory. For the proofs. Assumes nothing.
use Rattle.std.proofs.Common.{◌≡◌, ℕ, zero, suc, ◌+◌, ◌-◌, ◌*◌, ◌<◌, ◌≤◌, Bool, true, false, cond, eqb, leb, List, [], ◌∷◌, length}
use Rattle.std.proofs.Common.{get_or, drop, set, sym, refl, ap, ◌∙◌, subst, ap₂, arith, drop_of_length-le, drop-cons}
use Rattle.std.proofs.Common.{eq-eqb, ne_eqb, eqb-true, le-leb, leb-false, leb-true}
use borrow.Author.Tests.{eqb-false, lt-leb}
use Rattle.laws.specs.Tests.{yes_case, no_case}
use Rattle.nodes.specs.Run.{Nodes, see, set_node}
use Rattle.nodes.proofs.NodeRun.{length-set_node, set-over, set-swap, see-other}
use Rattle.nodes.specs.Insertion.{leaf, grown, with_next, last_child, with_term, find, child_of, link_last, add_child, State, state}
use Rattle.nodes.specs.Insertion.{child_made, descend_on, Rooted, rooted, root_made, linked, StepTo, Ended, ended, finish_on}
use Rattle.nodes.specs.Insertion.{after, insert_on}
use Rattle.nodes.specs.declared.Node.{Node}
use Rattle.nodes.specs.declared.Place.{Place}
use Rattle.std.specs.Prelude.{Some, None, Result, Ok, Err}
use Rattle.refusals.specs.declared.Refusal.TheVariants.{SeenBefore, NodesFull}
use Rattle.refusals.specs.declared.Refusal.{Refusal}

-- ---- what the code answers

pub linked-some : (k n : ℕ) → Some n ≡ linked k → (n ≡ k) × (k ≡ 0 → ⊥)
linked-some k n = go (eqb k 0) refl
  where
    go : (d : Bool) → eqb k 0 ≡ d → Some n ≡ cond d None (Some k) → (n ≡ k) × (k ≡ 0 → ⊥)
    go true e q = cc
    go false e q = (cc, eqb-false k 0 e)

pub linked-none : (k : ℕ) → None ≡ linked k → k ≡ 0
linked-none k = go (eqb k 0) refl
  where
    go : (d : Bool) → eqb k 0 ≡ d → None ≡ cond d None (Some k) → k ≡ 0
    go true e q = eqb-true k 0 e
    go false e q = cc

-- a step that comes to a place, and one for which there is no room
pub step_at : {s : State} {m : Nodes} {p : Place} → s ≡ state m p.node p.made → (p.node ≡ 0 → ⊥) → StepTo s m (Ok p)
step_at {s} {m} {p} e z = subst (λ (x : State). StepTo x m (Ok p)) (sym e)
    (record { mem = refl; place = sym (no_case _ _ (ne_eqb p.node 0 z)) })

pub step_full : {s : State} {m : Nodes} {k : ℕ} → s ≡ state m 0 k → StepTo s m (Err NodesFull)
step_full {s} {m} {k} e = subst (λ (x : State). StepTo x m (Err NodesFull)) (sym e) (record { mem = refl; place = refl })

module _ {s : State} {m : Nodes} where
  pub step_ok : {p : Place} → StepTo s m (Ok p) → (state m p.node p.made ≡ s) × (p.node ≡ 0 → ⊥)
  step_ok {p = p} h = go (eqb s.node 0) refl h.place
    where
      go : (d : Bool) → eqb s.node 0 ≡ d → Ok p ≡ cond d (Err NodesFull) (Ok (record { node = s.node; made = s.made }))
          → (state m p.node p.made ≡ s) × (p.node ≡ 0 → ⊥)
      go true e q = cc
      go false e q =
          let is : p ≡ record { node = s.node; made = s.made } = cc in (
            ap₂ (λ (x : Nodes) (y : Place). state x y.node y.made) h.mem is,
            λ z. eqb-false s.node 0 e (sym (ap (λ (y : Place). y.node) is) ∙ z),
          )

  pub step_err : {e : Refusal} → StepTo s m (Err e) → (s.node ≡ 0) × (e ≡ NodesFull)
  step_err {e = r} h = go (eqb s.node 0) refl h.place
    where
      there : Place
      there = record { node = s.node; made = s.made }

      go : (d : Bool) → eqb s.node 0 ≡ d → ◌≡◌ {A = Result Place Refusal} (Err r) (cond d (Err NodesFull) (Ok there))
          → (s.node ≡ 0) × (r ≡ NodesFull)
      go true e q = (eqb-true s.node 0 e, cc)
      go false e q = cc

-- ---- find

module _ (M : ℕ → Node) (made b : ℕ) where
  suc-of : (f : ℕ) → 0 < f → f ≡ suc (f - 1)
  suc-of f h = omega arith

  pub find-end : (f c : ℕ) → c ≡ 0 → find M made b f c ≡ 0
  unfolding find
  find-end zero c e = refl
  find-end (suc f) c e = yes_case _ _ (eq-eqb c 0 e)

  find-suc : (f c : ℕ) → (c ≡ 0 → ⊥) → c < made → find M made b (suc f) c ≡ cond (eqb (M c).label b) c (find M made b f (M c).next)
  unfolding find
  find-suc f c z h = no_case _ _ (ne_eqb c 0 z) ∙ no_case _ _ (lt-leb made c h)

  pub find-here : (f c : ℕ) (n : Node) → 0 < f → (c ≡ 0 → ⊥) → c < made → n ≡ M c → n.label ≡ b → find M made b f c ≡ c
  find-here f c n p z h e l =
      ap (λ (g : ℕ). find M made b g c) (suc-of f p) ∙ find-suc (f - 1) c z h
      ∙ yes_case _ _ (eq-eqb (M c).label b (ap (λ (x : Node). x.label) (sym e) ∙ l))

  pub find-on : (f c : ℕ) (n : Node) → 0 < f → (c ≡ 0 → ⊥) → c < made → n ≡ M c → (n.label ≡ b → ⊥)
      → find M made b f c ≡ find M made b (f - 1) n.next
  find-on f c n p z h e l =
      ap (λ (g : ℕ). find M made b g c) (suc-of f p) ∙ find-suc (f - 1) c z h
      ∙ no_case _ _ (ne_eqb (M c).label b (λ q. l (ap (λ (x : Node). x.label) e ∙ q)))
      ∙ ap (λ (x : Node). find M made b (f - 1) x.next) (sym e)

  pub find-lt : (f c : ℕ) → 1 ≤ made → find M made b f c < made
  unfolding find
  find-lt zero c h = h
  find-lt (suc f) c h = go (eqb c 0) (leb made c) refl (eqb (M c).label b) (find-lt f (M c).next h)
    where
      go : (d e : Bool) → leb made c ≡ e → (g : Bool) → find M made b f (M c).next < made
          → cond d 0 (cond e 0 (cond g c (find M made b f (M c).next))) < made
      go true e q g r = h
      go false true q g r = h
      go false false q true r = leb-false made c q
      go false false q false r = r

-- ---- link_last

pub last_none : (m : Nodes) (p : Node) (new : ℕ) → p.head ≡ 0 → link_last m p new ≡ m
unfolding link_last
last_none m p new e = yes_case _ _ (eq-eqb p.head 0 e)

pub last_next : (m : Nodes) (p : Node) (new : ℕ) (n : Node) → (p.head ≡ 0 → ⊥) → p.tail < new → n ≡ see m p.tail
    → link_last m p new ≡ set_node m p.tail (with_next n new)
unfolding link_last
last_next m p new n z h q =
    no_case _ _ (ne_eqb p.head 0 z) ∙ no_case _ _ (lt-leb new p.tail h)
    ∙ ap (λ (x : Node). set_node m p.tail (with_next x new)) (sym q)

pub last_lt : (p : Node) (new k t : ℕ) → t ≡ last_child p new → new < k → t < k
unfolding last_child
last_lt p new k t e h = subst (λ (x : ℕ). x < k) (sym e) (go (eqb p.head 0) (leb new p.tail) refl)
  where
    go : (d e : Bool) → leb new p.tail ≡ e → cond d new (cond e new p.tail) < k
    go true e q = h
    go false true q = h
    go false false q = let z = leb-false new p.tail q in omega arith

-- the same where the sibling is linked before node new is stored; where p has no child it is node new itself, which is stored over it
pub last_is : (m : Nodes) (p l : Node) (new : ℕ)
    → set_node (set_node m (last_child p new) (with_next (see m (last_child p new)) new)) new l ≡ link_last (set_node m new l) p new
unfolding last_child link_last
last_is m p l new = go (eqb p.head 0) (leb new p.tail) refl
  where
    linked : ℕ → Nodes
    linked t = set_node m t (with_next (see m t) new)

    go : (d e : Bool) → leb new p.tail ≡ e
        → set_node (linked (cond d new (cond e new p.tail))) new l
        ≡ cond d (set_node m new l) (cond e (set_node m new l)
        (set_node (set_node m new l) p.tail (with_next (see (set_node m new l) p.tail) new)))
    go true e q = set-over m new _ l
    go false true q = set-over m new _ l
    go false false q =
        let z = leb-false new p.tail q in
        let ne : p.tail ≡ new → ⊥ = λ e. omega arith in
        set-swap m p.tail new _ l ne
        ∙ ap (λ (x : Node). set_node (set_node m new l) p.tail (with_next x new)) (sym (see-other m new l p.tail ne))

-- ---- add_child

pub add_is : (m m₁ m₂ m₃ : Nodes) (made parent b t : ℕ) (p n n' l p' : Node) → p ≡ see m parent → t ≡ last_child p made → n ≡ see m t
    → n' ≡ with_next n made → m₁ ≡ set_node m t n' → l ≡ leaf b → m₂ ≡ set_node m₁ made l → p' ≡ grown p made → m₃ ≡ set_node m₂ parent p'
    → m₃ ≡ add_child m made parent b
unfolding add_child
add_is m m₁ m₂ m₃ made parent b t p n n' l p' ep et en en' e₁ el e₂ ep' e₃ =
    e₃ ∙ ap₂ (λ (x : Nodes) (y : Node). set_node x parent y)
    (e₂ ∙ ap₂ (λ (x : Nodes) (y : Node). set_node x made y) (e₁ ∙ ap (set_node m t) (en' ∙ ap (λ (x : Node). with_next x made) en)
    ∙ ap (λ (k : ℕ). set_node m k (with_next (see m k) made)) et) el
    ∙ last_is m p (leaf b) made ∙ ap (λ (x : Node). link_last (set_node m made (leaf b)) x made) ep)
    (ep' ∙ ap (λ (x : Node). grown x made) ep)

-- ---- lengths

pub length-link_last : (m : Nodes) (p : Node) (new : ℕ) → length (link_last m p new) ≡ length m
unfolding link_last
length-link_last m p new = go (eqb p.head 0) (leb new p.tail)
  where
    go : (d e : Bool) → length (cond d m (cond e m (set_node m p.tail (with_next (see m p.tail) new)))) ≡ length m
    go true e = refl
    go false true = refl
    go false false = length-set_node m p.tail _

pub length-add_child : (m : Nodes) (made parent b : ℕ) → length (add_child m made parent b) ≡ length m
unfolding add_child
length-add_child m made parent b =
    length-set_node (link_last (set_node m made (leaf b)) (see m parent) made) parent (grown (see m parent) made)
    ∙ length-link_last (set_node m made (leaf b)) (see m parent) made ∙ length-set_node m made (leaf b)

-- ---- child_made

module _ (cap : ℕ) (m : Nodes) (made parent b c : ℕ) (is : c ≡ child_of m made parent b) where
  pub made-old : (c ≡ 0 → ⊥) → child_made cap m made parent b ≡ state m c made
  unfolding child_made
  made-old z = no_case _ _ (ne_eqb (child_of m made parent b) 0 (λ e. z (is ∙ e))) ∙ ap (λ (k : ℕ). state m k made) (sym is)

  pub made-full : c ≡ 0 → cap ≤ made → child_made cap m made parent b ≡ state m 0 made
  unfolding child_made
  made-full z h = yes_case _ _ (eq-eqb (child_of m made parent b) 0 (sym is ∙ z)) ∙ yes_case _ _ (le-leb cap made h)

  pub made-new : c ≡ 0 → made < cap → child_made cap m made parent b ≡ state (add_child m made parent b) made (made + 1)
  unfolding child_made
  made-new z h = yes_case _ _ (eq-eqb (child_of m made parent b) 0 (sym is ∙ z)) ∙ no_case _ _ (lt-leb cap made h)

-- the node reached is made, no more nodes are made than there is room for, and the memory keeps its length n
pub record Sound (cap n : ℕ) (s : State) : Type 0 where
  pub node-lt : s.node < s.made
  pub made-le : s.made ≤ cap
  pub len : length s.mem ≡ n

pub made_sound : (cap : ℕ) (m : Nodes) (made parent b : ℕ) → parent < made → made ≤ cap
    → Sound cap (length m) (child_made cap m made parent b)
unfolding child_made
made_sound cap m made parent b h k = go (eqb r 0) (leb cap made) refl (lower (omega arith))
  where
    r : ℕ
    r = child_of m made parent b

    lower : 1 ≤ made → child_of m made parent b < made
    lower p = unfold child_of in find-lt (see m) made b made (see m parent).head p

    go : (d e : Bool) → leb cap made ≡ e → r < made
        → Sound cap (length m) (cond d (cond e (state m 0 made) (state (add_child m made parent b) made (made + 1))) (state m r made))
    go false e q l = record { node-lt = l; made-le = k; len = refl }
    go true true q l = record { node-lt = omega arith; made-le = k; len = refl }
    go true false q l =
        let z = leb-false cap made q in record { node-lt = omega arith; made-le = omega arith; len = length-add_child m made parent b }

-- ---- descend_on

pub desc_zero : (cap : ℕ) (s : State) (l : List ℕ) → s.node ≡ 0 → descend_on cap s l ≡ s
unfolding descend_on
desc_zero cap s [] e = refl
desc_zero cap s (b ∷ l) e = yes_case _ _ (eq-eqb s.node 0 e)

pub desc_done : (cap : ℕ) (s : State) (l : List ℕ) (k : ℕ) → length l ≤ k → descend_on cap s (drop k l) ≡ s
unfolding descend_on
desc_done cap s l k h = ap (descend_on cap s) (drop_of_length-le l h)

pub desc_on : (cap : ℕ) (s u : State) (l : List ℕ) (k : ℕ) → k < length l → (s.node ≡ 0 → ⊥)
    → u ≡ child_made cap s.mem s.made s.node (get_or l k 0) → descend_on cap s (drop k l) ≡ descend_on cap u (drop (k + 1) l)
unfolding descend_on
desc_on cap s u l k h z q =
    let w : suc k ≡ k + 1 = omega arith in
    ap (descend_on cap s) (drop-cons l k 0 h) ∙ no_case _ _ (ne_eqb s.node 0 z)
    ∙ ap₂ (descend_on cap) (sym q) (ap (λ (i : ℕ). drop i l) w)

pub desc_sound : (cap n : ℕ) (s : State) (l : List ℕ) → Sound cap n s → Sound cap n (descend_on cap s l)
unfolding descend_on
desc_sound cap n s [] h = h
desc_sound cap n s (b ∷ l) h = go (eqb s.node 0) (desc_sound cap n (child_made cap s.mem s.made s.node b) l next)
  where
    next : Sound cap n (child_made cap s.mem s.made s.node b)
    next = subst (λ (k : ℕ). Sound cap k (child_made cap s.mem s.made s.node b)) h.len
        (made_sound cap s.mem s.made s.node b h.node-lt h.made-le)

    go : (d : Bool) → Sound cap n (descend_on cap (child_made cap s.mem s.made s.node b) l)
        → Sound cap n (cond d s (descend_on cap (child_made cap s.mem s.made s.node b) l))
    go true r = h
    go false r = r

-- where a walk along the bytes is, at byte k: at a node that is made, and what is left of them gives what the whole does
pub record OnWay (cap : ℕ) (l : List ℕ) (all : State) (m : Nodes) (p : Place) (k : ℕ) : Type 0 where
  pub some : p.node ≡ 0 → ⊥
  pub node-lt : p.node < p.made
  pub made-le : p.made ≤ cap
  pub rest : descend_on cap (state m p.node p.made) (drop k l) ≡ all

module _ {cap : ℕ} {l : List ℕ} {all : State} {m : Nodes} {p : Place} {k : ℕ} (on : OnWay cap l all m p k) (h : k < length l)
    {b : ℕ} (eb : b ≡ get_or l k 0) where
  way-next : descend_on cap (child_made cap m p.made p.node b) (drop (k + 1) l) ≡ all
  way-next =
      sym (desc_on cap (state m p.node p.made) (child_made cap m p.made p.node b) l k h on.some
      (ap (child_made cap m p.made p.node) eb)) ∙ on.rest

  pub way_on : {m' : Nodes} {p' : Place} → StepTo (child_made cap m p.made p.node b) m' (Ok p') → OnWay cap l all m' p' (k + 1)
  way_on r =
      let o = step_ok r in
      let s = subst (Sound cap (length m)) (sym o.0) (made_sound cap m p.made p.node b on.node-lt on.made-le) in
      record {
        some = o.1;
        node-lt = s.node-lt;
        made-le = s.made-le;
        rest = ap (λ (x : State). descend_on cap x (drop (k + 1) l)) o.0 ∙ way-next;
      }

  -- the walk ends where there is no room
  pub way_full : {m' : Nodes} {e : Refusal} → StepTo (child_made cap m p.made p.node b) m' (Err e) → StepTo all m' (Err e)
  way_full {m' = m'} {e = e} r =
      let s = child_made cap m p.made p.node b in
      let is : s ≡ all = sym (desc_zero cap s (drop (k + 1) l) (step_err r).0) ∙ way-next in
      subst (λ (x : State). StepTo x m' (Err e)) is r

pub way_done : {cap : ℕ} {l : List ℕ} {all : State} {m : Nodes} {p : Place} {k : ℕ} → OnWay cap l all m p k → length l ≤ k
    → StepTo all m (Ok p)
way_done {cap} {l} {all} {m} {p} {k} on h = step_at (sym on.rest ∙ desc_done cap (state m p.node p.made) l k h) on.some

-- ---- root_made

module _ (cap : ℕ) (rs : List ℕ) (m : Nodes) (made at b : ℕ) where
  pub root-full : get_or rs at 0 ≡ 0 → cap ≤ made → root_made cap rs m made at b ≡ rooted rs (state m 0 made)
  unfolding root_made
  root-full z h = yes_case _ _ (eq-eqb (get_or rs at 0) 0 z) ∙ yes_case _ _ (le-leb cap made h)

  pub root-new : get_or rs at 0 ≡ 0 → made < cap
      → root_made cap rs m made at b ≡ rooted (set rs at made) (state (set_node m made (leaf b)) made (made + 1))
  unfolding root_made
  root-new z h = yes_case _ _ (eq-eqb (get_or rs at 0) 0 z) ∙ no_case _ _ (lt-leb cap made h)

  pub root-out : (get_or rs at 0 ≡ 0 → ⊥) → made ≤ get_or rs at 0 → root_made cap rs m made at b ≡ rooted rs (state m 0 made)
  unfolding root_made
  root-out z h = no_case _ _ (ne_eqb (get_or rs at 0) 0 z) ∙ yes_case _ _ (le-leb made (get_or rs at 0) h)

  pub root-old : (get_or rs at 0 ≡ 0 → ⊥) → get_or rs at 0 < made → root_made cap rs m made at b ≡ rooted rs (state m (get_or rs at 0) made)
  unfolding root_made
  root-old z h = no_case _ _ (ne_eqb (get_or rs at 0) 0 z) ∙ no_case _ _ (lt-leb made (get_or rs at 0) h)

  -- by what is asked of a root first
  pub root_none : cond (eqb (get_or rs at 0) 0) (leb cap made) (leb made (get_or rs at 0)) ≡ true
      → root_made cap rs m made at b ≡ rooted rs (state m 0 made)
  root_none h = go (eqb (get_or rs at 0) 0) refl h
    where
      go : (c : Bool) → eqb (get_or rs at 0) 0 ≡ c → cond c (leb cap made) (leb made (get_or rs at 0)) ≡ true
          → root_made cap rs m made at b ≡ rooted rs (state m 0 made)
      go true e q = root-full (eqb-true (get_or rs at 0) 0 e) (leb-true cap made q)
      go false e q = root-out (eqb-false (get_or rs at 0) 0 e) (leb-true made (get_or rs at 0) q)

  pub root-sound : 1 ≤ made → made ≤ cap → Sound cap (length m) (root_made cap rs m made at b).st
  unfolding root_made
  root-sound p q = go (eqb (get_or rs at 0) 0) (leb cap made) refl (leb made (get_or rs at 0)) refl
    where
      go : (d e : Bool) → leb cap made ≡ e → (f : Bool) → leb made (get_or rs at 0) ≡ f
          → Sound cap (length m)
          (cond {A = Rooted} d
          (cond e (rooted rs (state m 0 made)) (rooted (set rs at made) (state (set_node m made (leaf b)) made (made + 1))))
          (cond f (rooted rs (state m 0 made)) (rooted rs (state m (get_or rs at 0) made)))).st
      go true true x f y = record { node-lt = p; made-le = q; len = refl }
      go true false x f y =
          let z = leb-false cap made x in record { node-lt = omega arith; made-le = omega arith; len = length-set_node m made (leaf b) }
      go false e x true y = record { node-lt = p; made-le = q; len = refl }
      go false e x false y = record { node-lt = leb-false made (get_or rs at 0) y; made-le = q; len = refl }

pub root_room : (root cap made : ℕ) → cond (eqb root 0) (leb cap made) (leb made root) ≡ false → root ≡ 0 → made < cap
root_room root cap made h z = leb-false cap made (sym (yes_case _ _ (eq-eqb root 0 z)) ∙ h)

pub root_there : (root cap made : ℕ) → cond (eqb root 0) (leb cap made) (leb made root) ≡ false → (root ≡ 0 → ⊥) → root < made
root_there root cap made h z = leb-false made root (sym (no_case _ _ (ne_eqb root 0 z)) ∙ h)

-- ---- finish_on

module _ (s : State) (id : ℕ) where
  pub fin-none : s.node ≡ 0 → finish_on s id ≡ ended s.mem (Err NodesFull)
  unfolding finish_on
  fin-none z = yes_case _ _ (eq-eqb s.node 0 z)

  module _ (n : Node) (nz : s.node ≡ 0 → ⊥) (en : n ≡ see s.mem s.node) where
    there : (see s.mem s.node).term ≡ n.term
    there = ap (λ (x : Node). x.term) (sym en)

    pub fin-twice : (n.term ≡ 0 → ⊥) → finish_on s id ≡ ended s.mem (Err SeenBefore)
    unfolding finish_on
    fin-twice z = no_case _ _ (ne_eqb s.node 0 nz) ∙ no_case _ _ (ne_eqb (see s.mem s.node).term 0 (λ e. z (sym there ∙ e)))

    pub fin-made : n.term ≡ 0 → finish_on s id ≡ ended (set_node s.mem s.node (with_term n id)) (Ok s.made)
    unfolding finish_on
    fin-made z =
        no_case _ _ (ne_eqb s.node 0 nz) ∙ yes_case _ _ (eq-eqb (see s.mem s.node).term 0 (there ∙ z))
        ∙ ap (λ (x : Node). ended (set_node s.mem s.node (with_term x id)) (Ok s.made)) (sym en)

-- ---- insert_on

pub insert_is : (cap : ℕ) (rs : List ℕ) (m : Nodes) (made : ℕ) (bs : List ℕ) (id at : ℕ) (w : Rooted) (s : State) (d : Ended)
    → at ≡ get_or bs 0 0 * 256 + get_or bs 1 0 → w ≡ root_made cap rs m made at (get_or bs 1 0) → s ≡ descend_on cap w.st (drop 2 bs)
    → d ≡ finish_on s id
    → after w.roots d.mem d.answer ≡ insert_on cap rs m made bs id
unfolding insert_on
insert_is cap rs m made bs id at w s d ea ew es ed =
    let e : w ≡ root_made cap rs m made (get_or bs 0 0 * 256 + get_or bs 1 0) (get_or bs 1 0) =
    ew ∙ ap (λ (x : ℕ). root_made cap rs m made x (get_or bs 1 0)) ea in
    ap (λ (x : Ended). after w.roots x.mem x.answer) (ed ∙ ap (λ (x : State). finish_on x id) es)
    ∙ ap (λ (x : Rooted). after x.roots (finish_on (descend_on cap x.st (drop 2 bs)) id).mem
    (finish_on (descend_on cap x.st (drop 2 bs)) id).answer) e
