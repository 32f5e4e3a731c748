-- What insertion does to any roots and nodes, whatever they hold: the code's steps, one definition each. A link to a node that is not made
-- ends a walk, and no walk is longer than the number of nodes made. What it means where the memory stands for tokens is in Stands and Grow.
-- Assumes nothing.
use Rattle.std.specs.Prelude.{◌≡◌, ℕ, zero, suc, ◌+◌, ◌*◌, ◌%◌, ◌^◌, cond, List, [], ◌∷◌, drop, ◌==◌, nat_le, slice_index, slice_set}
use Rattle.std.specs.Prelude.{Option, Some, None, Result, Ok, Err}
use Rattle.refusals.specs.declared.Refusal.{Refusal}
use Rattle.refusals.specs.declared.Refusal.TheVariants.{SeenBefore, NodesFull}
use Rattle.nodes.specs.Run.{Nodes, see, set_node}
use Rattle.nodes.specs.declared.Node.{Node}
use Rattle.nodes.specs.declared.Place.{Place}

-- ---- a node by value

-- a node without children
unfoldable pub leaf : ℕ → Node
leaf b = record { head = 0; tail = 0; next = 0; term = 0; count = 0; label = b }

-- p with new as its last child
unfoldable pub grown : Node → ℕ → Node
grown p new = record {
  head = cond (p.head == 0) new p.head;
  tail = new;
  next = p.next;
  term = p.term;
  count = (p.count + 1) % 2 ^ 16;
  label = p.label;
}

-- the last child of p, new where p has none below it
unfoldable pub last_child : Node → ℕ → ℕ
last_child p new = cond (p.head == 0) new (cond (nat_le new p.tail) new p.tail)

abbrev pub with_tail : Node → ℕ → Node
with_tail n t = record { head = n.head; tail = t; next = n.next; term = n.term; count = n.count; label = n.label }

-- the field tail of node i becomes t
unfoldable pub set_tail : Nodes → ℕ → ℕ → Nodes
set_tail m i t = set_node m i (with_tail (see m i) t)

abbrev pub with_next : Node → ℕ → Node
with_next n k = record { head = n.head; tail = n.tail; next = k; term = n.term; count = n.count; label = n.label }

abbrev pub with_term : Node → ℕ → Node
with_term n id = record { head = n.head; tail = n.tail; next = n.next; term = id; count = n.count; label = n.label }

-- ---- a child

-- the first node with the label b along the links next from c, 0 if there is none
unfoldable pub find : (ℕ → Node) → ℕ → ℕ → ℕ → ℕ → ℕ
find M made b zero c = 0
find M made b (suc f) c =
    let r = find M made b f (M c).next in
    cond (c == 0) 0 (cond (nat_le made c) 0 (cond ((M c).label == b) c r))

-- the child of parent by b
unfoldable pub child_of : Nodes → ℕ → ℕ → ℕ → ℕ
unfolding find
child_of m made parent b = find (see m) made b made (see m parent).head

-- node new becomes the sibling after the last child of p, if p has one
unfoldable pub link_last : Nodes → Node → ℕ → Nodes
link_last m p new = cond (p.head == 0) m (cond (nat_le new p.tail) m (set_node m p.tail (with_next (see m p.tail) new)))

-- node made becomes the last child of parent, by b
unfoldable pub add_child : Nodes → ℕ → ℕ → ℕ → Nodes
unfolding leaf link_last grown
add_child m made parent b = set_node (link_last (set_node m made (leaf b)) (see m parent) made) parent (grown (see m parent) made)

-- ---- the way down

-- the nodes, the node reached (0: no room), how many nodes are made
pub record State : Type 0 where
  pub mem : Nodes
  pub node : ℕ
  pub made : ℕ

abbrev pub state : Nodes → ℕ → ℕ → State
state m k made = record { mem = m; node = k; made = made }

-- the child of parent by b, made if there is none
unfoldable pub child_made : ℕ → Nodes → ℕ → ℕ → ℕ → State
unfolding child_of add_child
child_made cap m made parent b =
    let c = child_of m made parent b in
    cond (c == 0) (cond (nat_le cap made) (state m 0 made) (state (add_child m made parent b) made (made + 1))) (state m c made)

-- the node of the bytes below a node
unfoldable pub descend_on : ℕ → State → List ℕ → State
unfolding child_made
descend_on cap s [] = s
descend_on cap s (b ∷ bs) = cond (s.node == 0) s (descend_on cap (child_made cap s.mem s.made s.node b) bs)

pub record Rooted : Type 0 where
  pub roots : List ℕ
  pub st : State

abbrev pub rooted : List ℕ → State → Rooted
rooted rs s = record { roots = rs; st = s }

-- the node whose number is root at, made if there is none
unfoldable pub root_made : ℕ → List ℕ → Nodes → ℕ → ℕ → ℕ → Rooted
unfolding leaf
root_made cap rs m made at b =
    cond (slice_index rs at == 0)
    (cond (nat_le cap made) (rooted rs (state m 0 made)) (rooted (slice_set rs at made) (state (set_node m made (leaf b)) made (made + 1))))
    (cond (nat_le made (slice_index rs at)) (rooted rs (state m 0 made)) (rooted rs (state m (slice_index rs at) made)))

-- ---- what the code answers

-- the node of a link: 0 is none
abbrev pub linked : ℕ → Option ℕ
linked k = cond (k == 0) None (Some k)

-- the place of a state, or 17 where its node is 0
abbrev pub place_of : State → Result Place Refusal
place_of s = cond (s.node == 0) (Err NodesFull) (Ok (record { node = s.node; made = s.made }))

-- a step leaves the nodes of a state, and answers its place
pub record StepTo (s : State) (m : Nodes) (r : Result Place Refusal) : Type 0 where
  pub mem : m ≡ s.mem
  pub place : r ≡ place_of s

-- ---- a token

-- how many nodes there are now, node 0 counted; or 16, or 17
abbrev pub Entered : Type 0
Entered = Result ℕ Refusal

pub record Ended : Type 0 where
  pub mem : Nodes
  pub answer : Entered

abbrev pub ended : Nodes → Entered → Ended
ended m r = record { mem = m; answer = r }

-- the token of this id ends at the node reached
unfoldable pub finish_on : State → ℕ → Ended
finish_on s id =
    cond (s.node == 0) (ended s.mem (Err NodesFull))
    (cond ((see s.mem s.node).term == 0)
    (ended (set_node s.mem s.node (with_term (see s.mem s.node) id)) (Ok s.made))
    (ended s.mem (Err SeenBefore)))

pub record After : Type 0 where
  pub roots : List ℕ
  pub mem : Nodes
  pub answer : Entered

abbrev pub after : List ℕ → Nodes → Entered → After
after rs m r = record { roots = rs; mem = m; answer = r }

-- a token of two bytes or more
unfoldable pub insert_on : ℕ → List ℕ → Nodes → ℕ → List ℕ → ℕ → After
unfolding root_made descend_on finish_on
insert_on cap rs m made bs id =
    let w = root_made cap rs m made (slice_index bs 0 * 256 + slice_index bs 1) (slice_index bs 1) in
    let e = finish_on (descend_on cap w.st (drop 2 bs)) id in
    after w.roots e.mem e.answer
