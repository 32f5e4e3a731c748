-- What fetching and storing a node of a run give. Assumes nothing.
use Rattle.std.proofs.Common.{◌≡◌, ℕ, ◌<◌, length, get_or, set, refl, length-set, get_or-set_other, get_or-set_same, set-set}
use Rattle.std.proofs.Common.{suc, ◌+◌, ◌∷◌, take, sym, ap, ◌∙◌, arith, get_or-take}
use lib.Seq.{set_comm}
use Rattle.nodes.specs.declared.Node.{Node}
use Rattle.nodes.specs.Run.{Nodes, room, blank, see, set_node}

pub see-is : (m : Nodes) (i : ℕ) → get_or m i blank ≡ see m i
unfolding see
see-is m i = refl

-- the nodes below made, but for the first
pub see-behind : (m : Nodes) (made : ℕ) (n : Node) (ns : Nodes) → take made m ≡ n ∷ ns → (k : ℕ) → k + 1 < made
    → get_or ns k blank ≡ see m (k + 1)
unfolding see
see-behind m made n ns e k h =
    let q : suc k ≡ k + 1 = omega arith in
    ap (λ (l : Nodes). get_or l (suc k) blank) (sym e) ∙ get_or-take made m (suc k) blank (omega arith)
    ∙ ap (λ (i : ℕ). get_or m i blank) q

pub set_node-is : (m : Nodes) (i : ℕ) (n : Node) → set m i n ≡ set_node m i n
unfolding set_node
set_node-is m i n = refl

pub length-set_node : (m : Nodes) (i : ℕ) (n : Node) → length (set_node m i n) ≡ length m
unfolding set_node
length-set_node m i n = length-set m i n

pub set-over : (m : Nodes) (i : ℕ) (n n' : Node) → set_node (set_node m i n) i n' ≡ set_node m i n'
unfolding set_node
set-over m i n n' = set-set m i n n'

pub set-swap : (m : Nodes) (i j : ℕ) (n n' : Node) → (i ≡ j → ⊥) → set_node (set_node m i n) j n' ≡ set_node (set_node m j n') i n
unfolding set_node
set-swap m i j n n' ne = set_comm m i j n n' ne

module _ (m : Nodes) (i : ℕ) (n : Node) where
  pub see-other : (j : ℕ) → (j ≡ i → ⊥) → see (set_node m i n) j ≡ see m j
  unfolding see set_node
  see-other j ne = get_or-set_other m i j n blank ne

  pub see-same : i < room m → see (set_node m i n) i ≡ n
  unfolding see set_node
  see-same fit = get_or-set_same m i n blank fit
