-- The labels of a node, read off the chain of its children. Assumes nothing.
use Rattle.std.specs.Prelude.{◌≡◌, ℕ, ◌≤◌, List, length, map}
use Rattle.spec.specs.Lists.{over}
use Rattle.nodes.specs.Run.{Nodes, see}
use Rattle.nodes.specs.Links.{children_from}
use Rattle.nodes.specs.declared.Node.{Node}

-- the labels of nodes
abbrev pub labels_in : List (ℕ × Node) → List ℕ
labels_in = map (λ x. x.1.label)

-- the labels of a node's children, on any memory
unfoldable pub labels_on : Nodes → ℕ → ℕ → List ℕ
unfolding children_from
labels_on m made node = labels_in (children_from (see m) made 256 (see m node).head)

-- ls stand from the start of out on, the cells after them as they were; r is how many
pub record Gathered (ls out out' : List ℕ) (r : ℕ) : Type 0 where
  pub count : r ≡ length ls
  pub cells : out' ≡ over ls out
  pub few : r ≤ 256
