-- What a walk over the children of a node gives. Assumes nothing.
use Rattle.std.specs.Prelude.{ℕ, List, length}
use Rattle.nodes.specs.Run.{see}
use Rattle.nodes.specs.Links.{children_from}
use Rattle.nodes.specs.declared.Node.{Node}
use Rattle.nodes.specs.declared.Children.{Children}

-- the children that are still to come
unfoldable pub children_left : Children → List (ℕ × Node)
unfolding children_from
children_left s = children_from (see s.nodes.now) (length s.nodes.now) s.left s.next
