-- The nodes of any memory along the links next. Assumes nothing.
use Rattle.std.specs.Prelude.{ℕ, zero, suc, cond, List, [], ◌∷◌, ◌==◌, nat_le, Option, Some, None}
use Rattle.std.specs.Option.{option_map_or}
use Rattle.nodes.specs.declared.Node.{Node}

-- the node that a link leads to, of those below made: 0 leads to none
unfoldable pub link : ℕ → ℕ → Option ℕ
link c made = cond (c == 0) None (cond (nat_le made c) None (Some c))

-- the nodes from c on, each with its number, at most f of them; a link to a node that is not made ends the walk
unfoldable pub children_from : (ℕ → Node) → ℕ → ℕ → ℕ → List (ℕ × Node)
children_from M made zero c = []
children_from M made (suc f) c = option_map_or (λ i. (i, M i) ∷ children_from M made f (M i).next) (link c made) []
