-- A lent run of node records. Everything else speaks of nodes through `see` and `set_node` alone, and of how many there may be through
-- `room`. Assumes nothing.
use Rattle.std.specs.Prelude.{ℕ, List, length, slice_index_or, slice_set}
use Rattle.nodes.specs.declared.Node.{Node}

abbrev pub Nodes : Type 0
Nodes = List Node

-- how many nodes a run holds
abbrev pub room : Nodes → ℕ
room m = length m

-- a node of zeros
abbrev pub blank : Node
blank = record { head = 0; tail = 0; next = 0; term = 0; count = 0; label = 0 }

-- node i
unfoldable pub see : Nodes → ℕ → Node
see m i = slice_index_or m i blank

-- n as node i
unfoldable pub set_node : Nodes → ℕ → Node → Nodes
set_node m i n = slice_set m i n
