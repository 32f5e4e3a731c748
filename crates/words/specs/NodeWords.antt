-- The words that the code makes of the nodes of any memory, once the base of each stands in its field tail: of a node, of its children, of
-- the roots. Assumes nothing.
use mathlib.Core.List.{List, [], ◌++◌, map}
use Prim.Native.Nat.{ℕ, zero, suc}
use Rattle.std.specs.Prelude.{take, drop}
use Rattle.std.specs.Int.Bits.{bit_xor}
use Rattle.spec.specs.Layout.{pack}
use Rattle.laws.specs.Fill.{Write}
use Rattle.std.specs.Option.{option_map_or}
use Rattle.nodes.specs.Links.{link, children_from}
use Rattle.nodes.specs.declared.Node.{Node}

-- a node's word with the byte l that leads to it, once its base stands in the field tail
unfoldable pub node_word : Node → ℕ → ℕ
unfolding pack
node_word n l = pack n.tail n.term l

-- a node's word as a root: "the incoming byte in bits 0 to 7 (0 in a root)"
abbrev pub as_root : Node → ℕ
as_root n = node_word n 0

-- the word of child n, at base XOR its label
unfoldable pub child_put : ℕ → Node → Write
unfolding node_word
child_put base n = record { at = bit_xor base n.label; val = node_word n n.label }

-- the words of children
abbrev pub child_puts : ℕ → List (ℕ × Node) → List Write
child_puts base = map (λ x. child_put base x.1)

-- M gives the nodes, `made` of them
module _ (M : ℕ → Node) (made : ℕ) where
  -- the children along next from c, at most f of them, each word at base XOR label
  unfoldable pub child_writes : ℕ → ℕ → ℕ → List Write
  unfolding children_from
  child_writes base f c = child_puts base (children_from M made f c)

  -- the children of n nodes from node i on
  unfoldable pub node_writes : ℕ → ℕ → List Write
  unfolding child_writes
  node_writes zero i = []
  node_writes (suc n) i = child_writes (M i).tail 256 (M i).head ++ node_writes n (suc i)

  -- the word of a root that holds a node's number
  unfoldable pub root_word : ℕ → ℕ
  unfolding node_word link
  root_word r = option_map_or (λ i. as_root (M i)) (link r made) 0

-- the first 65,536 roots become what f makes of them
unfoldable pub root_words : (ℕ → ℕ) → List ℕ → List ℕ
root_words f rs = map f (take 65536 rs) ++ drop 65536 rs
