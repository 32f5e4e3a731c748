-- What it is for roots and nodes to stand for tokens, and what insertion has to answer. Definitions only.
--
-- Document 01, "Trie and packing": "Node 1 onward are numbered as made; children keep the order of first insertion." The nodes are the byte
-- strings of `nodes ts`, each by its number. `Tree` says what the fields head, next, term, count and label of each node are; `Growing` says
-- what tail and the roots are while tokens are taken in. Threading and packing change tail and the roots, and keep the tree.
-- Assumes nothing.
use Rattle.std.specs.Prelude.{◌≡◌, ℕ, ◌+◌, ◌*◌, ◌<◌, ◌≤◌, cond, List, [], ◌∷◌, ◌++◌, length, drop, nat_le, slice_index}
use Rattle.std.specs.Prelude.{Ok, Err}
use mathlib.Core.List.{Memᴰ as Mem}
use Rattle.refusals.specs.declared.Refusal.TheVariants.{SeenBefore, NodesFull}
use Rattle.spec.specs.Lists.{has}
use Rattle.spec.specs.Token.{Token, id_of, seen}
use Rattle.spec.specs.Trie.{nodes, node_count}
use Rattle.laws.specs.Numbered.{number, Fresh}
use Rattle.laws.specs.Chain.{kids}
use Rattle.nodes.specs.Run.{Nodes, see}
use Rattle.nodes.specs.Insertion.{Entered}

-- the last of a list, 0 if there is none
unfoldable pub final : List ℕ → ℕ
final [] = 0
final (x ∷ []) = x
final (x ∷ y ∷ l) = final (y ∷ l)

-- the numbers l hang together by the links nx, from h to 0
abbrev pub Chain : (ℕ → ℕ) → ℕ → List ℕ → Type 0
Chain nx h [] = h ≡ 0
Chain nx h (c ∷ cs) = (h ≡ c) × (1 ≤ c) × Chain nx (nx c) cs

-- the number of a node, 0 if there is no such node
unfoldable pub num : List (List ℕ) → List ℕ → ℕ
num ps p = cond (has ps p) (number ps p) 0

-- node k: its children are l, in a chain from head by next, and so many; its id, and its last byte
pub record NodeAt (m : Nodes) (k : ℕ) (l : List ℕ) (id lab : ℕ) : Type 0 where
  pub chain : Chain (λ c. (see m c).next) (see m k).head l
  pub count : (see m k).count ≡ length l
  pub term : (see m k).term ≡ id
  pub label : (see m k).label ≡ lab

-- node p of ps, where I gives the ids
abbrev pub NodeIs : List (List ℕ) → (List ℕ → ℕ) → Nodes → List ℕ → Type 0
NodeIs ps I m p = NodeAt m (number ps p) (kids ps p) (I p) (final p)

-- m holds the nodes ps, which are distinct, of two bytes or more, and closed under shortening
pub record Tree (ps : List (List ℕ)) (I : List ℕ → ℕ) (m : Nodes) : Type 0 where
  pub fresh : Fresh ps
  pub long : (p : List ℕ) → Mem p ps → 2 ≤ length p
  pub closed : (p : List ℕ) (l : ℕ) → 2 ≤ length p → Mem (p ++ (l ∷ [])) ps → Mem p ps
  pub byte : (p : List ℕ) → Mem p ps → final p < 256
  pub node : (p : List ℕ) → Mem p ps → NodeIs ps I m p

-- each root holds the number of its node: "at first byte × 256 + second byte"
abbrev pub Roots : List (List ℕ) → List ℕ → Type 0
Roots ps rs = (a b : ℕ) → a < 256 → b < 256 → slice_index rs (a * 256 + b) ≡ num ps (a ∷ b ∷ [])

-- while tokens are taken in, tail is the number of the last child
pub record Growing (ps : List (List ℕ)) (I : List ℕ → ℕ) (rs : List ℕ) (m : Nodes) : Type 0 where
  pub tree : Tree ps I m
  pub root : Roots ps rs
  pub last : (p : List ℕ) → Mem p ps → (see m (number ps p)).tail ≡ final (kids ps p)
  pub none : (p : List ℕ) → 2 ≤ length p → (Mem p ps → ⊥) → I p ≡ 0

-- roots and nodes stand for the tokens
pub record Stands (ts : List Token) (rs : List ℕ) (m : Nodes) : Type 0 where
  pub growing : Growing (nodes ts) (id_of ts) rs m
  pub low : (u : Token) → Mem u ts → 1 ≤ u.id

-- "Cells of the first, second and fourth past these lengths are never touched": the cells past the 65,536 roots
pub record RootsKept (rs rs' : List ℕ) : Type 0 where
  pub behind : drop 65536 rs' ≡ drop 65536 rs

-- ---- what insertion answers

-- 16 "token bytes seen before"; then 17 "node capacity below 1 + distinct prefixes of two or more bytes, this token counted"
unfoldable pub answer_for : List Token → Token → ℕ → Entered
unfolding seen node_count
answer_for ts t cap =
    cond (seen ts t.bytes) (Err SeenBefore)
    (cond (nat_le (node_count (ts ++ (t ∷ []))) cap) (Ok (node_count (ts ++ (t ∷ [])))) (Err NodesFull))

-- the answer, and what the memory stands for unless the token was refused
pub record Grown (ts : List Token) (t : Token) (cap : ℕ) (r : Entered) (rs : List ℕ) (m : Nodes) : Type 0 where
  pub answer : r ≡ answer_for ts t cap
  pub stands : (n : ℕ) → r ≡ Ok n → Stands (ts ++ (t ∷ [])) rs m
