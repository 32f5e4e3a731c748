-- The nodes placed one after the other, along the chain that threading left: what holds amid the walk and at its end. Assumes nothing.
use Rattle.std.specs.Prelude.{◌≡◌, ℕ, suc, ◌-◌, ◌*◌, ◌≤◌, ◌<◌, length, Option, MatchOption}
use mathlib.Core.List.{List, [], Memᴰ as Mem}
use Rattle.spec.specs.Lists.{fold}
use Rattle.spec.specs.Trie.{labels}
use Rattle.spec.specs.Layout.{Put, top, words, put}
use Rattle.nodes.specs.Run.{Nodes, see}
use Rattle.nodes.specs.Queue.{Queued}
use Rattle.slots.specs.Going.{Going}
use Rattle.slots.specs.declared.Front.{Front}
use Rattle.slots.specs.declared.marks.Marks.{Marks}

-- ---- what holds on the way

-- amid the walk: what is placed, and what is ahead from node on, lead to goal
pub record Amid (ps : List (List ℕ)) (I : List ℕ → ℕ) (goal : List Put) (m : Nodes) (U B C : List ℕ) (node fuel : ℕ) (at : Front)
    (end : ℕ) : Type 0 where
  pub xs : List Put
  pub ahead : List (List ℕ)
  pub queue : Queued ps I m xs ahead node
  pub some : (p : List ℕ) → Mem p ahead → 1 ≤ length (labels ps p)
  pub going : Going (labels ps) xs U B C at.from at.high end
  pub left : fold (put (labels ps)) xs ahead ≡ goal
  pub few : length ahead ≤ fuel

-- at its end every node of goal has its base
pub record Through (ps : List (List ℕ)) (I : List ℕ → ℕ) (goal : List Put) (m : Nodes) (at : Front) (end : ℕ) : Type 0 where
  pub queue : Queued ps I m goal [] 0
  pub high_is : at.high ≡ top goal
  pub room : words goal ≤ end * 64

-- or, where there is no answer, the capacity is too small for goal
abbrev pub Ended : List (List ℕ) → (List ℕ → ℕ) → List Put → Nodes → Option Front → ℕ → Type 0
Ended ps I goal m r end = MatchOption r (end * 64 < words goal) (λ at. Through ps I goal m at end)

-- ---- what the code promises

-- the turn of a node: it is placed, and the next one follows; or the capacity is too small
abbrev pub Turned : ℕ → ℕ → Nodes → List ℕ → List ℕ → List ℕ → Front → ℕ → Nodes → List ℕ → List ℕ → List ℕ → Option Front → Type 0
Turned made node m U B C at end m' U' B' C' r =
    (ps : List (List ℕ)) (I : List ℕ → ℕ) (goal : List Put) (fuel : ℕ) → made ≡ suc (length ps) → (node ≡ 0 → ⊥)
    → Amid ps I goal m U B C node fuel at end
    → MatchOption r (end * 64 < words goal) (λ front. Amid ps I goal m' U' B' C' (see m node).tail (fuel - 1) front end)

abbrev pub Turn : ℕ → ℕ → Nodes → Marks → Front → Nodes → Marks → Option Front → Type 0
Turn made node m K at m' K' r =
    Turned made node m K.used.now K.bases.now K.cursors.now at (length K.used.now) m' K'.used.now K'.bases.now K'.cursors.now r

-- the walk from the first node on
abbrev pub WalkedFrom : ℕ → ℕ → Nodes → List ℕ → List ℕ → List ℕ → Front → ℕ → Nodes → Option Front → Type 0
WalkedFrom made first m U B C at end m' r =
    (ps : List (List ℕ)) (I : List ℕ → ℕ) (goal : List Put) → made ≡ suc (length ps)
    → Amid ps I goal m U B C first made at end → Ended ps I goal m' r end

abbrev pub Walked : ℕ → ℕ → Nodes → Marks → Front → Nodes → Option Front → Type 0
Walked made first m K at m' r = WalkedFrom made first m K.used.now K.bases.now K.cursors.now at (length K.used.now) m' r
