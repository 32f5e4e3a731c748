-- The loop along the chain: what holds before each turn, what each way to leave it gives, and what the whole gives. Assumes nothing.
use mathlib.Core.Path.{◌≡◌, sym, ap, ◌∙◌, subst}
use mathlib.Core.List.{List}
use Prim.Native.Nat.{ℕ, suc, ◌-◌, ◌*◌, ◌≤◌, ◌<◌}
use native.Mathlib.Omega.{arith}
use lib.ListN.{length, replicate, length-replicate}
use Rattle.spec.specs.Token.{Token, id_of}
use Rattle.spec.specs.Trie.{nodes, node_count}
use Rattle.spec.specs.Layout.{Put, words, puts}
use Rattle.spec.specs.Valid.{Valid}
use Rattle.nodes.specs.Run.{Nodes, see}
use Rattle.nodes.specs.Stands.{Stands}
use Rattle.nodes.specs.Queue.{Ordered}
use mathlib.Core.Logic.{◌⊎◌, inl, inr}
use Rattle.nodes.specs.Links.{link}
use Rattle.nodes.proofs.ChildWalk.{link-none}
use Rattle.packing.specs.PlaceWalk.{Amid, Turned, WalkedFrom, Ended}
use Rattle.packing.proofs.Walked.{at_zero, no_fuel, past-made, begin}
use Rattle.slots.specs.declared.Front.{Front}
use Rattle.std.specs.Prelude.{Option, Some, None}

module _ (m₀ : Nodes) (U₀ B₀ C₀ : List ℕ) (made first : ℕ) (at : Front) (end : ℕ) where
  -- amid the walk from the start, if that began amid one
  abbrev pub Along : Nodes → List ℕ → List ℕ → List ℕ → ℕ → Front → ℕ → Type 0
  Along m U B C node front fuel = (ps : List (List ℕ)) (I : List ℕ → ℕ) (goal : List Put) → made ≡ suc (length ps)
      → Amid ps I goal m₀ U₀ B₀ C₀ first made at end → Amid ps I goal m U B C node fuel front end

module _ {m₀ : Nodes} {U₀ B₀ C₀ : List ℕ} {made first : ℕ} {at : Front} {end : ℕ} {m : Nodes} {U B C : List ℕ} {node : ℕ} {front : Front}
    {fuel : ℕ} (along : Along m₀ U₀ B₀ C₀ made first at end m U B C node front fuel) where
  abbrev Done : Nodes → Option Front → Type 0
  Done = WalkedFrom made first m₀ U₀ B₀ C₀ at end

  -- the link leads to no node
  pub at_none : None ≡ link node made → Done m (Some front)
  at_none e = go (link-none node made (sym e))
    where
      go : (node ≡ 0) ⊎ (made ≤ node) → Done m (Some front)
      go (inl z) = λ ps I goal em A. at_zero ps I goal m U B C node fuel front end (along ps I goal em A) z
      go (inr h) = λ ps I goal em A.
          past-made ps I goal m U B C node fuel front end (along ps I goal em A) (subst (λ (n : ℕ). n ≤ node) em h)

  pub at_fuel : fuel ≤ 0 → Done m (Some front)
  at_fuel h = λ ps I goal em A. no_fuel ps I goal m U B C node fuel front end (along ps I goal em A) h

  -- the node found no slot
  pub at-full : (node ≡ 0 → ⊥)
      → ((ps : List (List ℕ)) (I : List ℕ → ℕ) (goal : List Put) (k : ℕ) → made ≡ suc (length ps) → (node ≡ 0 → ⊥)
      → Amid ps I goal m U B C node k front end → end * 64 < words goal)
      → (m'' : Nodes) → Done m'' None
  at-full z turn m'' = λ ps I goal em A. turn ps I goal fuel em z (along ps I goal em A)

  -- it was placed
  module _ {m' : Nodes} {U' B' C' : List ℕ} (z : node ≡ 0 → ⊥) where
    pub goes_on : {r : Front} → Turned made node m U B C front end m' U' B' C' (Some r) → (next left : ℕ) → next ≡ (see m node).tail
        → left ≡ fuel - 1 → Along m₀ U₀ B₀ C₀ made first at end m' U' B' C' next r left
    goes_on {r} turn next left en el = λ ps I goal em A.
        subst (λ (x : ℕ). Amid ps I goal m' U' B' C' next x r end) (sym el)
        (subst (λ (x : ℕ). Amid ps I goal m' U' B' C' x (fuel - 1) r end) (sym en)
        (turn ps I goal fuel em z (along ps I goal em A)))

-- ---- all nodes

-- how far the placing is at its start
abbrev pub front₀ : Front
front₀ = record { from = 4; high = 0 }

-- from the nodes in order and from marks and cursors that are zero, the walk along the chain places all
pub all_placed : (m zs z2 : Nodes) (made first : ℕ) (U B us bs cs : List ℕ) (r : Option Front) → 4 ≤ length U
    → ((ts : List Token) (rs : List ℕ) → Stands ts rs m → made ≡ node_count ts → Ordered ts zs first)
    → us ≡ replicate (length U) 0 → bs ≡ replicate (length B) 0 → cs ≡ replicate 256 0
    → WalkedFrom made first zs us bs cs front₀ (length us) z2 r
    → (ts : List Token) (rs : List ℕ) → Valid ts → Stands ts rs m → made ≡ node_count ts
    → Ended (nodes ts) (id_of ts) (puts ts) z2 r (length U)
unfolding node_count
all_placed m zs z2 made first U B us bs cs r some order eu eb ec walked ts rs v S em =
    let n : made ≡ suc (length (nodes ts)) = omega arith in
    let same : length us ≡ length U = ap length eu ∙ length-replicate (length U) 0 in
    subst (Ended (nodes ts) (id_of ts) (puts ts) z2 r) same
    (walked (nodes ts) (id_of ts) (puts ts) n
    (begin ts v (length U) (length B) 256 (omega arith) (order ts rs S em) eu eb ec em))
