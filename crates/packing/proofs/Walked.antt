-- The walk along the chain: each node takes the definitions' choice, until none is ahead or the capacity is too small. Assumes nothing.
use mathlib.Core.Path.{◌≡◌, refl, sym, ap, ◌∙◌, subst}
use mathlib.Core.Logic.{inl, inr}
use mathlib.Core.Bool.{false}
use mathlib.Core.List.Memᴰ.{head as here}
use mathlib.Core.List.Memᴰ.{tail as there}
use mathlib.Core.List.{List, [], ◌∷◌, Memᴰ as Mem}
use Prim.Native.Nat.{ℕ, zero, suc, ◌-◌, ◌*◌, ◌/◌, ◌%◌, ◌≤◌, ◌<◌}
use native.Mathlib.Omega.{arith}
use lib.ListN.{length, get_or, take, replicate}
use lib.Dec.{eqb}
use Rattle.spec.specs.Lists.{any, fold}
use Rattle.spec.specs.Token.{Token, id_of}
use Rattle.spec.specs.Trie.{nodes, node_count, labels, order}
use Rattle.spec.specs.Layout.{Put, used, taken, top, words, choose, put, place, puts}
use Rattle.spec.specs.Valid.{Valid}
use Rattle.laws.specs.Nodes.{ByteLabels, labels-small, order-find}
use Rattle.laws.specs.Numbered.{number}
use Rattle.laws.specs.Perm.{bit}
use Rattle.laws.specs.MarkLaws.{marked}
use Rattle.nodes.specs.Run.{Nodes, room, see}
use Rattle.nodes.specs.Insertion.{set_tail}
use Rattle.nodes.specs.Stands.{Tree}
use Rattle.nodes.specs.Gather.{Gathered}
use Rattle.nodes.proofs.Gathering.{gathered_take}
use Rattle.nodes.proofs.Chains.{number_lt}
use Rattle.nodes.specs.Queue.{Queued, Ordered}
use Rattle.nodes.proofs.Queueing.{queue-on, queue-step, queue-end, queue-short}
use Rattle.slots.proofs.Bitwise.{bit-of_zero}
use Rattle.slots.specs.Going.{Going, PlacedAt, PlacedOr, onward}
use Rattle.packing.specs.PlaceWalk.{Amid, Through}
use Rattle.slots.proofs.Onward.{going_on}
use Rattle.words.proofs.Filled.{Based}
use Rattle.std.specs.Prelude.{Option, Some, None}
use Rattle.slots.specs.declared.Front.{Front}

-- ---- words only grow

pub words-fold : (L : List ℕ → List ℕ) (ps : List (List ℕ)) (xs : List Put) → words xs ≤ words (fold (put L) xs ps)
unfolding fold put words top
words-fold L [] xs = omega arith
words-fold L (p ∷ ps) xs = let b = words-fold L ps (put L xs p) in omega arith

-- ---- the end of the walk

module _ (ps : List (List ℕ)) (I : List ℕ → ℕ) (goal : List Put) (m : Nodes) (U B C : List ℕ) (node fuel : ℕ) (at : Front) (end : ℕ)
    (A : Amid ps I goal m U B C node fuel at end) where
  finished : A.ahead ≡ [] → Through ps I goal m at end
  unfolding fold
  finished e =
      let is : A.xs ≡ goal = ap (fold (put (labels ps)) A.xs) (sym e) ∙ A.left in
      let Q : Queued ps I m A.xs [] node = subst (λ (l : List (List ℕ)). Queued ps I m A.xs l node) e A.queue in
      record {
        queue = subst (λ (y : List Put). Queued ps I m y [] 0) is (subst (Queued ps I m A.xs []) Q.chain Q);
        high_is = A.going.front.high_is ∙ ap top is;
        room = subst (λ (y : List Put). words y ≤ end * 64) is A.going.front.room;
      }

  -- node 0 ends the chain
  pub at_zero : node ≡ 0 → Through ps I goal m at end
  at_zero z = finished (go A.ahead A.queue)
    where
      go : (l : List (List ℕ)) → Queued ps I m A.xs l node → l ≡ []
      go [] Q = refl
      go (p ∷ l) Q = let a = Q.chain.0 in let b = Q.chain.1 in absurd (omega arith)

  -- so does the number of nodes
  pub no_fuel : fuel ≤ 0 → Through ps I goal m at end
  no_fuel z = finished (go A.ahead A.few)
    where
      go : (l : List (List ℕ)) → length l ≤ fuel → l ≡ []
      go [] k = refl
      go (p ∷ l) k = absurd (omega arith)

  -- no node has a number past them
  pub past-made : suc (length ps) ≤ node → Through ps I goal m at end
  past-made h = finished (go A.ahead A.queue)
    where
      go : (l : List (List ℕ)) → Queued ps I m A.xs l node → l ≡ []
      go [] Q = refl
      go (p ∷ l) Q = let a = Q.chain.0 in let b = number_lt (Q.nodes p (here refl)) in absurd (omega arith)

  -- ---- a node's turn

  pub record Next : Type 0 where
    pub whose : List ℕ
    pub others : List (List ℕ)
    pub split : A.ahead ≡ whose ∷ others

  pub next : (node ≡ 0 → ⊥) → Next
  next z = let q = queue-on A.ahead A.queue z in record { whose = q.0; others = q.1; split = q.2 }

  module _ (N : Next) where
    abbrev p : List ℕ
    p = N.whose

    queue-now : Queued ps I m A.xs (p ∷ N.others) node
    queue-now = subst (λ (l : List (List ℕ)). Queued ps I m A.xs l node) N.split A.queue

    pub in-nodes : Mem p ps
    in-nodes = queue-now.nodes p (here refl)

    pub number-now : node ≡ number ps p
    number-now = queue-now.chain.0

    pub some-now : 1 ≤ length (labels ps p)
    some-now = A.some p (subst (Mem p) (sym N.split) (here refl))

    left-now : fold (put (labels ps)) (put (labels ps) A.xs p) N.others ≡ goal
    unfolding fold
    left-now = ap (fold (put (labels ps)) A.xs) (sym N.split) ∙ A.left

    module _ (U' B' C' : List ℕ) where
      -- it has its base b: the next one follows
      pub placed_on : (b : ℕ) → node < room m → at.from ≤ end → end % 4 ≡ 0 → PlacedAt (labels ps) A.xs p end U' B' C' (Some b)
          → b < end * 64
          → Amid ps I goal (set_tail m node b) U' B' C' (see m node).tail (fuel - 1) (onward U' at end b) end
      unfolding put
      placed_on b fit below four P low = record {
        xs = put (labels ps) A.xs p;
        ahead = N.others;
        queue = subst (λ (y : ℕ). Queued ps I (set_tail m node y) (put (labels ps) A.xs p) N.others (see m node).tail) chosen
            (queue-step queue-now (choose (labels ps) A.xs (labels ps p)) fit);
        some = λ q mq. A.some q (subst (Mem q) (sym N.split) (there mq));
        going = going_on (labels ps) A.xs p U' at end b P A.going low below four;
        left = left-now;
        few = (let a = A.few in let s = ap length N.split in omega arith);
      }
        where
          chosen : choose (labels ps) A.xs (labels ps p) ≡ b
          chosen = let e = P.answer in cc

      -- it has no slot: the capacity is too small for all
      pub not_placed : PlacedOr (labels ps) A.xs p end U' B' C' None → end * 64 < words goal
      not_placed (inl P) = let no : None ≡ Some (choose (labels ps) A.xs (labels ps p)) = P.answer in cc
      not_placed (inr P) =
          let a = P.past in
          let b = words-fold (labels ps) N.others (put (labels ps) A.xs p) in
          let e = ap words left-now in
          omega arith

pub placed : {L : List ℕ → List ℕ} {xs : List Put} {p : List ℕ} {end b : ℕ} {U B C : List ℕ} → PlacedOr L xs p end U B C (Some b)
    → PlacedAt L xs p end U B C (Some b)
placed (inl P) = P
placed {b} (inr P) = let no : Some b ≡ None = P.answer in cc

-- the turn of a node, as the code has it: by its n labels, which stand at the start of cells'
module _ (made node n end : ℕ) (m : Nodes) (U B C cells U' B' C' cells' : List ℕ) (at : Front) (r : Option ℕ)
    (labelled : (ps : List (List ℕ)) (I : List ℕ → ℕ) (q : List ℕ) → Tree ps I m → made ≡ suc (length ps) → Mem q ps → node ≡ number ps q
    → Gathered (labels ps q) cells cells' n)
    (stands : (L : List ℕ → List ℕ) (xs : List Put) (q : List ℕ) (high : ℕ) → take n cells' ≡ L q → 1 ≤ length (take n cells')
    → Going L xs U B C at.from high end → PlacedOr L xs q end U' B' C' r) where
  module _ (ps : List (List ℕ)) (I : List ℕ → ℕ) (goal : List Put) (fuel : ℕ) (e : made ≡ suc (length ps)) (z : node ≡ 0 → ⊥)
      (A : Amid ps I goal m U B C node fuel at end) where
    N : Next ps I goal m U B C node fuel at end A
    N = next ps I goal m U B C node fuel at end A z

    here-placed : PlacedOr (labels ps) A.xs N.whose end U' B' C' r
    unfolding N
    here-placed =
        let g = labelled ps I N.whose A.queue.tree e (in-nodes ps I goal m U B C node fuel at end A N)
        (number-now ps I goal m U B C node fuel at end A N) in
        let some = some-now ps I goal m U B C node fuel at end A N in
        stands (labels ps) A.xs N.whose at.high (gathered_take g)
        (subst (λ (l : List ℕ). 1 ≤ length l) (sym (gathered_take g)) some) A.going

    pub turned_none : r ≡ None → end * 64 < words goal
    turned_none er = not_placed ps I goal m U B C node fuel at end A N U' B' C'
        (subst (PlacedOr (labels ps) A.xs N.whose end U' B' C') er here-placed)

    pub turned_at : (b : ℕ) → r ≡ Some b → node < room m → at.from ≤ end → end % 4 ≡ 0 → b < end * 64
        → Amid ps I goal (set_tail m node b) U' B' C' (see m node).tail (fuel - 1) (onward U' at end b) end
    turned_at b er fit below four low = placed_on ps I goal m U B C node fuel at end A N U' B' C' b fit below four
        (placed (subst (PlacedOr (labels ps) A.xs N.whose end U' B' C') er here-placed)) low

-- ---- the beginning

zeros_at : (n i : ℕ) → get_or {A = ℕ} (replicate n 0) i 0 ≡ 0
zeros_at zero i = refl
zeros_at (suc n) zero = refl
zeros_at (suc n) (suc i) = zeros_at n i

zero_marks : (n s : ℕ) → marked (replicate n 0) s ≡ false
unfolding marked
zero_marks n s = ap (λ (z : ℕ). eqb (bit z (s % 64)) 1) (zeros_at n (s / 64)) ∙ ap (λ (z : ℕ). eqb z 1) (bit-of_zero (s % 64))

-- nothing is marked, no word is full, no cursor has moved
begin-going : (L : List ℕ → List ℕ) → ByteLabels L → (nu nb nc end : ℕ) → 4 ≤ end
    → Going L [] (replicate nu 0) (replicate nb 0) (replicate nc 0) 4 0 end
unfolding taken used any top words
begin-going L small nu nb nc end h = record {
  small = small;
  front = record { low = omega arith; full = λ s a b. absurd (omega arith); high_is = refl; room = omega arith };
  marks = record { slots = λ s a. zero_marks nu s; bases = λ s a. zero_marks nb s };
  cursors = λ l s a b c. let z = zeros_at nc l in absurd (omega arith);
}

pub begin : (ts : List Token) → Valid ts → {m : Nodes} {U B C : List ℕ} {first made end : ℕ} (nu nb nc : ℕ) → 4 ≤ end → Ordered ts m first
    → U ≡ replicate nu 0 → B ≡ replicate nb 0 → C ≡ replicate nc 0 → made ≡ node_count ts
    → Amid (nodes ts) (id_of ts) (puts ts) m U B C first made (record { from = 4; high = 0 }) end
unfolding puts place node_count
begin ts v {end = end} nu nb nc h Q eu eb ec em = rw (eu, eb, ec, em) record {
  xs = [];
  ahead = order (nodes ts);
  queue = Q;
  some = λ p mp. (order-find (nodes ts) mp).1;
  going = begin-going (labels (nodes ts)) (labels-small ts v) nu nb nc end h;
  left = refl;
  few = (let a = queue-short Q in omega arith);
}

-- ---- the end

-- every node has its base
pub through_based : (ts : List Token) (m : Nodes) (at : Front) (end : ℕ) → Through (nodes ts) (id_of ts) (puts ts) m at end → Based ts m
through_based ts m at end T = record { tree = T.queue.tree; base = λ p mp. queue-end T.queue p mp }
