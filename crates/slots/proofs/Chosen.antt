-- One node more: what is found from any start is the definitions' choice, and marks, cursors and the first word that is not full stand
-- for one node more. Assumes nothing.
use mathlib.Core.Path.{◌≡◌, refl, sym, ap, ap₂, ◌∙◌, subst}
use mathlib.Core.Logic.{◌⊎◌, inl, inr}
use mathlib.Core.Bool.{Bool, true, false, not}
use mathlib.Core.List.Memᴰ.{head as here}
use mathlib.Core.List.{List, [], ◌∷◌, map, Memᴰ as Mem}
use Prim.Native.Nat.{ℕ, ◌-◌, ◌*◌, ◌/◌, ◌%◌, ◌≤◌, ◌<◌, max}
use native.Mathlib.Omega.{arith}
use lib.Dec.{eqb, ltb}
use lib.ListN.{length, get_or, set}
use lib.Seq.{get_or-set_same, get_or-set_other}
use lib.Bits.{bit_xor, xor_comm}
use borrow.Author.Tests.{eqb-true, eqb-false, ltb-true, ltb-false, not-false}
use Rattle.spec.specs.Lists.{any, byte_in}
use Rattle.spec.specs.Layout.{Put, first_from, taken, free, words, top, first, choose, put}
use Rattle.laws.specs.Tests.{or_r}
use Rattle.laws.specs.Nodes.{ByteLabels}
use Rattle.laws.specs.Xor.{xor_cancel, xor_block_of}
use Rattle.laws.specs.First.{from_le, from_most, least}
use Rattle.laws.specs.Placed.{grows, taken_refused, choose-least}
use Rattle.laws.specs.MarkLaws.{marked, mark}
use Rattle.slots.specs.Marks.{slot_on, mark_all, Bounds, open_on, start_on}
use Rattle.slots.proofs.Place.{first-get, chosen, slot-past, marks_then}
use Rattle.slots.proofs.Bitwise.{bit-of_ones}
use Rattle.slots.proofs.Starts.{start-cases, start-in}
use Rattle.slots.specs.Going.{MarksOk, CursorsOk, FrontOk, Going, PlacedPast}
use Rattle.std.specs.Prelude.{None}

module _ (L : List ℕ → List ℕ) where
  -- ---- what was refused stays refused

  cursors-stay : (xs : List Put) (x : Put) (C : List ℕ) → CursorsOk L xs C → CursorsOk L (x ∷ xs) C
  cursors-stay xs x C k l s a b c = grows L xs x (l ∷ []) (bit_xor s l) (k l s a b c)

  taken-stays : (xs : List Put) (x : Put) (s : ℕ) → taken L xs s ≡ true → taken L (x ∷ xs) s ≡ true
  unfolding taken any
  taken-stays xs x s e = or_r (byte_in (map (bit_xor x.base) (L x.node)) s) (taken L xs s) e

  -- ---- where a search begins

  module _ (small : ByteLabels L) (xs : List Put) (p : List ℕ) (some : 1 ≤ length (L p)) where
    -- the labels, of which there is one at least
    shape : (l : ℕ) × ((ls : List ℕ) × (L p ≡ l ∷ ls))
    shape = go (L p) refl some
      where
        go : (k : List ℕ) → L p ≡ k → 1 ≤ length k → (l : ℕ) × ((ls : List ℕ) × (L p ≡ l ∷ ls))
        go [] e h = absurd (omega arith)
        go (l ∷ ls) e h = (l, (ls, e))

    alone-shape : length (L p) ≡ 1 → L p ≡ first (L p) ∷ []
    unfolding first
    alone-shape = go (L p)
      where
        go : (k : List ℕ) → length k ≡ 1 → k ≡ first k ∷ []
        go [] e = absurd (omega arith)
        go (l ∷ []) e = refl
        go (l ∷ m ∷ ls) e = absurd (omega arith)

    first-lt : first (L p) < 256
    unfolding first shape
    first-lt = subst (λ (z : List ℕ). first z < 256) (sym shape.1.1)
        (small p shape.0 (subst (λ (z : List ℕ). Mem shape.0 z) (sym shape.1.1) (here refl)))

    full-refused : (s : ℕ) → taken L xs s ≡ true → free L xs (L p) (bit_xor s (first (L p))) ≡ false
    unfolding first
    full-refused s t = subst (λ (z : List ℕ). free L xs z (bit_xor s (first z)) ≡ false) (sym shape.1.1)
        (taken_refused L xs shape.0 shape.1.0 s t)

    -- all that lies before the start is refused
    skipped : (C : List ℕ) (from high end : ℕ) → FrontOk L xs from high end → CursorsOk L xs C
        → (s : ℕ) → 256 ≤ s → s < start_on C (L p) from end * 64 → free L xs (L p) (bit_xor s (first (L p))) ≡ false
    skipped C from high end F K s a b = go (start-cases C (L p) from end)
      where
        go : (start_on C (L p) from end ≡ from)
            ⊎ ((length (L p) ≡ 1) × (start_on C (L p) from end ≡ get_or C (get_or (L p) 0 0) 0) × (from < get_or C (get_or (L p) 0 0) 0)
            × (get_or C (get_or (L p) 0 0) 0 ≤ end))
            → free L xs (L p) (bit_xor s (first (L p))) ≡ false
        go (inl e) = full-refused s (F.full s a (subst (λ (z : ℕ). s < z * 64) e b))
        go (inr e) =
            let f = first-get (L p) in
            ap (λ (z : List ℕ). free L xs z (bit_xor s (first (L p)))) (alone-shape e.0)
            ∙ K (first (L p)) s first-lt a (subst (λ (z : ℕ). s < z * 64) (e.1 ∙ ap (λ (z : ℕ). get_or C z 0) (sym f)) b)

  -- ---- one node more: its slot and its marks

  -- the search begins at word `start`
  module _ (xs : List Put) (p : List ℕ) (U B C : List ℕ) (from high : ℕ) (G : Going L xs U B C from high (length U))
      (bounds : Bounds U B from) (have : 1 ≤ length (L p)) (start : ℕ) (begins : start ≡ start_on C (L p) from (length U)) where
    abbrev slot : ℕ
    slot = slot_on U B start (length U) (L p)

    abbrev found : ℕ
    found = first_from (λ s. free L xs (L p) (bit_xor s (first (L p)))) (words xs - 256) 256

    bounds-now : Bounds U B start
    bounds-now = record {
      from_le = (let h = (start-in C (L p) from (length U) bounds.from_le).1 in omega arith);
      blocks = bounds.blocks;
      as_many = bounds.as_many;
      small = bounds.small;
    }

    low : 4 ≤ start
    low = let a = G.front.low in let h = (start-in C (L p) from (length U) bounds.from_le).0 in omega arith

    -- all that lies before is refused
    before : (s : ℕ) → 256 ≤ s → s < start * 64 → free L xs (L p) (bit_xor s (first (L p))) ≡ false
    before s a b = skipped G.small xs p have C from high (length U) G.front G.cursors s a (omega arith)

    -- past the capacity
    pub sought-past : length U * 64 ≤ slot → PlacedPast L xs p (length U) None
    unfolding words put top choose
    sought-past h =
        let z = slot-past L G.small xs p U B start G.marks bounds-now low before h in
        let q = xor_block_of found (first (L p)) (first-lt G.small xs p have) in
        let four = bounds.blocks in
        record { answer = refl; past = omega arith }

    -- within it, at slot s
    pub sought-at : (s b : ℕ) (U' B' : List ℕ) → (s ≡ slot) × (s < length U * 64) → b ≡ bit_xor s (get_or (L p) 0 0)
        → U' ≡ mark_all b U (L p) → B' ≡ mark B b → (b ≡ choose L xs (L p)) × MarksOk L (put L xs p) U' B' (length U)
    sought-at s b U' B' is eb eu em =
        let lt : slot < length U * 64 = omega arith in
        let e : b ≡ bit_xor slot (get_or (L p) 0 0) = eb ∙ ap (λ (x : ℕ). bit_xor x (get_or (L p) 0 0)) is.0 in (
          e ∙ sym (chosen L G.small xs p U B start G.marks bounds-now low before lt),
          rw (eu, em) (marks_then L G.small xs p U B start G.marks bounds-now low before b lt e),
        )

  -- ---- its cursor

  module _ (small : ByteLabels L) (xs : List Put) (p : List ℕ) (C : List ℕ) (K : CursorsOk L xs C) where
    pub cursors-kept : CursorsOk L (put L xs p) C
    unfolding put
    cursors-kept = cursors-stay xs (record { node = p; base = choose L xs (L p) }) C K

    -- of a node of one label: what lies before the word of its slot is refused for such a node
    pub cursors-set : (ls : List ℕ) → ls ≡ L p → length ls ≡ 1 → 256 ≤ length C → (l b w : ℕ) → l ≡ get_or ls 0 0 → b ≡ choose L xs (L p)
        → w ≡ bit_xor b l / 64 → CursorsOk L (put L xs p) (set C l w)
    unfolding put choose
    cursors-set ls el alone hc l b w il eb ew k s hk a lt = go (eqb k l) refl
      where
        one : length (L p) ≡ 1
        one = ap length (sym el) ∙ alone

        some : 1 ≤ length (L p)
        some = omega (arith, one)

        l-first : l ≡ first (L p)
        l-first = il ∙ ap (λ (z : List ℕ). get_or z 0 0) el ∙ sym (first-get (L p))

        found' : ℕ
        found' = first_from (λ s. free L xs (L p) (bit_xor s (first (L p)))) (words xs - 256) 256

        back : bit_xor b l ≡ found'
        back = ap₂ bit_xor eb l-first ∙ xor_comm (bit_xor found' (first (L p))) (first (L p))
            ∙ ap (bit_xor (first (L p))) (xor_comm found' (first (L p))) ∙ xor_cancel (first (L p)) found'

        go : (c : Bool) → eqb k l ≡ c → free L (record { node = p; base = choose L xs (L p) } ∷ xs) (k ∷ []) (bit_xor s k) ≡ false
        go false e = cursors-stay xs (record { node = p; base = choose L xs (L p) }) C K k s hk a
            (subst (λ (z : ℕ). s < z * 64) (get_or-set_other C l k w 0 (eqb-false k l e)) lt)
        go true e =
            let is : k ≡ first (L p) = eqb-true k l e ∙ l-first in
            let at : get_or (set C l w) k 0 ≡ w = ap (λ (z : ℕ). get_or (set C l w) z 0) (eqb-true k l e)
            ∙ get_or-set_same C l w 0 (omega (arith, l-first, first-lt small xs p some)) in
            let under : s < found' = omega (arith, back) in
            grows L xs (record { node = p; base = choose L xs (L p) }) (k ∷ []) (bit_xor s k)
            (subst (λ (z : ℕ). free L xs (z ∷ []) (bit_xor s z) ≡ false) (sym is)
            (ap (λ (z : List ℕ). free L xs z (bit_xor s (first (L p)))) (sym (alone-shape small xs p some one))
            ∙ choose-least L small xs p s a under))

  -- the first word that is not full, after a node more
  pub front-then : (xs : List Put) (p : List ℕ) (U B : List ℕ) (from high end b : ℕ) → FrontOk L xs from high end
      → MarksOk L (put L xs p) U B end → from ≤ end → end % 4 ≡ 0
      → b ≡ choose L xs (L p) → b < end * 64 → FrontOk L (put L xs p) (open_on U from end) (max (b / 256) high) end
  unfolding put open_on words top marked
  front-then xs p U B from high end b F M fe four eb lt = record {
    low = (let a = F.low in let c = from_le T (end - from) from in omega arith);
    full = λ s a c. go s a c (ltb s (from * 64)) refl;
    high_is = (let h = F.high_is in let q = ap (λ (z : ℕ). z / 256) eb in omega arith);
    room = (let h = F.room in let q = ap (λ (z : ℕ). z / 256) eb in omega arith);
  }
    where
      T : ℕ → Bool
      T i = not (eqb (get_or U i 0) 0xffffffffffffffff)

      top-le : first_from T (end - from) from ≤ end
      top-le = let t = from_most T (end - from) from in omega arith

      go : (s : ℕ) → 256 ≤ s → s < first_from T (end - from) from * 64 → (c : Bool) → ltb s (from * 64) ≡ c
          → taken L (record { node = p; base = choose L xs (L p) } ∷ xs) s ≡ true
      go s a c true e = taken-stays xs (record { node = p; base = choose L xs (L p) }) s (F.full s a (ltb-true s (from * 64) e))
      go s a c false e =
          let k = ltb-false s (from * 64) e in
          let q : s / 64 < first_from T (end - from) from = omega arith in
          let ones : get_or U (s / 64) 0 ≡ 0xffffffffffffffff = eqb-true _ _
          (not-false _ (least T (end - from) from (s / 64) (omega arith) q)) in
          sym (M.slots s (omega (arith, top-le))) ∙ at s ones
        where
          at : (s : ℕ) → get_or U (s / 64) 0 ≡ 0xffffffffffffffff → marked U s ≡ true
          at s ones = ap (λ (z : ℕ). eqb (Rattle.laws.specs.Perm.bit z (s % 64)) 1) ones ∙ bit-of_ones (s % 64) (omega arith)
