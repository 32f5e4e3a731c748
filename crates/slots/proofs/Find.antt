-- The turns of the search: a word of 64 candidates, the first that is free, the marks of a node's slots. Assumes nothing.
use mathlib.Core.Path.{◌≡◌, sym, ap, ap₂, ◌∙◌, subst}
use mathlib.Core.Bool.{Bool, true, false, not, ◌||◌, or-false, or_comm}
use mathlib.Core.List.{List, [], ◌∷◌}
use Prim.Native.Nat.{ℕ, suc, ◌+◌, ◌-◌, ◌*◌, ◌/◌, ◌%◌, ◌^◌, ◌≤◌, ◌<◌, max}
use native.Mathlib.Omega.{arith}
use lib.Dec.{eqb}
use lib.ListN.{length, get_or, set, take, drop, length-set, length-drop, drop_of_length-le}
use lib.Seq.{take-suc, take_all, drop-cons}
use lib.Bits.{bit_xor, bit_or, xor_shr, xor_mod, xor_comm}
use lib.Count.{count_trailing_zeros}
use borrow.Author.Tests.{eq-eqb, ne_eqb}
use Rattle.spec.specs.Lists.{any}
use Rattle.spec.specs.Layout.{first_from}
use Rattle.laws.specs.Tests.{or_l, or_r, any_append}
use Rattle.laws.specs.Xor.{xor_cancel, xor_assoc, xor_block_of}
use Rattle.laws.specs.First.{first-is, skip}
use Rattle.laws.specs.Perm.{bit, bit-lt, bit-or}
use Rattle.laws.specs.MarkLaws.{marked, mark, mark-is}
use Rattle.slots.specs.Marks.{MovedWord, clash_at, bad_at, BadWord, mark_all}
use Rattle.slots.proofs.Bitwise.{one_shl, bit-of_zero, bit-of_ones, not-bit, lowest-bit}

-- ---- a word of candidates

-- bit j of r says that slot 64 i + j is refused for a slot taken
abbrev pub ClashWord : List ℕ → ℕ → List ℕ → ℕ → ℕ → Type 0
ClashWord used l1 ls i r = (j : ℕ) → j < 64 → eqb (bit r j) 1 ≡ clash_at used l1 ls (i * 64 + j)

-- a label moves a word within its block of four
pub in_four : (i d n : ℕ) → d < 256 → i / 4 * 4 + 4 ≤ n → bit_xor i (d / 64) < n
in_four i d n h k = let e = xor_shr i (d / 64) 2 in let z : d / 64 / 4 ≡ 0 = omega arith in let q = ap (bit_xor (i / 4)) z
    ∙ lib.Bits.xor_zero_r (i / 4) in omega arith

-- a word permuted has the marks of the slots moved
pub moved_word : (M : List ℕ) (i d w : ℕ)
    → (d % 64 < 64 → (j : ℕ) → j < 64 → bit w j ≡ bit (get_or M (bit_xor i (d / 64)) 0) (bit_xor j (d % 64))) → MovedWord M i d w
unfolding marked
moved_word M i d w bits j h =
    ap (λ (z : ℕ). eqb z 1) (bits (omega arith) j h)
    ∙ sym (ap₂ (λ (x y : ℕ). eqb (bit (get_or M x 0) y) 1) word place)
  where
    hi : (i * 64 + j) / 64 ≡ i
    hi = omega arith

    lo : (i * 64 + j) % 64 ≡ j
    lo = omega arith

    word : bit_xor (i * 64 + j) d / 64 ≡ bit_xor i (d / 64)
    word = xor_shr (i * 64 + j) d 6 ∙ ap (λ (z : ℕ). bit_xor z (d / 64)) hi

    place : bit_xor (i * 64 + j) d % 64 ≡ bit_xor j (d % 64)
    place = xor_mod (i * 64 + j) d 6 ∙ ap (λ (z : ℕ). bit_xor z (d % 64)) lo

or-test : (a b i : ℕ) → eqb (bit (bit_or a b) i) 1 ≡ (eqb (bit a i) 1 || eqb (bit b i) 1)
or-test a b i = ap (λ (z : ℕ). eqb z 1) (bit-or a b i) ∙ go (bit a i) (bit b i) (bit-lt a i) (bit-lt b i)
  where
    go : (x y : ℕ) → x < 2 → y < 2 → eqb (max x y) 1 ≡ (eqb x 1 || eqb y 1)
    go x y p q = grind arith

-- l1 is the first label, ls are the others
module _ (used : List ℕ) (l1 : ℕ) (ls : List ℕ) (i : ℕ) where
  -- the first label falls on the slot itself
  pub clash-first : ClashWord used l1 (l1 ∷ []) i (get_or used i 0)
  unfolding clash_at any marked
  clash-first j hj =
      let x : (i * 64 + j) / 64 ≡ i = omega arith in
      let y : (i * 64 + j) % 64 ≡ j = omega arith in
      sym (or-false _ ∙ ap (marked used) back ∙ ap₂ (λ (x y : ℕ). eqb (bit (get_or used x 0) y) 1) x y)
    where
      back : bit_xor (bit_xor (i * 64 + j) l1) l1 ≡ i * 64 + j
      back = xor_comm (bit_xor (i * 64 + j) l1) l1 ∙ ap (bit_xor l1) (xor_comm (i * 64 + j) l1) ∙ xor_cancel l1 (i * 64 + j)

  -- one label more
  pub clash-more : (k bad r : ℕ) → k < length ls → ClashWord used l1 (l1 ∷ take k ls) i bad
      → MovedWord used i (bit_xor l1 (get_or ls k 0)) r → ClashWord used l1 (l1 ∷ take (k + 1) ls) i (bit_or bad r)
  unfolding clash_at any
  clash-more k bad r h v e j hj =
      let q : k + 1 ≡ suc k = omega arith in
      or-test bad r j
      ∙ ap₂ ◌||◌ (v j hj) (e j hj
      ∙ ap (marked used) (sym (xor_assoc (i * 64 + j) l1 (get_or ls k 0))))
      ∙ sym (ap (λ (z : List ℕ). any (λ l. marked used (bit_xor (bit_xor (i * 64 + j) l1) l)) (l1 ∷ z))
      (ap (λ (z : ℕ). take z ls) q ∙ take-suc ls k 0 h)
      ∙ any_append (λ l. marked used (bit_xor (bit_xor (i * 64 + j) l1) l)) (l1 ∷ take k ls) (get_or ls k 0 ∷ [])
      ∙ ap (λ (c : Bool). any (λ l. marked used (bit_xor (bit_xor (i * 64 + j) l1) l)) (l1 ∷ take k ls) || c) (or-false _))

  module _ (bases : List ℕ) where
    -- no candidate is left: further labels change nothing
    pub clash-all : (k bad : ℕ) → bad ≡ 0xffffffffffffffff → ClashWord used l1 (l1 ∷ take k ls) i bad → BadWord used bases (l1 ∷ ls) i bad
    unfolding bad_at clash_at
    clash-all k bad e v j hj =
        let one = ap (λ (z : ℕ). eqb (bit z j) 1) e ∙ bit-of_ones j hj in
        let yes : any (λ l. marked used (bit_xor (bit_xor (i * 64 + j) l1) l)) (l1 ∷ take k ls) ≡ true = sym (v j hj) ∙ one in
        one ∙ sym (or_r (marked bases (bit_xor (i * 64 + j) l1)) _
        (ap (λ (z : List ℕ). any (λ l. marked used (bit_xor (bit_xor (i * 64 + j) l1) l)) (l1 ∷ z)) (sym (lib.ListN.take-append-drop k ls))
        ∙ any_append (λ l. marked used (bit_xor (bit_xor (i * 64 + j) l1) l)) (l1 ∷ take k ls) (drop k ls) ∙ or_l _ _ yes))

    -- the bases come last
    pub clash-base : (k bad r : ℕ) → length ls ≤ k → ClashWord used l1 (l1 ∷ take k ls) i bad → MovedWord bases i l1 r
        → BadWord used bases (l1 ∷ ls) i (bit_or bad r)
    unfolding bad_at
    clash-base k bad r h v e j hj =
        or-test bad r j
        ∙ ap₂ ◌||◌ (v j hj ∙ ap (λ (l : List ℕ). clash_at used l1 (l1 ∷ l) (i * 64 + j)) (take_all k ls h))
        (e j hj)
        ∙ or_comm (clash_at used l1 (l1 ∷ ls) (i * 64 + j)) (marked bases (bit_xor (i * 64 + j) l1))

-- ---- the search

module _ (used bases ls : List ℕ) (i bad : ℕ) (is : BadWord used bases ls i bad) (fits : bad < 2 ^ 64) where
  set-bad : (j : ℕ) → j < 64 → bit (2 ^ 64 - 1 - bad) j ≡ 0 → bad_at used bases ls (i * 64 + j) ≡ true
  set-bad j h e = let n = not-bit bad j fits h in sym (is j h) ∙ eq-eqb (bit bad j) 1 (omega (arith, bit-lt bad j))

  clear-good : (j : ℕ) → j < 64 → bit (2 ^ 64 - 1 - bad) j ≡ 1 → bad_at used bases ls (i * 64 + j) ≡ false
  clear-good j h e = let n = not-bit bad j fits h in sym (is j h) ∙ ne_eqb (bit bad j) 1 (λ z. omega arith)

  within : (s : ℕ) → i * 64 ≤ s → s < i * 64 + 64 → ((j : ℕ) → j < 64 → bad_at used bases ls (i * 64 + j) ≡ true)
      → bad_at used bases ls s ≡ true
  within s a b h = let q : i * 64 + (s - i * 64) ≡ s = omega arith in
      subst (λ (z : ℕ). bad_at used bases ls z ≡ true) q (h (s - i * 64) (omega arith))

  -- no slot of the word is free
  pub all-bad : 2 ^ 64 - 1 - bad ≡ 0 → (s : ℕ) → i * 64 ≤ s → s < (i + 1) * 64 → bad_at used bases ls s ≡ true
  all-bad z s a b = within s a (omega arith) (λ j h. set-bad j h (ap (λ (y : ℕ). bit y j) z ∙ bit-of_zero j))

  -- the lowest set bit of the complement is the smallest free slot
  pub hit : (from n t : ℕ) → (2 ^ 64 - 1 - bad ≡ 0 → ⊥) → t ≡ count_trailing_zeros 64 (2 ^ 64 - 1 - bad) → from ≤ i → i < from + n
      → ((s : ℕ) → from * 64 ≤ s → s < i * 64 → bad_at used bases ls s ≡ true)
      → i * 64 + t ≡ first_from (λ s. not (bad_at used bases ls s)) (n * 64) (from * 64)
  hit from n t z e a b before =
      sym (first-is (λ s. not (bad_at used bases ls s)) (n * 64) (from * 64) (i * 64 + t) (omega arith) (omega (arith, lt))
      (ap not (clear-good t lt (ap (bit (2 ^ 64 - 1 - bad)) e ∙ low.1)))
      (λ s p q. ap not (go s p q)))
    where
      low : (count_trailing_zeros 64 (2 ^ 64 - 1 - bad) < 64) × (bit (2 ^ 64 - 1 - bad) (count_trailing_zeros 64 (2 ^ 64 - 1 - bad)) ≡ 1)
          × ((j : ℕ) → j < count_trailing_zeros 64 (2 ^ 64 - 1 - bad) → bit (2 ^ 64 - 1 - bad) j ≡ 0)
      low = lowest-bit (2 ^ 64 - 1 - bad) z (omega arith)

      lt : t < 64
      lt = subst (λ (x : ℕ). x < 64) (sym e) low.0

      go : (s : ℕ) → from * 64 ≤ s → s < i * 64 + t → bad_at used bases ls s ≡ true
      go s p q =
          let b = before s p in
          let f = set-bad (s - i * 64) in
          let z = low.2 (s - i * 64) in
          grind (arith, lt, e)

-- what holds below i * 64 and in the next word holds below (i + 1) * 64
pub both : (f : ℕ → Bool) (from i : ℕ) (c : Bool) → ((s : ℕ) → from * 64 ≤ s → s < i * 64 → f s ≡ c)
    → ((s : ℕ) → i * 64 ≤ s → s < (i + 1) * 64 → f s ≡ c)
    → (s : ℕ) → from * 64 ≤ s → s < (i + 1) * 64 → f s ≡ c
both f from i c h k s a b = grind arith

pub miss : (f : ℕ → Bool) (n s : ℕ) → ((t : ℕ) → s ≤ t → t < s + n → f t ≡ false) → first_from f n s ≡ s + n
unfolding first_from
miss f n s h = let q : n ≡ n + 0 = omega arith in ap (λ (z : ℕ). first_from f z s) q ∙ skip f 0 s n h

-- no slot below end is free
pub none : (f : ℕ → Bool) (from end : ℕ) → from ≤ end → ((s : ℕ) → from * 64 ≤ s → s < end * 64 → f s ≡ true)
    → end * 64 ≡ first_from (λ s. not (f s)) ((end - from) * 64) (from * 64)
none f from end a h =
    let q : from * 64 + (end - from) * 64 ≡ end * 64 = omega arith in
    sym (miss (λ s. not (f s)) ((end - from) * 64) (from * 64) (λ t b c. ap not (h t b (omega arith))) ∙ q)

-- ---- marks

pub length-mark : (M : List ℕ) (s : ℕ) → length (mark M s) ≡ length M
unfolding mark
length-mark M s = simp length-set

pub stored : (M : List ℕ) (s : ℕ) → set M (s / 64) (bit_or (get_or M (s / 64) 0) (1 * 2 ^ (s % 64) % 2 ^ 64)) ≡ mark M s
unfolding mark
stored M s = ap (λ (z : ℕ). set M (s / 64) (bit_or (get_or M (s / 64) 0) z)) (one_shl (s % 64) (omega arith))

pub stored_means : (M : List ℕ) (s t : ℕ) → s / 64 < length M
    → marked (set M (s / 64) (bit_or (get_or M (s / 64) 0) (1 * 2 ^ (s % 64) % 2 ^ 64))) t ≡ (marked M t || eqb t s)
stored_means M s t h = ap (λ (N : List ℕ). marked N t) (stored M s) ∙ mark-is M s t h

pub ruleset mark_stored = (stored, stored_means)

pub marks_on : (base : ℕ) (M ls : List ℕ) (k : ℕ) → k < length ls
    → mark_all base (mark M (bit_xor base (get_or ls k 0))) (drop (k + 1) ls) ≡ mark_all base M (drop k ls)
unfolding mark_all
marks_on base M ls k h =
    let q : suc k ≡ k + 1 = omega arith in
    sym (ap (mark_all base M) (drop-cons ls k 0 h) ∙ ap (λ (y : ℕ). mark_all base (mark M (bit_xor base (get_or ls k 0))) (drop y ls)) q)

pub marks_done : (base : ℕ) (M ls : List ℕ) (k : ℕ) → length ls ≤ k → mark_all base M (drop k ls) ≡ M
unfolding mark_all
marks_done base M ls k h = ap (mark_all base M) (drop_of_length-le ls h)

-- a label stays in the block
pub slot_in : (base l n : ℕ) → l < 256 → base / 256 * 4 + 4 ≤ n → bit_xor base l / 64 < n
slot_in base l n h k = let e = xor_block_of base l h in omega arith

pub ruleset mark_turns = (marks_on, marks_done, slot_in)
