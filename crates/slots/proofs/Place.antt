-- Placing a node by words of marks is `put`: whatever word the search starts at, if what lies before it is refused. Assumes nothing.
use mathlib.Core.Path.{◌≡◌, refl, sym, ap, ap₂, ◌∙◌, subst}
use mathlib.Core.Bool.{Bool, true, false, not, ◌&&◌, ◌||◌, or_assoc, or_comm, or-false}
use mathlib.Core.List.Memᴰ.{head as here}
use mathlib.Core.List.Memᴰ.{tail as there}
use mathlib.Core.List.{List, [], ◌∷◌, map, Memᴰ as Mem}
use Prim.Native.Nat.{ℕ, zero, suc, ◌+◌, ◌-◌, ◌*◌, ◌/◌, ◌%◌, ◌≤◌, ◌<◌}
use native.Mathlib.Omega.{arith}
use lib.Dec.{eqb}
use lib.ListN.{length, get_or}
use lib.Bits.{bit_xor}
use Rattle.spec.specs.Lists.{any, byte_in}
use Rattle.spec.specs.Layout.{Put, first_from, used, taken, free, words, top, first, choose, put}
use Rattle.laws.specs.Nodes.{ByteLabels}
use Rattle.laws.specs.Xor.{xor_block_of}
use Rattle.laws.specs.First.{first_passes, least, from_le, from_most, first-is}
use Rattle.laws.specs.Placed.{above}
use Rattle.laws.specs.MarkLaws.{marked, mark, mark-is}
use Rattle.slots.specs.Going.{MarksOk}
use Rattle.slots.specs.Marks.{Bounds, bad_at, clash_at, slot_on, mark_all}
use Rattle.slots.proofs.Find.{length-mark, slot_in}

-- ---- the marks stand for what is placed

any_same : {A : Type 0} (f g : A → Bool) (l : List A) → ((x : A) → Mem x l → f x ≡ g x) → any f l ≡ any g l
unfolding any
any_same f g [] h = refl
any_same f g (x ∷ l) h = ap₂ ◌||◌ (h x (here refl)) (any_same f g l (λ y m. h y (there m)))

any_map : {A C : Type 0} (f : C → Bool) (g : A → C) (l : List A) → any f (map g l) ≡ any (λ x. f (g x)) l
unfolding any
any_map f g [] = refl
any_map f g (x ∷ l) = ap (λ (c : Bool). f (g x) || c) (any_map f g l)

pub first-get : (ls : List ℕ) → first ls ≡ get_or ls 0 0
unfolding first
first-get [] = refl
first-get (l ∷ ls) = refl

-- a base lies in the block of its slot
pub xor_below : (s l end : ℕ) → l < 256 → end % 4 ≡ 0 → s < end * 64 → bit_xor s l < end * 64
xor_below s l end h e k = let q = xor_block_of s l h in omega arith

pub passes : (f : ℕ → Bool) (n s : ℕ) → first_from f n s < s + n → f (first_from f n s) ≡ true
unfolding first_from
passes f zero s h = absurd (omega arith)
passes f (suc n) s h = grind (arith, passes f n (suc s))

mark-all_is : (base : ℕ) (ls M : List ℕ) (t : ℕ) → ((l : ℕ) → Mem l ls → l < 256) → base / 256 * 4 + 4 ≤ length M
    → marked (mark_all base M ls) t ≡ (marked M t || any (λ l. eqb t (bit_xor base l)) ls)
unfolding mark_all any
mark-all_is base [] M t sm h = sym (or-false (marked M t))
mark-all_is base (l ∷ ls) M t sm h =
    mark-all_is base ls (mark M (bit_xor base l)) t (λ k m. sm k (there m))
    (subst (λ (n : ℕ). base / 256 * 4 + 4 ≤ n) (sym (length-mark M (bit_xor base l))) h)
    ∙ ap (λ (c : Bool). c || any (λ k. eqb t (bit_xor base k)) ls)
    (mark-is M (bit_xor base l) t (slot_in base l (length M) (sm l (here refl)) h))
    ∙ or_assoc (marked M t) (eqb t (bit_xor base l)) (any (λ k. eqb t (bit_xor base k)) ls)

module _ (L : List ℕ → List ℕ) (small : ByteLabels L) (xs : List Put) (p : List ℕ) (U B : List ℕ) (from : ℕ)
    (K : MarksOk L xs U B (length U)) (bounds : Bounds U B from) (f4 : 4 ≤ from) where
  abbrev end : ℕ
  end = length U

  abbrev ls : List ℕ
  ls = L p

  abbrev l1 : ℕ
  l1 = get_or ls 0 0

  abbrev F : ℕ → Bool
  F s = free L xs ls (bit_xor s (first ls))

  abbrev r : ℕ
  r = slot_on U B from end ls

  l1-small : get_or ls 0 0 < 256
  l1-small = at (L p) (λ l m. small p l m)
    where
      at : (ks : List ℕ) → ((l : ℕ) → Mem l ks → l < 256) → get_or ks 0 0 < 256
      at [] h = omega arith
      at (k ∷ ks) h = h k (here refl)

  not-both : (a b : Bool) → not (a || b) ≡ (not a && not b)
  not-both true b = refl
  not-both false b = refl

  free-is : (s : ℕ) → s < end * 64 → not (bad_at U B ls s) ≡ F s
  unfolding bad_at clash_at free
  free-is s h =
      let hb = xor_below s l1 end l1-small bounds.blocks h in
      ap not (ap₂ ◌||◌ (K.bases (bit_xor s l1) hb)
      (any_same _ _ ls (λ l m. K.slots (bit_xor (bit_xor s l1) l) (xor_below (bit_xor s l1) l end (small p l m) bounds.blocks hb))))
      ∙ not-both (used xs (bit_xor s l1)) (any (λ l. taken L xs (bit_xor (bit_xor s l1) l)) ls)
      ∙ ap (λ (z : ℕ). not (used xs (bit_xor s z)) && not (any (λ l. taken L xs (bit_xor (bit_xor s z) l)) ls)) (sym (first-get ls))

  -- what was passed over stays refused
  module _ (skipped : (s : ℕ) → 256 ≤ s → s < from * 64 → F s ≡ false) where
    before : (s : ℕ) → 256 ≤ s → s < r → s < end * 64 → F s ≡ false
    unfolding slot_on
    before s a b h =
        let e = free-is s h in
        let l = least (λ x. not (bad_at U B ls x)) ((end - from) * 64) (from * 64) s in
        grind (arith, skipped s a)

    r-le : r ≤ end * 64
    unfolding slot_on
    r-le = let t = from_most (λ x. not (bad_at U B ls x)) ((end - from) * 64) (from * 64) in omega arith

    r-ge : from * 64 ≤ r
    unfolding slot_on
    r-ge = from_le (λ x. not (bad_at U B ls x)) ((end - from) * 64) (from * 64)

    past : F (words xs) ≡ true
    unfolding words
    past = above L small xs ls (bit_xor (256 * (1 + top xs)) (first ls)) (λ l m. small p l m)
        (let q = xor_block_of (256 * (1 + top xs)) (first ls) (subst (λ (z : ℕ). z < 256) (sym (first-get ls)) l1-small) in omega arith)

    words-ge : 256 ≤ words xs
    unfolding words
    words-ge = omega arith

    pub slot_is : r < end * 64 → first_from F (words xs - 256) 256 ≡ r
    slot_is h = first-is F (words xs - 256) 256 r (let a = r-ge in omega arith) (let a = words-ge in let c = up in omega arith)
        (sym (free-is r h) ∙ pass) (λ t a b. before t a b (omega arith))
      where
        pass : not (bad_at U B ls r) ≡ true
        pass = unfold slot_on in passes (λ x. not (bad_at U B ls x)) ((end - from) * 64) (from * 64) (unfold slot_on in omega (arith, h))

        up : r ≤ words xs
        up = let p = past in let b = before (words xs) words-ge in grind arith

    -- none within the capacity: the slot that is wanted lies past it
    pub slot-past : end * 64 ≤ r → end * 64 ≤ first_from F (words xs - 256) 256
    slot-past h =
        let b = before z (from_le F (words xs - 256) 256) in
        let p = first_passes F (words xs - 256) 256 hit in
        grind arith
      where
        z : ℕ
        z = first_from F (words xs - 256) 256

        hit : F (256 + (words xs - 256)) ≡ true
        hit = let w = words-ge in let q : 256 + (words xs - 256) ≡ words xs = omega arith in ap F q ∙ past

    pub chosen : r < end * 64 → choose L xs ls ≡ bit_xor r l1
    unfolding choose
    chosen h = ap₂ bit_xor (slot_is h) (first-get ls)

    pub marks_then : (b : ℕ) → r < end * 64 → b ≡ bit_xor r l1 → MarksOk L (put L xs p) (mark_all b U ls) (mark B b) end
    unfolding put taken used byte_in any
    marks_then b h e = record {
      slots = λ s hs. mark-all_is b ls U s (λ l m. small p l m) room ∙ or_comm (marked U s) (any (λ l. eqb s (bit_xor b l)) ls)
          ∙ ap₂ ◌||◌ (sym (any_map (eqb s) (bit_xor b) ls) ∙ ap (λ (z : ℕ). any (eqb s) (map (bit_xor z) ls)) base) (K.slots s hs);
      bases = λ t ht. mark-is B b t low ∙ or_comm (marked B t) (eqb t b) ∙ ap₂ ◌||◌ (ap (eqb t) base) (K.bases t ht);
    }
      where
        base : b ≡ choose L xs ls
        base = e ∙ sym (chosen h)

        blk : b / 256 ≡ r / 256
        blk = ap (λ (z : ℕ). z / 256) e ∙ xor_block_of r l1 l1-small

        room : b / 256 * 4 + 4 ≤ length U
        room = omega (arith, blk, h, bounds.blocks)

        low : b / 64 < length B
        low = omega (arith, blk, h, bounds.blocks, bounds.as_many)
