-- Words of marks: what the search tests, 64 slots at once. Assumes nothing.
use Rattle.std.specs.Prelude.{◌≡◌, Bool, not, ◌||◌, cond, List, [], ◌∷◌, ℕ, ◌+◌, ◌-◌, ◌*◌, ◌%◌, ◌^◌, ◌≤◌, ◌<◌}
use Rattle.std.specs.Prelude.{length, get_or, eqb, leb, ltb, Option, MatchOption}
use Rattle.std.specs.Int.Bits.{bit_xor}
use Rattle.spec.specs.Lists.{any}
use Rattle.spec.specs.Layout.{first_from}
use Rattle.laws.specs.Perm.{bit}
use Rattle.laws.specs.MarkLaws.{marked, mark}

-- bit j of w is the mark of slot (64 i + j) XOR d
abbrev pub MovedWord : List ℕ → ℕ → ℕ → ℕ → Type 0
MovedWord M i d w = (j : ℕ) → j < 64 → eqb (bit w j) 1 ≡ marked M (bit_xor (i * 64 + j) d)

-- some child's slot is taken, where the first label falls on slot s
unfoldable pub clash_at : List ℕ → ℕ → List ℕ → ℕ → Bool
unfolding marked any
clash_at used l1 ls s = any (λ l. marked used (bit_xor (bit_xor s l1) l)) ls

-- slot s is refused: its base is used, or a child's slot is taken
unfoldable pub bad_at : List ℕ → List ℕ → List ℕ → ℕ → Bool
unfolding marked clash_at
bad_at used bases ls s = marked bases (bit_xor s (get_or ls 0 0)) || clash_at used (get_or ls 0 0) ls s

-- bit j of r says that slot 64 i + j is refused
abbrev pub BadWord : List ℕ → List ℕ → List ℕ → ℕ → ℕ → Type 0
BadWord used bases ls i r = (j : ℕ) → j < 64 → eqb (bit r j) 1 ≡ bad_at used bases ls (i * 64 + j)

-- the smallest slot that is not refused, from word `from` up to word `end`; 64 times end if all are
unfoldable pub slot_on : List ℕ → List ℕ → ℕ → ℕ → List ℕ → ℕ
unfolding first_from bad_at
slot_on used bases from end ls = first_from (λ s. not (bad_at used bases ls s)) ((end - from) * 64) (from * 64)

-- that slot, or none
abbrev pub FirstFree : List ℕ → List ℕ → List ℕ → ℕ → ℕ → Option ℕ → Type 0
FirstFree used bases ls from end r =
    let s = slot_on used bases from end ls in
    MatchOption r (s ≡ end * 64) (λ found. (found ≡ s) × (s < end * 64))

-- the marks with the slots of a node's children
unfoldable pub mark_all : ℕ → List ℕ → List ℕ → List ℕ
unfolding mark
mark_all base M [] = M
mark_all base M (l ∷ ls) = mark_all base (mark M (bit_xor base l)) ls

-- the first word from `from` on that is not full, end if all below that are
unfoldable pub open_on : List ℕ → ℕ → ℕ → ℕ
unfolding first_from
open_on U from end = first_from (λ i. not (eqb (get_or U i 0) 0xffffffffffffffff)) (end - from) from

-- where a node of one label begins its search: at the word where the last one of this label was placed, if that is further on
unfoldable pub start_on : List ℕ → List ℕ → ℕ → ℕ → ℕ
start_on C ls from end =
    cond (eqb (length ls) 1)
    (cond (ltb from (get_or C (get_or ls 0 0) 0)) (cond (leb (get_or C (get_or ls 0 0) 0) end) (get_or C (get_or ls 0 0) 0) from) from)
    from

-- What the search asks: words from `from` on are there, as many in both runs of marks, in whole blocks of four, and every slot is a number
-- of 32 bits.
pub record Bounds (U B : List ℕ) (from : ℕ) : Type 0 where
  pub from_le : from ≤ length U
  pub blocks : length U % 4 ≡ 0
  pub as_many : length B ≡ length U
  pub small : length U * 64 < 2 ^ 32
