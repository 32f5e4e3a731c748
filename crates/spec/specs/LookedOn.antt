-- How far a match looks on any memory. Document 02, W-202: "On other memory the figure is the number of bytes that 01's walk read." On
-- loaded memory that is what `Looked` says on tokens: a theorem, and nothing here says so. Assumes nothing.
use Rattle.std.specs.Prelude.{not, ◌&&◌, ◌||◌, cond, List, [], ◌∷◌, ℕ, zero, suc, pred, ◌+◌, ◌*◌, eqb, take, get_or}
use Rattle.std.specs.Int.Bits.{bit_xor}
use Rattle.spec.specs.Memory.{Memory}
use Rattle.spec.specs.Match.{base_in, id_in, goes, nothing, found, match_on}

-- the bytes that the walk reads through the table from a base on: each that it comes to, the one that leads nowhere too
unfoldable pub read_on : List ℕ → List ℕ → ℕ → ℕ
unfolding goes base_in
read_on table [] base = 0
read_on table (b ∷ s) base =
    let w = get_or table (bit_xor base b) 0 in
    suc (cond (goes w b && not (eqb (base_in w) 0)) (read_on table s (base_in w)) 0)

-- from the root word w on, after the two bytes that it is found by
unfoldable pub read_from : List ℕ → ℕ → List ℕ → ℕ
unfolding read_on base_in id_in
read_from table w s = cond (eqb w 0 || (not (eqb (id_in w) 0) && eqb (base_in w) 0)) 0 (read_on table s (base_in w))

-- The bytes that a match reads; one byte alone is read too. "a stop at 255 bytes": the 256th is never read.
unfoldable pub looked_on : Memory → List ℕ → ℕ
unfolding read_from
looked_on m [] = 0
looked_on m (a ∷ []) = 1
looked_on m (a ∷ b ∷ s) = 2 + read_from m.table (get_or m.roots (a * 256 + b) 0) (take 253 s)

-- of the first n matches in s, added up; the first k bytes of s belong to the token found before
unfoldable pub sum_on : Memory → ℕ → ℕ → List ℕ → ℕ
unfolding match_on looked_on
sum_on m n k [] = 0
sum_on m n (suc k) (b ∷ s) = sum_on m n k s
sum_on m zero zero (b ∷ s) = 0
sum_on m (suc n) zero (b ∷ s) = elim (match_on m (b ∷ s)) [
  | nothing ↦ 0
  | found i len ↦ looked_on m (b ∷ s) + sum_on m n (pred len) s
]
