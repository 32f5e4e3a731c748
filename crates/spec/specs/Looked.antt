-- How far a match looks, said of tokens and bytes alone. Document 02, W-202: "Matching shall give, beside id and length, the bytes looked
-- at". Assumes nothing.
use Rattle.std.specs.Prelude.{◌&&◌, cond, List, [], ◌∷◌, ℕ, zero, suc, pred, ◌+◌, min, max, eqb, ltb, length, take}
use Rattle.std.specs.Prelude.{None, Some}
use Rattle.spec.specs.Token.{Token, longest, proper_prefix}

-- ---- one match

-- how many bytes p and s have in common from their starts
unfoldable pub agree : List ℕ → List ℕ → ℕ
agree [] s = 0
agree (a ∷ p) [] = 0
agree (a ∷ p) (b ∷ s) = cond (eqb a b) (suc (agree p s)) 0

-- "the longest prefix of the rest that begins some token": its length
unfoldable pub begun : List Token → List ℕ → ℕ
unfolding agree
begun [] s = 0
begun (t ∷ ts) s = max (agree t.bytes s) (begun ts s)

-- of a prefix of k bytes: "and one more if a byte follows and that prefix is a proper prefix of a token"
unfoldable pub one_past : List Token → List ℕ → ℕ → ℕ
unfolding proper_prefix
one_past ts s k = cond (ltb k (length s) && proper_prefix ts (take k s)) (suc k) k

-- "but never fewer than the smaller of two and the bytes left"
unfoldable pub looked : List Token → List ℕ → ℕ
unfolding begun one_past
looked ts s = max (one_past ts s (begun ts s)) (min 2 (length s))

-- ---- some matches, one after the other

-- the bytes looked at for the first n tokens that the scan of s finds, added up; the first k bytes of s belong to the token found before
unfoldable pub looked_at : List Token → ℕ → ℕ → List ℕ → ℕ
unfolding longest looked
looked_at ts n k [] = 0
looked_at ts n (suc k) (b ∷ s) = looked_at ts n k s
looked_at ts zero zero (b ∷ s) = 0
looked_at ts (suc n) zero (b ∷ s) = elim (longest ts (b ∷ s)) [
  | None ↦ 0
  | Some t ↦ looked ts (b ∷ s) + looked_at ts n (pred (length t.bytes)) s
]

abbrev pub looked_sum : List Token → ℕ → List ℕ → ℕ
looked_sum ts n s = looked_at ts n 0 s
