-- The words of a row of roots, by any of them. Assumes nothing.
use Rattle.std.proofs.Common.{◌≡◌, ℕ, Bool, ◌||◌, List, [], ◌∷◌, refl, ap}
use Rattle.std.specs.List.{list_any}
use Rattle.spec.specs.Lists.{any}

-- whether any element passes, in std's words and in those of `spec`
pub list_any-is : (f : ℕ → Bool) (xs : List ℕ) → list_any f xs ≡ any f xs
unfolding any
list_any-is f [] = refl
list_any-is f (x ∷ xs) = ap (λ (t : Bool). f x || t) (list_any-is f xs)
