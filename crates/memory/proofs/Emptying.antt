-- The first cells of three slices and all cells of two have one value: the memory is emptied. The counts are parameters, so that no list
-- of so many cells is computed.
use Rattle.std.proofs.Common.{◌≡◌, ℕ, ℤ, negsuc, List, ◌++◌, length, take, drop, replicate, refl, ◌≤◌, length-take-le}
use Rattle.std.proofs.lemmas.List.{length-replicate}
use Rattle.spec.specs.Lists.{over}
use Rattle.spec.specs.Memory.{memory}

module _ {A : Type 0} where
  -- the first n cells filled
  pub first_filled : (n : ℕ) (v : A) (l f : List A) → n ≤ length l → f ≡ replicate (length (take n l)) v
      → f ++ drop n l ≡ over (replicate n v) l
  first_filled n v l f h e = rw (e, length-take-le n l h, length-replicate n v) refl

module _ (a b c : ℕ) (s : List ℤ) (os bl rs tb : List ℕ) (ha : a ≤ length s) (hb : b ≤ length os) (hc : c ≤ length rs) where
  pub all_emptied : (fs : List ℤ) (fo fb fr ft : List ℕ) → fs ≡ replicate (length (take a s)) (negsuc 0)
      → fo ≡ replicate (length (take b os)) 0
      → fb ≡ replicate (length bl) 0
      → fr ≡ replicate (length (take c rs)) 0
      → ft ≡ replicate (length tb) 0
      → memory (fs ++ drop a s) (fo ++ drop b os) fb (fr ++ drop c rs) ft
      ≡ memory (over (replicate a (negsuc 0)) s) (over (replicate b 0) os) (replicate (length bl) 0) (over (replicate c 0) rs)
      (replicate (length tb) 0)
  all_emptied fs fo fb fr ft es eo eb er et =
      rw (first_filled a (negsuc 0) s fs ha es, first_filled b 0 os fo hb eo, eb, first_filled c 0 rs fr hc er, et) refl
