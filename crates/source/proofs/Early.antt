-- What is refused before any record. Assumes nothing.
use mathlib.Core.Path.{◌≡◌, refl}
use mathlib.Core.Bool.{Bool, true, false, ◌||◌, cond}
use mathlib.Core.List.{List}
use Prim.Native.Nat.{ℕ}
use lib.Dec.{eqb}
use Rattle.spec.specs.Memory.{Memory}
use Rattle.spec.specs.Load.{vocabulary, start_of, load_on}
use Rattle.source.specs.SourceAnswers.{known}

-- An edition that there is not is refused like any other.
pub load-known : (edition : ℕ) (partial : Bool) (nodes table : ℕ) (m : Memory) (s : List ℕ)
    → (start_of (vocabulary (known edition)) partial m s ≡ start_of (vocabulary edition) partial m s)
    × (load_on (vocabulary (known edition)) partial nodes table m s ≡ load_on (vocabulary edition) partial nodes table m s)
unfolding start_of load_on
load-known edition partial nodes table m s = go (eqb edition 1 || eqb edition 2) refl
  where
    go : (b : Bool) → (eqb edition 1 || eqb edition 2) ≡ b
        → (start_of (vocabulary (cond b edition 0)) partial m s ≡ start_of (vocabulary edition) partial m s)
        × (load_on (vocabulary (cond b edition 0)) partial nodes table m s ≡ load_on (vocabulary edition) partial nodes table m s)
    go true e = (refl, refl)
    go false e = (rw e, rw e)
