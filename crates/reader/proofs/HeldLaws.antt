-- The bytes that are held after a push, and the room that they need. Assumes nothing.
use mathlib.Core.Path.{◌≡◌, refl}
use mathlib.Core.List.{List, [], ◌∷◌}
use Prim.Native.Nat.{ℕ, ◌-◌, ◌≤◌}
use native.Mathlib.Omega.{arith}
use lib.ListN.{length, take, replicate}
use lib.Seq.{take-append_seam}
use Rattle.reader.specs.Reader.{push_of}
use Rattle.reader.specs.declared.Held.{Held}
use Rattle.reader.specs.declared.Held.TheVariants.{Nothing, One, Two, Three}
use Rattle.spec.specs.Memory.{padded}
use Rattle.reader.specs.HeldBytes.{held_of, held_as, pushed_as}
use Rattle.reader.proofs.ReaderLaws.{push_few}

-- a few bytes with zeros after them
pub padded-take : (n : ℕ) (bytes : List ℕ) → take (length bytes) (padded bytes n) ≡ bytes
padded-take n bytes = take-append_seam bytes (replicate (n - length bytes) 0)

-- at most three bytes are held as they are
pub held_back : (h : List ℕ) → length h ≤ 3 → held_of (held_as h) ≡ h
held_back [] k = refl
held_back (a ∷ []) k = refl
held_back (a ∷ b ∷ []) k = refl
held_back (a ∷ b ∷ c ∷ []) k = refl
held_back (a ∷ b ∷ c ∷ d ∷ h) k = absurd (omega arith)

pub held-few : (x : Held) → length (held_of x) ≤ 3
held-few Nothing = omega arith
held-few (One a) = omega arith
held-few (Two a b) = omega arith
held-few (Three a b c) = omega arith

-- What a push leaves is what the next one finds, and its bytes fit the array.
pub pushed-held : (x : Held) (b : ℕ) → held_of (pushed_as (push_of (held_of x) b)).held ≡ (push_of (held_of x) b).held
pushed-held x b = held_back (push_of (held_of x) b).held (push_few (held_of x) b (held-few x)).0

pub pushed_room : (x : Held) (b : ℕ) → length (push_of (held_of x) b).out ≤ 6
pushed_room x b = (push_few (held_of x) b (held-few x)).1
