-- What the lookup answers, and what the first pass over the ids finds: the answer, and what the second pass needs to write the bytes
-- without a test. Assumes nothing.
use Rattle.std.specs.Prelude.{◌≡◌, List, [], ◌∷◌, ℕ, ◌≤◌, ◌<◌, length, take, get_or, Option, None, Some, Result}
use Rattle.spec.specs.Lists.{each}
use Rattle.spec.specs.Memory.{Memory}
use Rattle.spec.specs.Decode.{lookup, decoding, decode_output}
use Rattle.decoding.specs.declared.DecodeError.{DecodeError}
use Rattle.decoding.specs.Answers.{answer_of, taken_of}

-- a token's bytes, if it has any: no bytes are no token
abbrev pub if_any : List ℕ → Option (List ℕ)
if_any [] = None
if_any (b ∷ bs) = Some (b ∷ bs)

-- the first k of the ids have bytes, n in all
pub record Joined (m : Memory) (ids : List ℕ) (k n : ℕ) : Type 0 where
  pub within : k ≤ length ids
  pub present : (j : ℕ) → j < k → 1 ≤ length (lookup m (get_or ids j 0))
  pub count : n ≡ length (each (lookup m) (take k ids))

-- r is the answer of decoding the ids into room cells
pub record Measured (m : Memory) (room : ℕ) (ids : List ℕ) (r : Result ℕ DecodeError) : Type 0 where
  pub answer : answer_of r ≡ (decode_output (decoding m room ids)).answer
  pub bytes : (decoding m room ids).bytes ≡ each (lookup m) (take (taken_of r (length ids)) ids)
  pub joined : Joined m ids (taken_of r (length ids)) (answer_of r).count
  pub fits : (answer_of r).count ≤ room
