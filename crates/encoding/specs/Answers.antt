-- What an encoding answers, each of whose cases has document 01's number and values. Assumes nothing.
use Rattle.std.specs.Prelude.{◌≡◌, List, ℕ, Result, Ok, Err}
use Rattle.tally.specs.declared.Tally.{Tally}
use Rattle.spec.specs.Lists.{over}
use Rattle.spec.specs.Answer as spec
use Rattle.spec.specs.Encode.{Output}
use Rattle.encoding.specs.declared.EncodeError.{EncodeError}
use Rattle.encoding.specs.declared.EncodeError.TheVariants.{ShortMemory, NoToken, Full}

-- "`single`, offsets or roots too short" is 1; "no token matches" 22 with offset and byte; "id output full" 23 with offset; each with the
-- count of ids that stand from the output's start.
abbrev pub answer_of : Result Tally EncodeError → spec.Answer
answer_of (Ok given) = spec.whole given.count
answer_of (Err ShortMemory) = spec.bare 1
answer_of (Err (NoToken given offset byte)) = record { number = 22; count = given.count; place = offset; value = byte }
answer_of (Err (Full given offset)) = record { number = 23; count = given.count; place = offset; value = 0 }

-- the bytes looked at for the ids that stand
abbrev pub looked_of : Result Tally EncodeError → ℕ
looked_of (Ok given) = given.looked
looked_of (Err ShortMemory) = 0
looked_of (Err (NoToken given offset byte)) = given.looked
looked_of (Err (Full given offset)) = given.looked

-- An encoding gave the answer r and left after where before was lent: the output's answer, with the sum of the bytes looked at, and its ids
-- "from the output's start with their count, the rest untouched".
pub record Answered (o : Output) (looked : ℕ) (r : Result Tally EncodeError) (before after : List ℕ) : Type 0 where
  pub answer : answer_of r ≡ o.answer
  pub sum : looked_of r ≡ looked
  pub cells : after ≡ over o.cells before
