-- The window of an add, what it hands back, and what refuses a call: what the contracts of private functions cite. Assumes nothing.
use Rattle.std.specs.Prelude.{◌≡◌, true, false, List, ◌++◌, ℕ, ◌+◌, length, Option, Some}
use Rattle.spec.specs.Lists.{over}
use Rattle.spec.specs.Answer.{Answer, bare}
use Rattle.spec.specs.Memory.{Memory, too_short}
use Rattle.spec.specs.LookedOn.{sum_on}
use Rattle.spec.specs.Scan.{Run}
use Rattle.spec.specs.Stream as spec
use Rattle.spec.specs.Stream.{StreamRecord, Call, added, call_refusal}
use Rattle.stream_record.specs.declared.Called.{Called}
use Rattle.stream_record.specs.Answers.{record_of, answer_of, looked_of}

-- how many bytes past the held ones a match from a held byte can read: "a stop at 255 bytes"
abbrev pub reached : ℕ
reached = 254

-- what an add gives that has handed out the ids `before`, for which so many bytes were looked at, and whose bytes left, s, run to u
abbrev pub gives : Memory → ℕ → List ℕ → ℕ → List ℕ → Run → spec.Called
gives m total before looked s u = added total (before ++ u.ids) (looked + sum_on m (length u.ids) 0 s) u.stop

-- what it hands back: its answer, record and sum, and the ids of u from the start of the output that is left
pub record Hands (m : Memory) (total : ℕ) (before : List ℕ) (looked : ℕ) (s : List ℕ) (u : Run) (lent out : List ℕ) (r : Called)
    : Type 0 where
  pub answer : answer_of r.answer ≡ (gives m total before looked s u).answer
  pub stream : record_of r.stream ≡ (gives m total before looked s u).stream
  pub sum : looked_of r.answer ≡ (gives m total before looked s u).looked
  pub written : out ≡ over u.ids lent

-- number 1, then the refusals of a stream call; none if the call goes through
abbrev pub refusal : Memory → StreamRecord → Call → Option Answer
refusal m r c = elim (too_short m) [ true ↦ Some (bare 1) | false ↦ call_refusal r c ]
