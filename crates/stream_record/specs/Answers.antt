-- The values of this crate's types as those of the definitions: the record, and what a call answers, each of whose cases has document 01's
-- number and values. Assumes nothing.
use Rattle.std.specs.Prelude.{◌≡◌, List, ℕ}
use Rattle.std.specs.Prelude.{Option, None, Some, Result, Ok, Err}
use Rattle.tally.specs.declared.Tally.{Tally}
use Rattle.spec.specs.Lists.{over}
use Rattle.spec.specs.Answer as spec
use Rattle.spec.specs.Stream as spec-stream
use Rattle.spec.specs.Stream.{StreamRecord}
use Rattle.stream_record.specs.declared.Stream.{Stream}
use Rattle.stream_record.specs.declared.StreamError.{StreamError}
use Rattle.stream_record.specs.declared.StreamError.TheVariants.{ShortMemory, Ended, TooMany, OutputShort, Stopped}
use Rattle.stream_record.specs.declared.Called.{Called}

abbrev pub record_of : Stream → StreamRecord
record_of s = record {
  phase = s.phase;
  total = s.total;
  held_len = s.held_len;
  held = s.held;
  stop_offset = s.stop_offset;
  stop_byte = s.stop_byte;
}

-- how many ids were handed out, or 1, 26, 25, 24 and 22, with what each carries
abbrev pub answer_of : Result Tally StreamError → spec.Answer
answer_of (Ok given) = spec.whole given.count
answer_of (Err ShortMemory) = spec.bare 1
answer_of (Err Ended) = spec.bare 26
answer_of (Err TooMany) = spec.bare 25
answer_of (Err OutputShort) = spec.bare 24
answer_of (Err (Stopped given offset byte)) = record { number = 22; count = given.count; place = offset; value = byte }

-- the bytes looked at for the ids that were handed out
abbrev pub looked_of : Result Tally StreamError → ℕ
looked_of (Ok given) = given.looked
looked_of (Err ShortMemory) = 0
looked_of (Err Ended) = 0
looked_of (Err TooMany) = 0
looked_of (Err OutputShort) = 0
looked_of (Err (Stopped given offset byte)) = given.looked

-- the answer of a call that is refused, or none
abbrev pub refusal_of : Result (Unit {0}) StreamError → Option spec.Answer
refusal_of (Ok u) = None
refusal_of (Err e) = Some (answer_of (Err e))

-- the bytes looked at of a call that is refused
abbrev pub refused_looked : Result (Unit {0}) StreamError → ℕ
refused_looked (Ok u) = 0
refused_looked (Err e) = looked_of (Err e)

-- A call gave r and left after where before was lent: its answer, its record, the bytes looked at, and its ids "from the output's start,
-- with its count; other cells are untouched".
pub record Answered (c : spec-stream.Called) (r : Called) (before after : List ℕ) : Type 0 where
  pub answer : answer_of r.answer ≡ c.answer
  pub stream : record_of r.stream ≡ c.stream
  pub looked : looked_of r.answer ≡ c.looked
  pub cells : after ≡ over c.ids before
