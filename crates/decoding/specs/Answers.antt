-- The number and the values of document 01 for each case of an answer. Assumes nothing.
use Rattle.std.specs.Prelude.{◌≡◌, List, ℕ, Result, Ok, Err}
use Rattle.spec.specs.Lists.{over}
use Rattle.spec.specs.Answer.{Answer, bare, whole}
use Rattle.spec.specs.Encode.{Output}
use Rattle.decoding.specs.declared.DecodeError.{DecodeError}
use Rattle.decoding.specs.declared.DecodeError.TheVariants.{ShortMemory, Absent, Full, NotUtf8}

-- "`single`, offsets or roots too short" is 1; "65,536 or more, or no bytes" 27 with index and id; "byte output full" 28 with index;
-- "not UTF-8" 29 with the first bad offset; each with the count of bytes that stand from the output's start.
abbrev pub answer_of : Result ℕ DecodeError → Answer
answer_of (Ok len) = whole len
answer_of (Err ShortMemory) = bare 1
answer_of (Err (Absent len index id)) = record { number = 27; count = len; place = index; value = id }
answer_of (Err (Full len index)) = record { number = 28; count = len; place = index; value = 0 }
answer_of (Err (NotUtf8 len offset)) = record { number = 29; count = len; place = offset; value = 0 }

-- An entry gave the answer r and left after where before was lent: the output's answer, and what it produced "from the output's start
-- with [its] count, the rest untouched".
pub record Answered (o : Output) (r : Result ℕ DecodeError) (before after : List ℕ) : Type 0 where
  pub answer : answer_of r ≡ o.answer
  pub cells : after ≡ over o.cells before

-- how many of n ids the answer has decoded: all, or those before its index
abbrev pub taken_of : Result ℕ DecodeError → ℕ → ℕ
taken_of (Ok len) n = n
taken_of (Err ShortMemory) n = 0
taken_of (Err (Absent len index id)) n = index
taken_of (Err (Full len index)) n = index
taken_of (Err (NotUtf8 len offset)) n = n
