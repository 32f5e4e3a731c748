-- The values of an answer, as a report holds them. Assumes nothing.
use Rattle.std.specs.Prelude.{◌≡◌, List, [], ◌∷◌, ℕ}
use Rattle.spec.specs.Answer as spec
use Rattle.spec.specs.Lists.{over}
use Rattle.spec.specs.Encode.{Output}
use Rattle.spec.specs.Memory.{Memory}
use Rattle.spec.specs.Load.{Place, nowhere, line, offset, byte, LoadAnswer, LoadResult}
use Rattle.reports.specs.declared.report.Answer.{Answer}

abbrev pub answer_is : Answer → spec.Answer
answer_is a = record { number = a.number; count = a.count; place = a.place; value = a.value }

-- three cells: count, place, value
abbrev pub report_of : spec.Answer → List ℕ
report_of a = a.count ∷ a.place ∷ a.value ∷ []

-- four cells: the same, and the bytes looked at
abbrev pub looked_report : spec.Answer → ℕ → List ℕ
looked_report a looked = a.count ∷ a.place ∷ a.value ∷ looked ∷ []

-- A call gave the number r and its report, and left after where before was lent, as the output o says.
pub record Reported (o : Output) (r : ℕ) (report before after : List ℕ) : Type 0 where
  pub number : r ≡ o.answer.number
  pub values : report ≡ report_of o.answer
  pub cells : after ≡ over o.cells before

-- An encoding gave the same, and in its report the sum of the bytes looked at.
pub record EncodeReported (o : Output) (looked : ℕ) (r : ℕ) (report before after : List ℕ) : Type 0 where
  pub number : r ≡ o.answer.number
  pub values : report ≡ looked_report o.answer looked
  pub cells : after ≡ over o.cells before

-- ---- a load

-- "none, line, offset, byte"
abbrev pub place_kind : Place → ℕ
place_kind nowhere = 0
place_kind (line n) = 1
place_kind (offset n) = 2
place_kind (byte n) = 3

abbrev pub place_value : Place → ℕ
place_value nowhere = 0
place_value (line n) = n
place_value (offset n) = n
place_value (byte n) = n

-- six cells: the kind of the place, the place, and the counts of tokens, nodes, blob bytes and table words
abbrev pub load_report : LoadAnswer → List ℕ
load_report a =
    place_kind a.place ∷ place_value a.place ∷ a.counts.tokens ∷ a.counts.nodes ∷ a.counts.blob ∷ a.counts.table ∷ []

-- A load gave the number r and its report and left the memory after, as the result o says.
pub record LoadReported (o : LoadResult) (r : ℕ) (report : List ℕ) (after : Memory) : Type 0 where
  pub number : r ≡ o.answer.number
  pub values : report ≡ load_report o.answer
  pub memory : after ≡ o.memory
