-- What a call leaves that is lent a stream. Assumes nothing.
use Rattle.std.specs.Prelude.{◌≡◌, List, ℕ}
use Rattle.spec.specs.Lists.{over}
use Rattle.spec.specs.Stream.{Called}
use Rattle.stream_record.specs.declared.Stream.{Stream}
use Rattle.stream_record.specs.Answers.{record_of}
use Rattle.reports.specs.Report.{looked_report}

-- A call gave the number r and its report, and left this stream, and after where before was lent, as c says.
pub record Leaves (c : Called) (r : ℕ) (report : List ℕ) (left : Stream) (before after : List ℕ) : Type 0 where
  pub number : r ≡ c.answer.number
  pub values : report ≡ looked_report c.answer c.looked
  pub stream : record_of left ≡ c.stream
  pub cells : after ≡ over c.ids before
