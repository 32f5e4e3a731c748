-- The documents' number of each refusal of a load, and what a reading that may be refused means. Assumes nothing.
use Rattle.std.specs.Prelude.{ℕ, Result, Ok, Err}
use Rattle.spec.specs.Check.{Check, pass, refuse}
use Rattle.refusals.specs.declared.Refusal.{Refusal}

-- the table of refusals: "Number" beside "Refused"
abbrev pub number : Refusal → ℕ
number Refusal.ShortMemory = 1
number Refusal.NotUtf8 = 2
number Refusal.BlankLine = 3
number Refusal.NoSpace = 4
number Refusal.MisplacedSpace = 5
number Refusal.BadId = 6
number Refusal.IdTooGreat = 7
number Refusal.IdZero = 8
number Refusal.IdRepeated = 9
number Refusal.IdDescends = 10
number Refusal.BadLength = 11
number Refusal.BadLiteral = 12
number Refusal.EmptyToken = 13
number Refusal.OtherLength = 14
number Refusal.LongToken = 15
number Refusal.SeenBefore = 16
number Refusal.NodesFull = 17
number Refusal.BlobFull = 18
number Refusal.NoTokens = 19
number Refusal.ByteMissing = 20
number Refusal.TableFull = 21
number Refusal.NoEdition = 34

module _ {A B : Type 0} where
  -- a value, of which f says what it means, or the number of the refusal
  abbrev pub checked : (A → B) → Result A Refusal → Check B
  checked f (Ok a) = pass (f a)
  checked f (Err r) = refuse (number r)
