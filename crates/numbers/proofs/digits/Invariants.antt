-- The rest, read on from the value so far, gives what the whole text gives.
use Rattle.std.proofs.Common.{◌≡◌, ◌≤◌, drop}
use Rattle.spec.specs.Digits.{digits as digits_of}
use Rattle.numbers.proofs.Numbers.{rest}
use Rattle.numbers.proofs.digits.Given as goal

abbrev pub invariant-loop-b : goal.invariant-loop-b
invariant-loop-b l =
    (l.value ≤ l.limit) × (rest l.limit l.value (drop l.b-index l.text) ≡ digits_of l.limit l.text)
