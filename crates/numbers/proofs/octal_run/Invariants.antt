-- The rest of the run, read on from the value so far, gives what the whole run gives.
use Rattle.std.proofs.Common.{◌≡◌, ◌^◌, ◌<◌, drop}
use Rattle.spec.specs.Digits.{octal_run}
use Rattle.numbers.proofs.Numbers.{ahead}
use Rattle.numbers.proofs.octal_run.Given as goal

abbrev pub invariant-loop-count : goal.invariant-loop-count
invariant-loop-count l =
    (l.value < 8 ^ l.count) × (ahead l.count l.value (drop l.count l.b-items) ≡ octal_run l.most l.text)
