-- The rest of the run, read on from the value so far, gives what the whole run gives.
use Rattle.std.proofs.Common.{◌≡◌, ◌^◌, ◌<◌, drop}
use Rattle.spec.specs.Digits.{hex_run}
use Rattle.numbers.proofs.Numbers.{all_hex}
use Rattle.numbers.proofs.hex_run.Given as goal

abbrev pub invariant-loop-b : goal.invariant-loop-b
invariant-loop-b l =
    (l.value < 16 ^ l.b-index) × (all_hex l.value (drop l.b-index l.b-items) ≡ hex_run l.count l.text)
