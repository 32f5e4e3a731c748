-- The loop's invariant: the line is blank exactly if what is left of it is.
use mathlib.Core.Path.{◌≡◌}
use lib.ListN.{length}
use Rattle.spec.specs.Utf8.{blank}
use Rattle.characters.proofs.is_blank.Given as goal

abbrev pub invariant-loop-rest : goal.invariant-loop-rest
invariant-loop-rest l = blank l.rest ≡ blank l.line

abbrev pub decreases-loop-rest : goal.decreases-loop-rest
decreases-loop-rest l = length l.rest
