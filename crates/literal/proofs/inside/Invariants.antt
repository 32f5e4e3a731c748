-- What is read from here on leaves what the whole reading leaves, and no more bytes are written than were read.
use Rattle.std.proofs.Common.{◌≡◌, ◌+◌, ◌≤◌, length}
use Rattle.spec.specs.Literal.{escapes_of, inside}
use Rattle.literal.specs.Answers.{left}
use Rattle.literal.proofs.inside.Given as goal

abbrev pub invariant-loop-b : goal.invariant-loop-b
invariant-loop-b l =
    (l.n + length l.rest ≤ length l.text)
    × (left l.res l.n (inside (escapes_of l.edition) l.in_bytes l.quote l.rest 0)
    ≡ left l.initial.res 0 (inside (escapes_of l.edition) l.in_bytes l.quote l.text 0))

abbrev pub decreases-loop-b : goal.decreases-loop-b
decreases-loop-b l = length l.rest
