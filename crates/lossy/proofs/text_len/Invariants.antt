-- The loop's invariant: what was counted and the text of the rest are as long as the whole. The measure is the rest.
use Rattle.std.proofs.Common.{◌≡◌, ◌+◌, length}
use Rattle.spec.specs.Utf8.{lossy}
use Rattle.lossy.proofs.text_len.Given as goal

abbrev pub invariant-loop-part : goal.invariant-loop-part
invariant-loop-part l = l.len + length (lossy l.rest) ≡ length (lossy l.s)

abbrev pub decreases-loop-part : goal.decreases-loop-part
decreases-loop-part l = length l.rest
