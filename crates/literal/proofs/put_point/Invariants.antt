-- The first i bytes are stored.
use Rattle.std.proofs.Common.{◌≡◌, take}
use Rattle.std.proofs.lemmas.List.Edits.{sets}
use Rattle.spec.specs.Utf8.{utf8_of}
use Rattle.literal.proofs.put_point.Given as goal

abbrev pub invariant-loop-i : goal.invariant-loop-i
invariant-loop-i l = l.res ≡ sets l.initial.res l.at (take l.i (utf8_of l.point))
