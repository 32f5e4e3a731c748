-- The loop's invariant: the bytes before k are the token's.
use Rattle.std.proofs.Common.{◌≡◌, take}
use Rattle.copies.proofs.put_bytes.Given as goal

abbrev pub invariant-loop-k : goal.invariant-loop-k
invariant-loop-k l = take l.k l.room ≡ take l.k l.from
