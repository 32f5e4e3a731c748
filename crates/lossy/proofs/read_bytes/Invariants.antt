-- The loop's invariant: the reader has taken the bytes passed, and its text so far fits.
use Rattle.std.proofs.Common.{◌≤◌, drop}
use Rattle.reader.specs.HeldBytes.{held_of}
use Rattle.lossy.proofs.LossyPasses.{Along}
use Rattle.lossy.proofs.read_bytes.Given as goal

abbrev pub invariant-loop-b : goal.invariant-loop-b
invariant-loop-b l = record {
  fits : l.at.len ≤ l.room;
  along : Along (held_of l.initial.at.held) l.token l.initial.at.len l.at.held l.at.len (drop l.b-index l.token);
}
