-- The loop's invariant: the whole text is as long as what was counted and what the ids left will give, and what was counted fits.
use Rattle.std.proofs.Common.{◌≡◌, ◌+◌, ◌≤◌, length}
use Rattle.spec.specs.Lists.{each}
use Rattle.spec.specs.Utf8.{lossy}
use Rattle.spec.specs.Decode.{lookup}
use Rattle.memory.specs.Lent.{cells_of}
use Rattle.lossy.proofs.LossyPasses.{left}
use Rattle.lossy.proofs.read_text.Given as goal

abbrev pub invariant-loop-id : goal.invariant-loop-id
invariant-loop-id l = record {
  fits : l.at.len ≤ l.room;
  whole : length (lossy (each (lookup (cells_of l.memory)) l.ids))
      ≡ l.at.len + length (left (cells_of l.memory) l.ids l.id-index l.at.held);
}
