-- The loop's invariant: the ids passed all have bytes, and total is their number.
use Rattle.std.proofs.Common.{ℕ, ◌≤◌, ◌<◌, length, take, get_or}
use Rattle.spec.specs.Lists.{each}
use Rattle.spec.specs.Decode.{lookup}
use Rattle.memory.specs.Lent.{cells_of}
use Rattle.lossy.specs.Lossy.{Summed}
use Rattle.lossy.proofs.all_present.Given as goal

abbrev pub invariant-loop-index : goal.invariant-loop-index
invariant-loop-index l = record {
  present : (j : ℕ) → j < l.index → 1 ≤ length (lookup (cells_of l.memory) (get_or l.ids j 0));
  summed : Summed (length (each (lookup (cells_of l.memory)) (take l.index l.ids))) l.total;
}
