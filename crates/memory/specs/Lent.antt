-- Lent vocabulary memory as the definitions see it: its five lists of cells. Assumes nothing.
use Rattle.std.specs.Prelude.{◌≡◌, length}
use Rattle.spec.specs.Memory.{memory}
use Rattle.spec.specs.Memory as spec
use Rattle.memory.specs.declared.Memory.{Memory}
use Rattle.memory.specs.declared.MemoryMut.{MemoryMut}

-- what is lent for reading holds
abbrev pub cells_of : Memory → spec.Memory
cells_of m = memory m.single.now m.offsets.now m.blob.now m.roots.now m.table.now

-- what is lent for a load holds
abbrev pub cells_in : MemoryMut → spec.Memory
cells_in m = memory m.single.now m.offsets.now m.blob.now m.roots.now m.table.now

-- it is still the same five slices, of the same lengths
pub record SameSlices (old new : MemoryMut) : Type 0 where
  pub single : (new.single.ghost_name ≡ old.single.ghost_name) × (length new.single.now ≡ length old.single.now)
  pub offsets : (new.offsets.ghost_name ≡ old.offsets.ghost_name) × (length new.offsets.now ≡ length old.offsets.now)
  pub blob : (new.blob.ghost_name ≡ old.blob.ghost_name) × (length new.blob.now ≡ length old.blob.now)
  pub roots : (new.roots.ghost_name ≡ old.roots.ghost_name) × (length new.roots.now ≡ length old.roots.now)
  pub table : (new.table.ghost_name ≡ old.table.ghost_name) × (length new.table.now ≡ length old.table.now)
