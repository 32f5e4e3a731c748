-- Lent marks stay the same ones. Assumes nothing.
use Rattle.std.specs.Prelude.{◌≡◌, length}
use Rattle.slots.specs.declared.marks.Marks.{Marks}

-- it is still the same three slices, of the same lengths
pub record SameMarks (old new : Marks) : Type 0 where
  pub used : (new.used.ghost_name ≡ old.used.ghost_name) × (length new.used.now ≡ length old.used.now)
  pub bases : (new.bases.ghost_name ≡ old.bases.ghost_name) × (length new.bases.now ≡ length old.bases.now)
  pub cursors : (new.cursors.ghost_name ≡ old.cursors.ghost_name) × (length new.cursors.now ≡ length old.cursors.now)
