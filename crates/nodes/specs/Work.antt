-- What a load works with, as lent. Assumes nothing.
use Rattle.std.specs.Prelude.{◌≡◌, length}
use Rattle.nodes.specs.declared.Work.{Work}

-- it is still the same three slices, of the same lengths
pub record SameWork (old new : Work) : Type 0 where
  pub nodes : (new.nodes.ghost_name ≡ old.nodes.ghost_name) × (length new.nodes.now ≡ length old.nodes.now)
  pub used : (new.used.ghost_name ≡ old.used.ghost_name) × (length new.used.now ≡ length old.used.now)
  pub used_bases : (new.used_bases.ghost_name ≡ old.used_bases.ghost_name) × (length new.used_bases.now ≡ length old.used_bases.now)
