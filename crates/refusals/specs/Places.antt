-- The place that a refusal of a load carries. Assumes nothing.
use Rattle.std.specs.Prelude.{◌≡◌, Option, None, Some}
use Rattle.spec.specs.Load as spec
use Rattle.refusals.specs.declared.Refusal.{Refusal}
use Rattle.refusals.specs.declared.Place.{Place}
use Rattle.refusals.specs.declared.LoadError.{LoadError}

-- "a refusal carries its place as a case of its own"
abbrev pub place_of : Option Place → spec.Place
place_of None = spec.nowhere
place_of (Some (Place.Line n)) = spec.line n
place_of (Some (Place.Offset n)) = spec.offset n
place_of (Some (Place.Byte b)) = spec.byte b

-- the error of a refusal that carries no place
abbrev pub NoPlace : Refusal → LoadError → Type 0
NoPlace r e = e ≡ record { refusal = r; place = None }
