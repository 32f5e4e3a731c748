-- Plain data in a walk by hand: what a walk knows of a type whose values are copied.
--     Plain R          vals, the machine values of a denotation; tells, that there are no others; lawful, that they are of R's MIR types;
--                      makes, that they may be made for nothing
--     uint_plain, bool-plain, unit-plain, struct_plain, enum_plain     the plain types of the language
-- Assumes `Logic`.
use Rattle.std.specs.Prelude.{List}
use seplogic.Ra.Ura.{Ura}
use Rattle.std.specs.Int.{Width}
use mir.Val.{Val}
use types.Logic.{Logic}
use Rattle.std.specs.Borrow.{RattleType}
use denote.Laws.{Is, Tells, Lawful, Makes}
use denote.Plain.{UInt, uint_vals, uint_Tells, uint_Lawful, uint_Makes, Boolean, bool_vals, bool_Tells, bool_Lawful, bool_Makes, Nothing}
use denote.Plain.{nothing_vals, Nothing-Tells, Nothing-Lawful, Nothing-Makes}
use denote.Struct.Laws as LL
use denote.Struct.Struct.{Plains as PlainFields}
use denote.Struct.Declared.{Declared as DeclaredStruct, fields as Struct-fields, row as Struct-Row}
use denote.Enum.Laws as Le
use denote.Enum.Enum.{Plainss, Few}
use denote.Enum.Declared.{Declared as DeclaredEnum, variants as enum-variants, shape as enum_shape, row as Enum-Row}

module _ {M : Type 1} {𝓤 : Ura M} (𝓛 : Logic 𝓤) where
  -- plain data, as a walk needs it
  pub record Plain (R : RattleType) : Type 2 where
    pub vals : R.Denot → List Val
    pub tells : Tells R (Is R) vals
    pub lawful : Lawful 𝓛 R
    pub makes : Makes 𝓛 R (Is R)

module _ {M : Type 1} {𝓤 : Ura M} (𝓛 : Logic 𝓤) where
  abbrev pub uint_plain : (w : Width) → Plain 𝓛 (UInt w)
  uint_plain w = record { vals = uint_vals w; tells = uint_Tells w; lawful = uint_Lawful 𝓛 w; makes = uint_Makes 𝓛 w }

  abbrev pub bool-plain : Plain 𝓛 Boolean
  bool-plain = record { vals = bool_vals; tells = bool_Tells; lawful = bool_Lawful 𝓛; makes = bool_Makes 𝓛 }

  abbrev pub unit-plain : Plain 𝓛 Nothing
  unit-plain = record { vals = nothing_vals; tells = Nothing-Tells; lawful = Nothing-Lawful 𝓛; makes = Nothing-Makes 𝓛 }

  abbrev pub struct_plain : (T : DeclaredStruct) (L : LL.Laws T) → PlainFields (Struct-fields T) → Plain 𝓛 (Struct-Row T)
  struct_plain T L pl = record { vals = LL.vals T L; tells = LL.tells T L; lawful = LL.lawful T L 𝓛; makes = LL.makes T pl 𝓛 }

  abbrev pub enum_plain : (T : DeclaredEnum) (L : Le.Laws T) → Plainss (enum-variants T) → Few (enum_shape T) → Plain 𝓛 (Enum-Row T)
  enum_plain T L pl few = record {
    vals = Le.vals T L;
    tells = Le.tells T L;
    lawful = Le.lawful T L 𝓛 few;
    makes = Le.makes T pl 𝓛;
  }
