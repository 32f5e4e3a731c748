-- What the answers of `source` mean, in the terms of `spec`. Assumes nothing.
use Rattle.std.specs.Prelude.{◌||◌, cond, List, ℕ, eqb, take, Option, None, Some, Result, Ok, Err}
use Rattle.spec.specs.Check.{Check, refuse}
use Rattle.spec.specs.Load.{vocabulary, halts, goes}
use Rattle.spec.specs.Load as spec
use Rattle.refusals.specs.declared.Refusal.{Refusal}
use Rattle.refusals.specs.declared.LoadError.{LoadError}
use Rattle.refusals.specs.Numbers.{number}
use Rattle.refusals.specs.Places.{place_of}
use Rattle.source.specs.declared.Edition.{Edition}
use Rattle.source.specs.declared.Plan.{Plan}

-- ---- a form

-- the edition of this number: "any edition but 1 and 2 with 34"
abbrev pub edition_told : ℕ → Result Edition Refusal
edition_told n = cond (eqb n 1) (Ok Edition.First) (cond (eqb n 2) (Ok Edition.Second) (Err Refusal.NoEdition))

abbrev pub number_of : Edition → ℕ
number_of Edition.First = 1
number_of Edition.Second = 2

-- the form of a source; an edition that there is not is 0
abbrev pub form_of : Option Edition → spec.Form
form_of (Some e) = vocabulary (number_of e)
form_of None = vocabulary 0

-- the number of an edition that there is, else 0
abbrev pub known : ℕ → ℕ
known edition = cond (eqb edition 1 || eqb edition 2) edition 0

-- ---- a start

-- the start of a load of the source s
abbrev pub start_is : List ℕ → Result Plan LoadError → spec.Start
start_is s (Ok plan) = goes plan.partial (take plan.end s)
start_is s (Err e) = halts (number e.refusal) (place_of e.place)

-- ---- a record

-- what follows, unless a rule before it refused
abbrev pub unless : {A : Type 0} → Result (Unit {0}) Refusal → Check A → Check A
unless (Ok u) rest = rest
unless (Err r) rest = refuse (number r)
