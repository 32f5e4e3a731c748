-- `lossy::stands` meets its contract. Assumes nothing.
use Rattle.std.proofs.Common.{◌≡◌, refl, sym, ◌∙◌, Bool, true, false, ℕ}
use mathlib.Core.Bool.{not}
use lib.Dec.{T}
use Rattle.std.specs.Prelude.{Option, None, Some}
use Rattle.std.specs.Option.{is_some}
use Rattle.lossy.proofs.LossyPasses.{as_they_are}
use Rattle.lossy.proofs.stands.Goals as goal

no_value : (o : Option ℕ) (b : Bool) → is_some o ≡ not b → T b → o ≡ None
no_value None b e t = refl
no_value (Some x) true e t = cc
no_value (Some x) false e t = absurd t

pub returns-in-Nothing : goal.returns-in-Nothing
returns-in-Nothing c = λ t.
    as_they_are c.args.held c.args.token.now c.in-Nothing.is
    (sym c.first_bad.ensures ∙ no_value c.first_bad.result c.is_none.result c.is_none.ensures t)
