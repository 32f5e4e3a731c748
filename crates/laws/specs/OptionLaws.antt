-- A value that is there is not missing, and is one value.
use Rattle.std.specs.Prelude.{◌≡◌, Option, None, Some}
use Rattle.std.proofs.lemmas.Option.{none-some, same_Some}

module _ {A : Type 0} where
  pub none-ne-some : (a : A) → ◌≡◌ {A = Option A} None (Some a) → ⊥
  none-ne-some a e = none-some a e

  pub some-injective : (a b : A) → ◌≡◌ {A = Option A} (Some a) (Some b) → a ≡ b
  some-injective a b e = same_Some a b e
