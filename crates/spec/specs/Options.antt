-- A value that may be missing, and what follows from it. Assumes nothing.
use Rattle.std.specs.Prelude.{Option, None, Some}

module _ {A B : Type 0} where
  -- first this, then what follows from its value
  unfoldable pub bind : Option A → (A → Option B) → Option B
  bind None f = None
  bind (Some a) f = f a
