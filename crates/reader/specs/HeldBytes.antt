-- What the answers of the reader mean: the bytes that are held, those that go out, and what must follow. Assumes nothing.
use Rattle.std.specs.Prelude.{List, [], ◌∷◌, ℕ, length, Option, None, Some}
use Rattle.spec.specs.Utf8.{Range}
use Rattle.reader.specs.Reader.{Turn}
use Rattle.reader.specs.declared.Held.{Held}
use Rattle.reader.specs.declared.Held.TheVariants.{Nothing, One, Two, Three}
use Rattle.reader.specs.declared.Pushed.{Pushed}
use Rattle.utf8.specs.declared.Lead.{Lead}
use Rattle.spec.specs.Memory.{padded}
use Rattle.utf8.specs.Means.{lead_means}

-- the ranges that must follow, none if it is nothing
abbrev pub want_means : Option Lead → List Range
want_means None = []
want_means (Some lead) = lead_means lead

-- the bytes that are held
abbrev pub held_of : Held → List ℕ
held_of Nothing = []
held_of (One a) = a ∷ []
held_of (Two a b) = a ∷ b ∷ []
held_of (Three a b c) = a ∷ b ∷ c ∷ []

-- what holds at most three bytes
abbrev pub held_as : List ℕ → Held
held_as [] = Nothing
held_as (a ∷ []) = One a
held_as (a ∷ b ∷ []) = Two a b
held_as (a ∷ b ∷ c ∷ h) = Three a b c

-- so many bytes go out, and these are held
abbrev pub bringing : List ℕ → Held → Pushed
bringing out held = record { bytes = padded out 6; len = length out; held = held }

abbrev pub pushed_as : Turn → Pushed
pushed_as t = bringing t.out (held_as t.held)
