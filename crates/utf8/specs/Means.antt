-- What the answers of the code mean, in the terms of `spec`. Assumes nothing.
use Rattle.std.specs.Prelude.{List, [], ◌∷◌, ℕ, zero, suc, replicate}
use Rattle.spec.specs.Utf8.{Range, ◌to◌, tail}
use Rattle.spec.specs.Utf8 as U
use Rattle.utf8.specs.declared.Lead.{Lead}
use Rattle.utf8.specs.declared.Step.{Step}
use Rattle.utf8.specs.declared.Step.TheVariants.{Char, Bad, Cut}

-- the ranges of the bytes that must follow
abbrev pub ranges : ℕ → ℕ → ℕ → List Range
ranges zero low high = []
ranges (suc n) low high = (low to high) ∷ replicate n tail

abbrev pub lead_means : Lead → List Range
lead_means lead = ranges lead.more lead.low lead.high

abbrev pub step_means : Step → U.Step
step_means (Char n) = U.char n
step_means (Bad n) = U.bad n
step_means (Cut n) = U.cut n
