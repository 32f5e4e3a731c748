-- What the answer of the octal reader means. Assumes nothing.
use Rattle.numbers.specs.declared.Octal.{Octal}
use Rattle.spec.specs.Digits.{Octal as Spelt}

-- a number in octal digits, and how many digits it has
abbrev pub octal_of : Octal → Spelt
octal_of o = record { value = o.value; count = o.count }
