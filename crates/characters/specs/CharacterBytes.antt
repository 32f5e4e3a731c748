-- The bytes of a character, as the code answers them. Assumes nothing.
use Rattle.std.specs.Prelude.{List, ℕ, length}
use Rattle.characters.specs.declared.Encoded.{Encoded}
use Rattle.spec.specs.Memory.{padded}

-- in an array of four, with zeros after them
abbrev pub encoded_as : List ℕ → Encoded
encoded_as bytes = record { bytes = padded bytes 4; len = length bytes }
