-- The arithmetic of `hex_digit`, as it stands there. Assumes nothing.
use mathlib.Core.Bool.{Bool, cond}
use Rattle.std.specs.Prelude.{Option, None, Some}
use Prim.Native.Nat.{ℕ, ◌+◌, ◌*◌, ◌/◌, ◌%◌}
use lib.Bits.{bit_or}
use lib.Dec.{eqb}

-- the value that it gives a byte
abbrev pub hex_value : ℕ → ℕ
hex_value b = (b % 16 + 9 * (b / 64)) % 16

-- that value's code
abbrev pub hex_code : ℕ → ℕ
hex_code b = 0x30 + hex_value b + 39 * (hex_value b / 10)

-- whether the byte is this code
abbrev pub is_code : ℕ → Bool
is_code b = eqb (bit_or b (32 * (b / 64))) (hex_code b)

-- and so its answer
abbrev pub by_code : ℕ → Option ℕ
by_code b = cond (is_code b) (Some (hex_value b)) None
