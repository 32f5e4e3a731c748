-- Numbers in decimal, hexadecimal and octal digits. A byte string is a list of numbers. Assumes nothing.
use Rattle.std.specs.Prelude.{cond, List, [], ◌∷◌, ℕ, zero, suc, ◌+◌, ◌*◌, ◌-◌, leb}
use Rattle.std.specs.Prelude.{Option, None, Some}
use Rattle.spec.specs.Options.{bind}
use Rattle.spec.specs.Utf8.{◌to◌, within}

-- ── Decimal ──────────────────────────────────────────────────────────

-- the value of a digit, a byte from `0` to `9`
unfoldable pub digit : ℕ → Option ℕ
digit b = cond (within (0x30 to 0x39) b) (Some (b - 0x30)) None

-- the number that the digits of v and behind them those of s spell; none if a byte of s is no digit
unfoldable pub digits_after : ℕ → List ℕ → Option ℕ
unfolding bind digit
digits_after v [] = Some v
digits_after v (b ∷ s) = bind (digit b) (λ d. digits_after (v * 10 + d) s)

unfoldable pub at_most : ℕ → ℕ → Option ℕ
at_most limit v = cond (leb v limit) (Some v) None

-- The value of a number in digits. Refusals 6 and 11: "not all digits 0 to 9, or above" the limit; "Leading zeros are allowed".
unfoldable pub digits : ℕ → List ℕ → Option ℕ
unfolding bind at_most digits_after
digits limit [] = None
digits limit (b ∷ s) = bind (digits_after 0 (b ∷ s)) (at_most limit)

-- ── Hexadecimal ──────────────────────────────────────────────────────

-- the value of a hexadecimal digit: `0` to `9`, `a` to `f`, `A` to `F`
unfoldable pub hex_digit : ℕ → Option ℕ
hex_digit b =
    cond (within (0x30 to 0x39) b) (Some (b - 0x30))
    (cond (within (0x61 to 0x66) b) (Some (b - 0x61 + 10))
    (cond (within (0x41 to 0x46) b) (Some (b - 0x41 + 10))
    None))

-- the number that the digits of v and behind them the first n bytes of s spell; none if s is shorter or one of these is no digit
unfoldable pub hex_after : ℕ → ℕ → List ℕ → Option ℕ
unfolding bind hex_digit
hex_after v zero s = Some v
hex_after v (suc n) [] = None
hex_after v (suc n) (b ∷ s) = bind (hex_digit b) (λ d. hex_after (v * 16 + d) n s)

-- the value of a run of n hexadecimal digits at the start of s
abbrev pub hex_run : ℕ → List ℕ → Option ℕ
hex_run n s = hex_after 0 n s

-- ── Octal ────────────────────────────────────────────────────────────

-- the value of an octal digit: `0` to `7`
unfoldable pub octal_digit : ℕ → Option ℕ
octal_digit b = cond (within (0x30 to 0x37) b) (Some (b - 0x30)) None

-- A number in octal digits, and how many digits it has.
pub record Octal : Type 0 where
  pub value : ℕ
  pub count : ℕ

-- one digit more in front
abbrev pub one_more : Octal → Octal
one_more o = record { value = o.value; count = suc o.count }

-- the number that the digits of v and behind them the octal digits at the start of s, n at most, spell, and how many of s those are
unfoldable pub octal_after : ℕ → ℕ → List ℕ → Octal
unfolding octal_digit
octal_after v zero s = record { value = v; count = 0 }
octal_after v (suc n) [] = record { value = v; count = 0 }
octal_after v (suc n) (b ∷ s) = elim (octal_digit b) [
  | Some d ↦ one_more (octal_after (v * 8 + d) n s)
  | None ↦ record { value = v; count = 0 }
]

-- the octal digits at the start of s, as many as there are, n at most
abbrev pub octal_run : ℕ → List ℕ → Octal
octal_run n s = octal_after 0 n s
