-- What holds of numbers in digits and of literals. Assumes nothing.
use Rattle.std.specs.Prelude.{◌≡◌, refl, Bool, true, false, ◌||◌, cond, List, [], ◌∷◌, ℕ, zero, suc, ◌+◌, ◌*◌, ◌-◌, ◌^◌, ◌≤◌, ◌<◌, leb}
use Rattle.std.specs.Prelude.{ltb}
use Rattle.std.proofs.Common.{sym, subst, add-zero, zero-add, le_trans, pow-suc, add-one, arith, lit≤, lit<, leb-true, le-ltb}
use Rattle.std.proofs.Math.Bool.{or-false}
use Rattle.std.specs.Prelude.{Option, None, Some}
use Rattle.spec.specs.Options.{bind}
use Rattle.laws.specs.OptionLaws.{none-ne-some, some-injective}
use Rattle.std.proofs.Math.Nat.{pow-le-pow_right}
use Rattle.spec.specs.Utf8.{◌to◌, within, utf8_of}
use Rattle.spec.specs.Digits.{digits_after, at_most, digits, hex_digit, hex_after, hex_run, octal_digit, Octal, one_more, octal_after}
use Rattle.spec.specs.Digits.{octal_run}
use Rattle.spec.specs.Literal.{escaped, point_escape}
use Rattle.laws.specs.Tests.{and_l, and_r}

-- a number within a range lies between its ends
between : (low high b : ℕ) → within (low to high) b ≡ true → (low ≤ b) × (b ≤ high)
between low high b e = (leb-true low b (and_l (leb low b) (leb b high) e), leb-true b high (and_r (leb low b) (leb b high) e))

-- ── Decimal ──────────────────────────────────────────────────────────

at_most_le : (limit v w : ℕ) → at_most limit v ≡ Some w → w ≤ limit
unfolding at_most
at_most_le limit v w e = go (leb v limit) refl e
  where
    go : (c : Bool) → leb v limit ≡ c → cond c (Some v) None ≡ Some w → w ≤ limit
    go true h e = subst (λ (z : ℕ). z ≤ limit) (some-injective v w e) (leb-true v limit h)
    go false h e = absurd (none-ne-some w e)

-- a number is at most its limit
pub digits_le : (limit : ℕ) (s : List ℕ) (v : ℕ) → digits limit s ≡ Some v → v ≤ limit
unfolding digits
digits_le limit [] v e = absurd (none-ne-some v e)
digits_le limit (b ∷ s) v e = go (digits_after 0 (b ∷ s)) e
  where
    go : (o : Option ℕ) → bind o (at_most limit) ≡ Some v → v ≤ limit
    go None e = absurd (none-ne-some v e)
    go (Some w) e = at_most_le limit w v e

-- ── Hexadecimal ──────────────────────────────────────────────────────

-- a hexadecimal digit is below 16
pub hex_lt : (b d : ℕ) → hex_digit b ≡ Some d → d < 16
unfolding hex_digit
hex_lt b d e =
    pick (within (0x30 to 0x39) b) (b - 0x30) _ (λ t. let h = between 0x30 0x39 b t in omega arith) (
    pick (within (0x61 to 0x66) b) (b - 0x61 + 10) _ (λ t. let h = between 0x61 0x66 b t in omega arith) (
    pick (within (0x41 to 0x46) b) (b - 0x41 + 10) None (λ t. let h = between 0x41 0x46 b t in omega arith) (λ e.
    absurd (none-ne-some d e))))
    e
  where
    pick : (c : Bool) (v : ℕ) (o : Option ℕ) → (c ≡ true → v < 16) → (o ≡ Some d → d < 16) → cond c (Some v) o ≡ Some d → d < 16
    pick true v o a k e = subst (λ (z : ℕ). z < 16) (some-injective v d e) (a refl)
    pick false v o a k e = k e

-- one digit more: the value stays below 16 to the power of the digits read
pub hex_grows : (i v d : ℕ) → v < 16 ^ i → d < 16 → v * 16 + d < 16 ^ (i + 1)
hex_grows i v d h k = rw (add-one, pow-suc) (omega arith)

-- so does what n more make of it
after-lt : (n i v w : ℕ) (s : List ℕ) → v < 16 ^ i → hex_after v n s ≡ Some w → w < 16 ^ (i + n)
unfolding hex_after
after-lt zero i v w s h e = rw (add-zero, ← some-injective _ _ e) h
after-lt (suc n) i v w [] h e = absurd (none-ne-some w e)
after-lt (suc n) i v w (b ∷ s) h e = go (hex_digit b) refl e (λ d l. after-lt n (i + 1) (v * 16 + d) w s (hex_grows i v d h l))
  where
    go : (o : Option ℕ) → hex_digit b ≡ o → bind o (λ d. hex_after (v * 16 + d) n s) ≡ Some w
        → ((d : ℕ) → d < 16 → hex_after (v * 16 + d) n s ≡ Some w → w < 16 ^ (i + 1 + n)) → w < 16 ^ (i + suc n)
    go None q e f = absurd (none-ne-some w e)
    go (Some d) q e f = let z : i + 1 + n ≡ i + suc n = omega arith in rw (← z) (f d (hex_lt b d q) e)

-- the value of a run of n digits is below 16 to the power n
pub hex_run_lt : (n w : ℕ) (s : List ℕ) → hex_run n s ≡ Some w → w < 16 ^ n
hex_run_lt n w s e = subst (λ (k : ℕ). w < 16 ^ k) (zero-add n) (after-lt n 0 0 w s (lit< tt) e)

-- ── Octal ────────────────────────────────────────────────────────────

-- an octal digit is below 8
pub octal_lt : (b d : ℕ) → octal_digit b ≡ Some d → d < 8
unfolding octal_digit
octal_lt b d e = go (within (0x30 to 0x37) b) refl e
  where
    go : (c : Bool) → within (0x30 to 0x37) b ≡ c → cond c (Some (b - 0x30)) None ≡ Some d → d < 8
    go true t e = let h = between 0x30 0x37 b t in let q = some-injective _ _ e in omega arith
    go false t e = absurd (none-ne-some d e)

-- one digit more: the value stays below 8 to the power of the digits read
pub octal_grows : (i v d : ℕ) → v < 8 ^ i → d < 8 → v * 8 + d < 8 ^ (i + 1)
octal_grows i v d h k = rw (add-one, pow-suc) (omega arith)

-- a digit in front, another byte in front
module _ (v n b : ℕ) (s : List ℕ) where
  pub octal-some : (d : ℕ) → octal_digit b ≡ Some d → octal_after v (suc n) (b ∷ s) ≡ one_more (octal_after (v * 8 + d) n s)
  unfolding octal_after
  octal-some d e = rw (e, octal_after)

  pub octal-none : octal_digit b ≡ None → octal_after v (suc n) (b ∷ s) ≡ record { value = v; count = 0 }
  unfolding octal_after
  octal-none e = rw (e, octal_after)

-- no more digits are taken than asked for, and the value is below 8 to the power of their number
abbrev Bound : ℕ → ℕ → Octal → Type 0
Bound n i o = (o.count ≤ n) × (o.value < 8 ^ (i + o.count))

after-bound : (n i v : ℕ) (s : List ℕ) → v < 8 ^ i → Bound n i (octal_after v n s)
unfolding octal_after
after-bound zero i v s h = (lit≤ tt, rw add-zero h)
after-bound (suc n) i v [] h = (omega arith, rw add-zero h)
after-bound (suc n) i v (b ∷ s) h = go (octal_digit b) refl (λ d l. after-bound n (i + 1) (v * 8 + d) s (octal_grows i v d h l))
  where
    go : (o : Option ℕ) → octal_digit b ≡ o → ((d : ℕ) → d < 8 → Bound n (i + 1) (octal_after (v * 8 + d) n s))
        → Bound (suc n) i (octal_after v (suc n) (b ∷ s))
    go None q f = subst (Bound (suc n) i) (sym (octal-none v n b s q)) (omega arith, rw add-zero h)
    go (Some d) q f =
        let k = f d (octal_lt b d q) in
        let z : i + 1 + (octal_after (v * 8 + d) n s).count ≡ i + suc (octal_after (v * 8 + d) n s).count = omega arith in
        subst (Bound (suc n) i) (sym (octal-some v n b s d q)) (omega arith, rw (← z) k.1)

run-bound : (n : ℕ) (s : List ℕ) → Bound n 0 (octal_run n s)
run-bound n s = after-bound n 0 0 s (lit< tt)

pub octal_count : (n : ℕ) (s : List ℕ) → (octal_run n s).count ≤ n
octal_count n s = (run-bound n s).0

pub octal_digits_lt : (n : ℕ) (s : List ℕ) → (octal_run n s).value < 8 ^ (octal_run n s).count
octal_digits_lt n s = subst (λ (k : ℕ). (octal_run n s).value < 8 ^ k) (zero-add _) (run-bound n s).1

-- so the value of a run of at most n digits is below 8 to the power n
pub octal_run_lt : (n : ℕ) (s : List ℕ) → (octal_run n s).value < 8 ^ n
octal_run_lt n s = le_trans (octal_digits_lt n s) (pow-le-pow_right (lit≤ tt) (octal_count n s))

-- ── Literals ─────────────────────────────────────────────────────────

-- Four digits don't come above 10FFFF: `\u` is as document 01 has it, "never in `b`, never a surrogate".
pub four_digits : (in_b : Bool) (s : List ℕ)
    → point_escape 4 in_b s
    ≡ escaped 5 (bind (hex_run 4 s) (λ v. cond (in_b || within (0xD800 to 0xDFFF) v) None (Some (utf8_of v))))
unfolding point_escape bind
four_digits in_b s = go (hex_run 4 s) refl
  where
    go : (o : Option ℕ) → hex_run 4 s ≡ o
        → escaped 5 (bind o (λ v. cond (in_b || (within (0xD800 to 0xDFFF) v || ltb 0x10FFFF v)) None (Some (utf8_of v))))
        ≡ escaped 5 (bind o (λ v. cond (in_b || within (0xD800 to 0xDFFF) v) None (Some (utf8_of v))))
    go None e = refl
    go (Some v) e = let h = hex_run_lt 4 v s e in rw (le-ltb 0x10FFFF v (omega arith), or-false)
