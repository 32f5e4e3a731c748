-- Numbers in digits, read from a place of a list: one law for each way a turn of a reader can go. Assumes nothing.
use Rattle.std.proofs.Common.{◌≡◌, refl, sym, ap, ◌∙◌, subst, ℕ, zero, suc, ◌+◌, ◌*◌, ◌-◌, ◌^◌, ◌≤◌, ◌<◌, min, zero-add, add-zero}
use Rattle.std.proofs.Common.{add-one, Bool, true, false, Option, None, Some, List, [], ◌∷◌, length, take, drop, slice_range, get_or}
use Rattle.std.proofs.Common.{⊎_elim, lit≤, arith, eqb, length-take, drop_of_length-le, drop-cons, le-leb, eqb-true, true≢false}
use Rattle.std.proofs.Math.Nat.{sub-zero}
use Rattle.std.proofs.lemmas.Bool.{false≢true, lt-leb, cases_lt}
use Rattle.spec.specs.Options.{bind}
use Rattle.spec.specs.Utf8.{◌to◌, within}
use Rattle.spec.specs.Digits.{digit, digits_after, at_most, digits, hex_digit, hex_after, hex_run, octal_digit, Octal, one_more}
use Rattle.spec.specs.Digits.{octal_after, octal_run}
use Rattle.laws.specs.Utf8Laws.{Out, inside, outside}
use Rattle.numbers.proofs.HexCode.{by_code}
use Rattle.laws.specs.OptionLaws.{none-ne-some}
use Rattle.laws.specs.Tests.{all_below, below}
use Rattle.laws.specs.LiteralLaws.{octal_grows, octal-some, octal-none, octal_count, octal_digits_lt, octal_run_lt}

-- ── Decimal ──────────────────────────────────────────────────────────

-- what a reader with the value v finds in the rest s
unfoldable pub rest : ℕ → ℕ → List ℕ → Option ℕ
unfolding bind digits_after at_most
rest limit v s = bind (digits_after v s) (at_most limit)

-- a number above the limit stays above it
pub too_much : (limit v : ℕ) (s : List ℕ) → limit < v → rest limit v s ≡ None
unfolding rest
too_much limit v [] h = rw (lt-leb v limit h)
too_much limit v (b ∷ s) h = go (digit b) (λ (d : ℕ). too_much limit (v * 10 + d) s (omega arith))
  where
    go : (o : Option ℕ) → ((d : ℕ) → bind (digits_after (v * 10 + d) s) (at_most limit) ≡ None)
        → bind (bind o (λ d. digits_after (v * 10 + d) s)) (at_most limit) ≡ None
    go None f = refl
    go (Some d) f = f d

module _ (limit : ℕ) (s : List ℕ) where
  -- the whole text
  pub digits-some : eqb (length s) 0 ≡ false → rest limit 0 s ≡ digits limit s
  unfolding digits rest
  digits-some h = go s h
    where
      go : (t : List ℕ) → eqb (length t) 0 ≡ false → bind (digits_after 0 t) (at_most limit) ≡ digits limit t
      go [] h = absurd (true≢false h)
      go (b ∷ t) h = refl

  pub digits-none : eqb (length s) 0 ≡ true → digits limit s ≡ None
  unfolding digits
  digits-none h = go s h
    where
      go : (t : List ℕ) → eqb (length t) 0 ≡ true → digits limit t ≡ None
      go [] h = refl
      go (b ∷ t) h = absurd (let e = eqb-true (suc (length t)) 0 h in omega arith)

  module _ (i v : ℕ) (h : i < length s) where
    -- a digit at the place: the number goes on behind it
    pub rest-digit : within (0x30 to 0x39) (get_or s i 0) ≡ true → (w : ℕ) → w ≡ v * 10 + (get_or s i 0 - 0x30)
        → rest limit v (drop i s) ≡ rest limit w (drop (i + 1) s)
    unfolding rest digit
    rest-digit e w q = rw (drop-cons s i 0 h, e, add-one, q)

    -- another byte at the place: no number
    pub rest-other : within (0x30 to 0x39) (get_or s i 0) ≡ false → rest limit v (drop i s) ≡ None
    unfolding rest digit
    rest-other e = rw (drop-cons s i 0 h, e)

    -- a number that is above the limit behind the digit
    pub rest-over : within (0x30 to 0x39) (get_or s i 0) ≡ true → limit < v * 10 + (get_or s i 0 - 0x30) → rest limit v (drop i s) ≡ None
    rest-over e o = rest-digit e _ refl ∙ too_much limit _ (drop (i + 1) s) o

  -- the end: the value itself
  pub rest-end : (i v : ℕ) → length s ≤ i → v ≤ limit → rest limit v (drop i s) ≡ Some v
  unfolding rest
  rest-end i v h k = rw (drop_of_length-le s h, le-leb v limit k)

pub ruleset decimals = (rest-digit, rest-other, rest-over, rest-end, digits-some, digits-none)

-- ── Hexadecimal ──────────────────────────────────────────────────────

-- the same number, or none on both sides
abbrev alike : Option ℕ → Option ℕ → Bool
alike None None = true
alike None (Some w) = false
alike (Some v) None = false
alike (Some v) (Some w) = eqb v w

alike-eq : (o p : Option ℕ) → alike o p ≡ true → o ≡ p
alike-eq None None e = refl
alike-eq None (Some w) e = absurd (false≢true e)
alike-eq (Some v) None e = absurd (false≢true e)
alike-eq (Some v) (Some w) e = ap Some (eqb-true v w e)

-- the arithmetic gives each of the 256 bytes what the definition gives, by computation
all_alike : all_below 256 (λ b. alike (hex_digit b) (by_code b)) ≡ true
unfolding all_below hex_digit
all_alike = refl

pub by_code_lem : (b : ℕ) → b < 256 → hex_digit b ≡ by_code b
by_code_lem b h = alike-eq (hex_digit b) (by_code b) (below 256 (λ b. alike (hex_digit b) (by_code b)) all_alike b h)

-- too few bytes for a run
pub hex-short : (v n : ℕ) (s : List ℕ) → length s < n → hex_after v n s ≡ None
unfolding hex_after
hex-short v zero s h = absurd (omega arith)
hex-short v (suc n) [] h = refl
hex-short v (suc n) (b ∷ s) h = go (hex_digit b) (λ (d : ℕ). hex-short (v * 16 + d) n s (omega arith))
  where
    go : (o : Option ℕ) → ((d : ℕ) → hex_after (v * 16 + d) n s ≡ None) → bind o (λ d. hex_after (v * 16 + d) n s) ≡ None
    go None f = refl
    go (Some d) f = f d

-- a run needs its digits
pub hex-long : (n v : ℕ) (s : List ℕ) → hex_run n s ≡ Some v → n ≤ length s
hex-long n v s e =
    ⊎_elim (λ (h : length s < n). absurd (none-ne-some v (sym (hex-short 0 n s h) ∙ e))) (λ (h : n ≤ length s). h) (cases_lt (length s) n)

-- what a reader with the value v finds in the rest s, all of it
unfoldable pub all_hex : ℕ → List ℕ → Option ℕ
unfolding hex_after
all_hex v s = hex_after v (length s) s

-- a run is its part of the text, if there is as much
hex-part : (v n : ℕ) (s : List ℕ) → n ≤ length s → all_hex v (take n s) ≡ hex_after v n s
unfolding all_hex
hex-part v zero s h = refl
hex-part v (suc n) [] h = absurd (omega arith)
hex-part v (suc n) (b ∷ s) h = go (hex_digit b) (λ (d : ℕ). hex-part (v * 16 + d) n s (omega arith))
  where
    go : (o : Option ℕ) → ((d : ℕ) → hex_after (v * 16 + d) (length (take n s)) (take n s) ≡ hex_after (v * 16 + d) n s)
        → bind o (λ d. hex_after (v * 16 + d) (length (take n s)) (take n s)) ≡ bind o (λ d. hex_after (v * 16 + d) n s)
    go None f = refl
    go (Some d) f = f d

pub hex-start : (n : ℕ) (s : List ℕ) → n ≤ length s → all_hex 0 (slice_range s 0 n) ≡ hex_run n s
hex-start n s h = rw sub-zero (hex-part 0 n s h)

-- a run read up to the place i, with the value v so far
module _ (s : List ℕ) (i v : ℕ) where
  pub hex-digit : i < length s → (d : ℕ) → hex_digit (get_or s i 0) ≡ Some d
      → all_hex (v * 16 + d) (drop (i + 1) s) ≡ all_hex v (drop i s)
  unfolding all_hex
  hex-digit h d e = rw (drop-cons s i 0 h, hex_after, e, add-one)

  pub hex-other : i < length s → hex_digit (get_or s i 0) ≡ None → all_hex v (drop i s) ≡ None
  unfolding all_hex
  hex-other h e = rw (drop-cons s i 0 h, hex_after, e)

  pub hex-end : length s ≤ i → all_hex v (drop i s) ≡ Some v
  unfolding all_hex
  hex-end h = rw (drop_of_length-le s h)

pub ruleset hexes = (hex-short, hex-start, hex-digit, hex-other, hex-end)

-- ── Octal ────────────────────────────────────────────────────────────

-- i digits are read, and the rest is o
abbrev pub behind : ℕ → Octal → Octal
behind i o = record { value = o.value; count = i + o.count }

-- what a reader with the value v, which has read i digits, finds in the rest s, all of it
unfoldable pub ahead : ℕ → ℕ → List ℕ → Octal
unfolding octal_after
ahead i v s = behind i (octal_after v (length s) s)

-- a run is its part of the text, which is shorter where the text is
octal-part : (v n k : ℕ) (s : List ℕ) → k ≡ min n (length s) → octal_after v (length (take k s)) (take k s) ≡ octal_after v n s
unfolding octal_after
octal-part v zero k s h = let e : k ≡ 0 = omega arith in rw e
octal-part v (suc n) k [] h = let e : k ≡ 0 = omega arith in rw e
octal-part v (suc n) zero (b ∷ s) h = absurd (omega arith)
octal-part v (suc n) (suc k) (b ∷ s) h = go (octal_digit b) refl (λ (d : ℕ). octal-part (v * 8 + d) n k s (omega arith))
  where
    t : List ℕ
    t = take k s

    go : (o : Option ℕ) → octal_digit b ≡ o → ((d : ℕ) → octal_after (v * 8 + d) (length t) t ≡ octal_after (v * 8 + d) n s)
        → octal_after v (suc (length t)) (b ∷ t) ≡ octal_after v (suc n) (b ∷ s)
    go None e f = octal-none v (length t) b t e ∙ sym (octal-none v n b s e)
    go (Some d) e f = octal-some v (length t) b t d e ∙ ap one_more (f d) ∙ sym (octal-some v n b s d e)

pub octal-start : (v n k : ℕ) (s : List ℕ) → k ≡ min n (length s) → ahead 0 v (take k s) ≡ octal_after v n s
unfolding ahead
octal-start v n k s h = rw zero-add (octal-part v n k s h)

-- a run read up to the place i, with the value v so far
module _ (s : List ℕ) (i v : ℕ) where
  -- the end
  pub octal-end : length s ≤ i → ahead i v (drop i s) ≡ record { value = v; count = i }
  unfolding ahead
  octal-end h = rw (drop_of_length-le s h, octal_after, add-zero)

  module _ (h : i < length s) where
    -- another byte at the place
    pub octal-other : Out (0x30 to 0x37) (get_or s i 0) → ahead i v (drop i s) ≡ record { value = v; count = i }
    unfolding ahead octal_digit
    octal-other o = rw (drop-cons s i 0 h, octal_after, outside (0x30 to 0x37) (get_or s i 0) o, add-zero)

    -- a digit at the place
    pub octal-digit : 0x30 ≤ get_or s i 0 → get_or s i 0 ≤ 0x37 → (w : ℕ) → w ≡ v * 8 + (get_or s i 0 - 0x30)
        → ahead (i + 1) w (drop (i + 1) s) ≡ ahead i v (drop i s)
    unfolding ahead octal_digit
    octal-digit l k w e =
        let t : List ℕ = drop (suc i) s in
        let n : suc i + (octal_after w (length t) t).count ≡ i + suc (octal_after w (length t) t).count = omega arith in
        rw (add-one, drop-cons s i 0 h, octal_after, inside (0x30 to 0x37) (get_or s i 0) (l, k), ← e, n)

pub ruleset octals = (octal-start, octal-end, octal-other, octal-digit, octal_grows, length-take)

-- octal digits are taken from those that are there
pub octal-within : (v n : ℕ) (s : List ℕ) → (octal_after v n s).count ≤ length s
unfolding octal_after
octal-within v zero s = omega arith
octal-within v (suc n) [] = lit≤ tt
octal-within v (suc n) (b ∷ s) = go (octal_digit b) refl (λ (d : ℕ). octal-within (v * 8 + d) n s)
  where
    go : (o : Option ℕ) → octal_digit b ≡ o → ((d : ℕ) → (octal_after (v * 8 + d) n s).count ≤ length s)
        → (octal_after v (suc n) (b ∷ s)).count ≤ suc (length s)
    go None e f = rw (octal-none v n b s e) (omega arith)
    go (Some d) e f = let h = f d in rw (octal-some v n b s d e) (omega arith)

-- a run of at most three: its value is below 512, and 0 if there is no digit
pub octal_three : (s : List ℕ)
    → ((octal_run 3 s).count ≤ 3) × ((octal_run 3 s).value < 512) × ((octal_run 3 s).count ≡ 0 → (octal_run 3 s).value < 1)
octal_three s = (octal_count 3 s, octal_run_lt 3 s, λ e. subst (λ (k : ℕ). (octal_run 3 s).value < 8 ^ k) e (octal_digits_lt 3 s))
