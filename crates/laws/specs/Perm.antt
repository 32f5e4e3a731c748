-- The permutation of a 64-bit word by d: bit i of the result is bit i xor d of the word. Assumes nothing.
use Rattle.std.specs.Prelude.{◌≡◌, refl, ◌⊎◌, Bool, true, false, ◌&&◌, ◌||◌, cond, ℕ, zero, suc, ◌+◌, ◌*◌, ◌/◌, ◌%◌, ◌^◌, ◌-◌, ◌≤◌, ◌<◌}
use Rattle.std.specs.Prelude.{min, max, eqb, ltb, leb}
use Rattle.std.proofs.Common.{sym, ap, ◌∙◌, inl, inr, mod-lt, zero-lt-suc, mul_assoc, arith, lit<, pow-add, shr-shr, eqb-true, ltb-true}
use Rattle.std.proofs.Common.{leb-true, ltb-false}
use Rattle.std.proofs.Math.Nat.{zero-min, min-zero, zero-max}
use Rattle.std.specs.Int.Bits.{bit_xor, bit_and, bit_or, shifted_even}
use Rattle.std.proofs.lemmas.Nat.{xor_lt, and_shr, and_mod, or_shr, or_mod, shl-shr}
use Rattle.laws.specs.Tests.{Tested, either, or_cases, and_l, and_r, all_below, below}

-- ---- bits

unfoldable pub bit : ℕ → ℕ → ℕ
bit w i = w / 2 ^ i % 2

and-digit : (x y : ℕ) → x < 2 → y < 2 → bit_and x y ≡ min x y
and-digit zero y a b = sym (zero-min y)
and-digit (suc zero) zero a b = refl
and-digit (suc zero) (suc zero) a b = refl
and-digit (suc zero) (suc (suc y)) a b = absurd (omega arith)
and-digit (suc (suc x)) y a b = absurd (omega arith)

or-digit : (x y : ℕ) → x < 2 → y < 2 → bit_or x y ≡ max x y
or-digit zero y a b = sym (zero-max y)
or-digit (suc zero) zero a b = refl
or-digit (suc zero) (suc zero) a b = refl
or-digit (suc zero) (suc (suc y)) a b = absurd (omega arith)
or-digit (suc (suc x)) y a b = absurd (omega arith)

pub bit-lt : (w i : ℕ) → bit w i < 2
unfolding bit
bit-lt w i = mod-lt (w / 2 ^ i) (zero-lt-suc 1)

pub bit-and : (a b i : ℕ) → bit (bit_and a b) i ≡ min (bit a i) (bit b i)
unfolding bit
bit-and a b i =
    ap (λ (z : ℕ). z % 2) (and_shr a b i) ∙ and_mod (a / 2 ^ i) (b / 2 ^ i) 1
    ∙ and-digit (a / 2 ^ i % 2) (b / 2 ^ i % 2) (mod-lt (a / 2 ^ i) (zero-lt-suc 1)) (mod-lt (b / 2 ^ i) (zero-lt-suc 1))

pub bit-or : (a b i : ℕ) → bit (bit_or a b) i ≡ max (bit a i) (bit b i)
unfolding bit
bit-or a b i =
    ap (λ (z : ℕ). z % 2) (or_shr a b i) ∙ or_mod (a / 2 ^ i) (b / 2 ^ i) 1
    ∙ or-digit (a / 2 ^ i % 2) (b / 2 ^ i % 2) (mod-lt (a / 2 ^ i) (zero-lt-suc 1)) (mod-lt (b / 2 ^ i) (zero-lt-suc 1))

pub bit-shr : (w s i : ℕ) → bit (w / 2 ^ s) i ≡ bit w (s + i)
unfolding bit
bit-shr w s i = ap (λ (z : ℕ). z % 2) (shr-shr w s i)

pub bit-shl_high : (w s i : ℕ) → bit (w * 2 ^ s) (s + i) ≡ bit w i
unfolding bit
bit-shl_high w s i = ap (λ (z : ℕ). z % 2) (sym (shr-shr (w * 2 ^ s) s i) ∙ ap (λ (z : ℕ). z / 2 ^ i) (shl-shr w s))

pub bit-shl_low : (w i k : ℕ) → bit (w * 2 ^ (suc k + i)) i ≡ 0
unfolding bit
bit-shl_low w i k =
    ap (λ (z : ℕ). w * z / 2 ^ i % 2) (pow-add 2 (suc k) i)
    ∙ ap (λ (z : ℕ). z / 2 ^ i % 2) (sym (mul_assoc w (2 ^ suc k) (2 ^ i)))
    ∙ ap (λ (z : ℕ). z % 2) (shl-shr (w * 2 ^ suc k) i)
    ∙ shifted_even w k

-- ---- one stage: groups of s bits change places

unfoldable pub stage : ℕ → ℕ → ℕ → ℕ
stage m s w = bit_or (bit_and w m * 2 ^ s) (bit_and (w / 2 ^ s) m)

-- what a mask must be: set at i, whose partner is above it, or clear at i, whose partner is below it and set
unfoldable pub swaps : ℕ → ℕ → ℕ → Bool
unfolding bit
swaps m s i = (eqb (bit m i) 1 && (eqb (bit_xor i s) (s + i) && (ltb i s || eqb (bit m (i - s)) 0)))
    || (eqb (bit m i) 0 && (leb s i && (eqb (bit_xor i s) (i - s) && eqb (bit m (i - s)) 1)))

stage-bits : (m s w i : ℕ) → bit (stage m s w) i ≡ max (bit (bit_and w m * 2 ^ s) i) (min (bit w (s + i)) (bit m i))
unfolding stage
stage-bits m s w i =
    bit-or (bit_and w m * 2 ^ s) (bit_and (w / 2 ^ s) m) i
    ∙ ap (max (bit (bit_and w m * 2 ^ s) i)) (bit-and (w / 2 ^ s) m i ∙ ap (λ (z : ℕ). min z (bit m i)) (bit-shr w s i))

low_part : (m s w i : ℕ) → i < s → bit (bit_and w m * 2 ^ s) i ≡ 0
low_part m s w i h =
    let e : s ≡ suc (s - suc i) + i = omega arith in ap (λ (z : ℕ). bit (bit_and w m * 2 ^ z) i) e ∙ bit-shl_low (bit_and w m) i (s - suc i)

high_part : (m s w i : ℕ) → s ≤ i → bit (bit_and w m * 2 ^ s) i ≡ min (bit w (i - s)) (bit m (i - s))
high_part m s w i h =
    let e : i ≡ s + (i - s) = omega arith in ap (bit (bit_and w m * 2 ^ s)) e ∙ bit-shl_high (bit_and w m) s (i - s) ∙ bit-and w m (i - s)

pub stage-bit : (m s w i : ℕ) → swaps m s i ≡ true → bit (stage m s w) i ≡ bit w (bit_xor i s)
unfolding swaps
stage-bit m s w i e = stage-bits m s w i ∙ go (or_cases _ _ e)
  where
    Up : Bool
    Up = eqb (bit_xor i s) (s + i) && (ltb i s || eqb (bit m (i - s)) 0)

    Down : Bool
    Down = leb s i && (eqb (bit_xor i s) (i - s) && eqb (bit m (i - s)) 1)

    zero-part : bit m i ≡ 1 → (ltb i s ≡ true) ⊎ (eqb (bit m (i - s)) 0 ≡ true) → bit (bit_and w m * 2 ^ s) i ≡ 0
    zero-part q (inl h) = low_part m s w i (ltb-true i s h)
    zero-part q (inr h) = at (either (ltb i s))
      where
        at : Tested (ltb i s) → bit (bit_and w m * 2 ^ s) i ≡ 0
        at (inl k) = low_part m s w i (ltb-true i s k)
        at (inr k) =
            high_part m s w i (ltb-false i s k) ∙ ap (min (bit w (i - s))) (eqb-true (bit m (i - s)) 0 h) ∙ min-zero (bit w (i - s))

    go : ((eqb (bit m i) 1 && Up) ≡ true) ⊎ ((eqb (bit m i) 0 && Down) ≡ true)
        → max (bit (bit_and w m * 2 ^ s) i) (min (bit w (s + i)) (bit m i)) ≡ bit w (bit_xor i s)
    go (inl t) =
        let u = and_r (eqb (bit m i) 1) Up t in
        let mi = eqb-true (bit m i) 1 (and_l (eqb (bit m i) 1) Up t) in
        let x = eqb-true (bit_xor i s) (s + i) (and_l _ (ltb i s || eqb (bit m (i - s)) 0) u) in
        let z = zero-part mi (or_cases (ltb i s) (eqb (bit m (i - s)) 0) (and_r (eqb (bit_xor i s) (s + i)) _ u)) in
        let b = bit-lt w (s + i) in
        let c : max (bit (bit_and w m * 2 ^ s) i) (min (bit w (s + i)) (bit m i)) ≡ bit w (s + i) = omega arith in
        c ∙ ap (bit w) (sym x)
    go (inr t) =
        let d = and_r (eqb (bit m i) 0) Down t in
        let mi = eqb-true (bit m i) 0 (and_l (eqb (bit m i) 0) Down t) in
        let h = leb-true s i (and_l (leb s i) _ d) in
        let d2 = and_r (leb s i) (eqb (bit_xor i s) (i - s) && eqb (bit m (i - s)) 1) d in
        let x = eqb-true (bit_xor i s) (i - s) (and_l _ (eqb (bit m (i - s)) 1) d2) in
        let one = eqb-true (bit m (i - s)) 1 (and_r (eqb (bit_xor i s) (i - s)) _ d2) in
        let hp = high_part m s w i h in
        let b = bit-lt w (i - s) in
        let c : max (bit (bit_and w m * 2 ^ s) i) (min (bit w (s + i)) (bit m i)) ≡ bit w (i - s) = omega arith in
        c ∙ ap (bit w) (sym x)

-- ---- the six masks

m0_ok : all_below 64 (swaps 0x5555555555555555 1) ≡ true
unfolding all_below swaps
m0_ok = refl

m1_ok : all_below 64 (swaps 0x3333333333333333 2) ≡ true
unfolding all_below swaps
m1_ok = refl

m2_ok : all_below 64 (swaps 0x0f0f0f0f0f0f0f0f 4) ≡ true
unfolding all_below swaps
m2_ok = refl

m3_ok : all_below 64 (swaps 0x00ff00ff00ff00ff 8) ≡ true
unfolding all_below swaps
m3_ok = refl

m4_ok : all_below 64 (swaps 0x0000ffff0000ffff 16) ≡ true
unfolding all_below swaps
m4_ok = refl

m5_ok : all_below 64 (swaps 0x00000000ffffffff 32) ≡ true
unfolding all_below swaps
m5_ok = refl

-- a stage where d has the bit s
unfoldable pub maybe : ℕ → ℕ → ℕ → ℕ → ℕ
unfolding stage
maybe m s d w = cond (eqb (d / s % 2) 1) (stage m s w) w

unfoldable pub moved : ℕ → ℕ → ℕ → ℕ
moved s d i = cond (eqb (d / s % 2) 1) (bit_xor i s) i

maybe-bit : (m s d w i : ℕ) → all_below 64 (swaps m s) ≡ true → i < 64 → bit (maybe m s d w) i ≡ bit w (moved s d i)
unfolding maybe moved
maybe-bit m s d w i e h = go (eqb (d / s % 2) 1)
  where
    go : (c : Bool) → bit (cond c (stage m s w) w) i ≡ bit w (cond c (bit_xor i s) i)
    go true = stage-bit m s w i (below 64 (swaps m s) e i h)
    go false = refl

moved-lt : (s d i : ℕ) → s < 64 → i < 64 → moved s d i < 64
unfolding moved
moved-lt s d i a b = go (eqb (d / s % 2) 1)
  where
    go : (c : Bool) → cond c (bit_xor i s) i < 64
    go true = xor_lt 6 i s b a
    go false = b

unfoldable pub xor_perm : ℕ → ℕ → ℕ
unfolding maybe
xor_perm w d =
    maybe 0x00000000ffffffff 32 d (maybe 0x0000ffff0000ffff 16 d (maybe 0x00ff00ff00ff00ff 8 d
    (maybe 0x0f0f0f0f0f0f0f0f 4 d (maybe 0x3333333333333333 2 d (maybe 0x5555555555555555 1 d w)))))

-- where the six stages take bit i from
abbrev moves : ℕ → ℕ → ℕ
moves d i = moved 1 d (moved 2 d (moved 4 d (moved 8 d (moved 16 d (moved 32 d i)))))

all_moved : all_below 64 (λ d. all_below 64 (λ i. eqb (moves d i) (bit_xor i d))) ≡ true
unfolding all_below moved
all_moved = refl

-- bit i of the result is bit i xor d of the word
pub perm_bit : (w d i : ℕ) → d < 64 → i < 64 → bit (xor_perm w d) i ≡ bit w (bit_xor i d)
unfolding xor_perm
perm_bit w d i hd hi =
    let i5 = moved 32 d i in
    let h5 = moved-lt 32 d i (lit< tt) hi in
    let i4 = moved 16 d i5 in
    let h4 = moved-lt 16 d i5 (lit< tt) h5 in
    let i3 = moved 8 d i4 in
    let h3 = moved-lt 8 d i4 (lit< tt) h4 in
    let i2 = moved 4 d i3 in
    let h2 = moved-lt 4 d i3 (lit< tt) h3 in
    let i1 = moved 2 d i2 in
    let h1 = moved-lt 2 d i2 (lit< tt) h2 in
    maybe-bit 0x00000000ffffffff 32 d _ i m5_ok hi
    ∙ maybe-bit 0x0000ffff0000ffff 16 d _ i5 m4_ok h5
    ∙ maybe-bit 0x00ff00ff00ff00ff 8 d _ i4 m3_ok h4
    ∙ maybe-bit 0x0f0f0f0f0f0f0f0f 4 d _ i3 m2_ok h3
    ∙ maybe-bit 0x3333333333333333 2 d _ i2 m1_ok h2
    ∙ maybe-bit 0x5555555555555555 1 d w i1 m0_ok h1
    ∙ ap (bit w) (eqb-true (moves d i) (bit_xor i d) (below 64 (λ k. eqb (moves d k) (bit_xor k d))
    (below 64 (λ c. all_below 64 (λ k. eqb (moves c k) (bit_xor k c))) all_moved d hd) i hi))
