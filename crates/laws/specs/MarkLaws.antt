-- Marks, 64 to a word: what a mark more changes. Assumes nothing.
use Rattle.std.specs.Prelude.{◌≡◌, Bool, false, ◌||◌, List, ℕ, suc, ◌+◌, ◌*◌, ◌/◌, ◌%◌, ◌^◌, ◌-◌, ◌<◌, eqb, ltb, length, get_or, set}
use Rattle.std.proofs.Common.{sym, ap₂, ◌∙◌, subst, inl, inr, div-lt_iff_lt-mul, one-mul, pow_pos, get_or-set_same, get_or-set_other}
use Rattle.std.proofs.Math.Path.{ap}
use Rattle.std.proofs.Math.Bool.{or-false}
use native.Mathlib.Omega.{arith}
use Rattle.std.specs.Int.Bits.{bit_or}
use Rattle.std.proofs.lemmas.Nat.{shl-shr}
use Rattle.std.proofs.Math.Pow.{pow-lt}
use borrow.Author.Tests.{eqb-true, eqb-false, eq-eqb, ltb-true, ltb-false}
use Rattle.laws.specs.Tests.{Tested, either, or_r, no_true, iff_eq}
use Rattle.laws.specs.Perm.{bit, bit-lt, bit-or, bit-shl_low}

-- ---- marks, 64 to a word

unfoldable pub marked : List ℕ → ℕ → Bool
unfolding bit
marked M s = eqb (bit (get_or M (s / 64) 0) (s % 64)) 1

unfoldable pub mark : List ℕ → ℕ → List ℕ
mark M s = set M (s / 64) (bit_or (get_or M (s / 64) 0) (2 ^ (s % 64)))

bit-one : (j : ℕ) → bit (2 ^ j) j ≡ 1
unfolding bit
bit-one j = ap (λ (z : ℕ). z % 2) (ap (λ (z : ℕ). z / 2 ^ j) (sym (one-mul (2 ^ j))) ∙ shl-shr 1 j)

bit-off : (j i : ℕ) → (i ≡ j → ⊥) → bit (2 ^ j) i ≡ 0
bit-off j i ne = go (either (ltb i j))
  where
    go : Tested (ltb i j) → bit (2 ^ j) i ≡ 0
    go (inl e) =
        let h = ltb-true i j e in
        let q : j ≡ suc (j - suc i) + i = omega arith in
        ap (λ (z : ℕ). bit z i) (sym (one-mul (2 ^ j))) ∙ ap (λ (z : ℕ). bit (1 * 2 ^ z) i) q ∙ bit-shl_low 1 i (j - suc i)
    go (inr e) = unfold bit in ap (λ (z : ℕ). z % 2) small
      where
        small : 2 ^ j / 2 ^ i ≡ 0
        small = let h = ltb-false i j e in let lt : j < i = omega (arith, ne) in
            let d : 2 ^ j / 2 ^ i < 1 =
            (div-lt_iff_lt-mul (pow_pos i)).1 (subst (λ (z : ℕ). 2 ^ j < z) (sym (one-mul (2 ^ i))) (pow-lt lt)) in omega arith

or-mark : (W i j : ℕ) → eqb (bit (bit_or W (2 ^ j)) i) 1 ≡ (eqb (bit W i) 1 || eqb i j)
or-mark W i j = go (either (eqb i j))
  where
    b : bit W i < 2
    b = bit-lt W i

    go : Tested (eqb i j) → eqb (bit (bit_or W (2 ^ j)) i) 1 ≡ (eqb (bit W i) 1 || eqb i j)
    go (inl e) =
        let o = bit-or W (2 ^ j) i in
        let p = ap (bit (2 ^ j)) (eqb-true i j e) ∙ bit-one j in
        let q : bit (bit_or W (2 ^ j)) i ≡ 1 = omega (arith, b) in
        eq-eqb _ 1 q ∙ sym (or_r (eqb (bit W i) 1) (eqb i j) e)
    go (inr e) =
        let o = bit-or W (2 ^ j) i in
        let p = bit-off j i (eqb-false i j e) in
        let q : bit (bit_or W (2 ^ j)) i ≡ bit W i = omega arith in
        ap (λ (z : ℕ). eqb z 1) q ∙ sym (ap (λ (c : Bool). eqb (bit W i) 1 || c) e ∙ or-false (eqb (bit W i) 1))

pub mark-is : (M : List ℕ) (s t : ℕ) → s / 64 < length M → marked (mark M s) t ≡ (marked M t || eqb t s)
unfolding marked mark
mark-is M s t h = go (either (eqb (t / 64) (s / 64)))
  where
    new : ℕ
    new = bit_or (get_or M (s / 64) 0) (2 ^ (s % 64))

    go : Tested (eqb (t / 64) (s / 64))
        → eqb (bit (get_or (set M (s / 64) new) (t / 64) 0) (t % 64)) 1 ≡ (eqb (bit (get_or M (t / 64) 0) (t % 64)) 1 || eqb t s)
    go (inl e) =
        let q = eqb-true (t / 64) (s / 64) e in
        ap (λ (z : ℕ). eqb (bit (get_or (set M (s / 64) new) z 0) (t % 64)) 1) q
        ∙ ap (λ (z : ℕ). eqb (bit z (t % 64)) 1) (get_or-set_same M (s / 64) new 0 h)
        ∙ or-mark (get_or M (s / 64) 0) (t % 64) (s % 64)
        ∙ ap₂ (λ (z : ℕ) (c : Bool). eqb (bit (get_or M z 0) (t % 64)) 1 || c) (sym q) (low q)
      where
        low : t / 64 ≡ s / 64 → eqb (t % 64) (s % 64) ≡ eqb t s
        low q =
            iff_eq _ _ (λ a. let x = eqb-true (t % 64) (s % 64) a in eq-eqb t s (omega arith))
            (λ a. let x = eqb-true t s a in eq-eqb (t % 64) (s % 64) (omega arith))
    go (inr e) =
        let ne = eqb-false (t / 64) (s / 64) e in
        let off : eqb t s ≡ false = no_true (eqb t s) (λ a. ne (ap (λ (z : ℕ). z / 64) (eqb-true t s a))) in
        ap (λ (z : ℕ). eqb (bit z (t % 64)) 1) (get_or-set_other M (s / 64) (t / 64) new 0 ne)
        ∙ sym (ap (λ (c : Bool). eqb (bit (get_or M (t / 64) 0) (t % 64)) 1 || c) off ∙ or-false _)
