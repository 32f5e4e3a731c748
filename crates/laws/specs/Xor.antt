-- Xor cancels and is associative, and by a byte it stays in its block of 256. Assumes nothing.
use Rattle.std.specs.Prelude.{◌≡◌, refl, ℕ, zero, suc, ◌+◌, ◌*◌, ◌/◌, ◌%◌, ◌<◌}
use Rattle.std.proofs.Common.{sym, ap, ap₂, ◌∙◌, mod-lt, zero-lt-suc, div-add-mod', arith}
use Rattle.std.proofs.Math.Arith.{bin_ind}
use Rattle.std.specs.Int.Bits.{bit_xor, differ, xor_step, xor_zero_r}
use Rattle.std.proofs.lemmas.Nat.{xor_shr, xor_mod, xor_comm}

-- ---- cancelling

digit : (x y : ℕ) → x < 2 → y < 2 → differ x (bit_xor x y) ≡ y
digit zero y p q = refl
digit (suc zero) zero p q = refl
digit (suc zero) (suc zero) p q = refl
digit (suc zero) (suc (suc y)) p q = absurd (omega arith)
digit (suc (suc x)) y p q = absurd (omega arith)

pub xor_cancel : (a b : ℕ) → bit_xor a (bit_xor a b) ≡ b
xor_cancel = bin_ind (λ (n : ℕ). (b : ℕ) → bit_xor n (bit_xor n b) ≡ b) (λ b. refl) step
  where
    step : (n : ℕ) → ((b : ℕ) → bit_xor (n / 2) (bit_xor (n / 2) b) ≡ b) → (b : ℕ) → bit_xor n (bit_xor n b) ≡ b
    step n ih b =
        xor_step n (bit_xor n b)
        ∙ ap₂ (λ (x y : ℕ). bit_xor (n / 2) x * 2 + differ (n % 2) y) (xor_shr n b 1) (xor_mod n b 1)
        ∙ ap₂ (λ (x y : ℕ). x * 2 + y) (ih (b / 2)) (digit (n % 2) (b % 2) (mod-lt n (zero-lt-suc 1)) (mod-lt b (zero-lt-suc 1)))
        ∙ div-add-mod' b 2

-- two bases that reach a slot by one byte are one
pub xor_cancel_r : (a b c : ℕ) → bit_xor a c ≡ bit_xor b c → a ≡ b
xor_cancel_r a b c e =
    sym (xor_cancel c a) ∙ ap (bit_xor c) (xor_comm c a ∙ e ∙ xor_comm b c) ∙ xor_cancel c b

-- a byte leaves the block as it is
pub xor_block_of : (s l : ℕ) → l < 256 → bit_xor s l / 256 ≡ s / 256
xor_block_of s l h = xor_shr s l 8 ∙ ap (bit_xor (s / 256)) small ∙ xor_zero_r (s / 256)
  where
    small : l / 256 ≡ 0
    small = omega arith

-- ---- associativity

digits-assoc : (x y z : ℕ) → x < 2 → y < 2 → z < 2 → differ (bit_xor x y) z ≡ differ x (bit_xor y z)
digits-assoc zero y z a b c = two y z b c
  where
    two : (y z : ℕ) → y < 2 → z < 2 → differ y z ≡ bit_xor y z
    two zero z b c = refl
    two (suc zero) zero b c = refl
    two (suc zero) (suc zero) b c = refl
    two (suc zero) (suc (suc z)) b c = absurd (omega arith)
    two (suc (suc y)) z b c = absurd (omega arith)
digits-assoc (suc zero) zero zero a b c = refl
digits-assoc (suc zero) zero (suc zero) a b c = refl
digits-assoc (suc zero) zero (suc (suc z)) a b c = absurd (omega arith)
digits-assoc (suc zero) (suc zero) zero a b c = refl
digits-assoc (suc zero) (suc zero) (suc zero) a b c = refl
digits-assoc (suc zero) (suc zero) (suc (suc z)) a b c = absurd (omega arith)
digits-assoc (suc zero) (suc (suc y)) z a b c = absurd (omega arith)
digits-assoc (suc (suc x)) y z a b c = absurd (omega arith)

pub xor_assoc : (a b c : ℕ) → bit_xor (bit_xor a b) c ≡ bit_xor a (bit_xor b c)
xor_assoc = bin_ind (λ (n : ℕ). (b c : ℕ) → bit_xor (bit_xor n b) c ≡ bit_xor n (bit_xor b c)) (λ b c. refl) step
  where
    half : (n : ℕ) → n % 2 < 2
    half n = mod-lt n (zero-lt-suc 1)

    step : (n : ℕ) → ((b c : ℕ) → bit_xor (bit_xor (n / 2) b) c ≡ bit_xor (n / 2) (bit_xor b c)) → (b c : ℕ)
        → bit_xor (bit_xor n b) c ≡ bit_xor n (bit_xor b c)
    step n ih b c =
        xor_step (bit_xor n b) c
        ∙ ap₂ (λ (x y : ℕ). bit_xor x (c / 2) * 2 + differ y (c % 2)) (xor_shr n b 1) (xor_mod n b 1)
        ∙ ap₂ (λ (x y : ℕ). x * 2 + y) (ih (b / 2) (c / 2)) (digits-assoc (n % 2) (b % 2) (c % 2) (half n) (half b) (half c))
        ∙ sym (xor_step n (bit_xor b c) ∙ ap₂ (λ (x y : ℕ). bit_xor (n / 2) x * 2 + differ (n % 2) y) (xor_shr b c 1) (xor_mod b c 1))
