-- Tests in a walk: of a `while`, and of an `if` without `else`, whose arm returns or goes on; and what their outcomes say of numbers.
-- Assumes `Logic`.
use Rattle.std.specs.Prelude.{◌≡◌, Bool, true, false, not, List, ℕ, ◌-◌, ◌≤◌, ◌<◌, T, eqb}
use Rattle.std.proofs.Common.{subst, arith, T_not}
use seplogic.Ra.Ura.{Ura}
use Rattle.std.proofs.Math.Dec.{eqb_refl}
use mir.Syntax.{Opd as Operand, Body, skip, seq, cond, exit}
use mir.Val.{vbool}
use prog.Wp.{Env, Calls, Loops, Wp, after_seq, exits}
use types.Logic.{Logic}
use types.Kit.{Item, Post, post, prop, runs, any_q, Seq, ◌$◌}
use types.Run.{Opd, first, branches, skips, jumps}

module _ {M : Type 1} {𝓤 : Ura M} {𝓛 : Logic 𝓤} {K : Type 0} {Γ : List (Item 𝓤)} where
  open 𝓛 use {H}

  module _ {E : Env 𝓤 H} {C : Calls 𝓤 H} {Λ : Loops 𝓤 H} {q : Post 𝓤 H} where
    -- the test of a `while` whose outcome is not known: the turn goes on where it holds, and the `exit` is taken where it fails
    pub tests : K → {c : Operand} {n : ℕ} {b : Body} {y : Bool} → Opd K 𝓛 Γ E c (vbool y) → (T y → Seq K 𝓛 Γ (runs C Λ E b q))
        → (T (not y) → Seq K 𝓛 Γ (prop (post 𝓤 H q (exits n)))) → Seq K 𝓛 Γ (runs C Λ E (seq (cond c skip (exit n)) b) q)
    tests t o held failed = first t $ branches t o (λ y. skips t $ record { prf = (held y).prf }) (λ y. jumps t
        $ record { prf = (failed y).prf })

    -- an `if` without `else`: its arm runs where the test holds, and what follows where it fails
    pub checks : K → {c : Operand} {a b : Body} {y : Bool} → Opd K 𝓛 Γ E c (vbool y)
        → (T y → Seq K 𝓛 Γ (runs C Λ E a (any_q (after_seq 𝓤 H (Wp 𝓤 H C Λ E b (post 𝓤 H q)) (post 𝓤 H q)))))
        → (T (not y) → Seq K 𝓛 Γ (runs C Λ E b q)) → Seq K 𝓛 Γ (runs C Λ E (seq (cond c a skip) b) q)
    checks t o held failed = first t $ branches t o held (λ y. skips t $ record { prf = (failed y).prf })

pub ne_of : (a b : ℕ) → T (not (eqb a b)) → a ≡ b → ⊥
ne_of a b h e = T_not (eqb a b) h (subst (λ (x : ℕ). T (eqb a x)) e (eqb_refl a))

pub not-not : (y : Bool) → T (not (not y)) → T y
not-not true h = tt
not-not false h = absurd h

-- ---- orders

pub lt_le : {a b c : ℕ} → a < b → b ≤ c → a < c
lt_le h k = omega arith

pub lt_lt : {a b c : ℕ} → a < b → b < c → a < c
lt_lt h k = omega arith

pub le_le : {a b c : ℕ} → a ≤ b → b ≤ c → a ≤ c
le_le h k = omega arith

pub lt_of_lt : {a b : ℕ} → a < b → a ≤ b
lt_of_lt h = omega arith

pub lt_keeps : {a b c : ℕ} → a < b → c ≡ b → a < c
lt_keeps h e = omega arith

pub le_keeps : {a b c : ℕ} → a ≤ b → c ≡ b → a ≤ c
le_keeps h e = omega arith

pub below_one : {a b : ℕ} → a ≡ b - 1 → 0 < b → a < b
below_one e h = omega arith

pub le_refl : {a b : ℕ} → b ≡ a → a ≤ b
le_refl e = omega arith
