-- Whether the bytes from a place are undecided, by the tests of `undecided_at`. Assumes nothing.
use mathlib.Core.Path.{◌≡◌, refl, sym, ap, ap₂, ◌∙◌}
use mathlib.Core.Bool.{Bool, true, false, not, ◌&&◌}
use mathlib.Core.List.{List, [], ◌∷◌}
use Prim.Native.Nat.{ℕ, ◌≤◌, ◌<◌}
use native.Mathlib.Omega.{arith}
use lib.Dec.{eqb, ltb}
use lib.ListN.{length, get_or}
use borrow.Author.Tests.{lt-ltb, le-ltb, eq-eqb, ne_eqb}
use Rattle.spec.specs.Memory.{Memory}
use Rattle.spec.specs.Match.{walk_on, undecided_on}

last_false : (x y : Bool) {z : Bool} → z ≡ false → (x && (y && z)) ≡ false
last_false true true e = e
last_false true false e = refl
last_false false y e = refl

and-true : (x : Bool) → (x && true) ≡ x
and-true true = refl
and-true false = refl

by_walk : (m : Memory) (s : List ℕ) → 2 ≤ length s
    → undecided_on m s ≡ (eqb (walk_on m s).used (length s) && (not (eqb (walk_on m s).base 0) && ltb (length s) 255))
unfolding undecided_on
by_walk m [] h = absurd (omega arith)
by_walk m (a ∷ []) h = absurd (omega arith)
by_walk m (a ∷ b ∷ s) h = refl

-- a run of 255 bytes is decided
pub long_decided : (m : Memory) (s : List ℕ) → 255 ≤ length s → undecided_on m s ≡ false
long_decided m s h =
    by_walk m s (omega arith) ∙ last_false (eqb (walk_on m s).used (length s)) (not (eqb (walk_on m s).base 0)) (le-ltb (length s) 255 h)

-- one byte is left
pub at_last : (m : Memory) (s : List ℕ) → length s ≡ 1 → undecided_on m (get_or s 0 0 ∷ []) ≡ undecided_on m s
at_last m [] l = absurd (omega arith)
at_last m (a ∷ []) l = refl
at_last m (a ∷ b ∷ s) l = absurd (omega arith)

-- the walk k, which is that of the bytes left
module _ (m : Memory) (s : List ℕ) (two : 2 ≤ length s) (few : length s < 255) (used : ℕ) (same : used ≡ (walk_on m s).used) where
  pub at-unused : (used ≡ length s → ⊥) → false ≡ undecided_on m s
  at-unused u = sym (by_walk m s two ∙ ap (λ (x : Bool). x && (not (eqb (walk_on m s).base 0) && ltb (length s) 255))
      (ne_eqb (walk_on m s).used (length s) (λ e. u (same ∙ e))))

  pub at-used : used ≡ length s → not (eqb (walk_on m s).base 0) ≡ undecided_on m s
  at-used u =
      sym (by_walk m s two
      ∙ ap₂ (λ (x y : Bool). x && (not (eqb (walk_on m s).base 0) && y)) (eq-eqb (walk_on m s).used (length s) (sym same ∙ u))
      (lt-ltb (length s) 255 few)
      ∙ and-true (not (eqb (walk_on m s).base 0)))
