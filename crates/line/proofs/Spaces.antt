-- The first and the last space of a line and the first LF of a text, as the library's searches find them. Assumes nothing.
use mathlib.Core.Path.{◌≡◌, refl, ap, ◌∙◌, sym}
use mathlib.Core.Bool.{Bool, true, false, cond}
use Rattle.std.specs.Prelude.{Option, None, Some, MatchOption}
use Rattle.std.specs.Option.{option_map, option_or}
use Rattle.std.specs.List.{position, position_or_len, position_from}
use Rattle.std.proofs.lemmas.Iterator.Adapters.{position_from-zero}
use Rattle.std.proofs.lemmas.List.Recursion.{is_position_or_len}
use Rattle.laws.specs.OptionLaws.{none-ne-some, some-injective}
use mathlib.Core.List.{List, [], ◌∷◌}
use Prim.Native.Nat.{ℕ, zero, suc, ◌+◌, ◌≤◌, ◌<◌}
use native.Mathlib.Nat.{add-zero, zero-add}
use native.Mathlib.Omega.{arith}
use lib.ListN.{length, get_or}
use lib.Dec.{eqb, ltb}
use borrow.Author.Tests.{eq-eqb, ne_eqb, ltb-true, ltb-false}
use Rattle.spec.specs.Line.{lf, space, first_space, last_space}
use Rattle.laws.specs.LineWalk.{before_lf}

-- ── The first space ──────────────────────────────────────────────────

-- the first space of a line that stands behind i bytes
from : (i : ℕ) (s : List ℕ) → position_from (λ b. eqb b space) i s ≡ option_map (λ k. i + k) (first_space s)
unfolding first_space
from i [] = refl
from i (b ∷ s) = go (eqb b space) (first_space s) (from (i + 1) s)
  where
    go : (c : Bool) (o : Option ℕ) → position_from (λ b. eqb b space) (i + 1) s ≡ option_map (λ k. i + 1 + k) o
        → cond c (Some i) (position_from (λ b. eqb b space) (i + 1) s) ≡ option_map (λ k. i + k) (cond c (Some 0) (option_map suc o))
    go true o e = ap {B = Option ℕ} Some (sym (add-zero i))
    go false None e = e
    go false (Some k) e = let z : i + 1 + k ≡ i + suc k = omega arith in e ∙ ap {B = Option ℕ} Some z

start : (o : Option ℕ) → option_map (λ k. 0 + k) o ≡ o
start None = refl
start (Some k) = ap {B = Option ℕ} Some (zero-add k)

pub first_position : (line : List ℕ) → position (λ b. eqb b space) line ≡ first_space line
first_position line = position_from-zero (λ b. eqb b space) line ∙ from 0 line ∙ start (first_space line)

pub first-lt : (line : List ℕ) (k : ℕ) → first_space line ≡ Some k → k < length line
unfolding first_space
first-lt [] k e = absurd (none-ne-some k e)
first-lt (b ∷ s) k e = go (eqb b space) (first_space s) e (first-lt s)
  where
    go : (c : Bool) (o : Option ℕ) → cond c (Some 0) (option_map suc o) ≡ Some k
        → ((j : ℕ) → o ≡ Some j → j < length s) → k < suc (length s)
    go true o q f = let z = some-injective _ _ q in omega arith
    go false None q f = absurd (none-ne-some k q)
    go false (Some j) q f = let z = some-injective _ _ q in let l = f j refl in omega arith

-- ── The last space ───────────────────────────────────────────────────

-- r is the last place of a space, none if there is none
abbrev pub IsLast : List ℕ → Option ℕ → Type 0
IsLast s r =
    MatchOption r ((k : ℕ) → k < length s → get_or s k 0 ≡ space → ⊥)
    (λ i. (i < length s) × (get_or s i 0 ≡ space) × ((k : ℕ) → i < k → k < length s → get_or s k 0 ≡ space → ⊥))

last_none : (s : List ℕ) → ((k : ℕ) → k < length s → get_or s k 0 ≡ space → ⊥) → last_space s ≡ None
unfolding last_space
last_none [] h = refl
last_none (b ∷ s) h =
    rw (last_none s (λ k l. h (suc k) (omega arith)), ne_eqb b space (h 0 (omega arith)))

last_some : (s : List ℕ) (i : ℕ) → i < length s → get_or s i 0 ≡ space
    → ((k : ℕ) → i < k → k < length s → get_or s k 0 ≡ space → ⊥) → last_space s ≡ Some i
unfolding last_space
last_some [] i h e n = absurd (omega arith)
last_some (b ∷ s) zero h e n =
    rw (last_none s (λ k l. n (suc k) (omega arith) (omega arith)), eq-eqb b space e)
last_some (b ∷ s) (suc i) h e n =
    rw (last_some s i (omega arith) e (λ k l m. n (suc k) (omega arith) (omega arith)))

pub is_last : (s : List ℕ) (r : Option ℕ) → IsLast s r → r ≡ last_space s
is_last s None h = sym (last_none s h)
is_last s (Some i) h = sym (last_some s i h.0 h.1 h.2)

pub last_lt : (line : List ℕ) (k : ℕ) → last_space line ≡ Some k → k < length line
unfolding last_space
last_lt [] k e = absurd (none-ne-some k e)
last_lt (b ∷ s) k e = go (eqb b space) (last_space s) e (last_lt s)
  where
    go : (c : Bool) (o : Option ℕ) → option_or (option_map suc o) (cond c (Some 0) None) ≡ Some k
        → ((j : ℕ) → o ≡ Some j → j < length s) → k < suc (length s)
    go true None q f = let z = some-injective _ _ q in omega arith
    go false None q f = absurd (none-ne-some k q)
    go true (Some j) q f = let z = some-injective _ _ q in let l = f j refl in omega arith
    go false (Some j) q f = let z = some-injective _ _ q in let l = f j refl in omega arith

-- ── The first LF ─────────────────────────────────────────────────────

before : (s : List ℕ) → before_lf s ≡ position_or_len (λ b. eqb b lf) s
unfolding before_lf
before = is_position_or_len before_lf (λ b. eqb b lf) refl (λ b s. go (eqb b lf) (before_lf s))
  where
    go : (c : Bool) (n : ℕ) → cond c 0 (suc n) ≡ cond c 0 (1 + n)
    go true n = refl
    go false n = omega arith

-- where it stands, if there is one
pub lf-found : (s : List ℕ) (n : ℕ) → Some n ≡ position (λ b. eqb b lf) s → (before_lf s ≡ n) × (n < length s)
lf-found s n e = rw (before s) (go (ltb (position_or_len (λ b. eqb b lf) s) (length s)) refl e)
  where
    m : ℕ
    m = position_or_len (λ b. eqb b lf) s

    go : (c : Bool) → ltb m (length s) ≡ c → Some n ≡ cond c (Some m) None → (m ≡ n) × (n < length s)
    go true q e = let z = some-injective _ _ e in let l = ltb-true m (length s) q in (sym z, omega arith)
    go false q e = absurd (none-ne-some n (sym e))

pub lf-none : (s : List ℕ) → None ≡ position (λ b. eqb b lf) s → length s ≤ before_lf s
lf-none s e = rw (before s) (go (ltb (position_or_len (λ b. eqb b lf) s) (length s)) refl e)
  where
    m : ℕ
    m = position_or_len (λ b. eqb b lf) s

    go : (c : Bool) → ltb m (length s) ≡ c → None ≡ cond c (Some m) None → length s ≤ m
    go true q e = absurd (none-ne-some m e)
    go false q e = ltb-false m (length s) q
