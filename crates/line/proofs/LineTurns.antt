-- The first of the lines of a text, by where its first LF stands, and how many lines there are. Assumes nothing.
use mathlib.Core.Path.{◌≡◌, refl, ap, ap₂, ◌∙◌, sym}
use mathlib.Core.Bool.{Bool, true, false, cond}
use mathlib.Core.List.{List, [], ◌∷◌, ◌++◌}
use Rattle.std.specs.Prelude.{None, Some}
use Rattle.std.specs.List.{position}
use Prim.Native.Nat.{ℕ, suc, ◌+◌, ◌-◌, ◌≤◌, ◌<◌}
use native.Mathlib.Numerals.{add-one}
use native.Mathlib.Omega.{arith}
use lib.ListN.{length, get_or, take, drop, length-take, length-drop, length-append}
use lib.Seq.{take-take, take_all, drop-length}
use lib.Dec.{eqb}
use borrow.Author.Tests.{eq-eqb, ne_eqb, lt-ltb, le-ltb}
use Rattle.spec.specs.Line.{lf, cr, less_cr, with_lf, last_line, lines_after, lines}
use Rattle.laws.specs.LineWalk.{before_lf, first_line, next_line, lines_next, less_cr-le, less_cr-take}
use Rattle.line.proofs.Spaces.{lf-found, lf-none}

-- ── A trailing CR ────────────────────────────────────────────────────

module _ (l : List ℕ) where
  pub cr-taken : get_or l (length l - 1) 0 ≡ cr → take (length l - 1) l ≡ less_cr l
  unfolding less_cr
  cr-taken e = rw (eq-eqb (get_or l (length l - 1) 0) cr e)

  pub cr-kept : (get_or l (length l - 1) 0 ≡ cr → ⊥) → l ≡ less_cr l
  unfolding less_cr
  cr-kept n = rw (ne_eqb (get_or l (length l - 1) 0) cr n)

pub cr-none : (l : List ℕ) → length l < 1 → l ≡ less_cr l
unfolding less_cr
cr-none [] h = refl
cr-none (b ∷ l) h = absurd (omega arith)

-- what `less_cr` needs
pub ruleset cr_cases = (cr-taken, cr-kept, cr-none)

-- ── The first line ───────────────────────────────────────────────────

-- the text has ended
pub lines-none : (s : List ℕ) → length s ≡ 0 → lines s ≡ []
unfolding lines lines_after
lines-none [] h = refl
lines-none (b ∷ s) h = absurd (omega arith)

next_line-some : (s : List ℕ) → 0 < length s → next_line s ≡ Some (first_line (before_lf s) s)
unfolding next_line
next_line-some [] h = absurd (omega arith)
next_line-some (b ∷ s) h = refl

-- a line with its LF is the first bytes of what it stands in
with_lf-take : (n : ℕ) (s : List ℕ) → with_lf (take n s) ≡ take (length (with_lf (take n s))) s
with_lf-take n s =
    let l = less_cr-le (take n s) in
    let m = less_cr-le (less_cr (take n s)) in
    let t = length-take n s in
    less_cr-take (less_cr (take n s))
    ∙ ap (take (length (with_lf (take n s)))) (less_cr-take (take n s))
    ∙ take-take (length (with_lf (take n s))) (length (less_cr (take n s))) (take n s) m
    ∙ take-take (length (with_lf (take n s))) n s (omega arith)

module _ (s : List ℕ) where
  -- an LF behind n bytes: up to two CR go
  pub lines-lf : (n : ℕ) → Some n ≡ position (λ b. eqb b lf) s
      → lines s ≡ with_lf (take n s) ∷ lines (take (length s - (n + 1)) (drop (n + 1) s))
  lines-lf n e =
      let f = lf-found s n e in
      let b = f.1 in
      lines_next s
      ∙ rw (
        next_line-some s (omega arith),
        f.0,
        lt-ltb n (length s) b,
        add-one n,
        take_all (length s - suc n) (drop (suc n) s) (omega (arith, length-drop (suc n) s)),
      )
      (ap (λ (l : List ℕ). l ∷ lines (drop (suc n) s)) (sym (with_lf-take n s)))

  -- no LF: one CR goes
  pub lines_last : 0 < length s → None ≡ position (λ b. eqb b lf) s → lines s ≡ less_cr s ∷ lines []
  lines_last h e =
      lines_next s
      ∙ rw (next_line-some s h, le-ltb (before_lf s) (length s) (lf-none s e))
      (ap₂ (λ (l r : List ℕ). l ∷ lines r) (sym (less_cr-take s)) (drop-length s))

-- what a turn of the walk needs
pub ruleset turns = (lines-none, lines-lf, lines_last)

-- ── How many ─────────────────────────────────────────────────────────

lines_after-few : (l s : List ℕ) → length (lines_after l s) ≤ length l + length s
unfolding lines_after
lines_after-few [] [] = omega arith
lines_after-few (a ∷ l) [] = omega arith
lines_after-few l (b ∷ s) = go (eqb b lf) (lines_after-few [] s) (lines_after-few (l ++ b ∷ []) s)
  where
    go : (c : Bool) → length (lines_after [] s) ≤ 0 + length s
        → length (lines_after (l ++ b ∷ []) s) ≤ length (l ++ b ∷ []) + length s
        → length (cond c (with_lf l ∷ lines_after [] s) (lines_after (l ++ b ∷ []) s)) ≤ length l + suc (length s)
    go true h k = omega arith
    go false h k = let e = length-append l (b ∷ []) in omega arith

-- each line has a byte of the text
pub lines_few : (s : List ℕ) → length (lines s) ≤ length s
unfolding lines
lines_few s = let h = lines_after-few [] s in omega arith
