-- The bytes of an input that are left, as a loop over it has them: those from the place that it has come to. Assumes nothing.
use Rattle.std.proofs.Common.{◌≡◌, ℕ, ◌+◌, ◌-◌, ◌≤◌, List, length, drop, get_or, sym, ap, ◌∙◌, arith, length-drop, drop-drop, drop-cons}

-- the place from which they are left
abbrev pub place_of : List ℕ → List ℕ → ℕ
place_of s rest = length s - length rest

abbrev pub LeftOf : List ℕ → List ℕ → Type 0
LeftOf s rest = rest ≡ drop (place_of s rest) s

pub left_all : (s : List ℕ) → LeftOf s s
left_all s = let none : length s - length s ≡ 0 = omega arith in ap (λ (i : ℕ). drop i s) (sym none)

module _ (s rest : List ℕ) (left : LeftOf s rest) where
  pub left_few : length rest ≤ length s
  left_few = omega (arith, ap length left, length-drop (place_of s rest) s)

  pub left-byte : 1 ≤ length rest → get_or rest 0 0 ≡ get_or s (place_of s rest) 0
  left-byte h =
      ap (λ (l : List ℕ). get_or l 0 0) (left ∙ drop-cons s (place_of s rest) 0 (omega (arith, left_few)))

  -- after n of them
  module _ (n : ℕ) (h : n ≤ length rest) where
    pub left-place : place_of s (drop n rest) ≡ place_of s rest + n
    left-place = omega (arith, left_few, length-drop n rest)

    pub left_on : LeftOf s (drop n rest)
    left_on =
        ap (drop n) left
        ∙ drop-drop n (place_of s rest) s
        ∙ ap (λ (i : ℕ). drop i s) (sym left-place)
