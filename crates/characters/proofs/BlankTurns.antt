-- Whether a line is blank, a law for each way a turn of `is_blank` can go. Assumes nothing.
use mathlib.Core.Path.{◌≡◌, ap, ◌∙◌, sym}
use mathlib.Core.Bool.{Bool, true, ◌&&◌}
use mathlib.Core.List.{List, [], ◌∷◌}
use Prim.Native.Nat.{ℕ}
use native.Mathlib.Omega.{arith}
use lib.ListN.{length, take, drop}
use Rattle.spec.specs.Utf8.{char, is_char, step_of, point_of, white_space, blank}
use Rattle.laws.specs.Utf8Laws.{step_nil, blank-nil, blank-char, blank-other, char_within}
use Rattle.std.proofs.Common.{true≢false}
use Rattle.utf8.proofs.StepTurns.{no_char}

pub blank-end : (s : List ℕ) → length s ≡ 0 → true ≡ blank s
blank-end [] h = rw blank-nil
blank-end (b ∷ s) h = absurd (omega arith)

-- at a character, with its bytes and those behind it, where w says whether it is White_Space
pub blank-at-char : (s : List ℕ) (n : ℕ) → step_of s ≡ char n → (first behind : List ℕ) → first ≡ take n s → behind ≡ drop n s
    → (p : ℕ) → p ≡ point_of first → (w : Bool) → w ≡ white_space p → blank s ≡ w && blank behind
blank-at-char [] n e first behind f d p g w u = absurd (true≢false (ap is_char (sym e ∙ step_nil)))
blank-at-char (b ∷ s) n e first behind f d p g w u = rw (u, g, f, d) (blank-char (b ∷ s) (omega arith) n e)

-- what one turn of `is_blank` needs
pub ruleset blank_turns = (no_char, char_within, blank-end, blank-other)
