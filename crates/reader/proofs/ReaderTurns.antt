-- The turns of the lossy reader, as the code's tests tell them apart. Assumes nothing.
use mathlib.Core.Path.{◌≡◌, sym}
use mathlib.Core.Bool.{true}
use mathlib.Core.List.{List, [], ◌∷◌, ◌++◌}
use Prim.Native.Nat.{ℕ, zero, suc, ◌≤◌, ◌<◌}
use native.Mathlib.Omega.{arith}
use lib.ListN.{length, replicate}
use Rattle.spec.specs.Utf8.{◌to◌, within, tail}
use Rattle.reader.specs.Reader.{wants, push_of}
use Rattle.reader.proofs.ReaderLaws.{wants-two}
use Rattle.utf8.specs.Means.{ranges}

-- two bytes or more must follow the held bytes, and b is one that may: it is held too
pub push_more : (h : List ℕ) (b n low high : ℕ) → 1 < n → ranges n low high ≡ wants h → within (low to high) b ≡ true
    → record { out = []; held = h ++ b ∷ [] } ≡ push_of h b
unfolding push_of
push_more h b zero low high z e o = absurd (omega arith)
push_more h b (suc zero) low high z e o = absurd (omega arith)
push_more h b (suc (suc n)) low high z e o = rw (← e, o)

-- so at most two are held
pub few_held : (h : List ℕ) (n low high : ℕ) → ranges n low high ≡ wants h → 1 < n → length h ≤ 2
few_held h zero low high e z = absurd (omega arith)
few_held h (suc zero) low high e z = absurd (omega arith)
few_held h (suc (suc n)) low high e z = wants-two h (low to high) tail (replicate n tail) (sym e)

-- what `push` needs where more must follow
pub ruleset push_turns = (few_held, push_more)
