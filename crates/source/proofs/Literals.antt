-- A good literal, and its bytes in the cells. Assumes nothing.
use mathlib.Core.Path.{◌≡◌, refl, sym, ap, ◌∙◌}
use mathlib.Core.Bool.{Bool, true, false, cond}
use Rattle.std.specs.Prelude.{None, Some}
use Rattle.std.specs.Option.{option_map}
use mathlib.Core.List.{List, ◌++◌}
use Prim.Native.Nat.{ℕ, ◌≤◌}
use native.Mathlib.Omega.{arith}
use lib.ListN.{length, take, drop}
use lib.Seq.{take_all, take_at}
use Rattle.spec.specs.Literal.{read, literal}
use Rattle.literal.specs.Answers.{stored}

module _ (edition : ℕ) (part : List ℕ) where
  -- the bytes of a good literal of n bytes are those that were read
  pub record Good (n : ℕ) : Type 0 where
    pub is : literal edition part ≡ Some (read edition part).bytes
    pub count : length (read edition part).bytes ≡ n

  pub good : (n : ℕ) → Some n ≡ option_map length (literal edition part) → Good n
  unfolding literal
  good n e = go (read edition part).good refl e
    where
      go : (b : Bool) → (read edition part).good ≡ b → Some n ≡ option_map length (cond b (Some (read edition part).bytes) None) → Good n
      go true p q = record {
        is = ap (λ (c : Bool). cond c (Some (read edition part).bytes) None) p;
        count = (let z : n ≡ length (read edition part).bytes = cc in sym z);
      }
      go false p q = let z : ◌≡◌ {A = ℕ} 0 1 = cc in absurd (omega arith)

-- bytes that were stored in cells enough for them
pub stored-front : (bs cells : List ℕ) (n : ℕ) → length bs ≡ n → n ≤ length cells → take n (stored bs cells) ≡ bs
stored-front bs cells n k h =
    ap (λ (x : List ℕ). take n (x ++ drop (length x) cells)) (take_all (length cells) bs (omega arith))
    ∙ take_at bs (drop (length bs) cells) n k
