-- Where a search begins, and the first word that is not full. Assumes nothing.
use mathlib.Core.Path.{◌≡◌, refl, sym, ap, ◌∙◌}
use mathlib.Core.Logic.{◌⊎◌, inl, inr}
use mathlib.Core.Bool.{Bool, true, false, not, cond}
use mathlib.Core.List.{List, [], ◌∷◌}
use Prim.Native.Nat.{ℕ, suc, ◌+◌, ◌≤◌, ◌<◌}
use native.Mathlib.Omega.{arith}
use lib.Dec.{eqb, leb, ltb}
use lib.ListN.{length, get_or, drop, length-drop}
use lib.Seq.{get_or-drop}
use borrow.Author.Tests.{eqb-true, leb-true, ltb-true}
use Rattle.std.specs.Prelude.{Option}
use Rattle.std.specs.Option.{unwrap_or}
use Rattle.std.specs.List.{position, position_or_len}
use Rattle.spec.specs.Layout.{first_from}
use Rattle.laws.specs.First.{from_most}
use Rattle.slots.specs.Marks.{open_on, start_on}

-- ---- where a search begins

pub start-cases : (C ls : List ℕ) (from end : ℕ)
    → (start_on C ls from end ≡ from)
    ⊎ ((length ls ≡ 1) × (start_on C ls from end ≡ get_or C (get_or ls 0 0) 0) × (from < get_or C (get_or ls 0 0) 0)
    × (get_or C (get_or ls 0 0) 0 ≤ end))
unfolding start_on
start-cases C ls from end = go (eqb (length ls) 1) refl (ltb from k) refl (leb k end) refl
  where
    k : ℕ
    k = get_or C (get_or ls 0 0) 0

    go : (a : Bool) → eqb (length ls) 1 ≡ a → (b : Bool) → ltb from k ≡ b → (d : Bool) → leb k end ≡ d
        → (cond a (cond b (cond d k from) from) from ≡ from)
        ⊎ ((length ls ≡ 1) × (cond a (cond b (cond d k from) from) from ≡ k) × (from < k) × (k ≤ end))
    go false ea b eb d ed = inl refl
    go true ea false eb d ed = inl refl
    go true ea true eb false ed = inl refl
    go true ea true eb true ed = inr (eqb-true (length ls) 1 ea, refl, ltb-true from k eb, leb-true k end ed)

pub start-in : (C ls : List ℕ) (from end : ℕ) → from ≤ end → (from ≤ start_on C ls from end) × (start_on C ls from end ≤ end)
unfolding start_on
start-in C ls from end h = (grind arith, grind arith)

-- ---- the first word that is not full

-- a word that is not full
abbrev pub some_free : ℕ → Bool
some_free w = not (eqb w 0xffffffffffffffff)

open_over : (f : ℕ → Bool) (xs : List ℕ) (s : ℕ) → ((k : ℕ) → k < length xs → f (s + k) ≡ some_free (get_or xs k 0))
    → first_from f (length xs) s ≡ s + position_or_len some_free xs
unfolding first_from
open_over f [] s h = omega arith
open_over f (x ∷ xs) s h =
    let z : s + 0 ≡ s = omega arith in
    let here : f s ≡ some_free x = ap f (sym z) ∙ h 0 (omega arith) in
    let next = open_over f xs (suc s) (λ k a. let q : suc s + k ≡ s + suc k = omega arith in ap f q ∙ h (suc k) (omega arith)) in
    grind arith

position_or_end : (xs : List ℕ) → position_or_len some_free xs ≤ length xs
    → unwrap_or (position some_free xs) (length xs) ≡ position_or_len some_free xs
position_or_end xs h = grind arith

-- xs are the words from `from` on
pub open_where : (U : List ℕ) (from : ℕ) (xs : List ℕ) (r : Option ℕ) → xs ≡ drop from U → r ≡ position some_free xs
    → from + unwrap_or r (length xs) ≡ open_on U from (length U)
unfolding open_on
open_where U from xs r ex e =
    let is = open_over f xs from (λ k a. ap some_free (sym (ap (λ (l : List ℕ). get_or l k 0) ex ∙ get_or-drop from U k 0))) in
    let most = from_most f (length xs) from in
    ap (λ (z : Option ℕ). from + unwrap_or z (length xs)) e ∙ ap (λ (z : ℕ). from + z) (position_or_end xs (omega arith))
    ∙ sym is ∙ ap (λ (n : ℕ). first_from f n from) (ap length ex ∙ length-drop from U)
  where
    f : ℕ → Bool
    f i = some_free (get_or U i 0)
