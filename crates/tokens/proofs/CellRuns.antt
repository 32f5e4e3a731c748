-- Lists that are filled cell by cell: runs of stores, zeros behind content, a list that is a function of the index. Nothing here is about
-- tokens. Assumes nothing.
use mathlib.Core.Path.{◌≡◌, refl, sym, ap, ap₂, ◌∙◌}
use mathlib.Core.List.{List, [], ◌∷◌, ◌++◌}
use Prim.Native.Nat.{ℕ, zero, suc, ◌+◌, ◌-◌, ◌≤◌, ◌<◌}
use native.Mathlib.Omega.{arith}
use lib.ListN.{length, take, drop, get_or, set, replicate, length-append, length-set, take-append-drop}
use lib.Seq.{sets, sets-eq, get_or-set_same, get_or-set_other, drop-set-lt, take_at, drop_at, drop-drop, length-take-le}
use lib.Seq.{get_or-take, ext_get_or}
use Rattle.std.proofs.lemmas.List.{drop-replicate}
use Rattle.spec.specs.Lists.{up_from, over}
use Rattle.spec.specs.Memory.{padded}
use Rattle.laws.specs.Listed.{up_length, up_at}

-- ---- runs of stores

module _ {A : Type 0} where
  -- cells before a run stay
  pub run-before : (vs l : List A) (from i : ℕ) (d : A) → i < from → get_or (sets l from vs) i d ≡ get_or l i d
  run-before [] l from i d h = refl
  run-before (v ∷ vs) l from i d h = run-before vs (set l from v) (suc from) i d (omega arith)
      ∙ get_or-set_other l from i v d (λ e. omega arith)

  -- those in it are the run's
  pub run_in : (vs l : List A) (from k : ℕ) (d : A) → from + length vs ≤ length l → k < length vs → get_or (sets l from vs) (from + k) d
      ≡ get_or vs k d
  run_in [] l from k d h q = absurd (omega arith)
  run_in (v ∷ vs) l from zero d h q =
      let p : from + 0 ≡ from = omega arith in
      ap (λ (x : ℕ). get_or (sets (set l from v) (suc from) vs) x d) p ∙ run-before vs (set l from v) (suc from) from d (omega arith)
      ∙ get_or-set_same l from v d (omega arith)
  run_in (v ∷ vs) l from (suc k) d h q =
      let p : from + suc k ≡ suc from + k = omega arith in
      let n = length-set l from v in
      ap (λ (x : ℕ). get_or (sets (set l from v) (suc from) vs) x d) p
      ∙ run_in vs (set l from v) (suc from) k d (omega arith) (omega arith)

  -- those behind it stay
  pub run-behind : (vs l : List A) (from n : ℕ) → from + length vs ≤ n → drop n (sets l from vs) ≡ drop n l
  run-behind [] l from n h = refl
  run-behind (v ∷ vs) l from n h = run-behind vs (set l from v) (suc from) n (omega arith) ∙ drop-set-lt n l from v (omega arith)

-- ---- content with zeros behind it

drop-zeros : (l : List ℕ) (k n m : ℕ) → drop k l ≡ replicate n 0 → drop (k + m) l ≡ replicate (n - m) 0
drop-zeros l k n m e = sym (drop-drop m k l) ∙ ap (drop m) e ∙ drop-replicate m n 0

module _ (l content vs : List ℕ) (e : l ≡ padded content (length l)) (h : length content + length vs ≤ length l) where
  front_of : take (length content) l ≡ content
  front_of = ap (take (length content)) e ∙ take_at content (replicate (length l - length content) 0) (length content) refl

  back-of : drop (length content) l ≡ replicate (length l - length content) 0
  back-of = ap (drop (length content)) e ∙ drop_at content (replicate (length l - length content) 0) (length content) refl

  rest_of : drop (length content + length vs) l ≡ replicate (length l - length (content ++ vs)) 0
  rest_of =
      let n = length-append content vs in
      let left : length l - length content - length vs ≡ length l - length (content ++ vs) = omega arith in
      drop-zeros l (length content) (length l - length content) (length vs) back-of ∙ ap (λ (x : ℕ). replicate x 0) left

  -- a run of stores just behind the content is more content
  pub pad-more : sets l (length content) vs ≡ padded (content ++ vs) (length l)
  pad-more = sets-eq vs l (length content) h ∙ ap₂ (λ (x y : List ℕ). x ++ vs ++ y) front_of rest_of

-- ---- a list by its index

-- the first n cells are f's
pub by_index : {A : Type 0} (l : List A) (f : ℕ → A) (n : ℕ) (d : A) → n ≤ length l → ((i : ℕ) → i < n → get_or l i d ≡ f i) → take n l
    ≡ up_from f n 0
by_index l f n d h k =
    let a = length-take-le n l h in
    let b = up_length f n 0 in
    ext_get_or d (take n l) (up_from f n 0) (a ∙ sym b)
    (λ i q.
    let z : 0 + i ≡ i = omega arith in
    let r : i < n = omega arith in
    get_or-take n l i d r ∙ k i r ∙ sym (up_at f n 0 i d r ∙ ap f z))

-- the first n cells are new, and those behind them are l₀'s
pub over_of : {A : Type 0} (n : ℕ) (l new l₀ : List A) → take n l ≡ new → length new ≡ n → drop n l ≡ drop n l₀ → l ≡ over new l₀
over_of {A} n l new l₀ a b c = sym (take-append-drop n l) ∙ ap₂ (λ (x y : List A). x ++ y) a (c ∙ ap (λ (k : ℕ). drop k l₀) (sym b))
