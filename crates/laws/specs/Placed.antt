-- Placing keeps bases distinct and slots disjoint; so a slot's word belongs to the node that the walk stands at. Assumes nothing.
use Rattle.std.specs.Prelude.{◌≡◌, refl, ◌⊎◌, true, ◌&&◌, ◌||◌, eqb}
use Rattle.std.proofs.Common.{sym, ◌∙◌, inl, inr}
use Rattle.std.proofs.Math.Path.{ap, ap₂}
use Rattle.std.proofs.Math.Bool.{Bool, false, not, and-false}
use mathlib.Core.List.Memᴰ.{head as here}
use mathlib.Core.List.Memᴰ.{tail as there}
use mathlib.Core.List.{List, [], ◌∷◌, map, Memᴰ as Mem}
use mathlib.Core.List.Memᴰ.{cases_cons}
use mathlib.Core.List.Memᴰ.{cast as mem-cast}
use mathlib.Core.List.Memᴰ.{not-nil}
use mathlib.Core.List.Memᴰ.{of_map as mem-of-map}
use mathlib.Core.List.Memᴰ.{map as mem-map}
use Prim.Native.Nat.{ℕ, ◌+◌, ◌/◌, ◌-◌, ◌≤◌, ◌<◌}
use native.Mathlib.Omega.{arith}
use Rattle.std.specs.Int.Bits.{bit_xor, xor_comm}
use Rattle.std.proofs.Math.Dec.{lit<}
use borrow.Author.Tests.{eqb-true, eq-eqb, not-true}
use Rattle.spec.specs.Lists.{any, fold, byte_in}
use Rattle.spec.specs.Layout.{Put, first_from, used, top, words, first, taken, free, choose, put, place}
use Rattle.laws.specs.Tests.{clash, or_r, and_l, and_r, no_true, any-find, any-mem, any_none, none_any, in_mem, mem_in}
use Rattle.laws.specs.Nodes.{ByteLabels}
use Rattle.laws.specs.Xor.{xor_cancel, xor_block_of}
use Rattle.laws.specs.First.{first_passes, least, from_le}

pub top-le : {x : Put} {xs : List Put} → Mem x xs → x.base / 256 ≤ top xs
unfolding top
top-le (here {x = y} {xs = xs} e) = let p = ap (λ (z : Put). z.base / 256) e in omega arith
top-le (there {x = y} {xs = xs} m) = let p = top-le m in omega arith

-- ---- the invariant

abbrev pub Good : (List ℕ → List ℕ) → List Put → Type 0
Good L [] = Unit {0}
Good L (x ∷ xs) =
    (1 ≤ x.base / 256) × (used xs x.base ≡ false) ×
    ((l : ℕ) → Mem l (L x.node) → taken L xs (bit_xor x.base l) ≡ false) × Good L xs

pub used-mem : {x : Put} {xs : List Put} (b : ℕ) → Mem x xs → b ≡ x.base → used xs b ≡ true
unfolding used
used-mem {x} b m e = any-mem (λ (z : Put). eqb b z.base) m (eq-eqb b x.base e)

module _ (L : List ℕ → List ℕ) where
  pub taken-mem : {x : Put} {xs : List Put} (l s : ℕ) → Mem x xs → Mem l (L x.node) → bit_xor x.base l ≡ s → taken L xs s ≡ true
  unfolding taken
  taken-mem {x} l s m k e =
      any-mem (λ (z : Put). byte_in (map (bit_xor z.base) (L z.node)) s) m
      (mem_in (mem-cast (sym e) (mem-map (bit_xor x.base) k)))

  pub alone : (xs : List Put) → Good L xs → {x y : Put} → Mem x xs → Mem y xs → x.base ≡ y.base → x ≡ y
  alone [] g m n e = absurd (not-nil m)
  alone (z ∷ xs) g {x} {y} m n e = go (cases_cons m) (cases_cons n) (λ p q. alone xs g.3 p q e)
    where
      go : (x ≡ z) ⊎ Mem x xs → (y ≡ z) ⊎ Mem y xs → (Mem x xs → Mem y xs → x ≡ y) → x ≡ y
      go (inl p) (inl q) r = p ∙ sym q
      go (inl p) (inr q) r = absurd (clash (used-mem z.base q (ap (λ (w : Put). w.base) (sym p) ∙ e)) g.1)
      go (inr p) (inl q) r = absurd (clash (used-mem z.base p (ap (λ (w : Put). w.base) (sym q) ∙ sym e)) g.1)
      go (inr p) (inr q) r = r p q

  pub free-good : (xs : List Put) (p : List ℕ) (b : ℕ) → 1 ≤ b / 256 → free L xs (L p) b ≡ true → Good L xs
      → Good L (record { node = p; base = b } ∷ xs)
  unfolding free
  free-good xs p b h e g = (
    h,
    not-true (used xs b) (and_l (not (used xs b)) _ e),
    (λ l m. any_none (λ (k : ℕ). taken L xs (bit_xor b k))
        (not-true (any (λ (k : ℕ). taken L xs (bit_xor b k)) (L p)) (and_r (not (used xs b)) _ e)) m),
    g,
  )

  module _ (small : ByteLabels L) where
    pub first_small : (p : List ℕ) → first (L p) < 256
    first_small p = go (L p) (small p)
      where
        go : (ls : List ℕ) → ((l : ℕ) → Mem l ls → l < 256) → first ls < 256
        go [] h = unfold first in lit< tt
        go (l ∷ ls) h = unfold first in h l (here refl)

    -- a base in a block above every block used free
    pub above : (xs : List Put) (ls : List ℕ) (b : ℕ) → ((l : ℕ) → Mem l ls → l < 256) → top xs < b / 256 → free L xs ls b ≡ true
    unfolding free used taken
    above xs ls b sm h = ap₂ (λ (u v : Bool). not u && not v) not-used (none_any _ ls unclaimed)
      where
        not-used : used xs b ≡ false
        not-used = none_any _ xs (λ x m e. let q = ap (λ (z : ℕ). z / 256) (eqb-true b x.base e) in let t = top-le m in omega arith)

        unclaimed : (l : ℕ) → Mem l ls → taken L xs (bit_xor b l) ≡ true → ⊥
        unclaimed l m e =
            let r = any-find (λ (z : Put). byte_in (map (bit_xor z.base) (L z.node)) (bit_xor b l)) xs e in
            let k = mem-of-map (bit_xor r.0.base) (L r.0.node) (in_mem _ _ r.2) in
            let q = ap (λ (z : ℕ). z / 256) k.2 in
            let t = top-le r.1 in
            let u = xor_block_of b l (sm l m) in
            let v = xor_block_of r.0.base k.0 (small r.0.node k.0 k.1) in
            omega arith

    pub choose-free : (xs : List Put) (p : List ℕ) → free L xs (L p) (choose L xs (L p)) ≡ true
    unfolding choose words
    choose-free xs p = first_passes F (words xs - 256) 256 (above xs (L p) _ (small p) last)
      where
        F : ℕ → Bool
        F s = free L xs (L p) (bit_xor s (first (L p)))

        last : top xs < bit_xor (256 + (words xs - 256)) (first (L p)) / 256
        last = let q = xor_block_of (256 + (words xs - 256)) (first (L p)) (first_small p) in omega arith

    pub choose-block : (xs : List Put) (p : List ℕ) → 1 ≤ choose L xs (L p) / 256
    unfolding choose
    choose-block xs p =
        let F : ℕ → Bool = λ s. free L xs (L p) (bit_xor s (first (L p))) in
        let s : ℕ = first_from F (words xs - 256) 256 in
        let q = xor_block_of s (first (L p)) (first_small p) in
        let h = from_le F (words xs - 256) 256 in
        omega arith

    -- no smaller slot from 256 on would do
    pub choose-least : (xs : List Put) (p : List ℕ) (t : ℕ) → 256 ≤ t
        → t < first_from (λ s. free L xs (L p) (bit_xor s (first (L p)))) (words xs - 256) 256
        → free L xs (L p) (bit_xor t (first (L p))) ≡ false
    choose-least xs p t h k = least (λ s. free L xs (L p) (bit_xor s (first (L p)))) (words xs - 256) 256 t h k

    pub put-good : (xs : List Put) (p : List ℕ) → Good L xs → Good L (put L xs p)
    unfolding put
    put-good xs p g = free-good xs p (choose L xs (L p)) (choose-block xs p) (choose-free xs p) g

    pub fold-good : (ps : List (List ℕ)) (xs : List Put) → Good L xs → Good L (fold (put L) xs ps)
    unfolding fold
    fold-good [] xs g = g
    fold-good (p ∷ ps) xs g = fold-good ps (put L xs p) (put-good xs p g)

    pub place-good : (ps : List (List ℕ)) → Good L (place L ps)
    unfolding place
    place-good ps = fold-good ps [] tt

module _ (L : List ℕ → List ℕ) where
  -- what was refused stays refused
  pub grows : (xs : List Put) (x : Put) (ls : List ℕ) (b : ℕ) → free L xs ls b ≡ false → free L (x ∷ xs) ls b ≡ false
  unfolding free used taken any
  grows xs x ls b e = no_true _ (λ t. clash (both U M (λ u. clash (or_r (eqb b x.base) U u) (not-true U' (and_l (not U') (not M') t)))
      (λ u. let r = any-find (λ (l : ℕ). taken L xs (bit_xor b l)) ls u in
      clash (any-mem (λ (l : ℕ). taken L (x ∷ xs) (bit_xor b l)) r.1
      (or_r (byte_in (map (bit_xor x.base) (L x.node)) (bit_xor b r.0)) (taken L xs (bit_xor b r.0)) r.2))
      (not-true M' (and_r (not U') (not M') t)))) e)
    where
      U : Bool
      U = used xs b

      U' : Bool
      U' = used (x ∷ xs) b

      M : Bool
      M = any (λ (l : ℕ). taken L xs (bit_xor b l)) ls

      M' : Bool
      M' = any (λ (l : ℕ). taken L (x ∷ xs) (bit_xor b l)) ls

      both : (u w : Bool) → (u ≡ true → ⊥) → (w ≡ true → ⊥) → (not u && not w) ≡ true
      both true w p q = absurd (p refl)
      both false true p q = absurd (q refl)
      both false false p q = refl

  -- a taken slot is refused: the first label falls on it
  pub taken_refused : (xs : List Put) (l : ℕ) (ls : List ℕ) (s : ℕ) → taken L xs s ≡ true → free L xs (l ∷ ls) (bit_xor s l) ≡ false
  unfolding free any
  taken_refused xs l ls s t =
      ap (λ (c : Bool). not (used xs (bit_xor s l)) && not (c || any (λ (k : ℕ). taken L xs (bit_xor (bit_xor s l) k)) ls))
      (ap (taken L xs) back ∙ t)
      ∙ and-false (not (used xs (bit_xor s l)))
    where
      back : bit_xor (bit_xor s l) l ≡ s
      back = xor_comm (bit_xor s l) l ∙ ap (bit_xor l) (xor_comm s l) ∙ xor_cancel l s
