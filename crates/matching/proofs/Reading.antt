-- How far the walk of `spec` reads, one byte at a time, from a root and from a place. Assumes nothing.
use Rattle.std.proofs.Common.{◌≡◌, ℕ, ◌+◌, ◌≤◌, ◌<◌, suc, Bool, true, false, cond, not, ◌&&◌, eqb, List, [], ◌∷◌}
use Rattle.std.proofs.Common.{length, take, drop, get_or, Some, None, refl, sym, ap, ap₂, ◌∙◌, arith, add-one, drop-cons}
use borrow.Author.Tests.{ne_eqb}
use Rattle.spec.specs.Memory.{Memory}
use Rattle.spec.specs.Match.{goes, id_in, base_in, Walk, onto}
use Rattle.spec.specs.LookedOn.{read_on, read_from, looked_on}
use Rattle.laws.specs.SumLaws.{read_on-stops, read_on-leaf, read_on-goes}
use Rattle.matching.specs.Answers.{child}
use Rattle.matching.proofs.WalkBounds.{onto-used}
use Rattle.matching.proofs.Walking.{slot, leads-nowhere, leads, root_in, cut, cut-is}

-- a walk after a word stands at its base
onto_base : (k : Walk) (w n : ℕ) → (onto k w n).base ≡ base_in w
unfolding onto
onto_base k w n = go (eqb (id_in w) 0)
  where
    go : (c : Bool) → (cond {A = Walk} c (record { id = k.id; len = k.len; used = n; base = base_in w })
        (record { id = id_in w; len = n; used = n; base = base_in w })).base ≡ base_in w
    go true = refl
    go false = refl

-- ---- from a place, over the bytes that are left

module _ (table s : List ℕ) (i : ℕ) (here : i < length s) (base : ℕ) where
  abbrev b : ℕ
  b = get_or s i 0

  cons : read_on table (drop i s) base ≡ read_on table (b ∷ drop (suc i) s) base
  cons = ap (λ (l : List ℕ). read_on table l base) (drop-cons s i 0 here)

  -- the byte leads nowhere: it is read, and is the last
  pub read-stops : child table base b ≡ None → read_on table (drop i s) base ≡ 1
  read-stops e = cons ∙ read_on-stops table b (drop (suc i) s) base (leads-nowhere table base b e)

  module _ (w : ℕ) (e : child table base b ≡ Some w) where
    there : (goes (slot table base b) b ≡ true) × (base_in (slot table base b) ≡ base_in w)
    there = let l = leads table base b w e in (l.0, ap base_in l.1)

    -- the word has base 0: no byte after it is read
    pub read-ends : base_in w ≡ 0 → read_on table (drop i s) base ≡ 1
    read-ends z = cons ∙ read_on-leaf table b (drop (suc i) s) base (there.1 ∙ z)

    -- and if not, it goes on
    read-goes_on : (base_in w ≡ 0 → ⊥) → read_on table (drop i s) base ≡ suc (read_on table (drop (i + 1) s) (base_in w))
    read-goes_on z =
        cons
        ∙ read_on-goes table b (drop (suc i) s) base there.0 (λ x. z (sym there.1 ∙ x))
        ∙ ap₂ (λ (n x : ℕ). suc (read_on table (drop n s) x)) (sym (add-one i)) there.1

-- The walk k has read so far what the walk next, after a word more, has read: what both will have read in the end.
module _ (table s : List ℕ) (i : ℕ) (here : i < length s) (k : Walk) (w : ℕ) (e : child table k.base (get_or s i 0) ≡ Some w) where
  pub reads-on : (base_in w ≡ 0 → ⊥) → (next : Walk) → next ≡ onto k w (k.used + 1) → (all : ℕ)
      → k.used + read_on table (drop i s) k.base ≡ all → next.used + read_on table (drop (i + 1) s) next.base ≡ all
  reads-on z next after all h =
      let n = ap (λ (x : Walk). x.used) after ∙ onto-used k w (k.used + 1) in
      let b = ap (λ (x : Walk). x.base) after ∙ onto_base k w (k.used + 1) in
      let on = read-goes_on table s i here k.base w e z in
      ap (λ (x : ℕ). next.used + read_on table (drop (i + 1) s) x) b ∙ omega (arith, n, on, h)

-- ---- the root

-- a root that is not 0, and of no leaf, is read on from
pub from-on : (table : List ℕ) (w : ℕ) (s : List ℕ) → (w ≡ 0 → ⊥) → (not (eqb (id_in w) 0) && eqb (base_in w) 0) ≡ false
    → read_from table w s ≡ read_on table s (base_in w)
unfolding read_from
from-on table w s nz h = rw (ne_eqb w 0 nz, h, read_from)

-- ---- the bytes left

pub looked-short : (m : Memory) (s : List ℕ) → length s < 2 → length s ≡ looked_on m s
unfolding looked_on
looked-short m [] h = refl
looked-short m (a ∷ []) h = refl
looked-short m (a ∷ b ∷ s) h = absurd (omega arith)

long-read : (m : Memory) (s : List ℕ) → 2 ≤ length s → 2 + read_from m.table (root_in m s) (take 253 (drop 2 s)) ≡ looked_on m s
unfolding looked_on
long-read m [] h = absurd (omega arith)
long-read m (a ∷ []) h = absurd (omega arith)
long-read m (a ∷ b ∷ s) h = refl

pub looked-long : (m : Memory) (s : List ℕ) → 2 ≤ length s → 2 + read_from m.table (root_in m s) (cut s) ≡ looked_on m s
looked-long m s h = ap (λ (l : List ℕ). 2 + read_from m.table (root_in m s) l) (cut-is s) ∙ long-read m s h
