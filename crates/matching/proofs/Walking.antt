-- The walk of `spec`, one byte at a time: where it ends and where it goes on, from a root and from a place; and the match that it gives.
-- Assumes nothing.
use Rattle.std.proofs.Common.{◌≡◌, ℕ, ◌+◌, ◌-◌, ◌*◌, min, ◌≤◌, ◌<◌, suc, pos, Bool, true, false, cond, not, ◌&&◌, eqb}
use Rattle.std.proofs.Common.{List, [], ◌∷◌, length}
use Rattle.std.proofs.Common.{take, drop, get_or, Option, Some, None, refl, sym, ap, ap₂, ◌∙◌, arith, add-one, drop-cons}
use Rattle.std.specs.Int.Bits.{bit_xor}
use borrow.Author.Tests.{eq-eqb, ne_eqb}
use Rattle.std.proofs.lemmas.Bool.{eqb-true}
use Rattle.std.proofs.lemmas.List.{take_rest, take_min}
use Rattle.spec.specs.Memory.{Memory}
use Rattle.spec.specs.Match.{goes, id_in, base_in, Walk, no_walk, onto, follow, enter, walk_on, one, match_on}
use Rattle.matching.specs.declared.Match.{Match}
use Rattle.matching.specs.Answers.{child, longest, match_of}

-- ---- one byte

-- the word where byte b stands from a base
abbrev pub slot : List ℕ → ℕ → ℕ → ℕ
slot table base b = get_or table (bit_xor base b) 0

module _ (table : List ℕ) (base b : ℕ) where
  pub leads-nowhere : child table base b ≡ None → goes (slot table base b) b ≡ false
  unfolding child
  leads-nowhere e = go (goes (slot table base b) b) refl
    where
      go : (c : Bool) → goes (slot table base b) b ≡ c → goes (slot table base b) b ≡ false
      go true g = let z : Some (slot table base b) ≡ None = rw g at e in cc
      go false g = g

  pub leads : (w : ℕ) → child table base b ≡ Some w → (goes (slot table base b) b ≡ true) × (slot table base b ≡ w)
  unfolding child
  leads w e = go (goes (slot table base b) b) refl
    where
      go : (c : Bool) → goes (slot table base b) b ≡ c → (goes (slot table base b) b ≡ true) × (slot table base b ≡ w)
      go true g = let z : Some (slot table base b) ≡ Some w = rw g at e in (g, cc)
      go false g = let z : None ≡ Some w = rw g at e in cc

module _ (table : List ℕ) (b : ℕ) (s : List ℕ) (k : Walk) where
  -- the byte leads nowhere: the walk ends before it
  pub stops : child table k.base b ≡ None → k ≡ follow table (b ∷ s) k
  unfolding follow
  stops e = rw (leads-nowhere table k.base b e, follow)

  module _ (w : ℕ) (e : child table k.base b ≡ Some w) where
    there : (goes (slot table k.base b) b ≡ true) × (slot table k.base b ≡ w)
    there = leads table k.base b w e

    -- the word has base 0: the walk ends after the byte
    pub ends : base_in w ≡ 0 → onto k w (k.used + 1) ≡ follow table (b ∷ s) k
    unfolding follow
    ends z =
        rw (there.0, ap (λ (x : ℕ). eqb (base_in x) 0) there.1 ∙ eq-eqb (base_in w) 0 z, follow)
        (ap₂ (λ (x n : ℕ). onto k x n) (sym there.1) (add-one k.used))

    -- and if not, it goes on
    pub goes_on : (base_in w ≡ 0 → ⊥) → follow table s (onto k w (k.used + 1)) ≡ follow table (b ∷ s) k
    unfolding follow
    goes_on z =
        rw (there.0, ap (λ (x : ℕ). eqb (base_in x) 0) there.1 ∙ ne_eqb (base_in w) 0 z, follow)
        (ap₂ (λ (x n : ℕ). follow table s (onto k x n)) (sym there.1) (add-one k.used))

-- ---- the root

module _ (table : List ℕ) (w : ℕ) (s : List ℕ) where
  pub enter-none : w ≡ 0 → no_walk ≡ enter table w s
  unfolding enter
  enter-none z = rw (eq-eqb w 0 z, enter)

  module _ (nz : w ≡ 0 → ⊥) where
    -- an id with base 0 ends the walk at once
    pub enter-ends : (id_in w ≡ 0 → ⊥) → base_in w ≡ 0 → onto no_walk w 2 ≡ enter table w s
    unfolding enter
    enter-ends i z = rw (ne_eqb w 0 nz, ap₂ (λ (a b : Bool). not a && b) (ne_eqb (id_in w) 0 i) (eq-eqb (base_in w) 0 z), enter)

    pub enter-on : (not (eqb (id_in w) 0) && eqb (base_in w) 0) ≡ false → follow table s (onto no_walk w 2) ≡ enter table w s
    unfolding enter
    enter-on h = rw (ne_eqb w 0 nz, h, enter)

-- ---- from a place, over the bytes that are left

module _ (table s : List ℕ) (i : ℕ) (here : i < length s) (k : Walk) where
  abbrev b : ℕ
  b = get_or s i 0

  cons : follow table (b ∷ drop (suc i) s) k ≡ follow table (drop i s) k
  cons = ap (λ (l : List ℕ). follow table l k) (sym (drop-cons s i 0 here))

  pub stops_at : child table k.base b ≡ None → k ≡ follow table (drop i s) k
  stops_at e = stops table b (drop (suc i) s) k e ∙ cons

  module _ (w : ℕ) (e : child table k.base b ≡ Some w) (next : Walk) (after : next ≡ onto k w (k.used + 1)) where
    pub ends_at : base_in w ≡ 0 → next ≡ follow table (drop i s) k
    ends_at z = after ∙ ends table b (drop (suc i) s) k w e z ∙ cons

    pub goes_on_at : (base_in w ≡ 0 → ⊥) → follow table (drop (i + 1) s) next ≡ follow table (drop i s) k
    goes_on_at z =
        ap₂ (λ (n : ℕ) (x : Walk). follow table (drop n s) x) (add-one i) after
        ∙ goes_on table b (drop (suc i) s) k w e z
        ∙ cons

-- ---- a root's walk before any further byte, by its words

pub first_walk : (w : ℕ) → record { id = id_in w; len = cond (eqb (id_in w) 0) 0 2; used = 2; base = base_in w } ≡ onto no_walk w 2
unfolding onto
first_walk w = go (eqb (id_in w) 0) refl
  where
    go : (c : Bool) → eqb (id_in w) 0 ≡ c
        → record { id = id_in w; len = cond (eqb (id_in w) 0) 0 2; used = 2; base = base_in w } ≡ onto no_walk w 2
    go true e = rw (e, onto) (ap (λ (i : ℕ). record { id = i; len = 0; used = 2; base = base_in w }) (eqb-true (id_in w) 0 e))
    go false e = rw (e, onto)

-- ---- the walk over the bytes from a place on

pub walk-short : (m : Memory) (s : List ℕ) → length s < 2 → no_walk ≡ walk_on m s
unfolding walk_on
walk-short m [] h = refl
walk-short m (a ∷ []) h = refl
walk-short m (a ∷ b ∷ s) h = absurd (omega arith)

long-enter : (m : Memory) (s : List ℕ) → 2 ≤ length s
    → enter m.table (get_or m.roots (get_or s 0 0 * 256 + get_or s 1 0) 0) (take 253 (drop 2 s)) ≡ walk_on m s
unfolding walk_on
long-enter m [] h = absurd (omega arith)
long-enter m (a ∷ []) h = absurd (omega arith)
long-enter m (a ∷ b ∷ s) h = refl

-- the part of a list from i on, as the code takes it
abbrev pub from_place : List ℕ → ℕ → List ℕ
from_place s i = take (length s - i) (drop i s)

-- the bytes after the first two, cut where the walk must end
abbrev pub cut : List ℕ → List ℕ
cut s = take (min (length (from_place s 2)) 253) (from_place s 2)

pub cut-is : (s : List ℕ) → cut s ≡ take 253 (drop 2 s)
cut-is s =
    let turn : min (length (drop 2 s)) 253 ≡ min 253 (length (drop 2 s)) = omega arith in
    rw (take_rest s 2) (ap (λ (n : ℕ). take n (drop 2 s)) turn ∙ take_min 253 (drop 2 s))

-- the root of the first two bytes
abbrev pub root_in : Memory → List ℕ → ℕ
root_in m s = get_or m.roots (get_or s 0 0 * 256 + get_or s 1 0) 0

pub walk-long : (m : Memory) (s : List ℕ) → 2 ≤ length s → enter m.table (root_in m s) (cut s) ≡ walk_on m s
walk-long m s h = ap (enter m.table (root_in m s)) (cut-is s) ∙ long-enter m s h

-- ---- the match

module _ (m : Memory) where
  pub match-long : (s : List ℕ) → 1 ≤ length s → (t : Match) → Some t ≡ longest (walk_on m s) → match_of (Some t) ≡ match_on m s
  unfolding match_on
  match-long [] h t e = absurd (omega arith)
  match-long (b ∷ s) h t e = go (eqb (walk_on m (b ∷ s)).id 0) refl
    where
      walked : Walk
      walked = walk_on m (b ∷ s)

      go : (c : Bool) → eqb walked.id 0 ≡ c → match_of (Some t) ≡ match_on m (b ∷ s)
      go true z = let n : Some t ≡ None = rw z at e in cc
      go false z =
          let n : Some t ≡ Some (record { id = walked.id; len = walked.len }) = rw z at e in
          ap match_of n ∙ sym (rw (z, match_on))

  pub match-one : (s : List ℕ) → 1 ≤ length s → None ≡ longest (walk_on m s)
      → one (get_or m.single (get_or s 0 0) (pos 0)) ≡ match_on m s
  unfolding match_on
  match-one [] h e = absurd (omega arith)
  match-one (b ∷ s) h e = go (eqb (walk_on m (b ∷ s)).id 0) refl
    where
      walked : Walk
      walked = walk_on m (b ∷ s)

      go : (c : Bool) → eqb walked.id 0 ≡ c → one (get_or m.single b (pos 0)) ≡ match_on m (b ∷ s)
      go true z = sym (rw (z, match_on))
      go false z = let n : ◌≡◌ {A = Option Match} None (Some (record { id = walked.id; len = walked.len })) = rw z at e in cc
