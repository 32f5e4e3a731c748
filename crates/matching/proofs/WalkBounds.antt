-- What bounds a walk and a match: at most 255 bytes, no more than there are, and no empty token. Assumes nothing.
use mathlib.Core.Path.{◌≡◌, refl, sym, ap, ◌∙◌, subst}
use mathlib.Core.Bool.{Bool, true, false, not, ◌&&◌}
use mathlib.Core.List.{List, [], ◌∷◌}
use Prim.Native.Nat.{ℕ, suc, ◌+◌, ◌-◌, ◌*◌, ◌≤◌, ◌<◌, min}
use native.Mathlib.Omega.{arith}
use lib.IntN.{ℤ, pos, negsuc}
use lib.Dec.{eqb}
use lib.Bits.{bit_xor}
use lib.ListN.{length, take, drop, get_or, length-take, length-drop}
use borrow.Author.Tests.{eqb-false}
use Rattle.std.proofs.lemmas.List.{take_rest}
use Rattle.spec.specs.Memory.{Memory}
use Rattle.spec.specs.Match.{goes, id_in, base_in, Walk, no_walk, onto, follow, enter, walk_on, found, one, match_on}

-- a walk over at most n bytes: the last token passed lies within the bytes used, and is no empty one
pub record Within (n : ℕ) (k : Walk) : Type 0 where
  pub len : k.len ≤ k.used
  pub used : k.used ≤ n
  pub real : (k.id ≡ 0 → ⊥) → 1 ≤ k.len

within_more : {n m : ℕ} {k : Walk} → n ≤ m → Within n k → Within m k
within_more h r = record { len = r.len; used = omega (arith, r.used); real = r.real }

none_within : {n : ℕ} → Within n no_walk
none_within = record { len = omega arith; used = omega arith; real = λ e. absurd (e refl) }

module _ (k : Walk) (w n : ℕ) where
  pub onto-used : (onto k w n).used ≡ n
  unfolding onto
  onto-used = go (eqb (id_in w) 0) refl
    where
      go : (c : Bool) → eqb (id_in w) 0 ≡ c → (onto k w n).used ≡ n
      go true e = rw e
      go false e = rw e

  onto-within : Within n k → 1 ≤ n → Within n (onto k w n)
  unfolding onto
  onto-within h p = go (eqb (id_in w) 0) refl
    where
      go : (c : Bool) → eqb (id_in w) 0 ≡ c → Within n (onto k w n)
      go true e = rw e (record { len = omega (arith, h.len, h.used); used = omega arith; real = h.real })
      go false e = rw e (record { len = omega arith; used = omega arith; real = λ _. p })

follow-within : (table s : List ℕ) (k : Walk) → Within k.used k → Within (k.used + length s) (follow table s k)
unfolding follow
follow-within table [] k h = within_more (omega arith) h
follow-within table (b ∷ s) k h = go (goes w b) refl (eqb (base_in w) 0) refl
    (follow-within table s next (subst (λ (n : ℕ). Within n next) (sym count) stepped))
  where
    w : ℕ
    w = get_or table (bit_xor k.base b) 0

    next : Walk
    next = onto k w (suc k.used)

    count : next.used ≡ suc k.used
    count = onto-used k w (suc k.used)

    stepped : Within (suc k.used) next
    stepped = onto-within k w (suc k.used) (within_more (omega arith) h) (omega arith)

    go : (c : Bool) → goes w b ≡ c → (d : Bool) → eqb (base_in w) 0 ≡ d → Within (next.used + length s) (follow table s next)
        → Within (k.used + suc (length s)) (follow table (b ∷ s) k)
    go false e d f rest = rw (e, follow) (within_more (omega arith) h)
    go true e true f rest = rw (e, f, follow) (within_more (omega arith) stepped)
    go true e false f rest = rw (e, f, follow) (within_more (omega (arith, count)) rest)

enter-within : (table : List ℕ) (w : ℕ) (s : List ℕ) → Within (2 + length s) (enter table w s)
unfolding enter
enter-within table w s = go (eqb w 0) refl (not (eqb (id_in w) 0) && eqb (base_in w) 0) refl
  where
    start : Walk
    start = onto no_walk w 2

    count : start.used ≡ 2
    count = onto-used no_walk w 2

    started : Within 2 start
    started = onto-within no_walk w 2 none_within (omega arith)

    go : (c : Bool) → eqb w 0 ≡ c → (d : Bool) → (not (eqb (id_in w) 0) && eqb (base_in w) 0) ≡ d → Within (2 + length s) (enter table w s)
    go true e d f = rw (e, enter) none_within
    go false e true f = rw (e, f, enter) (within_more (omega arith) started)
    go false e false f = rw (e, f, enter)
        (within_more (omega (arith, count)) (follow-within table s start (subst (λ (n : ℕ). Within n start) (sym count) started)))

-- at most 255 bytes, and no more than there are
pub walk_within : (m : Memory) (s : List ℕ) → Within (min (length s) 255) (walk_on m s)
unfolding walk_on
walk_within m [] = none_within
walk_within m (a ∷ []) = none_within
walk_within m (a ∷ b ∷ s) =
    let cuts : length (take 253 s) ≡ min 253 (length s) = length-take 253 s in
    within_more (omega arith) (enter-within m.table (get_or m.roots (a * 256 + b) 0) (take 253 s))

one-within : (z : ℤ) (i n : ℕ) → one z ≡ found i n → n ≡ 1
one-within (pos k) i n e = cc
one-within (negsuc k) i n e = cc

-- a match has a byte at least, and no more than there are
pub match_within : (m : Memory) (s : List ℕ) (i n : ℕ) → match_on m s ≡ found i n → (1 ≤ n) × (n ≤ length s)
unfolding match_on
match_within m [] i n e = let z : ◌≡◌ {A = ℕ} 0 1 = cc in absurd (omega arith)
match_within m (a ∷ s) i n e = go (eqb k.id 0) refl
  where
    k : Walk
    k = walk_on m (a ∷ s)

    bounds : Within (min (suc (length s)) 255) k
    bounds = walk_within m (a ∷ s)

    go : (c : Bool) → eqb k.id 0 ≡ c → (1 ≤ n) × (n ≤ suc (length s))
    go true z =
        let short : match_on m (a ∷ s) ≡ one (get_or m.single a (pos 0)) = rw (z, match_on) in
        let n₁ = one-within (get_or m.single a (pos 0)) i n (sym short ∙ e) in
        (omega arith, omega arith)
    go false z =
        let long : match_on m (a ∷ s) ≡ found k.id k.len = rw (z, match_on) in
        let same : k.len ≡ n = cc in
        (omega (arith, bounds.real (eqb-false k.id 0 z)), omega (arith, bounds.len, bounds.used))

-- what a match leaves of the bytes is shorter
pub match_leaves : (m : Memory) (s : List ℕ) (i n : ℕ) → match_on m s ≡ found i n → length (take (length s - n) (drop n s)) < length s
match_leaves m s i n e =
    let w = match_within m s i n e in omega (arith, w.0, w.1, ap length (take_rest s n), length-drop n s)
