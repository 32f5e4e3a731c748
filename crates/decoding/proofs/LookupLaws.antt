-- The lookup of an id's token: its cases, as the code's tests tell them apart, and what an id with bytes has. Assumes nothing.
use Rattle.std.proofs.Common.{◌≡◌, refl, ap, sym, ◌∙◌, Bool, true, false, cond, leb, List, [], ◌∷◌, ℕ, zero, suc, ◌+◌, ◌-◌, ◌≤◌, ◌<◌}
use Rattle.std.proofs.Common.{length, take, drop, get_or, length-drop, arith}
use Rattle.std.proofs.Common.{◌⊎◌, inl, inr}
use Rattle.std.specs.Prelude.{None, Some}
use Rattle.std.proofs.Math.ListN.{get_or-eq_default}
use Rattle.std.proofs.Math.Seq.{length-take-le}
use borrow.Author.Tests.{le-ltb, lt-ltb, le-leb, lt-leb, leb-true, leb-false}
use Rattle.spec.specs.Memory.{Memory}
use Rattle.spec.specs.Decode.{lookup}
use Rattle.decoding.specs.Measured.{if_any}

-- ---- bytes that may be none

pub if_any-none : (t : List ℕ) → t ≡ [] → None ≡ if_any t
if_any-none t e = ap if_any (sym e)

pub if_any-some : (t bytes : List ℕ) → t ≡ bytes → 1 ≤ length bytes → Some t ≡ if_any bytes
if_any-some t [] e h = absurd (omega arith)
if_any-some t (b ∷ bs) e h = ap Some e

pub no_bytes : (t : List ℕ) → None ≡ if_any t → t ≡ []
no_bytes [] e = refl
no_bytes (b ∷ bs) e = cc

-- what a token that was found is
pub record Found (t bytes : List ℕ) : Type 0 where
  pub same : bytes ≡ t
  pub some : 1 ≤ length t

pub found : (t bytes : List ℕ) → Some t ≡ if_any bytes → Found t bytes
found t [] e = cc
found t (b ∷ bs) e = let same : b ∷ bs ≡ t = cc in record { same = same; some = omega (arith, ap length same) }

-- ---- the cases of the lookup

module _ (m : Memory) (i : ℕ) where
  first : ℕ
  first = get_or m.offsets i 0

  last : ℕ
  last = get_or m.offsets (i + 1) 0

  pub lookup-far : 65536 ≤ i → lookup m i ≡ []
  unfolding lookup
  lookup-far h = simp (le-ltb _ _ h)

  module _ (near : i < 65536) where
    -- out of order
    pub lookup-ordered : get_or m.offsets (i + 1) 0 < get_or m.offsets i 0 → lookup m i ≡ []
    unfolding lookup
    lookup-ordered h = simp (lt-ltb _ _ near, lt-leb _ _ h)

    -- in order
    module _ (order : get_or m.offsets i 0 ≤ get_or m.offsets (i + 1) 0) where
      pub lookup-past : length m.blob < get_or m.offsets (i + 1) 0 → lookup m i ≡ []
      unfolding lookup
      lookup-past h = simp (lt-ltb _ _ near, le-leb _ _ order, lt-leb _ _ h)

      module _ (inside : get_or m.offsets (i + 1) 0 ≤ length m.blob) where
        pub lookup-long : 255 < get_or m.offsets (i + 1) 0 - get_or m.offsets i 0 → lookup m i ≡ []
        unfolding lookup
        lookup-long h = simp (lt-ltb _ _ near, le-leb _ _ order, le-leb _ _ inside, lt-leb _ _ h)

        pub lookup-token : get_or m.offsets (i + 1) 0 - get_or m.offsets i 0 ≤ 255
            → lookup m i ≡ take (get_or m.offsets (i + 1) 0 - get_or m.offsets i 0) (drop (get_or m.offsets i 0) m.blob)
        unfolding lookup
        lookup-token h = simp (lt-ltb _ _ near, le-leb _ _ order, le-leb _ _ inside, le-leb _ _ h)

    -- past the blob, or out of order
    pub lookup-outside : (get_or m.offsets (i + 1) 0 < get_or m.offsets i 0) ⊎ (length m.blob < get_or m.offsets (i + 1) 0)
        → lookup m i ≡ []
    lookup-outside (inl h) = lookup-ordered h
    lookup-outside (inr h) = go (leb (get_or m.offsets i 0) (get_or m.offsets (i + 1) 0)) refl
      where
        go : (c : Bool) → leb (get_or m.offsets i 0) (get_or m.offsets (i + 1) 0) ≡ c → lookup m i ≡ []
        go true o = lookup-past (leb-true _ _ o) h
        go false o = lookup-ordered (leb-false _ _ o)

    pub lookup-empty : get_or m.offsets (i + 1) 0 - get_or m.offsets i 0 ≡ 0 → lookup m i ≡ []
    unfolding lookup
    lookup-empty z = rw z (go _)
      where
        go : (c : Bool) → cond c (take 0 (drop (get_or m.offsets i 0) m.blob)) [] ≡ []
        go true = refl
        go false = refl

    -- the offset behind the token is missing
    pub lookup-unpaired : length m.offsets ≤ i + 1 → lookup m i ≡ []
    lookup-unpaired h = lookup-empty (omega (arith, get_or-eq_default m.offsets 0 h))

-- the token that stands between an id's two offsets: the id's, if it is not too short and not too long
pub record Between (m : Memory) (i : ℕ) (token : List ℕ) : Type 0 where
  pub good : 1 ≤ length token → length token ≤ 255 → Some token ≡ if_any (lookup m i)
  pub bad : (1 ≤ length token → length token ≤ 255 → ⊥) → None ≡ if_any (lookup m i)

pub between : (m : Memory) (i : ℕ) → i < 65536 → (start end : ℕ) → start ≡ get_or m.offsets i 0 → end ≡ get_or m.offsets (i + 1) 0
    → start ≤ end → end ≤ length m.blob → (token : List ℕ) → token ≡ take (end - start) (drop start m.blob) → Between m i token
between m i near start end a e ordered within token t =
    let size : length token ≡ end - start =
    ap length t ∙ length-take-le (end - start) (drop start m.blob) (simp length-drop (omega (arith, ordered, within))) in
    let order : get_or m.offsets i 0 ≤ get_or m.offsets (i + 1) 0 = omega (arith, ordered, a, e) in
    let inside : get_or m.offsets (i + 1) 0 ≤ length m.blob = omega (arith, within, e) in
    record {
      good = λ some short.
          let l = lookup-token m i near order inside (omega (arith, size, short, a, e)) in
          let same : token ≡ lookup m i = t ∙ rw (a, e) (sym l) in
          if_any-some token (lookup m i) same (omega (arith, some, ap length same));
      bad = λ unfit. if_any-none _ (go (length token) refl unfit size order inside);
    }
  where
    go : (n : ℕ) → length token ≡ n → (1 ≤ length token → length token ≤ 255 → ⊥) → length token ≡ end - start
        → get_or m.offsets i 0 ≤ get_or m.offsets (i + 1) 0 → get_or m.offsets (i + 1) 0 ≤ length m.blob → lookup m i ≡ []
    go zero h unfit size order inside = lookup-empty m i near (omega (arith, size, h, a, e))
    go (suc n) h unfit size order inside = lookup-long m i near order inside (omega (arith, size, unfit, h, a, e))

-- An id with bytes has them between its two offsets, in the blob.
pub record Present (m : Memory) (i : ℕ) : Type 0 where
  pub paired : i + 1 < length m.offsets
  pub ordered : get_or m.offsets i 0 ≤ get_or m.offsets (i + 1) 0
  pub inside : get_or m.offsets (i + 1) 0 ≤ length m.blob
  pub bytes : lookup m i ≡ take (get_or m.offsets (i + 1) 0 - get_or m.offsets i 0) (drop (get_or m.offsets i 0) m.blob)
  pub size : length (lookup m i) ≡ get_or m.offsets (i + 1) 0 - get_or m.offsets i 0

pub present : (m : Memory) (i : ℕ) → 1 ≤ length (lookup m i) → Present m i
present m i some =
    let near : i < 65536 = let far : 65536 ≤ i → ⊥ = λ h. none (lookup-far m i h) in omega arith in
    let paired : i + 1 < length m.offsets =
    let alone : length m.offsets ≤ i + 1 → ⊥ = λ h. none (lookup-unpaired m i near h) in omega arith in
    let ordered : get_or m.offsets i 0 ≤ get_or m.offsets (i + 1) 0 =
    let back : get_or m.offsets (i + 1) 0 < get_or m.offsets i 0 → ⊥ = λ h. none (lookup-ordered m i near h) in omega arith in
    let inside : get_or m.offsets (i + 1) 0 ≤ length m.blob =
    let past : length m.blob < get_or m.offsets (i + 1) 0 → ⊥ = λ h. none (lookup-past m i near ordered h) in omega arith in
    let short : get_or m.offsets (i + 1) 0 - get_or m.offsets i 0 ≤ 255 =
    let long : 255 < get_or m.offsets (i + 1) 0 - get_or m.offsets i 0 → ⊥ =
    λ h. none (lookup-long m i near ordered inside h) in omega arith in
    let bytes = lookup-token m i near ordered inside short in
    record {
      paired = paired;
      ordered = ordered;
      inside = inside;
      bytes = bytes;
      size = ap length bytes ∙ length-take-le _ (drop (get_or m.offsets i 0) m.blob) (simp length-drop (omega arith));
    }
  where
    none : lookup m i ≡ [] → ⊥
    none e = omega (arith, ap length e)
