-- The answers of lossy decoding: an absent id, a text that does not fit, the text. Assumes nothing.
use mathlib.Core.Path.{◌≡◌, refl, ap, sym, ◌∙◌}
use mathlib.Core.Bool.{Bool, true, false}
use Rattle.std.specs.Prelude.{None, Some}
use mathlib.Core.List.{List, [], ◌∷◌}
use Prim.Native.Nat.{ℕ, zero, suc, ◌+◌, ◌≤◌, ◌<◌}
use native.Mathlib.Omega.{arith}
use native.Mathlib.Nat.{not-suc-le-zero, add-zero}
use Rattle.std.proofs.Math.Nat.{min-eq_left, min-eq_right}
use Rattle.decoding.proofs.DecodePasses.{each_more}
use lib.ListN.{length, take, get_or, length-append}
use Rattle.std.specs.Prelude.{leb, min}
use borrow.Author.Tests.{le-leb, lt-leb, leb-true, leb-false}
use Rattle.spec.specs.Lists.{each, over}
use Rattle.spec.specs.Utf8.{lossy}
use Rattle.spec.specs.Answer.{Answer, whole}
use Rattle.spec.specs.Memory.{Memory, too_short}
use Rattle.spec.specs.Encode.{refused}
use Rattle.spec.specs.Decode.{lookup, first_absent, lossy_output, decode_lossy_on}
use Rattle.std.specs.Prelude.{Ok, Err}
use Rattle.decoding.specs.declared.DecodeError.{DecodeError}
use Rattle.decoding.specs.declared.DecodeError.TheVariants.{ShortMemory, Full}
use Rattle.decoding.specs.Answers.{answer_of, Answered}
use Rattle.lossy.specs.Lossy.{AllPresent, Summed}

lossy-short : (m : Memory) (n : ℕ) (ids : List ℕ) → too_short m ≡ true → decode_lossy_on m n ids ≡ refused 1
unfolding decode_lossy_on
lossy-short m n ids e = rw (e, decode_lossy_on)

lossy-enough : (m : Memory) (n : ℕ) (ids : List ℕ) → too_short m ≡ false
    → decode_lossy_on m n ids ≡ lossy_output m n ids (first_absent m 0 ids)
unfolding decode_lossy_on
lossy-enough m n ids e = rw (e, decode_lossy_on)

-- the answer at an absent id
abbrev absent_at : ℕ → ℕ → Answer
absent_at k i = record { number = 27; count = 0; place = k; value = i }

module _ (m : Memory) where
  first-here : (k i : ℕ) (ids : List ℕ) → lookup m i ≡ [] → first_absent m k (i ∷ ids) ≡ Some (absent_at k i)
  unfolding first_absent
  first-here k i ids e = rw (e, first_absent)

  first-later : (k i : ℕ) (ids l : List ℕ) → lookup m i ≡ l → 1 ≤ length l → first_absent m k (i ∷ ids) ≡ first_absent m (suc k) ids
  unfolding first_absent
  first-later k i ids [] e h = absurd (not-suc-le-zero h)
  first-later k i ids (b ∷ bs) e h = rw (e, first_absent)

  -- the ids before j have bytes, and the one at j has none
  pub first_some : (ids : List ℕ) (k j : ℕ) → ((i : ℕ) → i < j → 1 ≤ length (lookup m (get_or ids i 0))) → j < length ids
      → lookup m (get_or ids j 0) ≡ [] → first_absent m k ids ≡ Some (absent_at (k + j) (get_or ids j 0))
  first_some [] k j p h e = absurd (not-suc-le-zero h)
  first_some (i ∷ ids) k zero p h e = first-here k i ids e ∙ rw add-zero
  first_some (i ∷ ids) k (suc j) p h e =
      let next : suc k + j ≡ k + suc j = omega arith in
      first-later k i ids (lookup m i) refl (p 0 (omega arith))
      ∙ first_some ids (suc k) j (λ a b. p (suc a) (omega arith)) (omega arith) e
      ∙ ap (λ (x : ℕ). Some (absent_at x (get_or ids j 0))) next

  -- each id has bytes
  first-none : (ids : List ℕ) (k : ℕ) → AllPresent m ids → first_absent m k ids ≡ None
  unfolding first_absent
  first-none [] k p = refl
  first-none (i ∷ ids) k p =
      first-later k i ids (lookup m i) refl (p 0 (omega arith)) ∙ first-none ids (suc k) (λ a b. p (suc a) (omega arith))

lossy-over : (m : Memory) (n : ℕ) (ids : List ℕ) → n < length (lossy (each (lookup m) ids))
    → lossy_output m n ids None ≡ record { answer = record { number = 28; count = 0; place = length ids; value = 0 }; cells = [] }
unfolding lossy_output
lossy-over m n ids h = rw (lossy_output, lt-leb _ _ h)

lossy-fits : (m : Memory) (n : ℕ) (ids : List ℕ) → length (lossy (each (lookup m) ids)) ≤ n
    → lossy_output m n ids None ≡ record {
      answer = whole (length (lossy (each (lookup m) ids)));
      cells = lossy (each (lookup m) ids);
    }
unfolding lossy_output
lossy-fits m n ids h = rw (lossy_output, le-leb _ _ h)

module _ (m : Memory) (ids before : List ℕ) (n : ℕ) where
  pub lossy-answered-short : true ≡ too_short m → Answered (decode_lossy_on m n ids) (Err ShortMemory) before before
  lossy-answered-short h = rw (lossy-short m n ids (sym h)) (record { answer = refl; cells = refl })

  module _ (h : false ≡ too_short m) where
    -- 27: an id is absent
    pub lossy-answered-absent : (e : DecodeError) → first_absent m 0 ids ≡ Some (answer_of (Err e))
        → Answered (decode_lossy_on m n ids) (Err e) before before
    unfolding lossy_output
    lossy-answered-absent e a = rw (lossy-enough m n ids (sym h), a) (record { answer = refl; cells = refl })

    module _ (all : AllPresent m ids) where
      -- 28: the text does not fit
      pub lossy-answered-full : n < length (lossy (each (lookup m) ids))
          → Answered (decode_lossy_on m n ids) (Err (Full 0 (length ids))) before before
      lossy-answered-full o =
          rw (lossy-enough m n ids (sym h), first-none m ids 0 all, lossy-over m n ids o) (record { answer = refl; cells = refl })

      -- it fits
      pub lossy-answered-whole : (len : ℕ) (after : List ℕ) → len ≡ length (lossy (each (lookup m) ids)) → len ≤ n
          → after ≡ over (lossy (each (lookup m) ids)) before → Answered (decode_lossy_on m n ids) (Ok len) before after
      lossy-answered-whole len after e fits w =
          rw (lossy-enough m n ids (sym h), first-none m ids 0 all, lossy-fits m n ids (omega arith))
          (record { answer = ap whole e; cells = w })

-- ── the number of all bytes ──────────────────────────────────────────

pub summed_none : (f : ℕ → List ℕ) → Summed (length (each f [])) 0
unfolding each
summed_none f = record { exact = λ h. refl; most = λ h. absurd (omega arith) }

-- a sum that is less than the greatest number is exact
pub summed-exact : (n total : ℕ) → Summed n total → total < 0xffffffffffffffff → total ≡ n
summed-exact n total s h = go (leb n 0xffffffffffffffff) refl
  where
    go : (c : Bool) → leb n 0xffffffffffffffff ≡ c → total ≡ n
    go true e = s.exact (leb-true n 0xffffffffffffffff e)
    go false e = absurd (omega (arith, s.most (leb-false n 0xffffffffffffffff e)))

-- one token more
pub summed-more : (f : ℕ → List ℕ) (ids : List ℕ) (k total : ℕ) → k < length ids → Summed (length (each f (take k ids))) total
    → Summed (length (each f (take (k + 1) ids))) (min (total + length (f (get_or ids k 0))) 0xffffffffffffffff)
summed-more f ids k total h s =
    let t = length (f (get_or ids k 0)) in
    let n = length (each f (take k ids)) in
    let e : length (each f (take (k + 1) ids)) ≡ n + t = ap length (each_more f ids k h) ∙ length-append (each f (take k ids)) _ in
    rw e
    (record {
      exact = λ few. min-eq_left (omega (arith, s.exact (omega arith))) ∙ ap (λ (a : ℕ). a + t) (s.exact (omega arith));
      most = λ many. min-eq_right (go (leb n 0xffffffffffffffff) refl many);
    })
  where
    go : (c : Bool) → leb (length (each f (take k ids))) 0xffffffffffffffff ≡ c
        → 0xffffffffffffffff < length (each f (take k ids)) + length (f (get_or ids k 0))
        → 0xffffffffffffffff ≤ total + length (f (get_or ids k 0))
    go true e many = omega (arith, s.exact (leb-true _ _ e))
    go false e many = omega (arith, s.most (leb-false _ _ e))
