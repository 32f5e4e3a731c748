-- UTF-8, equation by equation: ranges, the rows of the table of code points, one step of a string, and what each definition over the
-- parts of a string makes of a step. Assumes nothing.
use Rattle.std.specs.Prelude.{◌≡◌, refl, Bool, true, false, ◌&&◌, cond, List, [], ◌∷◌, ◌++◌, ℕ, zero, suc, pred, ◌+◌, ◌/◌, ◌%◌, ◌≤◌, ◌<◌}
use Rattle.std.specs.Prelude.{leb, length, take, drop}
use Rattle.std.proofs.Math.Path.{ap}
use Rattle.std.proofs.Common.{◌∙◌, subst, not-suc-le-zero}
use Rattle.std.specs.Prelude.{Option, None, Some}
use native.Mathlib.Omega.{arith}
use borrow.Author.Tests.{le-leb, lt-leb, leb-true}
use Rattle.spec.specs.Lists.{all, each}
use Rattle.spec.specs.Utf8.{Range, ◌to◌, within, after, Step, char, bad, cut, follow, followed, step_of, size, is_char, Part, part_of}
use Rattle.spec.specs.Utf8.{parts_at, parts, is_whole, well_formed, bad_part, first_bad_from, first_bad, replacement}
use Rattle.spec.specs.Utf8.{shown, lossy, utf8_of, point_of, white_space, white_part, blank}

-- a number in a range, and one outside it
abbrev pub In : Range → ℕ → Type 0
In r n = (r.low ≤ n) × (n ≤ r.high)

abbrev pub Out : Range → ℕ → Type 0
Out r n = r.low ≤ n → n ≤ r.high → ⊥

pub inside : (r : Range) (n : ℕ) → In r n → within r n ≡ true
inside r n h = rw (le-leb r.low n h.0, le-leb n r.high h.1)

pub outside : (r : Range) (n : ℕ) → Out r n → within r n ≡ false
outside r n h = go (leb r.low n) refl (leb n r.high) refl
  where
    go : (a : Bool) → leb r.low n ≡ a → (b : Bool) → leb n r.high ≡ b → a && b ≡ false
    go true e true f = absurd (h (leb-true r.low n e) (leb-true n r.high f))
    go true e false f = refl
    go false e b f = refl

-- the rows of the table of code points
module _ (c : ℕ) where
  pub utf8-1 : c ≤ 0x7F → utf8_of c ≡ c ∷ []
  unfolding utf8_of
  utf8-1 h = rw (le-leb c 0x7F h)

  pub utf8-2 : 0x7F < c → c ≤ 0x7FF → utf8_of c ≡ (0xC0 + c / 64) ∷ (0x80 + c % 64) ∷ []
  unfolding utf8_of
  utf8-2 l h = rw (lt-leb c 0x7F l, le-leb c 0x7FF h)

  pub utf8-3 : 0x7FF < c → c ≤ 0xFFFF → Out (0xD800 to 0xDFFF) c →
      utf8_of c ≡ (0xE0 + c / 4096) ∷ (0x80 + c / 64 % 64) ∷ (0x80 + c % 64) ∷ []
  unfolding utf8_of
  utf8-3 l h o =
      let k : 0x7F < c = omega arith in
      rw (lt-leb c 0x7F k, lt-leb c 0x7FF l, outside (0xD800 to 0xDFFF) c o, le-leb c 0xFFFF h)

  pub utf8-4 : 0xFFFF < c → c ≤ 0x10FFFF →
      utf8_of c ≡ (0xF0 + c / 262144) ∷ (0x80 + c / 4096 % 64) ∷ (0x80 + c / 64 % 64) ∷ (0x80 + c % 64) ∷ []
  unfolding utf8_of
  utf8-4 l h =
      let k : 0x7F < c = omega arith in
      let m : 0x7FF < c = omega arith in
      let o : Out (0xD800 to 0xDFFF) c = omega arith in
      rw (lt-leb c 0x7F k, lt-leb c 0x7FF m, outside (0xD800 to 0xDFFF) c o, lt-leb c 0xFFFF l, le-leb c 0x10FFFF h)

  pub utf8-surrogate : In (0xD800 to 0xDFFF) c → utf8_of c ≡ []
  unfolding utf8_of
  utf8-surrogate h =
      let k : 0x7F < c = omega arith in
      let m : 0x7FF < c = omega arith in
      rw (lt-leb c 0x7F k, lt-leb c 0x7FF m, inside (0xD800 to 0xDFFF) c h)

  pub utf8-above : 0x10FFFF < c → utf8_of c ≡ []
  unfolding utf8_of
  utf8-above l =
      let k : 0x7F < c = omega arith in
      let m : 0x7FF < c = omega arith in
      let o : Out (0xD800 to 0xDFFF) c = omega arith in
      let n : 0xFFFF < c = omega arith in
      rw (lt-leb c 0x7F k, lt-leb c 0x7FF m, outside (0xD800 to 0xDFFF) c o, lt-leb c 0xFFFF n, lt-leb c 0x10FFFF l)

follow-pos : (n : ℕ) (rs : List Range) (s : List ℕ) → 0 < n → 0 < size (follow n rs s)
unfolding follow
follow-pos n [] s h = h
follow-pos n (r ∷ rs) [] h = h
follow-pos n (r ∷ rs) (b ∷ s) h = go (within r b) (follow-pos (suc n) rs s (omega arith))
  where
    go : (c : Bool) → 0 < size (follow (suc n) rs s) → 0 < size (cond c (follow (suc n) rs s) (bad n))
    go true ih = ih
    go false ih = h

follow-within : (n : ℕ) (rs : List Range) (s : List ℕ) → size (follow n rs s) ≤ n + length s
unfolding follow
follow-within n [] s = omega arith
follow-within n (r ∷ rs) [] = omega arith
follow-within n (r ∷ rs) (b ∷ s) = go (within r b) (follow-within (suc n) rs s)
  where
    go : (c : Bool) → size (follow (suc n) rs s) ≤ suc n + length s → size (cond c (follow (suc n) rs s) (bad n)) ≤ n + suc (length s)
    go true ih = omega arith
    go false ih = omega arith

pub step_nil : step_of [] ≡ cut 0
unfolding step_of
step_nil = refl

pub step_cons : (b : ℕ) (s : List ℕ) → step_of (b ∷ s) ≡ followed (after b) s
unfolding step_of
step_cons b s = refl

-- A step takes at least one byte, and no more than there are.
step_pos : (b : ℕ) (s : List ℕ) → 0 < size (step_of (b ∷ s))
unfolding step_of
step_pos b s = go (after b)
  where
    go : (o : Option (List Range)) → 0 < size (followed o s)
    go None = omega arith
    go (Some rs) = follow-pos 1 rs s (omega arith)

step_least : (s : List ℕ) → 0 < length s → 0 < size (step_of s)
step_least [] h = absurd (not-suc-le-zero h)
step_least (b ∷ s) h = step_pos b s

step_within : (s : List ℕ) → size (step_of s) ≤ length s
unfolding step_of
step_within [] = omega arith
step_within (b ∷ s) = go (after b)
  where
    go : (o : Option (List Range)) → size (followed o s) ≤ suc (length s)
    go None = omega arith
    go (Some rs) = omega (arith, follow-within 1 rs s)

pub char_within : (s : List ℕ) (n : ℕ) → 0 < length s → step_of s ≡ char n → (0 < n) × (n ≤ length s)
char_within s n h e =
    (subst (λ (t : Step). 0 < size t) e (step_least s h), subst (λ (t : Step). size t ≤ length s) e (step_within s))

-- Bytes that belong to a part before are left out.
pub parts_at_drop : (k : ℕ) (s : List ℕ) → parts_at k s ≡ parts (drop k s)
unfolding parts_at
parts_at_drop zero s = refl
parts_at_drop (suc k) [] = refl
parts_at_drop (suc k) (b ∷ s) = parts_at_drop k s

past-part : (n b : ℕ) (s : List ℕ) → 0 < n → parts_at (pred n) s ≡ parts (drop n (b ∷ s))
past-part zero b s h = absurd (not-suc-le-zero h)
past-part (suc n) b s h = parts_at_drop n s

pub parts-nil : parts [] ≡ []
unfolding parts_at
parts-nil = refl

-- The parts of a string that is not empty: the one that its step takes, then those of what is left.
pub parts-step : (s : List ℕ) (t : Step) → 0 < length s → step_of s ≡ t → parts s ≡ part_of t s ∷ parts (drop (size t) s)
unfolding parts_at
parts-step [] t h e = absurd (not-suc-le-zero h)
parts-step (b ∷ s) t h e =
    subst (λ (u : Step). parts (b ∷ s) ≡ part_of u (b ∷ s) ∷ parts (drop (size u) (b ∷ s))) e
    (ap (λ ps. part_of (step_of (b ∷ s)) (b ∷ s) ∷ ps) (past-part (size (step_of (b ∷ s))) b s (step_pos b s)))

pub first-bad_zero : (s : List ℕ) → first_bad s ≡ first_bad_from 0 s
unfolding first_bad
first-bad_zero s = refl

pub first-bad_nil : (i : ℕ) → first_bad_from i [] ≡ None
unfolding first_bad_from
first-bad_nil i = refl

pub well_formed_nil : well_formed [] ≡ true
unfolding well_formed
well_formed_nil = refl

pub lossy-nil : lossy [] ≡ []
unfolding lossy
lossy-nil = refl

pub blank-nil : blank [] ≡ true
unfolding blank
blank-nil = refl

-- a string that is not empty, by what stands at its start: a character, or another part
module _ (s : List ℕ) (h : 0 < length s) where
  pub first-bad-char : (i n : ℕ) → step_of s ≡ char n → first_bad_from i s ≡ first_bad_from (i + n) (drop n s)
  unfolding first_bad_from
  first-bad-char i n e = ap (bad_part i) (parts-step s (char n) h e)

  pub first-bad-other : (i : ℕ) (t : Step) → step_of s ≡ t → is_char t ≡ false → first_bad_from i s ≡ Some i
  unfolding first_bad_from
  first-bad-other i t e f = ap (bad_part i) (parts-step s t h e) ∙ rw f

  pub well-formed-char : (n : ℕ) → step_of s ≡ char n → well_formed s ≡ well_formed (drop n s)
  unfolding well_formed
  well-formed-char n e = ap (all is_whole) (parts-step s (char n) h e)

  pub well-formed-other : (t : Step) → step_of s ≡ t → is_char t ≡ false → well_formed s ≡ false
  unfolding well_formed
  well-formed-other t e f = ap (all is_whole) (parts-step s t h e) ∙ rw f

  pub lossy-char : (n : ℕ) → step_of s ≡ char n → lossy s ≡ take n s ++ lossy (drop n s)
  unfolding lossy
  lossy-char n e = ap (each shown) (parts-step s (char n) h e)

  pub lossy-other : (t : Step) → step_of s ≡ t → is_char t ≡ false → lossy s ≡ replacement ++ lossy (drop (size t) s)
  unfolding lossy
  lossy-other t e f = ap (each shown) (parts-step s t h e) ∙ rw f

  pub blank-char : (n : ℕ) → step_of s ≡ char n → blank s ≡ white_space (point_of (take n s)) && blank (drop n s)
  unfolding blank
  blank-char n e = ap (all white_part) (parts-step s (char n) h e)

  pub blank-other : (t : Step) → step_of s ≡ t → is_char t ≡ false → blank s ≡ false
  unfolding blank
  blank-other t e f = ap (all white_part) (parts-step s t h e) ∙ rw f

abbrev pub is_none : Option ℕ → Bool
is_none None = true
is_none (Some i) = false

-- A string is UTF-8 exactly if it has no first bad offset.
pub well_formed_first : (s : List ℕ) → well_formed s ≡ is_none (first_bad s)
unfolding well_formed first_bad
well_formed_first s = go 0 (parts s)
  where
    choose : (c : Bool) (i : ℕ) (o : Option ℕ) (w : Bool) → w ≡ is_none o → c && w ≡ is_none (cond c o (Some i))
    choose true i o w e = e
    choose false i o w e = refl

    go : (i : ℕ) (ps : List Part) → all is_whole ps ≡ is_none (bad_part i ps)
    go i [] = refl
    go i (p ∷ ps) = choose (is_whole p) i (bad_part (i + size p.step) ps) (all is_whole ps) (go (i + size p.step) ps)
