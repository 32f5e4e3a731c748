-- The table of RFC 3629, section 3, and the grammar of its section 4 agree: the bytes of each code point that is a character are one
-- character by the grammar, and stand for that code point again. Assumes nothing.
use mathlib.Core.Path.{◌≡◌, refl, sym, subst}
use mathlib.Core.Bool.{Bool, true, false}
use Rattle.std.specs.Prelude.{Some}
use mathlib.Core.List.{List, [], ◌∷◌, ◌++◌}
use Prim.Native.Nat.{ℕ, ◌+◌, ◌*◌, ◌/◌, ◌%◌, ◌≤◌, ◌<◌}
use native.Mathlib.Nat.{lt_of_not-le}
use native.Mathlib.Omega.{arith}
use lib.Dec.{leb}
use lib.ListN.{length}
use borrow.Author.Tests.{leb-true, leb-false}
use Rattle.spec.specs.Utf8.{◌to◌, tail, grammar, after, char, follow, step_of, point_of, utf8_of}
use Rattle.laws.specs.Utf8Laws.{In, Out, inside, step_cons, utf8-1, utf8-2}
use Rattle.laws.specs.Utf8Laws.{utf8-3, utf8-4}
use Rattle.utf8.proofs.Ranges.{after-at}

-- the bytes l are one character, and stand for c
abbrev pub Stands : ℕ → List ℕ → Type 0
Stands c l = ((s : List ℕ) → step_of (l ++ s) ≡ char (length l)) × (point_of l ≡ c)

stands_1 : (c : ℕ) → c ≤ 0x7F → Stands c (c ∷ [])
unfolding grammar follow
stands_1 c h = (λ s. rw (step_cons c s, after-at 0 c (omega arith)), refl)

stands_2 : (c : ℕ) → 0x7F < c → c ≤ 0x7FF → Stands c ((0xC0 + c / 64) ∷ (0x80 + c % 64) ∷ [])
unfolding grammar follow
stands_2 c l h = (
  (λ s.
      rw (
        step_cons (0xC0 + c / 64) ((0x80 + c % 64) ∷ s),
        after-at 1 (0xC0 + c / 64) (omega arith),
        inside tail (0x80 + c % 64) (omega arith),
      )),
  omega arith,
)

module _ (a b d low high : ℕ) (p : In (low to high) b) (q : In tail d) where
  three : after a ≡ Some ((low to high) ∷ tail ∷ []) → (s : List ℕ) → step_of (a ∷ b ∷ d ∷ s) ≡ char 3
  unfolding follow
  three e s = rw (step_cons a (b ∷ d ∷ s), e, inside (low to high) b p, inside tail d q)

  four : (f : ℕ) → In tail f → after a ≡ Some ((low to high) ∷ tail ∷ tail ∷ []) → (s : List ℕ) → step_of (a ∷ b ∷ d ∷ f ∷ s) ≡ char 4
  unfolding follow
  four f r e s = rw (step_cons a (b ∷ d ∷ f ∷ s), e, inside (low to high) b p, inside tail d q, inside tail f r)

point_3 : (c : ℕ) → c ≤ 0xFFFF → point_of ((0xE0 + c / 4096) ∷ (0x80 + c / 64 % 64) ∷ (0x80 + c % 64) ∷ []) ≡ c
point_3 c h = omega arith

low_six : (x : ℕ) → x < 64 → (0x80 + x) % 64 ≡ x
low_six x h = omega arith

digits : (c q p t x y z : ℕ) → c ≡ q * 64 + x → q ≡ p * 64 + y → p ≡ t * 64 + z → t * 262144 + z * 4096 + y * 64 + x ≡ c
digits c q p t x y z e f g = omega arith

point_4 : (c : ℕ) → c ≤ 0x10FFFF →
    point_of ((0xF0 + c / 262144) ∷ (0x80 + c / 4096 % 64) ∷ (0x80 + c / 64 % 64) ∷ (0x80 + c % 64) ∷ []) ≡ c
point_4 c h =
    let e : (0xF0 + c / 262144) % 8 ≡ c / 262144 = omega arith in
    rw (e, low_six (c / 4096 % 64) (omega arith), low_six (c / 64 % 64) (omega arith), low_six (c % 64) (omega arith))
    (digits c (c / 64) (c / 4096) (c / 262144) (c % 64) (c / 64 % 64) (c / 4096 % 64) (omega arith) (omega arith) (omega arith))

stands_3 : (c : ℕ) → 0x7FF < c → c ≤ 0xFFFF → Out (0xD800 to 0xDFFF) c →
    Stands c ((0xE0 + c / 4096) ∷ (0x80 + c / 64 % 64) ∷ (0x80 + c % 64) ∷ [])
unfolding grammar
stands_3 c l h o = (go (leb c 0xFFF) refl (leb c 0xCFFF) refl (leb c 0xD7FF) refl, point_3 c h)
  where
    a : ℕ
    a = 0xE0 + c / 4096

    b : ℕ
    b = 0x80 + c / 64 % 64

    d : ℕ
    d = 0x80 + c % 64

    go : (u : Bool) → leb c 0xFFF ≡ u → (v : Bool) → leb c 0xCFFF ≡ v → (w : Bool) → leb c 0xD7FF ≡ w →
        (s : List ℕ) → step_of (a ∷ b ∷ d ∷ s) ≡ char 3
    go true e v f w g = let k = leb-true c 0xFFF e in three a b d 0xA0 0xBF (omega arith) (omega arith) (after-at 2 a (omega arith))
    go false e true f w g =
        let k = leb-false c 0xFFF e in
        let m = leb-true c 0xCFFF f in
        three a b d 0x80 0xBF (omega arith) (omega arith) (after-at 3 a (omega arith))
    go false e false f true g =
        let k = leb-false c 0xCFFF f in
        let m = leb-true c 0xD7FF g in
        three a b d 0x80 0x9F (omega arith) (omega arith) (after-at 4 a (omega arith))
    go false e false f false g =
        let k = leb-false c 0xD7FF g in
        let m = lt_of_not-le (o k) in
        three a b d 0x80 0xBF (omega arith) (omega arith) (after-at 5 a (omega arith))

stands_4 : (c : ℕ) → 0xFFFF < c → c ≤ 0x10FFFF →
    Stands c ((0xF0 + c / 262144) ∷ (0x80 + c / 4096 % 64) ∷ (0x80 + c / 64 % 64) ∷ (0x80 + c % 64) ∷ [])
unfolding grammar
stands_4 c l h = (go (leb c 0x3FFFF) refl (leb c 0xFFFFF) refl, point_4 c h)
  where
    a : ℕ
    a = 0xF0 + c / 262144

    b : ℕ
    b = 0x80 + c / 4096 % 64

    d : ℕ
    d = 0x80 + c / 64 % 64

    f : ℕ
    f = 0x80 + c % 64

    go : (u : Bool) → leb c 0x3FFFF ≡ u → (v : Bool) → leb c 0xFFFFF ≡ v → (s : List ℕ) → step_of (a ∷ b ∷ d ∷ f ∷ s) ≡ char 4
    go true e v g =
        let k = leb-true c 0x3FFFF e in
        four a b d 0x90 0xBF (omega arith) (omega arith) f (omega arith) (after-at 6 a (omega arith))
    go false e true g =
        let k = leb-false c 0x3FFFF e in
        let m = leb-true c 0xFFFFF g in
        four a b d 0x80 0xBF (omega arith) (omega arith) f (omega arith) (after-at 7 a (omega arith))
    go false e false g =
        let k = leb-false c 0xFFFFF g in
        four a b d 0x80 0x8F (omega arith) (omega arith) f (omega arith) (after-at 8 a (omega arith))

-- The bytes of a character are one character of the grammar, whatever follows them, and stand for it.
pub encoded : (c : ℕ) → c ≤ 0x10FFFF → Out (0xD800 to 0xDFFF) c → Stands c (utf8_of c)
encoded c h o = go (leb c 0x7F) refl (leb c 0x7FF) refl (leb c 0xFFFF) refl
  where
    go : (u : Bool) → leb c 0x7F ≡ u → (v : Bool) → leb c 0x7FF ≡ v → (w : Bool) → leb c 0xFFFF ≡ w → Stands c (utf8_of c)
    go true e v f w g = let k = leb-true c 0x7F e in subst (Stands c) (sym (utf8-1 c k)) (stands_1 c k)
    go false e true f w g =
        let k = leb-false c 0x7F e in
        let m = leb-true c 0x7FF f in
        subst (Stands c) (sym (utf8-2 c k m)) (stands_2 c k m)
    go false e false f true g =
        let k = leb-false c 0x7FF f in
        let m = leb-true c 0xFFFF g in
        subst (Stands c) (sym (utf8-3 c k m o)) (stands_3 c k m o)
    go false e false f false g =
        let k = leb-false c 0xFFFF g in
        subst (Stands c) (sym (utf8-4 c k h)) (stands_4 c k h)
