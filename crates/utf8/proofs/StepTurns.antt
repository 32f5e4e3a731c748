-- The step of a string, as the loop of `first_step` finds it: where it starts, and one lemma for each way a turn can go. Assumes nothing.
use mathlib.Core.Path.{◌≡◌, refl, ap, ◌∙◌, sym}
use mathlib.Core.Bool.{true, false}
use Rattle.std.specs.Prelude.{Option, None, Some}
use mathlib.Core.List.{List, [], ◌∷◌}
use Prim.Native.Nat.{ℕ, zero, suc, ◌+◌, ◌-◌, ◌≤◌, ◌<◌}
use native.Mathlib.Numerals.{add-one}
use native.Mathlib.Omega.{arith}
use lib.ListN.{length, get_or, take, drop, length-replicate, length-drop, drop_of_length-le}
use lib.Seq.{drop-cons, drop-drop}
use Rattle.std.proofs.lemmas.List.{take_rest}
use Rattle.spec.specs.Utf8.{Range, ◌to◌, within, tail, grammar, after, Step, char, bad, cut, is_char, follow, followed, step_of}
use Rattle.laws.specs.Utf8Laws.{step_nil, step_cons, char_within, first-bad_nil, first-bad_zero, first-bad-char, first-bad-other}
use Rattle.spec.specs.Utf8.{first_bad_from}
use Rattle.utf8.specs.declared.Step.{Step as Found}
use Rattle.utf8.specs.declared.Step.TheVariants.{Char, Bad, Cut}
use Rattle.utf8.specs.Means.{ranges, step_means}
use Rattle.utf8.proofs.Ranges.{after-at}

-- the answers of `first_step` that are no character
pub no_char : (r : Found) → ((n : ℕ) → r ≡ Char n → ⊥) → is_char (step_means r) ≡ false
no_char (Char n) h = absurd (h n refl)
no_char (Bad n) h = refl
no_char (Cut n) h = refl

pub step_past : (s : List ℕ) → length s ≡ 0 → cut 0 ≡ step_of s
step_past [] e = rw step_nil
step_past (b ∷ s) e = absurd (omega arith)

-- behind the first of the bytes that must follow
pub ranges_behind : (more low high left : ℕ) → left ≡ more - 1 → ranges left 0x80 0xBF ≡ drop 1 (ranges more low high)
ranges_behind zero low high left e = rw e
ranges_behind (suc zero) low high left e = rw e
ranges_behind (suc (suc n)) low high left e = let q : left ≡ suc n = omega arith in rw q

ranges-length : (more low high : ℕ) → length (ranges more low high) ≡ more
ranges-length zero low high = refl
ranges-length (suc n) low high = ap suc (length-replicate n tail)

-- there is one fewer, and one more is taken
pub one_fewer : (more low high left first last n all : ℕ) → ranges left first last ≡ drop 1 (ranges more low high)
    → more + n ≡ all → n < all → left + (n + 1) ≡ all
one_fewer more low high left first last n all e h k =
    omega (arith, ap length e, ranges-length left first last, ranges-length more low high, length-drop 1 (ranges more low high))

-- the string begins with the byte b
module _ (s : List ℕ) (b : ℕ) (others : List ℕ) (h : s ≡ b ∷ others) where
  step_first : (o : Option (List Range)) → o ≡ after b → followed o others ≡ step_of s
  step_first o e = rw (h, step_cons b others, e)

  pub step_none : None ≡ after b → bad 1 ≡ step_of s
  step_none e = step_first None e

  pub step_lead : (rs : List Range) → Some rs ≡ after b → follow 1 rs others ≡ step_of s
  step_lead rs e = step_first (Some rs) e

-- n bytes of the character are taken, and `left` more must follow, the first of them from low to high; the string goes on at i
module _ (n low high : ℕ) (s : List ℕ) (i : ℕ) where
  pub walk_done : (left : ℕ) → left ≤ 0 → follow n (ranges left low high) (drop i s) ≡ char n
  unfolding follow
  walk_done zero h = refl
  walk_done (suc l) h = absurd (omega arith)

  pub walk_cut : (left : ℕ) → 0 < left → length s ≤ i → follow n (ranges left low high) (drop i s) ≡ cut n
  unfolding follow
  walk_cut zero h e = absurd (omega arith)
  walk_cut (suc l) h e = rw (drop_of_length-le s e)

  pub walk-bad : (left : ℕ) → 0 < left → i < length s → within (low to high) (get_or s i 0) ≡ false
      → follow n (ranges left low high) (drop i s) ≡ bad n
  unfolding follow
  walk-bad zero h e o = absurd (omega arith)
  walk-bad (suc l) h e o = rw (drop-cons s i 0 e, o)

  pub walk_on : (left : ℕ) (t : Step) → follow n (ranges left low high) (drop i s) ≡ t → (rs : List Range)
      → rs ≡ drop 1 (ranges left low high) → 0 < left → i < length s → within (low to high) (get_or s i 0) ≡ true
      → follow (n + 1) rs (drop (i + 1) s) ≡ t
  unfolding follow
  walk_on zero t k rs r h e o = absurd (omega arith)
  walk_on (suc l) t k rs r h e o = rw (r, add-one n, add-one i) ((rw (drop-cons s i 0 e, o) at k))

pub first-end : (s : List ℕ) (i : ℕ) → length s ≤ i → None ≡ first_bad_from i (drop i s)
first-end s i h = rw (drop_of_length-le s h, first-bad_nil i)

-- at a place before the end
module _ (s : List ℕ) (i : ℕ) (h : i < length s) where
  pub some_left : 0 < length (drop i s)
  some_left = simp length-drop (omega arith)

  -- a character takes at least one byte, and no more than there are
  pub char-size : (n : ℕ) → step_of (drop i s) ≡ char n → (0 < n) × (i + n ≤ length s)
  char-size n e = let (least, most) = char_within (drop i s) n some_left e in (least, omega (arith, simp length-drop at most))

  pub ascii-char : get_or s i 0 < 0x80 → step_of (drop i s) ≡ char 1
  unfolding grammar follow
  ascii-char a =
      sym (step_first (drop i s) (get_or s i 0) (drop (suc i) s) (drop-cons s i 0 h) (Some [])
      (sym (after-at 0 (get_or s i 0) (omega arith))))

  pub first_char : (n : ℕ) → step_of (drop i s) ≡ char n → first_bad_from i (drop i s) ≡ first_bad_from (i + n) (drop (i + n) s)
  first_char n e = first-bad-char (drop i s) some_left i n e ∙ ap (first_bad_from (i + n)) (drop-drop n i s)

  pub first-other : (t : Step) → step_of (drop i s) ≡ t → is_char t ≡ false → first_bad_from i (drop i s) ≡ Some i
  first-other t e f = first-bad-other (drop i s) some_left i t e f

-- what one turn of `first_bad` needs
pub ruleset bad_turns = (first-bad_zero, no_char, char-size, ascii-char, first_char, first-other, first-end, take_rest)

-- what one turn of `first_step` needs
pub ruleset step_turns = (step_past, step_none, step_lead, walk_done, walk_cut, walk-bad, take_rest, length-drop)
