-- A walk over the lines of a text: one turn of it, `next_line`, and that its turns give the lines. The same of the records of a source.
-- Assumes nothing.
use Rattle.std.specs.Prelude.{◌≡◌, refl, Bool, true, false, cond, List, [], ◌∷◌, ◌++◌, ℕ, suc, ◌-◌, ◌≤◌, ◌<◌, eqb, ltb, length, take}
use Rattle.std.specs.Prelude.{drop, get_or}
use Rattle.std.proofs.Common.{sym, ap, ap₂, ◌∙◌, subst, append-nil, append_assoc, le_refl, arith, lt-ltb, ltb-true, length-take}
use Rattle.std.proofs.Common.{take-take, length-take-le}
use Rattle.std.specs.Prelude.{Option, None, Some}
use Rattle.laws.specs.OptionLaws.{none-ne-some, some-injective}
use Rattle.std.proofs.Math.Dec.{leb-suc-suc}
use Rattle.std.proofs.Math.Seq.{append_snoc, drop-length, take-length}
use Rattle.spec.specs.Line.{lf, cr, less_cr, with_lf, without_lf, last_line, lines_after, lines}
use Rattle.spec.specs.Load.{Form, vocabulary, records_in}

-- how many bytes stand before the first LF: all, if there is none
unfoldable pub before_lf : List ℕ → ℕ
before_lf [] = 0
before_lf (b ∷ s) = cond (eqb b lf) 0 (suc (before_lf s))

-- The first line of a text: how many bytes it has, and after how many the next one starts.
pub record First : Type 0 where
  pub size : ℕ
  pub next : ℕ

-- the first line of a text whose first LF, if it has one, stands behind n bytes
abbrev pub first_line : ℕ → List ℕ → First
first_line n s =
    cond (ltb n (length s))
    (record { size = length (with_lf (take n s)); next = suc n })
    (record { size = length (without_lf s); next = length s })

-- One turn of a walk: the first line, none if there is no text.
unfoldable pub next_line : List ℕ → Option First
unfolding before_lf less_cr
next_line [] = None
next_line (b ∷ s) = Some (first_line (before_lf (b ∷ s)) (b ∷ s))

-- the line of a turn, and the lines of what follows it
abbrev pub turn : Option First → List ℕ → List (List ℕ)
turn None s = []
turn (Some f) s = take f.size s ∷ lines (drop f.next s)

-- ── The walk gives the lines ─────────────────────────────────────────

-- a line less a CR is its first bytes
pub less_cr-le : (l : List ℕ) → length (less_cr l) ≤ length l
unfolding less_cr
less_cr-le l = go (eqb (get_or l (length l - 1) 0) cr)
  where
    go : (c : Bool) → length (cond c (take (length l - 1) l) l) ≤ length l
    go true = let e = length-take-le (length l - 1) l (omega arith) in omega arith
    go false = le_refl (length l)

pub less_cr-take : (l : List ℕ) → less_cr l ≡ take (length (less_cr l)) l
unfolding less_cr
less_cr-take l = go (eqb (get_or l (length l - 1) 0) cr)
  where
    go : (c : Bool) → cond c (take (length l - 1) l) l ≡ take (length (cond c (take (length l - 1) l) l)) l
    go true = ap (λ (n : ℕ). take n l) (sym (length-take-le (length l - 1) l (omega arith)))
    go false = sym (take-length l)

with_lf-take : (l : List ℕ) → with_lf l ≡ take (length (with_lf l)) l
with_lf-take l =
    less_cr-take (less_cr l)
    ∙ ap (take (length (with_lf l))) (less_cr-take l)
    ∙ take-take (length (with_lf l)) (length (less_cr l)) l (less_cr-le (less_cr l))

with_lf-le : (n : ℕ) (s : List ℕ) → length (with_lf (take n s)) ≤ n
with_lf-le n s =
    let h = less_cr-le (less_cr (take n s)) in
    let k = less_cr-le (take n s) in
    let e = length-take n s in
    omega arith

pub before_lf-le : (s : List ℕ) → before_lf s ≤ length s
unfolding before_lf
before_lf-le [] = le_refl 0
before_lf-le (b ∷ s) = go (eqb b lf) (before_lf-le s)
  where
    go : (c : Bool) → before_lf s ≤ length s → cond c 0 (suc (before_lf s)) ≤ suc (length s)
    go true h = omega arith
    go false h = omega arith

-- a text with an LF: the line up to it, then the lines behind it
abbrev up_to_lf : List ℕ → List ℕ → List (List ℕ)
up_to_lf l s =
    cond (ltb (before_lf s) (length s))
    (with_lf (l ++ take (before_lf s) s) ∷ lines (drop (suc (before_lf s)) s))
    (last_line (l ++ s))

lines_after-first : (l s : List ℕ) → lines_after l s ≡ up_to_lf l s
unfolding lines_after before_lf lines
lines_after-first l [] = ap last_line (sym (append-nil l))
lines_after-first l (b ∷ s) = go (eqb b lf) (lines_after-first (l ++ b ∷ []) s)
  where
    go : (c : Bool) → lines_after (l ++ b ∷ []) s ≡ up_to_lf (l ++ b ∷ []) s
        → cond c (with_lf l ∷ lines_after [] s) (lines_after (l ++ b ∷ []) s)
        ≡ cond (ltb (cond c 0 (suc (before_lf s))) (suc (length s)))
        (with_lf (l ++ take (cond c 0 (suc (before_lf s))) (b ∷ s)) ∷ lines (drop (suc (cond c 0 (suc (before_lf s)))) (b ∷ s)))
        (last_line (l ++ b ∷ s))
    go true h = rw (lt-ltb 0 (suc (length s)) (omega arith), append-nil)
    go false h =
        h
        ∙ rw (
          leb-suc-suc (suc (before_lf s)) (length s),
          ← append_snoc l b (take (before_lf s) s),
          ← append_snoc l b s,
          append_assoc,
          append_assoc,
        )

-- Each turn of the walk gives the first line, and the walk goes on behind it.
pub lines_next : (s : List ℕ) → lines s ≡ turn (next_line s) s
unfolding lines next_line
lines_next [] = refl
lines_next (b ∷ s) = lines_after-first [] (b ∷ s) ∙ go (ltb (before_lf (b ∷ s)) (length (b ∷ s)))
  where
    n : ℕ
    n = before_lf (b ∷ s)

    go : (c : Bool)
        → cond c (with_lf (take n (b ∷ s)) ∷ lines (drop (suc n) (b ∷ s))) (last_line (b ∷ s))
        ≡ turn (Some (cond c
        (record { size = length (with_lf (take n (b ∷ s))); next = suc n })
        (record { size = length (without_lf (b ∷ s)); next = length (b ∷ s) }))) (b ∷ s)
    go true =
        ap (λ (l : List ℕ). l ∷ lines (drop (suc n) (b ∷ s)))
        (with_lf-take (take n (b ∷ s))
        ∙ take-take (length (with_lf (take n (b ∷ s)))) n (b ∷ s) (with_lf-le n (b ∷ s)))
    go false = ap₂ (λ (l r : List ℕ). l ∷ lines r) (less_cr-take (b ∷ s)) (sym (drop-length s))

-- A turn goes on, and stays in a text of m bytes.
abbrev pub Stays : First → ℕ → Type 0
Stays f m = (0 < f.next) × (f.next ≤ m) × (f.size ≤ f.next)

first_line-stays : (n : ℕ) (s : List ℕ) → 0 < length s → Stays (first_line n s) (length s)
first_line-stays n s h = go (ltb n (length s)) refl
  where
    go : (c : Bool) → ltb n (length s) ≡ c
        → Stays (cond c
        (record { size = length (with_lf (take n s)); next = suc n })
        (record { size = length (without_lf s); next = length s })) (length s)
    go true q = (omega arith, ltb-true n (length s) q, let k = with_lf-le n s in omega arith)
    go false q = (h, le_refl (length s), less_cr-le s)

pub next_line-stays : (s : List ℕ) (f : First) → next_line s ≡ Some f → Stays f (length s)
unfolding next_line
next_line-stays [] f e = absurd (none-ne-some f e)
next_line-stays (b ∷ s) f e =
    subst (λ (g : First). Stays g (length (b ∷ s)))
    (some-injective (first_line (before_lf (b ∷ s)) (b ∷ s)) f e)
    (first_line-stays (before_lf (b ∷ s)) (b ∷ s) (omega arith))

-- ── The records of a source ──────────────────────────────────────────

-- One turn of a walk: the first record, none if there is none. A record of a text is a line.
unfoldable pub next_in : Form → List ℕ → Option First
unfolding next_line
next_in (vocabulary edition) = next_line

-- the record of a turn, and the records of what follows it
abbrev pub turn_in : Form → Option First → List ℕ → List (List ℕ)
turn_in form None s = []
turn_in form (Some f) s = take f.size s ∷ records_in form (drop f.next s)

-- Each turn gives the first record, and the walk goes on behind it.
pub records_next : (form : Form) (s : List ℕ) → records_in form s ≡ turn_in form (next_in form s) s
unfolding records_in next_in
records_next (vocabulary edition) s = lines_next s ∙ go (next_line s)
  where
    go : (o : Option First) → turn o s ≡ turn_in (vocabulary edition) o s
    go None = refl
    go (Some f) = refl

pub next-stays : (form : Form) (s : List ℕ) (f : First) → next_in form s ≡ Some f → Stays f (length s)
unfolding next_in
next-stays (vocabulary edition) s f e = next_line-stays s f e
