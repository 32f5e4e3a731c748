-- The parts of a byte string are byte strings: lines, fields, and what a literal stands for. Assumes nothing.
use Rattle.std.specs.Prelude.{◌≡◌, refl, Bool, not, ◌&&◌, ◌||◌, eqb, leb, ltb, length, take, drop, get_or}
use Rattle.std.proofs.Common.{◌∙◌, subst, arith, leb-true, ltb-true, ltb-false}
use Rattle.std.proofs.Math.Bool.{true, false, cond}
use Rattle.std.specs.Prelude.{Option, None, Some}
use Rattle.std.specs.Option.{option_or}
use Rattle.spec.specs.Options.{bind}
use mathlib.Core.List.{List, [], ◌∷◌, ◌++◌}
use Prim.Native.Nat.{ℕ, zero, suc, ◌+◌, ◌-◌, ◌/◌, ◌%◌, ◌<◌}
use Rattle.spec.specs.Lists.{all, Bytes}
use Rattle.spec.specs.Check.{pass, given, need}
use Rattle.spec.specs.Utf8.{◌to◌, within, utf8_of, blank}
use Rattle.spec.specs.Digits.{hex_run, octal_run}
use Rattle.spec.specs.Line.{lf, cr, less_cr, with_lf, last_line, lines_after, lines, Fields, first_space, last_space, parted, placed}
use Rattle.spec.specs.Line.{fields}
use Rattle.spec.specs.Literal.{Piece, Escapes, letters, look_up, escaped, byte_escape, point_escape, escape, more_letters, octal_escape}
use Rattle.spec.specs.Literal.{escape2, escapes_of, plain, bad, piece, closed, piece_at, inside, quoted, read_with, read, literal}
use Rattle.spec.specs.Load.{Form, vocabulary, records_in}
use Rattle.laws.specs.OptionLaws.{none-ne-some}
use Rattle.laws.specs.Tests.{and_l, and_r}
use Rattle.laws.specs.LiteralLaws.{hex_run_lt}
use Rattle.loading.specs.Checks.{need-pass, given-pass}

-- every list of ls is a byte string
abbrev pub AllBytes : List (List ℕ) → Type 0
AllBytes [] = Unit {0}
AllBytes (l ∷ ls) = Bytes l × AllBytes ls

pub bytes_append : (s t : List ℕ) → Bytes s → Bytes t → Bytes (s ++ t)
bytes_append [] t a b = b
bytes_append (x ∷ s) t a b = (a.0, bytes_append s t a.1 b)

pub bytes_take : (n : ℕ) (s : List ℕ) → Bytes s → Bytes (take n s)
bytes_take zero s a = tt
bytes_take (suc n) [] a = tt
bytes_take (suc n) (x ∷ s) a = (a.0, bytes_take n s a.1)

pub bytes_drop : (n : ℕ) (s : List ℕ) → Bytes s → Bytes (drop n s)
bytes_drop zero s a = a
bytes_drop (suc n) [] a = tt
bytes_drop (suc n) (x ∷ s) a = bytes_drop n s a.1

-- a choice of two byte strings
pub bytes_cond : (c : Bool) (s t : List ℕ) → (c ≡ true → Bytes s) → (c ≡ false → Bytes t) → Bytes (cond c s t)
bytes_cond true s t a b = a refl
bytes_cond false s t a b = b refl

-- ---- lines

less_bytes : (l : List ℕ) → Bytes l → Bytes (less_cr l)
unfolding less_cr
less_bytes l h = bytes_cond (eqb (get_or l (length l - 1) 0) cr) (take (length l - 1) l) l (λ e. bytes_take (length l - 1) l h) (λ e. h)

last_bytes : (l : List ℕ) → Bytes l → AllBytes (last_line l)
last_bytes [] h = tt
last_bytes (b ∷ l) h = (less_bytes (b ∷ l) h, tt)

after-bytes : (l s : List ℕ) → Bytes l → Bytes s → AllBytes (lines_after l s)
unfolding lines_after
after-bytes l [] h k = last_bytes l h
after-bytes l (b ∷ s) h k = go (eqb b lf) (after-bytes [] s tt k.1)
    (after-bytes (l ++ (b ∷ [])) s (bytes_append l (b ∷ []) h (k.0, tt)) k.1)
  where
    go : (c : Bool) → AllBytes (lines_after [] s) → AllBytes (lines_after (l ++ (b ∷ [])) s)
        → AllBytes (cond c (with_lf l ∷ lines_after [] s) (lines_after (l ++ (b ∷ [])) s))
    go true p q = (less_bytes (less_cr l) (less_bytes l h), p)
    go false p q = q

-- the lines of a byte string are byte strings
lines-bytes : (text : List ℕ) → Bytes text → AllBytes (lines text)
unfolding lines
lines-bytes text h = after-bytes [] text tt h

-- so are the records of a source
pub records_bytes : (form : Form) (body : List ℕ) → Bytes body → AllBytes (records_in form body)
unfolding records_in
records_bytes (vocabulary edition) body h = lines-bytes body h

-- ---- fields

-- the literal of a line is a part of it
pub fields-bytes : (line : List ℕ) (f : Fields) → fields line ≡ pass f → Bytes line → Bytes f.literal
unfolding fields
fields-bytes line f e h =
    let (a, e₁) = need-pass 3 (not (blank line)) (given 4 (first_space line)
    (λ first. given 4 (last_space line) (λ last. need 5 (placed first last line) (pass (parted first last line))))) f e in
    let (first, p, e₂) = given-pass 4 (first_space line) (λ first. given 4 (last_space line)
    (λ last. need 5 (placed first last line) (pass (parted first last line)))) f e₁ in
    let (last, q, e₃) = given-pass 4 (last_space line) (λ last. need 5 (placed first last line) (pass (parted first last line))) f e₂ in
    let (t, e₄) = need-pass 5 (placed first last line) (pass (parted first last line)) f e₃ in
    let z : parted first last line ≡ f = cc in
    subst (λ (g : Fields). Bytes g.literal) z (bytes_take (last - suc first) (drop (suc first) line) (bytes_drop (suc first) line h))

-- ---- literals

-- a code point's bytes are bytes
pub utf8_bytes : (c : ℕ) → Bytes (utf8_of c)
unfolding utf8_of
utf8_bytes c =
    bytes_cond (leb c 0x7F) (c ∷ []) _ (λ e. let h = leb-true c 0x7F e in (omega arith, tt)) (λ e.
    bytes_cond (leb c 0x7FF) ((0xC0 + c / 64) ∷ (0x80 + c % 64) ∷ []) _
    (λ e. let h = leb-true c 0x7FF e in (omega arith, (omega arith, tt))) (λ e.
    bytes_cond (within (0xD800 to 0xDFFF) c) [] _ (λ e. tt) (λ e.
    bytes_cond (leb c 0xFFFF) ((0xE0 + c / 4096) ∷ (0x80 + c / 64 % 64) ∷ (0x80 + c % 64) ∷ []) _
    (λ e. let h = leb-true c 0xFFFF e in (omega arith, (omega arith, (omega arith, tt)))) (λ e.
    bytes_cond (leb c 0x10FFFF) ((0xF0 + c / 262144) ∷ (0x80 + c / 4096 % 64) ∷ (0x80 + c / 64 % 64) ∷ (0x80 + c % 64) ∷ []) []
    (λ e. let h = leb-true c 0x10FFFF e in (omega arith, (omega arith, (omega arith, (omega arith, tt))))) (λ e. tt)))))

bind_some : {A B : Type 0} (o : Option A) (k : A → Option B) (b : B) → bind o k ≡ Some b → (a : A) × (o ≡ Some a) × (k a ≡ Some b)
unfolding bind
bind_some None k b e = absurd (none-ne-some b e)
bind_some (Some a) k b e = (a, refl, e)

escape-of : (n : ℕ) (o : Option (List ℕ)) (p : Piece) → ((bs : List ℕ) → o ≡ Some bs → Bytes bs) → escaped n o ≡ Some p → Bytes p.bytes
escape-of n None p h e = absurd (none-ne-some p e)
escape-of n (Some bs) p h e = let z : record { bytes = bs; more = n } ≡ p = cc in subst (λ (q : Piece). Bytes q.bytes) z (h bs refl)

-- a table whose bytes are bytes, by a test over all of it
letter_bytes : (ps : List (ℕ × ℕ)) (c : ℕ) (bs : List ℕ) → all (λ (p : ℕ × ℕ). ltb p.1 256) ps ≡ true → look_up ps c ≡ Some bs → Bytes bs
unfolding look_up all
letter_bytes [] c bs h e = absurd (none-ne-some bs e)
letter_bytes (p ∷ ps) c bs h e = go (eqb c p.0) e (λ k. letter_bytes ps c bs (and_r (ltb p.1 256) _ h) k)
  where
    go : (t : Bool) → cond t (Some (p.1 ∷ [])) (look_up ps c) ≡ Some bs → (look_up ps c ≡ Some bs → Bytes bs) → Bytes bs
    go true e k = let z : p.1 ∷ [] ≡ bs = cc in subst Bytes z (ltb-true p.1 256 (and_l (ltb p.1 256) _ h), tt)
    go false e k = k e

-- a set of escapes that stand for bytes
abbrev ToBytes : Escapes → Type 0
ToBytes escapes = (in_b : Bool) (s : List ℕ) (p : Piece) → escapes in_b s ≡ Some p → Bytes p.bytes

-- a code point, unless it is refused
point_or : (t : Bool) (v : ℕ) (bs : List ℕ) → cond t None (Some (utf8_of v)) ≡ Some bs → Bytes bs
point_or true v bs e = absurd (none-ne-some bs e)
point_or false v bs e = let z : utf8_of v ≡ bs = cc in subst Bytes z (utf8_bytes v)

byte_escapes : ToBytes byte_escape
unfolding byte_escape
byte_escapes in_b s p e = escape-of 3 (bind (hex_run 2 s) (λ v. Some (cond in_b (v ∷ []) (utf8_of v)))) p two e
  where
    two : (bs : List ℕ) → bind (hex_run 2 s) (λ v. Some (cond in_b (v ∷ []) (utf8_of v))) ≡ Some bs → Bytes bs
    two bs e =
        let (v, q, r) = bind_some (hex_run 2 s) (λ v. Some (cond in_b (v ∷ []) (utf8_of v))) bs e in
        let h = hex_run_lt 2 v s q in
        let z : cond in_b (v ∷ []) (utf8_of v) ≡ bs = cc in
        subst Bytes z (bytes_cond in_b (v ∷ []) (utf8_of v) (λ t. (omega arith, tt)) (λ t. utf8_bytes v))

point_escapes : (n : ℕ) → ToBytes (point_escape n)
unfolding point_escape
point_escapes n in_b s p e = escape-of (suc n) (bind (hex_run n s) points) p all e
  where
    refused : ℕ → Bool
    refused v = in_b || (within (0xD800 to 0xDFFF) v || ltb 0x10FFFF v)

    points : ℕ → Option (List ℕ)
    points v = cond (refused v) None (Some (utf8_of v))

    all : (bs : List ℕ) → bind (hex_run n s) points ≡ Some bs → Bytes bs
    all bs e = let (v, q, r) = bind_some (hex_run n s) points bs e in point_or (refused v) v bs r

octal_escapes : ToBytes octal_escape
unfolding octal_escape
octal_escapes in_b s p e =
    escape-of (octal_run 3 s).count (told in_b (ltb 0xFF v)) p (λ bs. of in_b (ltb 0xFF v) refl bs) e
  where
    v : ℕ
    v = (octal_run 3 s).value

    told : Bool → Bool → Option (List ℕ)
    told b t = cond (b && t) None (Some (cond b (v ∷ []) (utf8_of v)))

    of : (b t : Bool) → ltb 0xFF v ≡ t → (bs : List ℕ) → told b t ≡ Some bs → Bytes bs
    of true true h bs e = absurd (none-ne-some bs e)
    of true false h bs e =
        let k = ltb-false 0xFF v h in
        let z : v ∷ [] ≡ bs = cc in
        subst Bytes z (omega (arith, k), tt)
    of false t h bs e = point_or false v bs e

letter_escapes : (ps : List (ℕ × ℕ)) (c : ℕ) (p : Piece) → all (λ (p : ℕ × ℕ). ltb p.1 256) ps ≡ true
    → escaped 1 (look_up ps c) ≡ Some p → Bytes p.bytes
letter_escapes ps c p h e = escape-of 1 (look_up ps c) p (λ bs k. letter_bytes ps c bs h k) e

first-edition : ToBytes escape
unfolding escape all
first-edition in_b [] p e = absurd (none-ne-some p e)
first-edition in_b (c ∷ s) p e = go (eqb c 0x78) (eqb c 0x75) e
  where
    go : (x u : Bool) → cond x (byte_escape in_b s) (cond u (point_escape 4 in_b s) (escaped 1 (look_up letters c))) ≡ Some p
        → Bytes p.bytes
    go true u e = byte_escapes in_b s p e
    go false true e = point_escapes 4 in_b s p e
    go false false e = letter_escapes letters c p refl e

second_edition : ToBytes escape2
unfolding escape2 all
second_edition in_b [] p e = absurd (none-ne-some p e)
second_edition in_b (c ∷ s) p e = go (within (0x30 to 0x37) c) (eqb c 0x55) (escaped 1 (look_up more_letters c)) refl e
  where
    go : (o u : Bool) (l : Option Piece) → escaped 1 (look_up more_letters c) ≡ l
        → cond o (octal_escape in_b (c ∷ s)) (cond u (point_escape 8 in_b s) (option_or l (escape in_b (c ∷ s)))) ≡ Some p → Bytes p.bytes
    go true u l h e = octal_escapes in_b (c ∷ s) p e
    go false true l h e = point_escapes 8 in_b s p e
    go false false (Some q) h e = letter_escapes more_letters c p refl (h ∙ e)
    go false false None h e = first-edition in_b (c ∷ s) p e

of_edition : (edition : ℕ) → ToBytes (escapes_of edition)
unfolding escapes_of
of_edition edition in_b s p e = go (eqb edition 2) e
  where
    go : (t : Bool) → cond t escape2 escape in_b s ≡ Some p → Bytes p.bytes
    go true e = second_edition in_b s p e
    go false e = first-edition in_b s p e

plain-bytes : (in_b : Bool) (quote b : ℕ) (p : Piece) → b < 256 → plain in_b quote b ≡ Some p → Bytes p.bytes
plain-bytes in_b quote b p h e = go (eqb b quote || (in_b && leb 0x80 b)) e
  where
    go : (t : Bool) → cond t None (Some (record { bytes = b ∷ []; more = 0 })) ≡ Some p → Bytes p.bytes
    go true e = absurd (none-ne-some p e)
    go false e = let z : record { bytes = b ∷ []; more = 0 } ≡ p = cc in subst (λ (q : Piece). Bytes q.bytes) z (h, tt)

module _ (escapes : Escapes) (to-bytes : ToBytes escapes) where
  inside-bytes : (in_b : Bool) (quote : ℕ) (s : List ℕ) (k : ℕ) → Bytes s → Bytes (inside escapes in_b quote s k).bytes
  unfolding inside
  inside-bytes in_b quote [] k h = tt
  inside-bytes in_b quote (b ∷ s) (suc k) h = inside-bytes in_b quote s k h.1
  inside-bytes in_b quote (b ∷ s) zero h = go (piece_at escapes in_b quote b s) (λ p e. one (eqb b 0x5C) p e)
      (λ k. inside-bytes in_b quote s k h.1)
    where
      one : (t : Bool) (p : Piece) → cond t (escapes in_b s) (plain in_b quote b) ≡ Some p → Bytes p.bytes
      one true p e = to-bytes in_b s p e
      one false p e = plain-bytes in_b quote b p h.0 e

      go : (o : Option Piece) → ((p : Piece) → o ≡ Some p → Bytes p.bytes) → ((k : ℕ) → Bytes (inside escapes in_b quote s k).bytes)
          → Bytes (piece o (λ k. inside escapes in_b quote s k)).bytes
      go None a r = tt
      go (Some p) a r = bytes_append p.bytes (inside escapes in_b quote s p.more).bytes (a p refl) (r p.more)

  quoted-bytes : (in_b : Bool) (s : List ℕ) → Bytes s → Bytes (quoted escapes in_b s).bytes
  unfolding quoted
  quoted-bytes in_b s h = go (closed s)
    where
      go : (t : Bool) → Bytes (cond t (inside escapes in_b (get_or s 0 0) (take (length s - 2) (drop 1 s)) 0) bad).bytes
      go true = inside-bytes in_b (get_or s 0 0) (take (length s - 2) (drop 1 s)) 0
          (bytes_take (length s - 2) (drop 1 s) (bytes_drop 1 s h))
      go false = tt

  read-bytes : (s : List ℕ) → Bytes s → Bytes (read_with escapes s).bytes
  unfolding read_with
  read-bytes [] h = tt
  read-bytes (b ∷ s) h = go (eqb b 0x62)
    where
      go : (t : Bool) → Bytes (cond t (quoted escapes true s) (quoted escapes false (b ∷ s))).bytes
      go true = quoted-bytes true s h.1
      go false = quoted-bytes false (b ∷ s) h

-- what a literal stands for is a byte string
pub literal-bytes : (edition : ℕ) (s bs : List ℕ) → literal edition s ≡ Some bs → Bytes s → Bytes bs
unfolding literal read
literal-bytes edition s bs e h = go (read_with (escapes_of edition) s).good e
  where
    go : (t : Bool) → cond t (Some (read_with (escapes_of edition) s).bytes) None ≡ Some bs → Bytes bs
    go true e =
        let z : (read_with (escapes_of edition) s).bytes ≡ bs = cc in
        subst Bytes z (read-bytes (escapes_of edition) (of_edition edition) s h)
    go false e = absurd (none-ne-some bs e)
