-- What a literal's reader leaves, from a place inside the quotes on; a law for each way a turn can go. Assumes nothing.
use Rattle.std.proofs.Common.{◌≡◌, refl, sym, ap, ◌∙◌, subst, ℕ, zero, suc, ◌+◌, ◌-◌, ◌/◌, ◌%◌, ◌≤◌, ◌<◌, Bool, true, false, ◌&&◌, ◌||◌}
use Rattle.std.proofs.Common.{cond, Option, None, Some, option_map, List, [], ◌∷◌, ◌++◌, length, take, drop, get_or, set, eqb, leb, ltb}
use Rattle.std.proofs.Common.{add-zero, zero-add, le_refl, lit≤, lit<, arith, true≢false, length-drop, length-append}
use Rattle.std.proofs.Common.{take-append-drop, take_all, length-take-le, eq-eqb, ne_eqb, le-leb}
use Rattle.std.proofs.lemmas.Bool.{false≢true, lt-leb}
use Rattle.std.proofs.lemmas.List.{take_rest}
use Rattle.std.specs.Option.{option_or}
use lib.Pointwise.{pointwise}
use lib.Seq.{sets, sets-eq, length-sets, set_out}
use native.Mathlib.Decide.{dec_le}
use Rattle.spec.specs.Options.{bind}
use Rattle.spec.specs.Lists.{over}
use Rattle.spec.specs.Utf8.{◌to◌, within, utf8_of}
use Rattle.spec.specs.Digits.{hex_run, octal_run}
use Rattle.spec.specs.Literal.{Piece, Escapes, backslash, letter_b, letters, more_letters, look_up, escaped, byte_escape, point_escape}
use Rattle.spec.specs.Literal.{escape, octal_escape, escape2, escapes_of, piece_at, Read, bad, put, inside, is_quote, quoted, read}
use Rattle.spec.specs.Literal.{literal}
use Rattle.literal.specs.Answers.{Left, left, stored}
use Rattle.numbers.proofs.Numbers.{hex-long, octal-within, octal_three}

-- of what is left of a slice from n on
pub part-length : (n : ℕ) (s : List ℕ) → length (take (length s - n) (drop n s)) ≡ length s - n
part-length n s = rw take_rest (length-drop n s)

-- ── Stores ───────────────────────────────────────────────────────────

sets_append : (l : List ℕ) (n : ℕ) (bs cs : List ℕ) → sets l n (bs ++ cs) ≡ sets (sets l n bs) (n + length bs) cs
sets_append l n [] cs = rw add-zero
sets_append l n (b ∷ bs) cs =
    let e : suc n + length bs ≡ n + suc (length bs) = omega arith in
    sets_append (set l n b) (suc n) bs cs ∙ ap (λ (z : ℕ). sets (sets (set l n b) (suc n) bs) z cs) e

-- a store past the last cell changes nothing
sets_out : (l : List ℕ) (n : ℕ) (bs : List ℕ) → length l ≤ n → sets l n bs ≡ l
sets_out l n [] h = refl
sets_out l n (b ∷ bs) h = rw (set_out l n b h) (sets_out l (suc n) bs (omega arith))

sets_fit : (bs l : List ℕ) → length bs ≤ length l → sets l 0 bs ≡ over bs l
sets_fit bs l h = sets-eq bs l 0 (rw zero-add h) ∙ rw zero-add

-- bytes that are stored from the start on stand over the first cells, as far as they fit
sets_stored : (bs l : List ℕ) → sets l 0 bs ≡ stored bs l
sets_stored bs l = go (dec_le (length bs) (length l))
  where
    k : ℕ
    k = length l

    go : Dec (length bs ≤ length l) → sets l 0 bs ≡ stored bs l
    go (yes h) = rw (take_all k bs h) (sets_fit bs l h)
    go (no n) =
        let h : k < length bs = omega arith in
        let e : length (take k bs) ≡ k = length-take-le k bs (omega arith) in
        ap (sets l 0) (sym (take-append-drop k bs))
        ∙ sets_append l 0 (take k bs) (drop k bs)
        ∙ sets_out (sets l 0 (take k bs)) (0 + length (take k bs)) (drop k bs) (rw (length-sets, e, zero-add) (le_refl k))
        ∙ sets_fit (take k bs) l (omega arith)

-- ── No piece stands for more bytes than it takes, nor takes more than there are

pub utf8_short : (c : ℕ) → length (utf8_of c) ≤ 4
unfolding utf8_of
utf8_short c =
    go (leb c 0x7F) (leb c 0x7FF) (within (0xD800 to 0xDFFF) c) (leb c 0xFFFF) (leb c 0x10FFFF)
  where
    go : (x y s z w : Bool)
        → length (cond x (c ∷ [])
        (cond y ((0xC0 + c / 64) ∷ (0x80 + c % 64) ∷ [])
        (cond s []
        (cond z ((0xE0 + c / 4096) ∷ (0x80 + c / 64 % 64) ∷ (0x80 + c % 64) ∷ [])
        (cond w ((0xF0 + c / 262144) ∷ (0x80 + c / 4096 % 64) ∷ (0x80 + c / 64 % 64) ∷ (0x80 + c % 64) ∷ []) []))))) ≤ 4
    go true y s z w = lit≤ tt
    go false true s z w = lit≤ tt
    go false false true z w = lit≤ tt
    go false false false true w = lit≤ tt
    go false false false false true = lit≤ tt
    go false false false false false = lit≤ tt

-- three octal digits or fewer
utf8_octal : (v k : ℕ) → v < 512 → (k ≡ 0 → v < 1) → length (utf8_of v) ≤ suc k
unfolding utf8_of
utf8_octal v zero h z = rw (le-leb v 0x7F (let q = z refl in omega arith)) (lit≤ tt)
utf8_octal v (suc k) h z = rw (le-leb v 0x7FF (omega arith)) (go (leb v 0x7F))
  where
    go : (x : Bool) → length (cond x (v ∷ []) ((0xC0 + v / 64) ∷ (0x80 + v % 64) ∷ [])) ≤ suc (suc k)
    go true = omega arith
    go false = omega arith

-- of a piece with s behind its first byte
abbrev Short : List ℕ → Option Piece → Type 0
Short s None = Unit {0}
Short s (Some p) = (length p.bytes ≤ suc p.more) × (p.more ≤ length s)

short_byte : (in_b : Bool) (c : ℕ) (s : List ℕ) → Short (c ∷ s) (byte_escape in_b s)
unfolding byte_escape bind
short_byte in_b c s = go in_b (hex_run 2 s) refl
  where
    go : (b : Bool) (o : Option ℕ) → hex_run 2 s ≡ o → Short (c ∷ s) (escaped 3 (bind o (λ v. Some (cond b (v ∷ []) (utf8_of v)))))
    go b None e = tt
    go true (Some v) e = let h = hex-long 2 v s e in (lit≤ tt, omega arith)
    go false (Some v) e = let h = hex-long 2 v s e in (utf8_short v, omega arith)

short_point : (n : ℕ) → 4 ≤ n → (in_b : Bool) (c : ℕ) (s : List ℕ) → Short (c ∷ s) (point_escape n in_b s)
unfolding point_escape bind
short_point n l in_b c s = go (hex_run n s) refl
  where
    refused : ℕ → Bool
    refused v = in_b || (within (0xD800 to 0xDFFF) v || ltb 0x10FFFF v)

    put_in : (v : ℕ) (t : Bool) → n ≤ length s → Short (c ∷ s) (escaped (suc n) (cond t None (Some (utf8_of v))))
    put_in v true k = tt
    put_in v false k = let h = utf8_short v in (omega arith, omega arith)

    go : (o : Option ℕ) → hex_run n s ≡ o → Short (c ∷ s) (escaped (suc n) (bind o (λ v. cond (refused v) None (Some (utf8_of v)))))
    go None e = tt
    go (Some v) e = put_in v (refused v) (hex-long n v s e)

short_octal : (in_b : Bool) (s : List ℕ) → Short s (octal_escape in_b s)
unfolding octal_escape
short_octal in_b s =
    go in_b (octal_run 3 s).value (octal_run 3 s).count (octal_three s) (octal-within 0 3 s) (in_b && ltb 0xFF (octal_run 3 s).value)
  where
    go : (b : Bool) (v k : ℕ) → (k ≤ 3) × (v < 512) × (k ≡ 0 → v < 1) → k ≤ length s → (c : Bool)
        → Short s (escaped k (cond c None (Some (cond b (v ∷ []) (utf8_of v)))))
    go b v k h m true = tt
    go true v k h m false = (omega arith, m)
    go false v k h m false = (utf8_octal v k h.1 h.2, m)

short_letter : (ps : List (ℕ × ℕ)) (c : ℕ) (s : List ℕ) → Short (c ∷ s) (escaped 1 (look_up ps c))
unfolding look_up
short_letter [] c s = tt
short_letter (p ∷ ps) c s = go (eqb c p.0) (short_letter ps c s)
  where
    go : (t : Bool) → Short (c ∷ s) (escaped 1 (look_up ps c)) → Short (c ∷ s) (escaped 1 (cond t (Some (p.1 ∷ [])) (look_up ps c)))
    go true h = (lit≤ tt, omega arith)
    go false h = h

short_escape : (in_b : Bool) (s : List ℕ) → Short s (escape in_b s)
unfolding escape
short_escape in_b [] = tt
short_escape in_b (c ∷ s) = go (eqb c 0x78) (eqb c 0x75)
  where
    go : (x u : Bool)
        → Short (c ∷ s) (cond x (byte_escape in_b s) (cond u (point_escape 4 in_b s) (escaped 1 (look_up letters c))))
    go true u = short_byte in_b c s
    go false true = short_point 4 (lit≤ tt) in_b c s
    go false false = short_letter letters c s

short_or : (s : List ℕ) (o p : Option Piece) → Short s o → Short s p → Short s (option_or o p)
short_or s None p h k = k
short_or s (Some q) p h k = h

short_escape2 : (in_b : Bool) (s : List ℕ) → Short s (escape2 in_b s)
unfolding escape2
short_escape2 in_b [] = tt
short_escape2 in_b (c ∷ s) = go (within (0x30 to 0x37) c) (eqb c 0x55)
  where
    go : (o u : Bool)
        → Short (c ∷ s) (cond o (octal_escape in_b (c ∷ s))
        (cond u (point_escape 8 in_b s) (option_or (escaped 1 (look_up more_letters c)) (escape in_b (c ∷ s)))))
    go true u = short_octal in_b (c ∷ s)
    go false true = short_point 8 (lit≤ tt) in_b c s
    go false false = short_or (c ∷ s) (escaped 1 (look_up more_letters c)) _ (short_letter more_letters c s) (short_escape in_b (c ∷ s))

short_edition : (edition : ℕ) (in_b : Bool) (s : List ℕ) → Short s (escapes_of edition in_b s)
unfolding escapes_of
short_edition edition in_b s = go (eqb edition 2)
  where
    go : (t : Bool) → Short s (cond t escape2 escape in_b s)
    go true = short_escape2 in_b s
    go false = short_escape in_b s

-- what stands at a byte b, in an edition
pub bounds : (edition : ℕ) (in_b : Bool) (quote b : ℕ) (s : List ℕ) (p : Piece) → piece_at (escapes_of edition) in_b quote b s ≡ Some p
    → (length p.bytes ≤ suc p.more) × (p.more ≤ length s)
bounds edition in_b quote b s p e = subst (Short s) e (go (eqb b backslash) (eqb b quote || (in_b && leb 0x80 b)))
  where
    go : (x y : Bool) → Short s (cond x (escapes_of edition in_b s) (cond y None (Some (record { bytes = b ∷ []; more = 0 }))))
    go true y = short_edition edition in_b s
    go false true = tt
    go false false = (lit≤ tt, omega arith)

-- ── A turn ───────────────────────────────────────────────────────────

-- a piece that is read is written
left-put : (l : List ℕ) (n : ℕ) (bs : List ℕ) (r : Read) → left l n (put bs r) ≡ left (sets l n bs) (n + length bs) r
unfolding left
left-put l n bs r =
    let e : n + length (bs ++ r.bytes) ≡ n + length bs + length r.bytes = let q = length-append bs r.bytes in omega arith in
    rw (sets_append l n bs r.bytes, e)

module _ (escapes : Escapes) (in_b : Bool) (quote : ℕ) where
  inside-drop : (s : List ℕ) (k : ℕ) → inside escapes in_b quote s k ≡ inside escapes in_b quote (drop k s) 0
  unfolding inside
  inside-drop [] zero = refl
  inside-drop [] (suc k) = refl
  inside-drop (b ∷ s) zero = refl
  inside-drop (b ∷ s) (suc k) = inside-drop s k

  -- what is read of s
  abbrev from : List ℕ → Read
  from s = inside escapes in_b quote s 0

  module _ (l : List ℕ) (n : ℕ) where
    module _ (rest : List ℕ) (b : ℕ) (s : List ℕ) (first : rest ≡ b ∷ s) where
      -- the literal is bad from here on
      pub goes-bad : piece_at escapes in_b quote b s ≡ None → left l n (from rest) ≡ record { cells = l; answer = None }
      unfolding left inside
      goes-bad e = rw (first, e)

      -- a piece, written to the cells
      pub goes-on : (p : Piece) → piece_at escapes in_b quote b s ≡ Some p → (l' : List ℕ) → l' ≡ sets l n p.bytes
          → (n' : ℕ) → n' ≡ n + length p.bytes
          → left l' n' (from (take (length s - p.more) (drop p.more s))) ≡ left l n (from rest)
      unfolding inside
      goes-on p e l' cells n' count =
          rw (cells, count, first, e, take_rest, inside-drop s p.more) (sym (left-put l n p.bytes (from (drop p.more s))))

    -- the end
    pub goes-end : (rest : List ℕ) → length rest ≡ 0 → left l n (from rest) ≡ record { cells = l; answer = Some n }
    unfolding left inside
    goes-end [] e = rw add-zero
    goes-end (b ∷ s) e = absurd (omega arith)

-- ── The quotes ───────────────────────────────────────────────────────

module _ (escapes : Escapes) (in_b : Bool) (s : List ℕ) where
  pub too_short : length s < 2 → quoted escapes in_b s ≡ bad
  unfolding quoted
  too_short h = rw (lt-leb 2 (length s) h)

  pub no-quote : 2 ≤ length s → is_quote (get_or s 0 0) ≡ false → quoted escapes in_b s ≡ bad
  unfolding quoted
  no-quote h e = rw (le-leb 2 (length s) h, e)

  pub not-closed : 2 ≤ length s → is_quote (get_or s 0 0) ≡ true → (get_or s (length s - 1) 0 ≡ get_or s 0 0 → ⊥)
      → quoted escapes in_b s ≡ bad
  unfolding quoted
  not-closed h e n = rw (le-leb 2 (length s) h, e, ne_eqb (get_or s (length s - 1) 0) (get_or s 0 0) n)

  -- what is left of the part between the quotes is left of the whole
  pub all_closed : 2 ≤ length s → is_quote (get_or s 0 0) ≡ true → get_or s (length s - 1) 0 ≡ get_or s 0 0 → (l : List ℕ) (o : Left)
      → o ≡ left l 0 (inside escapes in_b (get_or s 0 0) (take (length s - 1 - 1) (drop 1 s)) 0) → o ≡ left l 0 (quoted escapes in_b s)
  unfolding quoted
  all_closed h e q l o k =
      let n : length s - 1 - 1 ≡ length s - 2 = omega arith in
      rw (le-leb 2 (length s) h, e, eq-eqb (get_or s (length s - 1) 0) (get_or s 0 0) q, ← n) k

-- a literal that is bad from its start leaves the cells as they were
pub bad-start : (l : List ℕ) (r : Read) → r ≡ bad → record { cells = l; answer = None } ≡ left l 0 r
unfolding left
bad-start l r e = rw e

module _ (edition : ℕ) where
  pub read-bytes : (s q : List ℕ) → pointwise eqb (take 1 s) (letter_b ∷ []) ≡ true → q ≡ drop 1 s
      → read edition s ≡ quoted (escapes_of edition) true q
  unfolding read
  read-bytes [] q e f = absurd (false≢true e)
  read-bytes (b ∷ s) q e f = rw f (go (eqb b letter_b) e)
    where
      go : (t : Bool) → (t && true) ≡ true
          → cond t (quoted (escapes_of edition) true s) (quoted (escapes_of edition) false (b ∷ s)) ≡ quoted (escapes_of edition) true s
      go true e = refl
      go false e = absurd (false≢true e)

  pub read-string : (s : List ℕ) → pointwise eqb (take 1 s) (letter_b ∷ []) ≡ false → read edition s ≡ quoted (escapes_of edition) false s
  unfolding read
  read-string [] e = sym (too_short (escapes_of edition) false [] (lit< tt))
  read-string (b ∷ s) e = go (eqb b letter_b) e
    where
      go : (t : Bool) → (t && true) ≡ false
          → cond t (quoted (escapes_of edition) true s) (quoted (escapes_of edition) false (b ∷ s))
          ≡ quoted (escapes_of edition) false (b ∷ s)
      go true e = absurd (true≢false e)
      go false e = refl

  -- what the whole reading leaves is what the literal stands for
  pub finished : (s cells₀ cells : List ℕ) (answer : Option ℕ)
      → record { cells = cells; answer = answer } ≡ left cells₀ 0 (read edition s)
      → (answer ≡ option_map length (literal edition s)) × (cells ≡ stored (read edition s).bytes cells₀)
  unfolding left literal
  finished s cells₀ cells answer e = (
    ap (λ (z : Left). z.answer) e ∙ go (read edition s).good,
    ap (λ (z : Left). z.cells) e ∙ sets_stored (read edition s).bytes cells₀,
  )
    where
      bs : List ℕ
      bs = (read edition s).bytes

      go : (c : Bool) → cond c (Some (0 + length bs)) None ≡ option_map length (cond c (Some bs) None)
      go true = ap {B = Option ℕ} Some (zero-add (length bs))
      go false = refl

pub ruleset turns = (part-length, bounds, goes-bad, goes-on, goes-end)

pub ruleset quotes = (bad-start, too_short, no-quote, not-closed, all_closed)
