-- Lossy text by its parts: bounds on its length, the first ill-formed part, and one turn of `spread`. Assumes nothing.
use Rattle.std.proofs.Common.{◌≡◌, refl, ap, sym, ◌∙◌, Bool, true, false, List, [], ◌∷◌, ◌++◌, append_assoc, append-nil, ℕ, zero, suc}
use Rattle.std.proofs.Common.{◌+◌, ◌-◌, ◌*◌, ◌≤◌, ◌<◌, arith, length, take, drop}
use Rattle.std.proofs.Common.{length-append, length-drop, length-take-le, take-add, drop-drop}
use Rattle.std.specs.Prelude.{cond, Option, None, Some}
use Rattle.decoding.proofs.DecodePasses.{rest_size}
use borrow.Rule.Slice.PartMut.{put_mid, same_len_mid}
use lib.Seq.{paste, length-paste, take-append_seam, drop-append_seam, take-length}
use Rattle.std.proofs.lemmas.List.{take-append-drop, take_rest}
use Rattle.std.proofs.lemmas.List.Edits.{take-paste, drop-paste}
use Rattle.std.proofs.lemmas.Slice.{take-put_mid, drop-put_mid}
use Rattle.std.specs.List.{copy_within}
use Rattle.spec.specs.Utf8.{Range, within, after, Step, char, bad, cut, follow, followed, step_of, size, is_char, replacement}
use Rattle.spec.specs.Utf8.{first_bad, first_bad_from, lossy}
use Rattle.laws.specs.Utf8Laws.{step_cons, char_within, lossy-nil, lossy-char, lossy-other, is_none, well_formed_first}
use Rattle.laws.specs.Utf8Laws.{first-bad_nil, first-bad_zero, first-bad-char, first-bad-other}
use Rattle.reader.specs.Reader.{followers}
use Rattle.reader.proofs.ReaderLaws.{after-few, well_formed_run, lossy-run}
use Rattle.std.specs.declared.ops.Range.{Range as Span}
use Rattle.lossy.specs.Lossy.{Breaks, Written}

-- ── the size of a step and of a text ─────────────────────────────────

-- what holds of a step with n bytes taken, m bytes behind them and k ranges to come
abbrev Sized : ℕ → ℕ → ℕ → Step → Type 0
Sized n m k t = (n ≤ size t) × (size t ≤ n + m) × (is_char t ≡ false → size t < n + k)

follow-size : (n : ℕ) (rs : List Range) (s : List ℕ) → Sized n (length s) (length rs) (follow n rs s)
unfolding follow
follow-size n [] s = (omega arith, omega arith, λ e. cc)
follow-size n (r ∷ rs) [] = (omega arith, omega arith, λ e. omega arith)
follow-size n (r ∷ rs) (b ∷ s) = go (within r b) (follow-size (suc n) rs s)
  where
    go : (c : Bool) → Sized (suc n) (length s) (length rs) (follow (suc n) rs s)
        → Sized n (suc (length s)) (suc (length rs)) (cond c (follow (suc n) rs s) (bad n))
    go true h = (omega (arith, h.0), omega (arith, h.1), λ e. omega (arith, h.2 e))
    go false h = (omega arith, omega arith, λ e. omega arith)

step-size : (s : List ℕ) → 0 < length s
    → (1 ≤ size (step_of s)) × (size (step_of s) ≤ length s) × (is_char (step_of s) ≡ false → size (step_of s) ≤ 3)
step-size [] h = absurd (omega arith)
step-size (b ∷ s) h = rw step_cons (go (after b) (after-few b))
  where
    go : (o : Option (List Range)) → length (followers o) ≤ 3
        → (1 ≤ size (followed o s)) × (size (followed o s) ≤ suc (length s)) × (is_char (followed o s) ≡ false → size (followed o s) ≤ 3)
    go None k = (omega arith, omega arith, λ e. omega arith)
    go (Some rs) k = let f = follow-size 1 rs s in (f.0, omega (arith, f.1), λ e. omega (arith, f.2 e, k))

abbrev Near : List ℕ → Type 0
Near s = (length s ≤ length (lossy s)) × (length (lossy s) ≤ 3 * length s)

near-step : (s : List ℕ) (t : Step) → 0 < length s → step_of s ≡ t → Near (drop (size t) s) → Near s
near-step s t h e d = go t e (rw e at (step-size s h)) d
  where
    other : (u : Step) → step_of s ≡ u → is_char u ≡ false → (1 ≤ size u) × (size u ≤ length s) × (is_char u ≡ false → size u ≤ 3)
        → Near (drop (size u) s) → Near s
    other u e f z d =
        let l = ap length (lossy-other s h u e f) ∙ length-append replacement (lossy (drop (size u) s)) in
        omega (arith, d.0, d.1, l, z.0, z.1, z.2 f, length-drop (size u) s)

    go : (u : Step) → step_of s ≡ u → (1 ≤ size u) × (size u ≤ length s) × (is_char u ≡ false → size u ≤ 3)
        → Near (drop (size u) s) → Near s
    go (char n) e z d =
        let l = ap length (lossy-char s h n e) ∙ length-append (take n s) (lossy (drop n s)) in
        omega (arith, d.0, d.1, l, z.0, z.1, length-take-le n s z.1, length-drop n s)
    go (bad n) e z d = other (bad n) e refl z d
    go (cut n) e z d = other (cut n) e refl z d

near : (k : ℕ) (s : List ℕ) → length s ≤ k → Near s
near k [] h = rw lossy-nil (omega arith)
near zero (b ∷ s) h = absurd (omega arith)
near (suc k) (b ∷ s) h =
    near-step (b ∷ s) (step_of (b ∷ s)) (omega arith) refl
    (near k (drop (size (step_of (b ∷ s))) (b ∷ s)) (simp length-drop (omega (arith, step-size (b ∷ s) (omega arith)))))

-- Lossy text is at least as long as its bytes, and at most three times as long.
pub lossy-near : (s : List ℕ) → (length s ≤ length (lossy s)) × (length (lossy s) ≤ 3 * length s)
lossy-near s = near (length s) s (omega arith)

-- ── the first ill-formed part ────────────────────────────────────────

-- UTF-8 is its own lossy text
pub lossy_same : (s : List ℕ) → first_bad s ≡ None → lossy s ≡ s
lossy_same s e = lossy-run s ∙ rw (well_formed_run s (well_formed_first s ∙ ap is_none e)) (append-nil s)

-- the first part that is no character stands at k
pub record FirstAt (s : List ℕ) (k : ℕ) : Type 0 where
  pub inside : k < length s
  pub text : lossy s ≡ take k s ++ lossy (drop k s)
  pub other : is_char (step_of (drop k s)) ≡ false

abbrev First : ℕ → ℕ → List ℕ → Type 0
First i j s = (k : ℕ) × (j ≡ i + k) × FirstAt s k

same_place : (i j : ℕ) → Some i ≡ Some j → j ≡ i
same_place i j e = cc

module _ (i j : ℕ) (s : List ℕ) (h : 0 < length s) (f : first_bad_from i s ≡ Some j) where
  here : (t : Step) → step_of s ≡ t → is_char t ≡ false → First i j s
  here t e c = (
    0,
    omega (arith, same_place i j (sym (first-bad-other s h i t e c) ∙ f)),
    record { inside = h; text = refl; other = rw e c },
  )

  later : (n : ℕ) → step_of s ≡ char n → First (i + n) j (drop n s) → First i j s
  later n e r =
      let w = char_within s n h e in
      let x = r.2 in (
        n + r.0,
        omega (arith, r.1),
        record {
          inside = omega (arith, x.inside, length-drop n s, w.1);
          text = lossy-char s h n e ∙ ap (λ (u : List ℕ). take n s ++ u) x.text
              ∙ sym (append_assoc (take n s) (take r.0 (drop n s)) (lossy (drop r.0 (drop n s))))
              ∙ ap (λ (u : List ℕ). u ++ lossy (drop r.0 (drop n s))) (sym (take-add n r.0 s))
              ∙ ap (λ (u : List ℕ). take (n + r.0) s ++ lossy u) (drop-drop r.0 n s);
          other = ap (λ (u : List ℕ). is_char (step_of u)) (sym (drop-drop r.0 n s)) ∙ x.other;
        },
      )

none_some : {j : ℕ} → None ≡ Some j → ⊥
none_some e = cc

first-from : (k i j : ℕ) (s : List ℕ) → length s ≤ k → first_bad_from i s ≡ Some j → First i j s
first-from k i j [] h f = absurd (none_some (sym (first-bad_nil i) ∙ f))
first-from zero i j (b ∷ s) h f = absurd (omega arith)
first-from (suc k) i j (b ∷ s) h f = go (step_of (b ∷ s)) refl (λ n u l g. first-from k n j u l g)
  where
    go : (t : Step) → step_of (b ∷ s) ≡ t
        → ((n : ℕ) (u : List ℕ) → length u ≤ k → first_bad_from n u ≡ Some j → First n j u) → First i j (b ∷ s)
    go (bad n) e rec = here i j (b ∷ s) (omega arith) f (bad n) e refl
    go (cut n) e rec = here i j (b ∷ s) (omega arith) f (cut n) e refl
    go (char n) e rec =
        let w = char_within (b ∷ s) n (omega arith) e in
        later i j (b ∷ s) (omega arith) f n e
        (rec (i + n) (drop n (b ∷ s)) (simp length-drop (omega (arith, w.0, w.1)))
        (sym (first-bad-char (b ∷ s) (omega arith) i n e) ∙ f))

-- what stands at the first bad offset is an ill-formed part
pub bad_within : (s : List ℕ) (at : ℕ) → Some at ≡ first_bad s → at ≤ length s
bad_within s at f =
    let r = first-from (length s) 0 at s (omega arith) (sym (first-bad_zero s) ∙ sym f) in
    let k : r.0 ≡ at = omega (arith, r.1) in
    let x = rw k at r.2 in
    omega (arith, x.inside)

pub breaks : (s : List ℕ) (at len : ℕ) (t : Step) → Some at ≡ first_bad s → t ≡ step_of (take (length s - at) (drop at s)) → len ≡ size t
    → Breaks s (record { start = at; end = at + len })
breaks s at len t f e₀ l =
    let e : t ≡ step_of (drop at s) = e₀ ∙ ap step_of (take_rest s at) in
    let r = first-from (length s) 0 at s (omega arith) (sym (first-bad_zero s) ∙ sym f) in
    let k : r.0 ≡ at = omega (arith, r.1) in
    let x = rw k at r.2 in
    let some : 0 < length (drop at s) = simp length-drop (omega (arith, x.inside)) in
    let same : size (step_of (drop at s)) ≡ len = ap size (sym e) ∙ sym l in
    let z = rw same at (step-size (drop at s) some) in
    record {
      text =
          x.text
          ∙ ap (λ (u : List ℕ). take at s ++ u) (lossy-other (drop at s) some (step_of (drop at s)) refl x.other)
          ∙ ap (λ (n : ℕ). take at s ++ (replacement ++ lossy (drop n (drop at s)))) same
          ∙ ap (λ (u : List ℕ). take at s ++ (replacement ++ lossy u)) (drop-drop len at s);
      inside = omega (arith, z.1, length-drop at s, x.inside);
      some = omega (arith, z.0);
    }

-- what U+FFFD stands for takes its three bytes
pub breaks-size : (s : List ℕ) (p : Span ℕ) → Breaks s p → length (lossy s) ≡ p.start + 3 + length (lossy (drop p.end s))
breaks-size s p b =
    let rest = lossy (drop p.end s) in
    omega (
      arith,
      ap length b.text,
      length-append (take p.start s) (replacement ++ rest),
      length-append replacement rest,
      length-take-le p.start s (omega (arith, b.inside, b.some)),
    )

-- what one turn of `text_len` needs
pub ruleset size_turns = (lossy-near, breaks-size)

-- what `write_text` needs
pub ruleset end_turns = (lossy-near, rest_size, take-length)

-- lists that are the same behind a place are the same behind a later one
drop_past : (a b : List ℕ) (m k : ℕ) → drop m a ≡ drop m b → m ≤ k → drop k a ≡ drop k b
drop_past a b m k h le =
    let e : m + (k - m) ≡ k = omega arith in
    ap (λ (j : ℕ). drop j a) (sym e) ∙ sym (drop-drop (k - m) m a) ∙ ap (drop (k - m)) h ∙ drop-drop (k - m) m b
    ∙ ap (λ (j : ℕ). drop j b) e

-- ── one turn of `spread` ─────────────────────────────────────────────

-- n cells out hold the text up to write, and from read on the bytes of what is left of it
pub record Spreading (text : List ℕ) (n read write : ℕ) (out : List ℕ) : Type 0 where
  pub same : length out ≡ n
  pub inside : read ≤ n
  pub front : write ≤ n
  pub left : text ≡ take write out ++ lossy (drop read out)

module _ (text : List ℕ) (n read write : ℕ) (out : List ℕ) (e : length text ≡ n) (w : Spreading text n read write out) where
  size-left : n ≡ write + length (lossy (drop read out))
  size-left =
      sym e ∙ ap length w.left ∙ length-append (take write out) (lossy (drop read out))
      ∙ ap (λ (k : ℕ). k + length (lossy (drop read out))) (length-take-le write out (omega (arith, w.same, w.front)))

  -- all bytes that are left stand as they are
  pub spread-end : lossy (drop read out) ≡ drop read out → out ≡ text
  spread-end z =
      let met : read ≡ write = omega (arith, size-left, ap length z, length-drop read out, w.same, w.inside) in
      sym (take-append-drop write out) ∙ ap (λ (k : ℕ). take write out ++ drop k out) (sym met)
      ∙ ap (λ (u : List ℕ). take write out ++ u) (sym z) ∙ sym w.left

  module _ (p : Span ℕ) (b : Breaks (drop read out) p) where
    -- the text of the part ends no later than its bytes
    pub spread-room : (write + p.start + 3 ≤ read + p.end) × (read + p.end ≤ n)
    spread-room =
        omega (
          arith,
          size-left,
          breaks-size (drop read out) p b,
          b.inside,
          b.some,
          w.same,
          w.inside,
          length-drop read out,
          (lossy-near (drop p.end (drop read out))).0,
          length-drop p.end (drop read out),
        )

    -- one part more, its bytes before it moved down and U+FFFD put behind them
    pub spread-more : (moved mark : List ℕ) (k : ℕ) → moved ≡ copy_within out read (read + p.start) write → mark ≡ replacement → k ≡ 3
        → Spreading text n (read + p.end) (write + p.start + 3) (put_mid (write + p.start) k moved mark)
    spread-more moved mark k m f three =
        let room = spread-room in
        let some = b.some in
        let d = length-drop read out in
        let bytes : take (read + p.start - read) (drop read out) ≡ take p.start (drop read out) =
        ap (λ (j : ℕ). take j (drop read out)) (omega arith) in
        let long : read + p.start - read ≤ length (drop read out) = omega (arith, b.inside) in
        let count : read + p.start - read ≡ p.start = omega arith in
        let size : length moved ≡ n =
        ap length m ∙ length-paste out write (drop read out) (read + p.start - read) (omega (arith, w.same, room.0, room.1)) long
        ∙ w.same in
        let begun : take (write + p.start) moved ≡ take write out ++ take p.start (drop read out) =
        ap (λ (j : ℕ). take (write + j) moved) (sym count) ∙ ap (take (write + (read + p.start - read))) m
        ∙ take-paste out write (drop read out) (read + p.start - read) (omega (arith, w.same, w.front)) long
        ∙ ap (λ (u : List ℕ). take write out ++ u) bytes in
        let after : drop (read + p.end) moved ≡ drop p.end (drop read out) =
        drop_past moved out (write + (read + p.start - read)) (read + p.end)
        (ap (drop (write + (read + p.start - read))) m
        ∙ drop-paste out write (drop read out) (read + p.start - read) (omega (arith, w.same, w.front)) long)
        (omega (arith, count, room.0))
        ∙ sym (drop-drop p.end read out) in
        let mark-size : length mark ≡ 3 = ap length f in
        let space : write + p.start ≤ length moved = omega (arith, size, room.0, room.1) in
        let start : take (write + p.start + 3) (put_mid (write + p.start) k moved mark)
        ≡ take write out ++ take p.start (drop read out) ++ replacement =
        take-put_mid (write + p.start) k moved mark (write + p.start + 3) (omega (arith, mark-size)) space
        ∙ ap (λ (u : List ℕ). u ++ mark) begun ∙ ap (λ (u : List ℕ). take write out ++ take p.start (drop read out) ++ u) f in
        let rest : drop (read + p.end) (put_mid (write + p.start) k moved mark) ≡ drop p.end (drop read out) =
        drop-put_mid (write + p.start) k moved mark (read + p.end) (omega (arith, three, room.0)) space
        (omega (arith, mark-size, three)) ∙ after in
        let last = lossy (drop p.end (drop read out)) in
        record {
          same = same_len_mid (write + p.start) k moved mark
              (omega (
                arith,
                mark-size,
                three,
                length-take-le k (drop (write + p.start) moved)
                    (omega (arith, length-drop (write + p.start) moved, size, room.0, room.1, three)),
              ))
              ∙ size;
          inside = room.1;
          front = omega (arith, room.0, room.1);
          left =
              w.left ∙ ap (λ (u : List ℕ). take write out ++ u) b.text
              ∙ sym (append_assoc (take write out) (take p.start (drop read out)) (replacement ++ last))
              ∙ sym (append_assoc (take write out ++ take p.start (drop read out)) replacement last)
              ∙ ap (λ (u : List ℕ). u ++ last) (sym start)
              ∙ ap (λ (u : List ℕ). take (write + p.start + 3) (put_mid (write + p.start) k moved mark) ++ lossy u) (sym rest);
        }

-- ── the bytes of a text at its end ───────────────────────────────────

-- `first` has the bytes s of a text, at the start of what was lent
module _ (s before first : List ℕ) (total : ℕ) (t : total ≡ length s) (fits : 3 * total ≤ length before) (f : first ≡ s) where
  abbrev joined : List ℕ
  joined = first ++ drop total before

  split : joined ≡ s ++ drop total before
  split = ap (λ (u : List ℕ). u ++ drop total before) f

  pub joined-front : take total joined ≡ s
  joined-front =
      ap (take total) split ∙ ap (λ (k : ℕ). take k (s ++ drop total before)) t ∙ take-append_seam s (drop total before)

  joined-size : length joined ≡ length before
  joined-size = ap length split ∙ simp (length-append, length-drop) (omega arith)

  -- bytes that are their own text
  pub written-same : None ≡ first_bad (take total joined) → Written (lossy s) before joined total
  written-same e =
      let z : lossy s ≡ s = lossy_same s (ap first_bad (sym joined-front) ∙ sym e) in
      record {
        size = t ∙ ap length (sym z);
        cells =
            split ∙ ap (λ (k : ℕ). s ++ drop k before) t ∙ ap (λ (u : List ℕ). u ++ drop (length u) before) (sym z);
      }

  module _ (len : ℕ) (l : len ≡ length (lossy (take total joined))) where
    size-text : len ≡ length (lossy s)
    size-text = l ∙ ap (λ (u : List ℕ). length (lossy u)) joined-front

    -- the text is longer than its bytes, and it fits
    pub text-room : (total ≤ len) × (len ≤ length before) × (length joined ≡ length before)
    text-room = omega (arith, lossy-near s, size-text, joined-size)

    -- the bytes copied behind the place where their text is to begin
    module _ (moved : List ℕ) (m : moved ≡ paste joined (len - total) (drop 0 joined) (total - 0)) where
      at-end : len - total + (total - 0) ≡ len
      at-end = omega (arith, text-room)

      all : total - 0 ≡ total
      all = omega arith

      start : len - total ≤ length joined
      start = omega (arith, text-room)

      whole : total - 0 ≤ length (drop 0 joined)
      whole = omega (arith, joined-size)

      -- they end where their text is to end
      moved-text : drop (len - total) (take len moved) ≡ s
      moved-text =
          let front : take len moved ≡ take (len - total) joined ++ take (total - 0) (drop 0 joined) =
          ap (λ (k : ℕ). take k moved) (sym at-end) ∙ ap (take (len - total + (total - 0))) m
          ∙ take-paste joined (len - total) (drop 0 joined) (total - 0) start whole in
          ap (drop (len - total)) front
          ∙ ap (λ (k : ℕ). drop k (take (len - total) joined ++ take (total - 0) (drop 0 joined)))
          (sym (length-take-le (len - total) joined start))
          ∙ drop-append_seam (take (len - total) joined) (take (total - 0) (drop 0 joined))
          ∙ ap (λ (k : ℕ). take k joined) all ∙ joined-front

      -- and the cells behind them are as they were
      moved-behind : drop len moved ≡ drop len before
      moved-behind =
          ap (λ (k : ℕ). drop k moved) (sym at-end) ∙ ap (drop (len - total + (total - 0))) m
          ∙ drop-paste joined (len - total) (drop 0 joined) (total - 0) start whole
          ∙ ap (λ (k : ℕ). drop k joined) at-end
          ∙ drop_past joined before total len
          (ap (drop total) split ∙ ap (λ (k : ℕ). drop k (s ++ drop total before)) t ∙ drop-append_seam s (drop total before))
          (omega (arith, text-room))

      moved-size : length moved ≡ length before
      moved-size =
          ap length m ∙ length-paste joined (len - total) (drop 0 joined) (total - 0) (omega (arith, at-end, text-room)) whole ∙ joined-size

      pub moved-front : (length (take len moved) ≡ len) × (length (lossy (drop (len - total) (take len moved))) ≡ len)
      moved-front = (
        length-take-le len moved (omega (arith, moved-size, text-room)),
        ap (λ (u : List ℕ). length (lossy u)) moved-text ∙ sym size-text,
      )

      -- made into their text there
      pub written-text : (after : List ℕ) → after ≡ lossy (drop (len - total) (take len moved))
          → Written (lossy s) before (after ++ drop len moved) len
      written-text after e = record {
        size = size-text;
        cells =
            ap (λ (u : List ℕ). u ++ drop len moved) (e ∙ ap lossy moved-text)
            ∙ ap (λ (u : List ℕ). lossy s ++ u) moved-behind ∙ ap (λ (k : ℕ). lossy s ++ drop k before) size-text;
      }
