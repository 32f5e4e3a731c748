-- The steps of the passes of lossy decoding. Each says that what is left from here gives what was left from the start. Assumes nothing.
use mathlib.Core.Path.{◌≡◌, refl, ap, sym, ◌∙◌}
use mathlib.Core.List.{List, [], ◌∷◌, ◌++◌, append_assoc}
use Rattle.std.specs.Prelude.{None}
use Prim.Native.Nat.{ℕ, ◌+◌, ◌≤◌, ◌<◌}
use native.Mathlib.Omega.{arith}
use native.Mathlib.Numerals.{add-one}
use lib.ListN.{length, drop, get_or, length-append, drop_of_length-le}
use lib.Seq.{drop-cons}
use Rattle.spec.specs.Lists.{each}
use Rattle.spec.specs.Utf8.{lossy, first_bad}
use Rattle.laws.specs.Utf8Laws.{is_none, well_formed_first}
use Rattle.spec.specs.Memory.{Memory}
use Rattle.spec.specs.Decode.{lookup}
use Rattle.reader.specs.Reader.{Turn, joined, run, push_of, finish_of}
use Rattle.reader.proofs.ReaderLaws.{run-nil, run-append, well_formed_run, lossy-run}
use Rattle.reader.specs.HeldBytes.{held_of, held_as, pushed_as}
use Rattle.reader.proofs.HeldLaws.{pushed-held}
use Rattle.reader.specs.declared.Held.{Held}
use Rattle.reader.specs.declared.Pushed.{Pushed}
use Rattle.lossy.specs.declared.Progress.{Progress}
use Rattle.lossy.specs.Lossy.{Reads, AsTheyAre}
use Rattle.reader.specs.declared.Held.TheVariants.{Nothing}

-- ── a token, byte by byte ────────────────────────────────────────────

pub next_byte : (t : List ℕ) (k : ℕ) → k < length t → drop k t ≡ get_or t k 0 ∷ drop (k + 1) t
next_byte t k h = rw (drop-cons t k 0 h, add-one)

pub no_byte : (t : List ℕ) (k : ℕ) → length t ≤ k → drop k t ≡ []
no_byte t k h = drop_of_length-le t h

-- ── reading bytes ────────────────────────────────────────────────────

run-cons : (h : List ℕ) (b : ℕ) (s : List ℕ) → run h (b ∷ s) ≡ joined (push_of h b) (run (push_of h b).held s)
unfolding run
run-cons h b s = refl

-- the bytes t were to be read from h and n on; now it is s, with the held bytes and the length as they are here
pub record Along (h t : List ℕ) (n : ℕ) (held : Held) (len : ℕ) (s : List ℕ) : Type 0 where
  pub held-left : (run h t).held ≡ (run (held_of held) s).held
  pub len-left : n + length (run h t).out ≡ len + length (run (held_of held) s).out

pub along_none : (held : Held) (len : ℕ) (t : List ℕ) → Along (held_of held) t len held len t
along_none held len t = record { held-left = refl; len-left = refl }

module _ (h t : List ℕ) (n : ℕ) (held : Held) (len : ℕ) where
  -- at the end
  pub along-all : (s : List ℕ) → s ≡ [] → Along h t n held len s → Reads h t n (record { held = held; len = len })
  along-all s e a =
      let nil : run (held_of held) s ≡ record { out = []; held = held_of held } = ap (run (held_of held)) e ∙ run-nil (held_of held) in
      record {
        held = ap (λ (u : Turn). u.held) (sym nil) ∙ sym a.held-left;
        len = omega (arith, a.len-left, ap (λ (u : Turn). length u.out) nil);
      }

  module _ (b : ℕ) (rest s : List ℕ) (e : s ≡ b ∷ rest) (a : Along h t n held len s) (r : Pushed)
      (p : r ≡ pushed_as (push_of (held_of held) b)) where
    next-held : held_of r.held ≡ (push_of (held_of held) b).held
    next-held = ap (λ (x : Pushed). held_of x.held) p ∙ pushed-held held b

    pub pushed-len : r.len ≡ length (push_of (held_of held) b).out
    pushed-len = ap (λ (x : Pushed). x.len) p

    pub step : run (held_of held) s ≡ joined (push_of (held_of held) b) (run (held_of r.held) rest)
    step = ap (run (held_of held)) e ∙ run-cons (held_of held) b rest ∙ rw next-held

    split : length (run (held_of held) s).out ≡ r.len + length (run (held_of r.held) rest).out
    split = ap (λ (u : Turn). length u.out) step ∙ simp length-append (rw pushed-len)

    -- one byte more
    pub along-more : Along h t n r.held (len + r.len) rest
    along-more = record {
      held-left = a.held-left ∙ ap (λ (u : Turn). u.held) step;
      len-left = omega (arith, a.len-left, split);
    }

    -- what the byte brings is part of the whole
    pub along-room : len + r.len ≤ n + length (run h t).out
    along-room = omega (arith, a.len-left, split)

-- ── the text of ids ──────────────────────────────────────────────────

-- the lossy text of the bytes s after the held bytes h
abbrev pub lossy_from : List ℕ → List ℕ → List ℕ
lossy_from h s = (run h s).out ++ (finish_of (run h s).held).out

-- the text of some bytes and others after them
pub lossy-from : (h t s : List ℕ) → lossy_from h (t ++ s) ≡ (run h t).out ++ lossy_from (run h t).held s
lossy-from h t s = rw (run-append h t s, append_assoc)

pub lossy-from_none : (h : List ℕ) → lossy_from h [] ≡ (finish_of h).out
lossy-from_none h = rw (run-nil h)

ids_next : (f : ℕ → List ℕ) (ids : List ℕ) (k : ℕ) → k < length ids → each f (drop k ids) ≡ f (get_or ids k 0) ++ each f (drop (k + 1) ids)
unfolding each
ids_next f ids k h = rw (drop-cons ids k 0 h, add-one)

ids_done : (f : ℕ → List ℕ) (ids : List ℕ) (k : ℕ) → length ids ≤ k → each f (drop k ids) ≡ []
unfolding each
ids_done f ids k h = rw (drop_of_length-le ids h)

fresh-held : (x : Held) → x ≡ held_as [] → held_of x ≡ []
fresh-held x e = ap held_of e

module _ (m : Memory) (ids : List ℕ) where
  -- what is left of the text from the id at k on
  abbrev pub left : ℕ → Held → List ℕ
  left k held = lossy_from (held_of held) (each (lookup m) (drop k ids))

  pub text-first : (held : Held) → held ≡ held_as [] → lossy (each (lookup m) ids) ≡ left 0 held
  text-first held e = lossy-run (each (lookup m) ids) ∙ ap (λ (h : List ℕ). lossy_from h (each (lookup m) ids)) (sym (fresh-held held e))

  module _ (k : ℕ) (held : Held) where
    -- one id more
    pub text-next : (n : ℕ) (p : Progress) → k < length ids → Reads (held_of held) (lookup m (get_or ids k 0)) n p
        → left k held ≡ (run (held_of held) (lookup m (get_or ids k 0))).out ++ left (k + 1) p.held
    text-next n p h r =
        ap (lossy_from (held_of held)) (ids_next (lookup m) ids k h)
        ∙ lossy-from (held_of held) (lookup m (get_or ids k 0)) (each (lookup m) (drop (k + 1) ids))
        ∙ rw r.held

    -- what one id gives is part of the text
    pub text-part : k < length ids → length (run (held_of held) (lookup m (get_or ids k 0))).out ≤ length (left k held)
    text-part h =
        let x = (run (held_of held) (lookup m (get_or ids k 0))).out in
        let y = lossy_from (run (held_of held) (lookup m (get_or ids k 0))).held (each (lookup m) (drop (k + 1) ids)) in
        let e : length (left k held) ≡ length x + length y =
        ap length
        (ap (lossy_from (held_of held)) (ids_next (lookup m) ids k h)
        ∙ lossy-from (held_of held) (lookup m (get_or ids k 0)) (each (lookup m) (drop (k + 1) ids)))
        ∙ length-append x y in
        omega arith

    -- the end
    pub text-last : length ids ≤ k → left k held ≡ (finish_of (held_of held)).out
    text-last h = ap (lossy_from (held_of held)) (ids_done (lookup m) ids k h) ∙ lossy-from_none (held_of held)

  -- ── its size

  -- with n bytes counted
  module _ (k : ℕ) (held : Held) (n : ℕ) (e : length (lossy (each (lookup m) ids)) ≡ n + length (left k held)) where
    pub size-more : (p : Progress) → k < length ids → Reads (held_of held) (lookup m (get_or ids k 0)) n p
        → length (lossy (each (lookup m) ids)) ≡ p.len + length (left (k + 1) p.held)
    size-more p h r =
        let s : length (left k held) ≡ length (run (held_of held) (lookup m (get_or ids k 0))).out + length (left (k + 1) p.held) =
        ap length (text-next k held n p h r) ∙ length-append (run (held_of held) (lookup m (get_or ids k 0))).out (left (k + 1) p.held) in
        omega (arith, r.len)

    pub size-over : (room : ℕ) → k < length ids → room < n + length (run (held_of held) (lookup m (get_or ids k 0))).out
        → room < length (lossy (each (lookup m) ids))
    size-over room h o = omega (arith, text-part k held h)

    pub size-last : (r : Pushed) → length ids ≤ k → r ≡ pushed_as (finish_of (held_of held)) → length (lossy (each (lookup m) ids)) ≡ n +
        r.len
    size-last r h p = omega (arith, ap length (text-last k held h), ap (λ (x : Pushed). x.len) p)

-- ── a token whose bytes stand as they are ────────────────────────────

pub as_they_are : (held : Held) (t : List ℕ) → held ≡ Nothing → first_bad t ≡ None → AsTheyAre (held_of held) t
as_they_are held t e w = rw e (well_formed_run t (well_formed_first t ∙ ap is_none w))

module _ (held : Held) (t : List ℕ) (n : ℕ) (e : AsTheyAre (held_of held) t) where
  pub stands-long : n + length (run (held_of held) t).out ≡ n + length t
  stands-long = ap (λ (u : Turn). n + length u.out) e

  pub stands-reads : (len : ℕ) → len ≡ length t → Reads (held_of held) t n (record { held = held; len = n + len })
  stands-reads len l = record { held = ap (λ (u : Turn). u.held) (sym e); len = ap (λ (k : ℕ). n + k) l ∙ sym stands-long }
