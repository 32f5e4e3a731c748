-- The scan: the equations by which one would write it, that its ids are ids of tokens, and that they decode to the bytes scanned, all
-- of the input where it is done and those before the offset where it fails. Assumes nothing.
use Rattle.std.specs.Prelude.{◌≡◌, refl, ◌≢◌, true, List, [], ◌∷◌, ◌++◌, ℕ, zero, suc, pred, ◌+◌, ◌≤◌, ◌<◌, length, take, drop, get_or}
use Rattle.std.proofs.Common.{sym, ◌∙◌, ap, append_assoc, add-zero, arith, length-append, take-append-drop, length-take-le, take_at}
use Rattle.std.proofs.Common.{drop_at}
use Rattle.std.specs.Prelude.{Option, None, Some}
use Rattle.std.proofs.lemmas.List.{get_or_at}
use Rattle.spec.specs.Lists.{all}
use Rattle.spec.specs.Token.{Token, longest, joined, present}
use Rattle.spec.specs.Plain.{Prefix}
use Rattle.spec.specs.Valid.{Valid}
use Rattle.spec.specs.Scan.{done, failed, Scan, scanned, scan_at, scan}
use Rattle.spec.specs.Theorems.{IdsPresent, RoundTrip, UpToFailure}
use Rattle.running.specs.Prefixes.{prefix_length, prefix_head}
use Rattle.running.specs.Longest.{Best, best, longest-iff, longest-cut}
use Rattle.running.specs.Joined.{joined-nil, joined-cons, present-token}

pub done≢failed : (k b : ℕ) → done ≢ failed k b
done≢failed k b e = let z : ◌≡◌ {A = ℕ} 0 1 = cc in omega arith

abbrev pub nowhere : ℕ → ℕ → Scan
nowhere pos b = record { ids = []; end = failed pos b }

-- ---- the definition, case by case

pub scan-none : (ts : List Token) (pos b : ℕ) (s : List ℕ) → longest ts (b ∷ s) ≡ None → scan_at ts pos 0 (b ∷ s) ≡ nowhere pos b
unfolding scan_at
scan-none ts pos b s e = rw (e, scan_at)

pub scan-some : (ts : List Token) (pos b : ℕ) (s : List ℕ) (t : Token) → longest ts (b ∷ s) ≡ Some t
    → scan_at ts pos 0 (b ∷ s) ≡ scanned t.id (scan_at ts (suc pos) (pred (length t.bytes)) s)
unfolding scan_at
scan-some ts pos b s t e = rw (e, scan_at)

scan-skip : (ts : List Token) (pos k : ℕ) (s : List ℕ) → k ≤ length s → scan_at ts pos k s ≡ scan_at ts (pos + k) 0 (drop k s)
unfolding scan_at
scan-skip ts pos (suc k) [] l = absurd (omega arith)
scan-skip ts pos zero s l = rw add-zero
scan-skip ts pos (suc k) (b ∷ s) l =
    let e : pos + suc k ≡ suc pos + k = omega arith in
    rw e (scan-skip ts (suc pos) k s (omega arith))

-- ---- the scan, step by step

-- "Empty input gives no ids."
pub scan-nil : (ts : List Token) (pos : ℕ) → scan_at ts pos 0 [] ≡ record { ids = []; end = done }
unfolding scan_at
scan-nil ts pos = refl

-- a token that begins the string b ∷ s is one byte and what follows it
pub drop_token : (p : List ℕ) (b : ℕ) (s : List ℕ) → 1 ≤ length p → drop (pred (length p)) s ≡ drop (length p) (b ∷ s)
drop_token [] b s n = absurd (omega arith)
drop_token (a ∷ p) b s n = refl

pub longest-fits : (ts : List Token) → Valid ts → (s : List ℕ) (t : Token) → longest ts s ≡ Some t
    → (1 ≤ length t.bytes) × (length t.bytes ≤ length s)
longest-fits ts v s t e =
    let (m, f, top) = (longest-iff ts v s t).0 e in
    (v.nonempty t m, prefix_length t.bytes s f)

-- "the scan finds at each position, from 0, the longest token there; its length is the step"
pub scan_step : (ts : List Token) → Valid ts → (pos b : ℕ) (s : List ℕ) (t : Token) → longest ts (b ∷ s) ≡ Some t
    → scan_at ts pos 0 (b ∷ s) ≡ scanned t.id (scan_at ts (pos + length t.bytes) 0 (drop (length t.bytes) (b ∷ s)))
scan_step ts v pos b s t e =
    let (n, l) = longest-fits ts v (b ∷ s) t e in
    let p : suc pos + pred (length t.bytes) ≡ pos + length t.bytes = omega arith in
    cc (scan-some ts pos b s t e, scan-skip ts (suc pos) (pred (length t.bytes)) s (omega arith), drop_token t.bytes b s n)

-- "It fails where none matches before the end; its ids are those found up to there."
pub scan-fail : (ts : List Token) (pos b : ℕ) (s : List ℕ) → longest ts (b ∷ s) ≡ None
    → scan_at ts pos 0 (b ∷ s) ≡ record { ids = []; end = failed pos b }
scan-fail = scan-none

-- ---- the ids are ids of tokens

present-from : (ts : List Token) (pos k : ℕ) (s : List ℕ) → all (present ts) (scan_at ts pos k s).ids ≡ true
unfolding scan_at all
present-from ts pos k [] = refl
present-from ts pos (suc k) (b ∷ s) = present-from ts (suc pos) k s
present-from ts pos zero (b ∷ s) = go (longest ts (b ∷ s)) refl (best ts (b ∷ s)) (λ k. present-from ts (suc pos) k s)
  where
    go : (m : Option Token) → longest ts (b ∷ s) ≡ m → Best ts (b ∷ s) m
        → ((k : ℕ) → all (present ts) (scan_at ts (suc pos) k s).ids ≡ true) → all (present ts) (scan_at ts pos 0 (b ∷ s)).ids ≡ true
    go None e w ih = rw (scan-none ts pos b s e)
    go (Some t) e w ih = rw (scan-some ts pos b s t e, all, present-token ts t w.0) (ih (pred (length t.bytes)))

pub ids_present : IdsPresent
ids_present ts v s = present-from ts 0 0 s

-- ---- the bytes of the ids

-- the bytes b ∷ s are those of the token and what is left
pub rejoin : (p : List ℕ) (b : ℕ) (s : List ℕ) → 1 ≤ length p → Prefix p (b ∷ s) → p ++ drop (pred (length p)) s ≡ b ∷ s
rejoin p b s n w =
    ap (λ (q : List ℕ). q ++ drop (pred (length p)) s) (prefix_head p b s n w)
    ∙ ap (λ (q : List ℕ). b ∷ q) (take-append-drop (pred (length p)) s)

done_from : (ts : List Token) → Valid ts → (pos k : ℕ) (s : List ℕ) → k ≤ length s → (scan_at ts pos k s).end ≡ done
    → joined ts (scan_at ts pos k s).ids ≡ drop k s
unfolding scan_at
done_from ts v pos (suc k) [] l e = absurd (omega arith)
done_from ts v pos zero [] l e = joined-nil ts
done_from ts v pos (suc k) (b ∷ s) l e = done_from ts v (suc pos) k s (omega arith) e
done_from ts v pos zero (b ∷ s) l e = go (longest ts (b ∷ s)) refl (λ k l e. done_from ts v (suc pos) k s l e)
  where
    go : (m : Option Token) → longest ts (b ∷ s) ≡ m
        → ((k : ℕ) → k ≤ length s → (scan_at ts (suc pos) k s).end ≡ done → joined ts (scan_at ts (suc pos) k s).ids ≡ drop k s)
        → joined ts (scan_at ts pos 0 (b ∷ s)).ids ≡ b ∷ s
    go None q ih = absurd (done≢failed pos b (sym (rw (scan-none ts pos b s q) at e)))
    go (Some t) q ih =
        let (m, f, top) = (longest-iff ts v (b ∷ s) t).0 q in
        let (n, l) = longest-fits ts v (b ∷ s) t q in
        let i = ih (pred (length t.bytes)) (omega arith) (rw (scan-some ts pos b s t q) at e) in
        rw (scan-some ts pos b s t q, joined-cons ts v t m, i) (rejoin t.bytes b s n f)

-- the ids of a scan that is done decode to its input
pub round_trip : RoundTrip
round_trip ts v s e = done_from ts v 0 0 s (omega arith) e

-- ---- failure

-- The scan of s fails at an offset with a byte: what stands before and after it.
record Failing (ts : List Token) (pos k : ℕ) (s : List ℕ) (at b : ℕ) : Type 0 where
  before : List ℕ
  after : List ℕ
  input : drop k s ≡ before ++ b ∷ after
  place : at ≡ pos + k + length before
  unmatched : longest ts (b ∷ after) ≡ None
  decoded : joined ts (scan_at ts pos k s).ids ≡ before
  alone : scan_at ts pos k (take k s ++ before) ≡ record { ids = (scan_at ts pos k s).ids; end = done }

failing_skip : (ts : List Token) (pos k b₀ : ℕ) (s : List ℕ) (at b : ℕ) → Failing ts (suc pos) k s at b
    → Failing ts pos (suc k) (b₀ ∷ s) at b
unfolding scan_at
failing_skip ts pos k b₀ s at b f = record {
  before = f.before;
  after = f.after;
  input = f.input;
  place = omega (arith, f.place);
  unmatched = f.unmatched;
  decoded = f.decoded;
  alone = f.alone;
}

failing_here : (ts : List Token) (pos b : ℕ) (s : List ℕ) → longest ts (b ∷ s) ≡ None → Failing ts pos 0 (b ∷ s) pos b
failing_here ts pos b s e = record {
  before = [];
  after = s;
  input = refl;
  place = omega arith;
  unmatched = e;
  decoded = rw (scan-none ts pos b s e) (joined-nil ts);
  alone = rw (scan-none ts pos b s e) (scan-nil ts pos);
}

failing_step : (ts : List Token) → Valid ts → (pos b₀ : ℕ) (s : List ℕ) (t : Token) → longest ts (b₀ ∷ s) ≡ Some t → (at b : ℕ)
    → Failing ts (suc pos) (pred (length t.bytes)) s at b → Failing ts pos 0 (b₀ ∷ s) at b
failing_step ts v pos b₀ s t e at b f =
    let k = pred (length t.bytes) in
    let (m, w, top) = (longest-iff ts v (b₀ ∷ s) t).0 e in
    let (n, l) = longest-fits ts v (b₀ ∷ s) t e in
    let h : t.bytes ≡ b₀ ∷ take k s = prefix_head t.bytes b₀ s n w in
    let i : s ≡ (take k s ++ f.before) ++ b ∷ f.after =
    sym (append_assoc (take k s) f.before (b ∷ f.after)
    ∙ ap (λ (q : List ℕ). take k s ++ q) (sym f.input)
    ∙ take-append-drop k s) in
    let c : longest ts (b₀ ∷ (take k s ++ f.before)) ≡ Some t =
    longest-cut ts v (b₀ ∷ s) (b₀ ∷ (take k s ++ f.before)) t e (b ∷ f.after, ap (λ (q : List ℕ). b₀ ∷ q) i)
    (f.before, ap (λ (q : List ℕ). q ++ f.before) (sym h)) in
    record {
      before = b₀ ∷ (take k s ++ f.before);
      after = f.after;
      input = ap (λ (q : List ℕ). b₀ ∷ q) i;
      place = simp length-append (omega (arith, f.place, length-take-le k s (omega arith)));
      unmatched = f.unmatched;
      decoded = rw (scan-some ts pos b₀ s t e, joined-cons ts v t m, f.decoded) (ap (λ (q : List ℕ). q ++ f.before) h);
      alone = scan-some ts pos b₀ (take k s ++ f.before) t c ∙ ap (scanned t.id) f.alone ∙ rw (scan-some ts pos b₀ s t e) refl;
    }

failing_from : (ts : List Token) → Valid ts → (pos k : ℕ) (s : List ℕ) → k ≤ length s → (at b : ℕ) → (scan_at ts pos k s).end ≡ failed at b
    → Failing ts pos k s at b
unfolding scan_at
failing_from ts v pos k [] l at b e = absurd (done≢failed at b e)
failing_from ts v pos (suc k) (b₀ ∷ s) l at b e = failing_skip ts pos k b₀ s at b (failing_from ts v (suc pos) k s (omega arith) at b e)
failing_from ts v pos zero (b₀ ∷ s) l at b e = go (longest ts (b₀ ∷ s)) refl (λ k l e. failing_from ts v (suc pos) k s l at b e)
  where
    go : (m : Option Token) → longest ts (b₀ ∷ s) ≡ m
        → ((k : ℕ) → k ≤ length s → (scan_at ts (suc pos) k s).end ≡ failed at b → Failing ts (suc pos) k s at b)
        → Failing ts pos 0 (b₀ ∷ s) at b
    go None q ih =
        let z : failed pos b₀ ≡ failed at b = rw (scan-none ts pos b₀ s q) at e in
        let p : pos ≡ at = cc in
        let c : b₀ ≡ b = cc in
        rw (← p, ← c) (failing_here ts pos b₀ s q)
    go (Some t) q ih =
        let (n, l) = longest-fits ts v (b₀ ∷ s) t q in
        failing_step ts v pos b₀ s t q at b (ih (pred (length t.bytes)) (omega arith) (rw (scan-some ts pos b₀ s t q) at e))

-- A scan that fails at an offset with a byte: the offset is in the input and the byte stands there, no token matches there, the ids
-- decode to the bytes before it, and they are the ids of these bytes alone.
pub record FailsAt (ts : List Token) (s : List ℕ) (at b : ℕ) : Type 0 where
  pub inside : at < length s
  pub byte : get_or s at 0 ≡ b
  pub unmatched : longest ts (drop at s) ≡ None
  pub decoded : joined ts (scan ts s).ids ≡ take at s
  pub alone : scan ts (take at s) ≡ record { ids = (scan ts s).ids; end = done }

pub scan-failed : (ts : List Token) → Valid ts → (s : List ℕ) (at b : ℕ) → (scan ts s).end ≡ failed at b → FailsAt ts s at b
scan-failed ts v s at b e =
    let f = failing_from ts v 0 0 s (omega arith) at b e in
    let p : length f.before ≡ at = omega (arith, f.place) in
    let i : s ≡ f.before ++ b ∷ f.after = f.input in
    let q : take at s ≡ f.before = ap (take at) i ∙ take_at f.before (b ∷ f.after) at p in
    record {
      inside = omega (arith, simp length-append at (ap length i));
      byte = ap (λ (r : List ℕ). get_or r at 0) i ∙ get_or_at f.before b f.after 0 at p;
      unmatched = ap (λ (r : List ℕ). longest ts (drop at r)) i ∙ ap (longest ts) (drop_at f.before (b ∷ f.after) at p) ∙ f.unmatched;
      decoded = f.decoded ∙ sym q;
      alone = ap (scan ts) q ∙ f.alone;
    }

pub up_to_failure : UpToFailure
up_to_failure ts v s k b e =
    let f = scan-failed ts v s k b e in
    (f.inside, f.byte, f.alone, f.decoded)
