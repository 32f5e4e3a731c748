-- What an add comes to, from the runs over the window and over the piece. Assumes nothing.
use mathlib.Core.Path.{◌≡◌, refl, sym, ap, ap₂, ◌∙◌, subst}
use mathlib.Core.Bool.{Bool, true, false, true≢false}
use mathlib.Core.List.{List, [], ◌++◌, append-nil, append_assoc}
use Prim.Native.Nat.{ℕ, ◌+◌, ◌-◌, ◌≤◌, ◌<◌}
use native.Mathlib.Omega.{arith}
use lib.Dec.{leb}
use lib.ListN.{length, take, drop, get_or, length-append, length-drop, drop_of_length-le}
use lib.Seq.{drop-append-add, drop-drop, length-take-le, take-append_seam, drop-append_seam}
use borrow.Author.Tests.{leb-true, leb-false}
use Rattle.std.specs.Prelude.{Ok, Err}
use Rattle.spec.specs.Answer.{whole}
use Rattle.spec.specs.Lists.{over}
use Rattle.spec.specs.Scan.{waiting, stuck, Run}
use Rattle.spec.specs.Memory.{Memory}
use Rattle.spec.specs.Match.{undecided_on}
use Rattle.spec.specs.LookedOn.{sum_on}
use Rattle.spec.specs.Stream as spec
use Rattle.spec.specs.Stream.{holding, stopped_at, run_on, added}
use Rattle.tally.specs.declared.Tally.{Tally}
use Rattle.stream_record.specs.declared.Called.{Called}
use Rattle.stream_record.specs.declared.StreamError.TheVariants.{Stopped}
use Rattle.runs.specs.declared.Ran.{Ran}
use Rattle.runs.specs.declared.Ran.TheVariants.{Through, Waiting, Stuck}
use Rattle.stream_record.specs.Answers.{record_of, answer_of, looked_of}
use Rattle.stream.specs.Handing.{reached, gives, Hands}
use Rattle.runs.specs.Running.{prepend, Alike, given_of, RunsTo}
use Rattle.runs.proofs.Undecided.{long_decided}
use Rattle.runs.proofs.RunTurns.{alike_self, sum_given}
use Rattle.stream.proofs.Windows.{window, window-alike, short-piece}

-- ── The output ───────────────────────────────────────────────────────

-- ids written behind others stand with them
module _ (xs ys lent : List ℕ) where
  wrote : drop (length xs) (over xs lent) ≡ drop (length xs) lent
  wrote = drop-append_seam xs (drop (length xs) lent)

  pub over_over : xs ++ over ys (drop (length xs) (over xs lent)) ≡ over (xs ++ ys) lent
  over_over =
      ap (λ (l : List ℕ). xs ++ over ys l) wrote
      ∙ ap (λ (l : List ℕ). xs ++ (ys ++ l)) (drop-drop (length ys) (length xs) lent)
      ∙ sym (append_assoc xs ys (drop (length xs + length ys) lent))
      ∙ ap (λ (n : ℕ). (xs ++ ys) ++ drop n lent) (sym (length-append xs ys))

-- ── What is handed back ──────────────────────────────────────────────

-- over the bytes s, after the ids `before` and their sum, whose run has given these ids at its stop
module _ (m : Memory) (total : ℕ) (before : List ℕ) (looked : ℕ) (s : List ℕ) (u : Run) (lent out : List ℕ) (r : Called) (ids : List ℕ)
    (given : Tally) (p : ℕ) (count : given.count ≡ length before + length ids) (sum : given.looked ≡ looked + sum_on m (length ids) 0 s)
    (written : out ≡ over ids lent) where
  joins : given.count ≡ length (before ++ ids)
  joins = count ∙ sym (length-append before ids)

  pub hands-opened : (rest : List ℕ) → u ≡ record { ids = ids; stop = waiting p rest }
      → (r.answer ≡ Ok given) × (record_of r.stream ≡ holding 0 total rest) → Hands m total before looked s u lent out r
  hands-opened rest e g = subst (λ (v : Run). Hands m total before looked s v lent out r) (sym e)
      (record { answer = ap answer_of g.0 ∙ ap whole joins; stream = g.1; sum = ap looked_of g.0 ∙ sum; written = written })

  pub hands-stopped : (b : ℕ) → u ≡ record { ids = ids; stop = stuck p b }
      → (r.answer ≡ Err (Stopped given p b)) × (record_of r.stream ≡ stopped_at total p b) → Hands m total before looked s u lent out r
  hands-stopped b e g = subst (λ (v : Run). Hands m total before looked s v lent out r) (sym e)
      (record {
        answer = ap answer_of g.0 ∙ ap (λ (k : ℕ). record { number = 22; count = k; place = p; value = b }) joins;
        stream = g.1;
        sum = ap looked_of g.0 ∙ sum;
        written = written;
      })

-- ── The piece alone ──────────────────────────────────────────────────

run-nil : (m : Memory) (pos : ℕ) → run_on m pos 0 [] ≡ record { ids = []; stop = waiting pos [] }
unfolding run_on
run-nil m pos = refl

-- a run that waits has few bytes left
pub waits_few : (m : Memory) (s : List ℕ) → undecided_on m s ≡ true → length s ≤ 254
waits_few m s u = go (leb (length s) 254) refl
  where
    go : (c : Bool) → leb (length s) 254 ≡ c → length s ≤ 254
    go true p = leb-true (length s) 254 p
    go false p = absurd (true≢false (sym u ∙ long_decided m s (leb-false (length s) 254 p)))

-- the ids of a tally, with those of another behind them
abbrev together : Tally → Tally → Tally
together a b = record { count = a.count + b.count; looked = a.looked + b.looked }

-- a run over the bytes s, which stand at the offset pos, after the ids `first`
module _ (m : Memory) (s : List ℕ) (pos all at : ℕ) (first given : Tally) (before lent out : List ℕ) (r : Called)
    (b : length before ≡ first.count) where
  module _ {q : Ran} (w : RunsTo m s (length s) lent out q) where
    counts : first.count + (given_of q).count ≡ length before + length w.ids
    counts = omega (arith, b, w.count)

    sums : first.looked + (given_of q).looked ≡ first.looked + sum_on m (length w.ids) 0 s
    sums = ap (λ (n : ℕ). first.looked + n) (sum_given w s (alike_self m s (length s)))

  pub rest-through : RunsTo m s (length s) lent out (Through at given)
      → (r.answer ≡ Ok (together first given)) × (record_of r.stream ≡ holding 0 all (drop at s))
      → Hands m all before first.looked s (run_on m pos 0 s) lent out r
  rest-through w g =
      let c = w.comes in
      let nil : drop at s ≡ [] = drop_of_length-le s c.0 in
      hands-opened m all before first.looked s (run_on m pos 0 s) lent out r w.ids (together first given) (pos + at) (counts w)
      (sums w) w.written (drop at s)
      (c.2 s pos (alike_self m s (length s))
      ∙ ap (prepend w.ids) (ap (run_on m (pos + at) 0) nil ∙ run-nil m (pos + at)
      ∙ ap (λ (t : List ℕ). record { ids = []; stop = waiting (pos + at) t }) (sym nil))
      ∙ ap (λ (x : List ℕ). record { ids = x; stop = waiting (pos + at) (drop at s) }) (append-nil w.ids)) g

  pub rest-waiting : RunsTo m s (length s) lent out (Waiting at given)
      → (r.answer ≡ Ok (together first given)) × (record_of r.stream ≡ holding 0 all (drop at s))
      → Hands m all before first.looked s (run_on m pos 0 s) lent out r
  rest-waiting w g =
      hands-opened m all before first.looked s (run_on m pos 0 s) lent out r w.ids (together first given) (pos + at) (counts w)
      (sums w) w.written (drop at s) (w.comes.2 s pos (alike_self m s (length s))) g

  pub rest-stuck : RunsTo m s (length s) lent out (Stuck at given)
      → (r.answer ≡ Err (Stopped (together first given) (pos + at) (get_or s at 0)))
      × (record_of r.stream ≡ stopped_at all (pos + at) (get_or s at 0))
      → Hands m all before first.looked s (run_on m pos 0 s) lent out r
  rest-stuck w g =
      hands-stopped m all before first.looked s (run_on m pos 0 s) lent out r w.ids (together first given) (pos + at) (counts w)
      (sums w) w.written (get_or s at 0) (w.comes.1 s pos (alike_self m s (length s))) g

-- ── Held bytes and piece ─────────────────────────────────────────────

-- a run that waits at a held byte has the whole piece in its window
waits_whole : (m : Memory) (held piece : List ℕ) (at : ℕ) → at < length held → undecided_on m (drop at (window held piece)) ≡ true
    → window held piece ≡ held ++ piece
waits_whole m held piece at h u = go (leb (length piece) reached) refl
  where
    go : (c : Bool) → leb (length piece) reached ≡ c → window held piece ≡ held ++ piece
    go true p = short-piece m held piece (leb-true (length piece) reached p)
    go false p =
        let l = leb-false (length piece) reached p in
        let a = length-append held (take reached piece) in
        let d = length-drop at (window held piece) in
        let k = length-take-le reached piece (omega arith) in
        absurd (true≢false (sym u ∙ long_decided m (drop at (window held piece)) (omega arith)))

module _ (m : Memory) (held piece : List ℕ) (pos all at : ℕ) (given : Tally) (lent out : List ℕ) (r : Called) where
  alike : Alike m (window held piece) (held ++ piece) (length held)
  alike = window-alike m held piece

  module _ {q : Ran} (w : RunsTo m (window held piece) (length held) lent out q) where
    held_counts : (given_of q).count ≡ 0 + length w.ids
    held_counts = omega (arith, w.count)

    held_sums : (given_of q).looked ≡ 0 + sum_on m (length w.ids) 0 (held ++ piece)
    held_sums = omega (arith, sum_given w (held ++ piece) alike)

  pub held-waiting : RunsTo m (window held piece) (length held) lent out (Waiting at given)
      → (r.answer ≡ Ok given) × (record_of r.stream ≡ holding 0 all (drop at (window held piece)))
      → Hands m all [] 0 (held ++ piece) (run_on m pos 0 (held ++ piece)) lent out r
  held-waiting w g =
      let c = w.comes in
      hands-opened m all [] 0 (held ++ piece) (run_on m pos 0 (held ++ piece)) lent out r w.ids given (pos + at) (held_counts w)
      (held_sums w) w.written (drop at (window held piece))
      (c.2 (held ++ piece) pos alike
      ∙ ap (λ (t : List ℕ). record { ids = w.ids; stop = waiting (pos + at) (drop at t) })
      (sym (waits_whole m held piece at c.0 c.1))) g

  pub held-stuck : RunsTo m (window held piece) (length held) lent out (Stuck at given)
      → (r.answer ≡ Err (Stopped given (pos + at) (get_or (window held piece) at 0)))
      × (record_of r.stream ≡ stopped_at all (pos + at) (get_or (window held piece) at 0))
      → Hands m all [] 0 (held ++ piece) (run_on m pos 0 (held ++ piece)) lent out r
  held-stuck w g =
      hands-stopped m all [] 0 (held ++ piece) (run_on m pos 0 (held ++ piece)) lent out r w.ids given (pos + at) (held_counts w)
      (held_sums w) w.written (get_or (window held piece) at 0) (w.comes.1 (held ++ piece) pos alike) g

  -- the rest of the piece, which stands at the offset `from`, and what is left of the output behind the ids of the held bytes
  pub held-through : {mid last rest left : List ℕ} {from : ℕ} (w : RunsTo m (window held piece) (length held) lent mid (Through at given))
      → from ≡ pos + at → rest ≡ drop (at - length held) piece → from + length rest ≡ all → left ≡ drop given.count mid
      → out ≡ take given.count mid ++ last
      → ((before : List ℕ) → length before ≡ given.count
      → Hands m (from + length rest) before given.looked rest (run_on m from 0 rest) left last r)
      → Hands m all [] 0 (held ++ piece) (run_on m pos 0 (held ++ piece)) lent out r
  held-through {mid} {last} {rest} {left} {from} w f p t l o g =
      let c = w.comes in
      let u : Run = run_on m from 0 rest in
      let h = subst (λ (k : ℕ). Hands m k w.ids given.looked rest u left last r) t (g w.ids (sym w.count)) in
      let d : at ≡ length held + (at - length held) = omega (arith, c.0) in
      let behind : drop at (held ++ piece) ≡ rest =
      ap (λ (j : ℕ). drop j (held ++ piece)) d ∙ drop-append-add held piece (at - length held) ∙ sym p in
      let e : run_on m pos 0 (held ++ piece) ≡ prepend w.ids u =
      c.2 (held ++ piece) pos alike ∙ ap (prepend w.ids) (ap₂ (λ (x : ℕ) (s : List ℕ). run_on m x 0 s) (sym f) behind) in
      let k : given.looked + sum_on m (length u.ids) 0 rest ≡ 0 + sum_on m (length (w.ids ++ u.ids)) 0 (held ++ piece) =
      (let x = w.looked (held ++ piece) alike (length u.ids) in
      let y = ap (λ (n : ℕ). sum_on m n 0 (held ++ piece)) (length-append w.ids u.ids) in
      let z = ap (sum_on m (length u.ids) 0) behind in
      omega arith) in
      let same : gives m all w.ids given.looked rest u ≡ gives m all [] 0 (held ++ piece) (prepend w.ids u) =
      ap (λ (n : ℕ). added all (w.ids ++ u.ids) n u.stop) k in
      let first : take given.count mid ≡ w.ids =
      ap₂ (λ (n : ℕ) (s : List ℕ). take n s) w.count w.written ∙ take-append_seam w.ids (drop (length w.ids) lent) in
      let past : left ≡ drop (length w.ids) (over w.ids lent) = l ∙ ap₂ (λ (n : ℕ) (s : List ℕ). drop n s) w.count w.written in
      subst (λ (v : Run). Hands m all [] 0 (held ++ piece) v lent out r) (sym e)
      (record {
        answer = h.answer ∙ ap (λ (x : spec.Called). x.answer) same;
        stream = h.stream ∙ ap (λ (x : spec.Called). x.stream) same;
        sum = h.sum ∙ ap (λ (x : spec.Called). x.looked) same;
        written = o ∙ ap₂ (λ (x y : List ℕ). x ++ y) first (h.written ∙ ap (over u.ids) past) ∙ over_over w.ids u.ids lent;
      })
