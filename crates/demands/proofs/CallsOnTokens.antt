-- One call. The record of a plain stream in good order, and the next one: a call on loaded memory, given the record of the plain stream,
-- replies as the plain stream does and leaves the record of the next plain stream. Assumes nothing.
use mathlib.Core.Path.{◌≡◌, refl, sym, ◌∙◌, ap}
use mathlib.Core.Bool.{false}
use Rattle.std.specs.Prelude.{Option, None, Some}
use mathlib.Core.List.{List, [], ◌++◌, append-nil}
use Prim.Native.Nat.{ℕ, ◌+◌, ◌-◌}
use native.Mathlib.Omega.{arith}
use borrow.Author.Tests.{le-ltb}
use lib.ListN.{length, length-append, take, drop}
use lib.Seq.{take-append_seam, drop_at}
use Rattle.spec.specs.Lists.{Bytes}
use Rattle.spec.specs.Token.{Token, joined}
use Rattle.spec.specs.Valid.{Valid}
use Rattle.spec.specs.Scan.{End, done, failed, Scan, scan_at, scan, Stop, waiting, stuck, Run, run_at, run}
use Rattle.spec.specs.Answer.{Answer, bare}
use Rattle.spec.specs.Memory.{Memory, too_short, padded}
use Rattle.spec.specs.Stream.{StreamRecord, open_phase, ended_phase, holding, stopped_at, Call, add, end, piece_of, again, call_refusal}
use Rattle.spec.specs.Stream.{scan_on, run_on, Called, unchanged, added, closed, goes_through, call_on}
use Rattle.spec.specs.Looked.{looked_sum}
use Rattle.spec.specs.LookedOn.{sum_on}
use Rattle.spec.specs.Plain.{Phase, opened, stopped, ended, Plain, pending_in, record_of, Sure, Accepts, Steps, reply_to}
use Rattle.running.specs.Prefixes.{bytes_append, bytes_right}
use Rattle.running.specs.RunLaws.{run-after, scan-after, run-rest}
use Rattle.running.specs.Claims.{run-resumes, scan-ends, claim_A, stuck_fails, waiting_holds, claim_B_place}
use Rattle.demands.proofs.OnTokens.{Agrees, scan-on, run_on_lem}

-- ---- the calls on memory, case by case

module _ (m : Memory) (r : StreamRecord) (c : Call) (long : too_short m ≡ false) where
  call-refused : (a : Answer) → call_refusal r c ≡ Some a → call_on m r c ≡ unchanged r a
  unfolding call_on
  call-refused a e = rw (long, call_on) (rw e)

  call-through : call_refusal r c ≡ None → call_on m r c ≡ goes_through m r c
  unfolding call_on
  call-through e = rw (long, call_on) (rw e)

-- "stopped: the same offset and byte again"
stopped_refused : (total k b : ℕ) (c : Call) → call_refusal (stopped_at total k b) c ≡ Some (again (stopped_at total k b))
unfolding call_refusal
stopped_refused total k b c = rw (le-ltb total 0 (omega arith), call_refusal)

-- "26: ended"
ended-refused : (total : ℕ) (c : Call) → call_refusal (holding ended_phase total []) c ≡ Some (bare 26)
unfolding call_refusal
ended-refused total c = refl

-- the bytes that count of those held
held_bytes : (held : List ℕ) → take (length held) (padded held 254) ≡ held
held_bytes held = take-append_seam held _

-- what an add and an end leave of a run and of a scan, where the bytes looked at for the first n ids are `sum n`
abbrev added_by : (ℕ → ℕ) → ℕ → Run → Called
added_by sum total u = added total u.ids (sum (length u.ids)) u.stop

abbrev closed_by : (ℕ → ℕ) → ℕ → Scan → Called
closed_by sum total u = closed total u.ids (sum (length u.ids)) u.end

through_add : (m : Memory) (total : ℕ) (held piece out : List ℕ)
    → goes_through m (holding open_phase total held) (add piece out)
    ≡ added_by (λ (n : ℕ). sum_on m n 0 (held ++ piece)) (total + length piece) (run_on m (total - length held) 0 (held ++ piece))
unfolding goes_through
through_add m total held piece out = rw (held_bytes held)

through_end : (m : Memory) (total : ℕ) (held out : List ℕ)
    → goes_through m (holding open_phase total held) (end out)
    ≡ closed_by (λ (n : ℕ). sum_on m n 0 held) total (scan_on m (total - length held) 0 held)
unfolding goes_through
through_end m total held out = rw (held_bytes held)

-- ---- a plain stream in good order

abbrev plain : List ℕ → List ℕ → Phase → Plain
plain T G phase = record { taken = T; ids = G; phase = phase }

-- While open it has handed out the ids of the running form, which waits with the bytes held.
pub record Open (ts : List Token) (T G : List ℕ) : Type 0 where
  pub bytes : Bytes T
  pub ids : G ≡ (run ts T).ids
  pub place : ℕ
  pub held : List ℕ
  pub stop : (run ts T).stop ≡ waiting place held

abbrev pub GoodIn : List Token → List ℕ → List ℕ → Phase → Type 0
GoodIn ts T G opened = Open ts T G
GoodIn ts T G (stopped k b) = Unit {0}
GoodIn ts T G ended = Unit {0}

abbrev pub Good : List Token → Plain → Type 0
Good ts p = GoodIn ts p.taken p.ids p.phase

record_stopped : (ts : List Token) (T G : List ℕ) (k b : ℕ) → record_of ts (plain T G (stopped k b)) ≡ stopped_at (length T) k b
unfolding record_of
record_stopped ts T G k b = refl

record_ended : (ts : List Token) (T G : List ℕ) → record_of ts (plain T G ended) ≡ holding ended_phase (length T) []
unfolding record_of
record_ended ts T G = refl

record_opened : (ts : List Token) (T G : List ℕ)
    → record_of ts (plain T G opened) ≡ holding open_phase (length T) (drop (length (joined ts G)) T)
unfolding record_of
record_opened ts T G = refl

module _ (ts : List Token) (v : Valid ts) (T G : List ℕ) (o : Open ts T G) where
  -- pending is what is held
  pending-held : drop (length (joined ts G)) T ≡ o.held
  pending-held =
      let (d, n) = run-rest ts v T o.place o.held o.stop in
      let e : T ≡ joined ts G ++ o.held = sym (ap (λ (is : List ℕ). joined ts is ++ o.held) o.ids ∙ d) in
      ap (drop (length (joined ts G))) e ∙ drop_at (joined ts G) o.held (length (joined ts G)) refl

  pending-is : pending_in ts opened T G ≡ o.held
  unfolding pending_in
  pending-is = pending-held

  record-open : record_of ts (plain T G opened) ≡ holding open_phase (length T) o.held
  record-open = record_opened ts T G ∙ ap (holding open_phase (length T)) pending-held

  held_place : length T - length o.held ≡ o.place
  held_place =
      let (d, n) = run-rest ts v T o.place o.held o.stop in
      omega arith

  held-are-bytes : Bytes o.held
  held-are-bytes =
      let (d, n) = run-rest ts v T o.place o.held o.stop in
      bytes_right (joined ts (run ts T).ids) o.held (rw (← d) at o.bytes)

-- ---- the next plain stream

-- What the call c leaves of the plain stream p, where memory answers it: the plain stream's own step, in good order.
pub record Next (m : Memory) (ts : List Token) (p : Plain) (c : Call) : Type 0 where
  pub after : Plain
  pub steps : Steps ts p c (reply_to c (call_on m (record_of ts p) c)) after
  pub good : Good ts after
  pub stream : (call_on m (record_of ts p) c).stream ≡ record_of ts after

next-refused : (m : Memory) (ts : List Token) (p : Plain) (c : Call) → too_short m ≡ false → Good ts p
    → (a : Answer) → call_refusal (record_of ts p) c ≡ Some a → Next m ts p c
next-refused m ts p c long g a e =
    let d : call_on m (record_of ts p) c ≡ unchanged (record_of ts p) a = call-refused m (record_of ts p) c long a e in
    record {
      after = p;
      steps = rw e (ap (reply_to c) d, refl);
      good = g;
      stream = ap (λ (x : Called). x.stream) d;
    }

next-accepted : (m : Memory) (ts : List Token) (p : Plain) (c : Call) → too_short m ≡ false → call_refusal (record_of ts p) c ≡ None
    → (d : Called) → goes_through m (record_of ts p) c ≡ d → (q : Plain) → Accepts ts p c (reply_to c d) q → Good ts q → Next m ts p c
next-accepted m ts p c long e d t q s g =
    let w : call_on m (record_of ts p) c ≡ d = call-through m (record_of ts p) c long e ∙ t in
    record {
      after = q;
      steps = rw e (rw w s);
      good = g;
      stream = ap (λ (x : Called). x.stream) w ∙ s.stream;
    }

module _ (m : Memory) (ts : List Token) (v : Valid ts) (agrees : Agrees m ts) (T G : List ℕ) (o : Open ts T G) where
  -- what an add and an end come to, on the tokens
  open-add : (piece out : List ℕ) → Bytes piece
      → goes_through m (record_of ts (plain T G opened)) (add piece out)
      ≡ added_by (λ (n : ℕ). looked_sum ts n (o.held ++ piece)) (length T + length piece) (run_at ts o.place 0 (o.held ++ piece))
  open-add piece out h =
      let b : Bytes (o.held ++ piece) = bytes_append o.held piece (held-are-bytes ts v T G o) h in
      rw (record-open ts v T G o, through_add, held_place ts v T G o, run_on_lem m ts agrees o.place 0 (o.held ++ piece) b)
      (let u = run_at ts o.place 0 (o.held ++ piece) in
      ap (λ (n : ℕ). added (length T + length piece) u.ids n u.stop) (agrees.sums (o.held ++ piece) b (length u.ids)))

  open-end : (out : List ℕ)
      → goes_through m (record_of ts (plain T G opened)) (end out)
      ≡ closed_by (λ (n : ℕ). looked_sum ts n o.held) (length T) (scan_at ts o.place 0 o.held)
  open-end out =
      let b = held-are-bytes ts v T G o in
      rw (record-open ts v T G o, through_end, held_place ts v T G o, scan-on m ts agrees o.place 0 o.held b)
      (let u = scan_at ts o.place 0 o.held in
      ap (λ (n : ℕ). closed (length T) u.ids n u.end) (agrees.sums o.held b (length u.ids)))

-- an add that goes through
module _ (ts : List Token) (v : Valid ts) (T G piece out : List ℕ) (o : Open ts T G) (h : Bytes piece) where
  abbrev more : Run
  more = run_at ts o.place 0 (o.held ++ piece)

  -- the bytes looked at for its ids, on those held and the piece
  abbrev more_looked : ℕ
  more_looked = looked_sum ts (length more.ids) (o.held ++ piece)

  looked-more : more_looked ≡ looked_sum ts (length more.ids) (pending_in ts opened T G ++ piece)
  looked-more = ap (λ (x : List ℕ). looked_sum ts (length more.ids) (x ++ piece)) (sym (pending-is ts v T G o))

  run_more : run ts (T ++ piece) ≡ run-after G more
  run_more = run-resumes ts T o.place o.held o.stop piece ∙ ap (λ (is : List ℕ). run-after is more) (sym o.ids)

  sure-more : Sure ts (T ++ piece) (G ++ more.ids)
  sure-more = rw (ap (λ (r : Run). r.ids) run_more) at (claim_A ts v (T ++ piece))

  abbrev open_more : (place : ℕ) (held : List ℕ) → more.stop ≡ waiting place held → Open ts (T ++ piece) (G ++ more.ids)
  open_more place held e = record {
    bytes = bytes_append T piece o.bytes h;
    ids = sym (ap (λ (r : Run). r.ids) run_more);
    place = place;
    held = held;
    stop = ap (λ (r : Run). r.stop) run_more ∙ e;
  }

  add-waits : (place : ℕ) (held : List ℕ) → more.stop ≡ waiting place held
      → Accepts ts (plain T G opened) (add piece out)
      (reply_to (add piece out) (added (length T + length piece) more.ids more_looked (waiting place held)))
      (plain (T ++ piece) (G ++ more.ids) opened)
  add-waits place held e =
      let n = open_more place held e in
      record {
        gained = more.ids;
        taken = refl;
        ids = refl;
        gains = sure-more;
        turns = (tt, waiting_holds ts v (T ++ piece) place held n.stop);
        answer = refl;
        out = refl;
        stream = sym (record-open ts v (T ++ piece) (G ++ more.ids) n ∙ rw length-append);
        looked = looked-more;
      }

  add-sticks : (k b : ℕ) → more.stop ≡ stuck k b
      → Accepts ts (plain T G opened) (add piece out)
      (reply_to (add piece out) (added (length T + length piece) more.ids more_looked (stuck k b)))
      (plain (T ++ piece) (G ++ more.ids) (stopped k b))
  add-sticks k b e =
      let s : (run ts (T ++ piece)).stop ≡ stuck k b = ap (λ (r : Run). r.stop) run_more ∙ e in
      record {
        gained = more.ids;
        taken = refl;
        ids = refl;
        gains = sure-more;
        turns = (stuck_fails ts (T ++ piece) k b s, ap (λ (r : Scan). r.end) (claim_B_place ts (T ++ piece) k b s));
        answer = refl;
        out = refl;
        stream = sym (record_stopped ts (T ++ piece) (G ++ more.ids) k b ∙ rw length-append);
        looked = looked-more;
      }

-- an end that goes through
module _ (ts : List Token) (v : Valid ts) (T G out : List ℕ) (o : Open ts T G) where
  abbrev last : Scan
  last = scan_at ts o.place 0 o.held

  -- the bytes looked at for its ids, on those held
  abbrev last_looked : ℕ
  last_looked = looked_sum ts (length last.ids) o.held

  looked-last : last_looked ≡ looked_sum ts (length last.ids) (pending_in ts opened T G ++ [])
  looked-last =
      let p : pending_in ts opened T G ++ [] ≡ o.held = append-nil (pending_in ts opened T G) ∙ pending-is ts v T G o in
      ap (looked_sum ts (length last.ids)) (sym p)

  scan-last : scan ts T ≡ scan-after G last
  scan-last = scan-ends ts T o.place o.held o.stop ∙ ap (λ (is : List ℕ). scan-after is last) (sym o.ids)

  end-done : last.end ≡ done
      → Accepts ts (plain T G opened) (end out) (reply_to (end out) (closed (length T) last.ids last_looked done))
      (plain T (G ++ last.ids) ended)
  end-done e = record {
    gained = last.ids;
    taken = sym (append-nil T);
    ids = refl;
    gains = sym (ap (λ (r : Scan). r.ids) scan-last);
    turns = (λ a. a, λ f. rw (ap (λ (r : Scan). r.end) scan-last ∙ e) at f);
    answer = refl;
    out = refl;
    stream = sym (record_ended ts T (G ++ last.ids));
    looked = looked-last;
  }

  end-fails : (k b : ℕ) → last.end ≡ failed k b
      → Accepts ts (plain T G opened) (end out) (reply_to (end out) (closed (length T) last.ids last_looked (failed k b)))
      (plain T (G ++ last.ids) (stopped k b))
  end-fails k b e =
      let s : (scan ts T).end ≡ failed k b = ap (λ (r : Scan). r.end) scan-last ∙ e in
      record {
        gained = last.ids;
        taken = sym (append-nil T);
        ids = refl;
        gains = sym (ap (λ (r : Scan). r.ids) scan-last);
        turns = (rw s tt, s);
        answer = refl;
        out = refl;
        stream = sym (record_stopped ts T (G ++ last.ids) k b);
        looked = looked-last;
      }

-- ---- one call

module _ (m : Memory) (ts : List Token) (long : too_short m ≡ false) (v : Valid ts) (agrees : Agrees m ts) where
  next-add : (T G piece out : List ℕ) (o : Open ts T G) → Bytes piece
      → call_refusal (record_of ts (plain T G opened)) (add piece out) ≡ None → Next m ts (plain T G opened) (add piece out)
  next-add T G piece out o h e = go (more ts v T G piece out o h).stop refl
    where
      go : (z : Stop) → (more ts v T G piece out o h).stop ≡ z → Next m ts (plain T G opened) (add piece out)
      go (waiting place held) s = next-accepted m ts (plain T G opened) (add piece out) long e
          (added (length T + length piece) (more ts v T G piece out o h).ids (more_looked ts v T G piece out o h) (waiting place held))
          (open-add m ts v agrees T G o piece out h ∙ rw s)
          (plain (T ++ piece) (G ++ (more ts v T G piece out o h).ids) opened)
          (add-waits ts v T G piece out o h place held s) (open_more ts v T G piece out o h place held s)
      go (stuck k b) s = next-accepted m ts (plain T G opened) (add piece out) long e
          (added (length T + length piece) (more ts v T G piece out o h).ids (more_looked ts v T G piece out o h) (stuck k b))
          (open-add m ts v agrees T G o piece out h ∙ rw s)
          (plain (T ++ piece) (G ++ (more ts v T G piece out o h).ids) (stopped k b))
          (add-sticks ts v T G piece out o h k b s) tt

  next-end : (T G out : List ℕ) (o : Open ts T G) → call_refusal (record_of ts (plain T G opened)) (end out) ≡ None
      → Next m ts (plain T G opened) (end out)
  next-end T G out o e = go (last ts v T G out o).end refl
    where
      go : (z : End) → (last ts v T G out o).end ≡ z → Next m ts (plain T G opened) (end out)
      go done s = next-accepted m ts (plain T G opened) (end out) long e
          (closed (length T) (last ts v T G out o).ids (last_looked ts v T G out o) done) (open-end m ts v agrees T G o out ∙ rw s)
          (plain T (G ++ (last ts v T G out o).ids) ended) (end-done ts v T G out o s) tt
      go (failed k b) s = next-accepted m ts (plain T G opened) (end out) long e
          (closed (length T) (last ts v T G out o).ids (last_looked ts v T G out o) (failed k b)) (open-end m ts v agrees T G o out ∙ rw s)
          (plain T (G ++ (last ts v T G out o).ids) (stopped k b)) (end-fails ts v T G out o k b s) tt

  next-open : (T G : List ℕ) → Open ts T G → (c : Call) → Bytes (piece_of c) → (a : Option Answer)
      → call_refusal (record_of ts (plain T G opened)) c ≡ a → Next m ts (plain T G opened) c
  next-open T G o c h (Some a) e = next-refused m ts (plain T G opened) c long o a e
  next-open T G o (add piece out) h None e = next-add T G piece out o h e
  next-open T G o (end out) h None e = next-end T G out o e

  next-in : (T G : List ℕ) (phase : Phase) → GoodIn ts T G phase → (c : Call) → Bytes (piece_of c) → Next m ts (plain T G phase) c
  next-in T G opened o c h = next-open T G o c h (call_refusal (record_of ts (plain T G opened)) c) refl
  next-in T G (stopped k b) g c h = next-refused m ts (plain T G (stopped k b)) c long g (again (stopped_at (length T) k b))
      (ap (λ (r : StreamRecord). call_refusal r c) (record_stopped ts T G k b) ∙ stopped_refused (length T) k b c)
  next-in T G ended g c h = next-refused m ts (plain T G ended) c long g (bare 26)
      (ap (λ (r : StreamRecord). call_refusal r c) (record_ended ts T G) ∙ ended-refused (length T) c)

  -- every call on memory is a step of the plain stream
  pub next : (p : Plain) → Good ts p → (c : Call) → Bytes (piece_of c) → Next m ts p c
  next p g c h = next-in p.taken p.ids p.phase g c h
