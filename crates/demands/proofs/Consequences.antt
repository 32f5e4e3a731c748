-- What follows of the plain stream, and so of the calls on loaded memory: the ids handed out while it is open, after its end, and once it
-- has stopped; that it stops exactly when failure is certain, and never with a full vocabulary; and that what is pending fits the record.
-- Assumes nothing.
use mathlib.Core.Path.{◌≡◌, refl, sym, ◌∙◌, ap, subst}
use mathlib.Core.Logic.{◌↔◌}
use mathlib.Core.Bool.{Bool, true, false, ◌||◌}
use Rattle.std.specs.Prelude.{Option, None, Some}
use mathlib.Core.List.{List, [], ◌∷◌, ◌++◌, append_assoc, append-nil}
use Prim.Native.Nat.{ℕ, ◌+◌, ◌≤◌}
use native.Mathlib.Omega.{arith}
use lib.Dec.{eqb, leb, ltb}
use lib.ListN.{length, take, drop}
use lib.Seq.{take-append_seam, drop_at}
use Rattle.spec.specs.Lists.{Bytes}
use Rattle.spec.specs.Token.{Token, joined}
use Rattle.spec.specs.Valid.{Valid}
use Rattle.spec.specs.Scan.{End, done, failed, Scan, scan_at, scan, Stop, waiting, stuck, run_at, run}
use Rattle.spec.specs.Answer.{Answer, bare}
use Rattle.spec.specs.Stream.{StreamRecord, ended_phase, stopped_phase, Call, add, end, piece_of, out_of, too_many, again, call_refusal}
use Rattle.spec.specs.Plain.{Phase, opened, stopped, ended, Plain, start, pending_in, record_of, Sure, Fails, Gains, Certain, Turns}
use Rattle.spec.specs.Plain.{answer_for, Reply, Accepts, Either, Steps, Follows, handed, BytePieces}
use Rattle.spec.specs.Theorems.{HandsOut, WhileOpen, AfterEnd, OnceStopped, StopsWhenCertain, FullNeverStops}
use Rattle.running.specs.Prefixes.{bytes_append}
use Rattle.running.specs.ScanLaws.{done≢failed, round_trip, up_to_failure}
use Rattle.running.specs.Claims.{AllFail, claim_A, sure_unique, stuck_fails, claim_B, claim_B_place}
use Rattle.running.specs.RunLaws.{run-rest, rest-short}
use Rattle.running.specs.FullLaws.{scan-full}

-- ---- the ids handed out

abbrev CountsNone : Option Answer → Type 0
CountsNone None = Unit {0}
CountsNone (Some a) = a.count ≡ 0

refusals_count : (x y z w : Bool) (a : Answer) → a.count ≡ 0
    → CountsNone (elim x [
      | true ↦ Some (bare 26)
      | false ↦ elim y [
        | true ↦ Some a
        | false ↦ elim z [
          | true ↦ Some (bare 25)
          | false ↦ elim w [ true ↦ Some (bare 24) | false ↦ None ]
        ]
      ]
    ])
refusals_count true y z w a h = refl
refusals_count false true z w a h = h
refusals_count false false true w a h = refl
refusals_count false false false true a h = refl
refusals_count false false false false a h = tt

-- a refused call hands out nothing
refusal_counts : (r : StreamRecord) (c : Call) → CountsNone (call_refusal r c)
unfolding call_refusal
refusal_counts r c = refusals_count (leb ended_phase r.phase || (ltb 254 r.held_len || ltb r.total r.held_len))
    (eqb r.phase stopped_phase) (too_many c r.total) (ltb (length (out_of c)) (r.held_len + length (piece_of c))) (again r) refl

abbrev ids_of : Reply → List ℕ
ids_of r = take r.answer.count r.out

answer_count : (n : ℕ) (phase : Phase) → (answer_for n phase).count ≡ n
answer_count n opened = refl
answer_count n (stopped k b) = refl
answer_count n ended = refl

module _ (ts : List Token) where
  accepts-ids : (p : Plain) (c : Call) (r : Reply) (q : Plain) → Accepts ts p c r q → q.ids ≡ p.ids ++ ids_of r
  accepts-ids p c r q a =
      let n : r.answer.count ≡ length a.gained =
      ap (λ (x : Answer). x.count) a.answer ∙ answer_count (length a.gained) q.phase in
      let g : ids_of r ≡ a.gained = (λ i. take (n i) (a.out i)) ∙ take-append_seam a.gained _ in
      a.ids ∙ ap (λ (is : List ℕ). p.ids ++ is) (sym g)

  steps-ids : (p : Plain) (c : Call) (r : Reply) (q : Plain) → Steps ts p c r q → q.ids ≡ p.ids ++ ids_of r
  steps-ids p c r q = go (call_refusal (record_of ts p) c) (refusal_counts (record_of ts p) c)
    where
      go : (o : Option Answer) → CountsNone o → Either ts p c r q o → q.ids ≡ p.ids ++ ids_of r
      go None z a = accepts-ids p c r q a
      go (Some a) z (e, f) =
          let n : r.answer.count ≡ 0 = ap (λ (x : Reply). x.answer.count) e ∙ z in
          ap (λ (x : Plain). x.ids) f ∙ sym (append-nil p.ids) ∙ ap (λ (k : ℕ). p.ids ++ take k r.out) (sym n)

  follows-ids : (p : Plain) (cs : List Call) (rs : List Reply) (q : Plain) → Follows ts p cs rs q → q.ids ≡ p.ids ++ handed rs
  unfolding handed
  follows-ids p [] rs q (e, f) = rw (e, f) (sym (append-nil p.ids))
  follows-ids p (c ∷ cs) rs q (r, rest, next, e, s, f) =
      follows-ids next cs rest q f
      ∙ ap (λ (is : List ℕ). is ++ handed rest) (steps-ids p c r next s)
      ∙ append_assoc p.ids (ids_of r) (handed rest)
      ∙ ap (λ (x : List Reply). p.ids ++ handed x) (sym e)

pub hands_out : (ts : List Token) (cs : List Call) (rs : List Reply) (q : Plain) → HandsOut ts cs rs q
hands_out ts cs rs q v f = sym (follows-ids ts start cs rs q f)

-- ---- what is known in each phase

-- open: G is sure, and failure is not certain; stopped: G is the scan's, which fails there; ended: G is the scan's, which is done
abbrev KnownIn : List Token → List ℕ → List ℕ → Phase → Type 0
KnownIn ts T G opened = Sure ts T G × (AllFail ts T → ⊥)
KnownIn ts T G (stopped k b) = (G ≡ (scan ts T).ids) × ((scan ts T).end ≡ failed k b)
KnownIn ts T G ended = (G ≡ (scan ts T).ids) × ((scan ts T).end ≡ done)

abbrev Known : List Token → Plain → Type 0
Known ts p = KnownIn ts p.taken p.ids p.phase

does_not_fail : (e : End) → (Fails e → ⊥) → e ≡ done
does_not_fail done h = refl
does_not_fail (failed k b) h = absurd (h tt)

module _ (ts : List Token) (v : Valid ts) where
  -- where all scans fail, what is sure is all that the scan finds
  sure-scan : (T G : List ℕ) → Sure ts T G → AllFail ts T → G ≡ (scan ts T).ids
  sure-scan T G s h =
      let (at, b, e) = (claim_B ts v T).1 h in
      sure_unique ts T G (run ts T).ids s (claim_A ts v T) ∙ sym (ap (λ (r : Scan). r.ids) (claim_B_place ts T at b e))

  known-after : (c : Call) (T G : List ℕ) (phase : Phase) → Gains ts c T G → Turns ts c T phase → KnownIn ts T G phase
  known-after (add piece out) T G opened g t = (g, t.1)
  known-after (add piece out) T G (stopped k b) g t = (sure-scan T G g t.0, t.1)
  known-after (add piece out) T G ended g t = absurd (t.0 tt)
  known-after (end out) T G opened g t = absurd t.0
  known-after (end out) T G (stopped k b) g t = (g, t.1)
  known-after (end out) T G ended g t = (g, does_not_fail (scan ts T).end t.1)

  known_start : Known ts start
  unfolding run_at scan_at
  known_start = (claim_A ts v [], λ h. h [] tt)

  known_step : (p : Plain) (c : Call) (r : Reply) (q : Plain) → Known ts p → Steps ts p c r q → Known ts q
  known_step p c r q k = go (call_refusal (record_of ts p) c)
    where
      go : (o : Option Answer) → Either ts p c r q o → Known ts q
      go None a = known-after c q.taken q.ids q.phase a.gains a.turns
      go (Some a) (e, f) = subst (Known ts) (sym f) k

  known : (p : Plain) (cs : List Call) (rs : List Reply) (q : Plain) → Known ts p → Follows ts p cs rs q → Known ts q
  known p [] rs q k (e, f) = subst (Known ts) (sym f) k
  known p (c ∷ cs) rs q k (r, rest, next, e, s, f) = known next cs rest q (known_step p c r next k s) f

-- the answer is 22 where failure is certain
number-certain : (ts : List Token) (c : Call) (T : List ℕ) (n : ℕ) (a : Answer) (phase : Phase) → a ≡ answer_for n phase
    → Turns ts c T phase → (a.number ≡ 22) ↔ Certain ts c T
number-certain ts c T n a opened e t = (λ z. absurd (omega (arith, ap (λ (x : Answer). x.number) e)), λ h. absurd (t.1 h))
number-certain ts c T n a (stopped k b) e t = (λ z. t.0, λ h. ap (λ (x : Answer). x.number) e)
number-certain ts c T n a ended e t = (λ z. absurd (omega (arith, ap (λ (x : Answer). x.number) e)), λ h. absurd (t.1 h))

-- the bytes taken are bytes
module _ (ts : List Token) where
  bytes-step : (p : Plain) (c : Call) (r : Reply) (q : Plain) → Bytes p.taken → Bytes (piece_of c) → Steps ts p c r q → Bytes q.taken
  bytes-step p c r q b h = go (call_refusal (record_of ts p) c)
    where
      go : (o : Option Answer) → Either ts p c r q o → Bytes q.taken
      go None a = subst Bytes (sym a.taken) (bytes_append p.taken (piece_of c) b h)
      go (Some a) (e, f) = subst (λ (x : Plain). Bytes x.taken) (sym f) b

  bytes_taken : (p : Plain) (cs : List Call) (rs : List Reply) (q : Plain) → Bytes p.taken → BytePieces cs → Follows ts p cs rs q
      → Bytes q.taken
  bytes_taken p [] rs q b h (e, f) = subst (λ (x : Plain). Bytes x.taken) (sym f) b
  bytes_taken p (c ∷ cs) rs q b h (r, rest, next, e, s, f) = bytes_taken next cs rest q (bytes-step p c r next b h.0 s) h.1 f

-- ---- the consequences

module _ (ts : List Token) (cs : List Call) (rs : List Reply) (q : Plain) where
  -- what is known of q, with the ids handed out
  known-handed : Valid ts → Follows ts start cs rs q → (phase : Phase) → q.phase ≡ phase → KnownIn ts q.taken (handed rs) phase
  known-handed v f phase e =
      let k : KnownIn ts q.taken q.ids q.phase = known ts v start cs rs q (known_start ts v) f in
      subst (λ (g : List ℕ). KnownIn ts q.taken g phase) (sym (hands_out ts cs rs q v f))
      (subst (KnownIn ts q.taken q.ids) e k)

  pub while-open : WhileOpen ts cs rs q
  while-open v f e = (known-handed v f opened e).0

  pub after-end : AfterEnd ts cs rs q
  after-end v f e =
      let (g, d) = known-handed v f ended e in
      (λ i. record { ids = sym g i; end = d i }, ap (joined ts) g ∙ round_trip ts v q.taken d)

  pub once-stopped : OnceStopped ts cs rs q
  once-stopped k b v f e =
      let (g, d) = known-handed v f (stopped k b) e in
      let (inside, byte, alone, decoded) = up_to_failure ts v q.taken k b d in
      (d, alone ∙ (λ i. record { ids = sym g i; end = done }), ap (joined ts) g ∙ decoded, byte)

  pub stops-when-certain : StopsWhenCertain ts cs rs q
  stops-when-certain c r p v f e n s =
      let a : Accepts ts q c r p = subst (Either ts q c r p) n s in
      (number-certain ts c p.taken (length a.gained) r.answer p.phase a.answer a.turns, (known-handed v f opened e).1)

  pub full-never-stops : FullNeverStops ts cs rs q
  full-never-stops full h v f k b e =
      let (g, d) = known-handed v f (stopped k b) e in
      done≢failed k b (sym (scan-full ts full q.taken (bytes_taken ts start cs rs q tt h f)) ∙ d)

-- ---- what is pending

-- "up to 254 held bytes"
pending_open : (ts : List Token) → Valid ts → (T G : List ℕ) → KnownIn ts T G opened → length (drop (length (joined ts G)) T) ≤ 254
pending_open ts v T G (s, n) = go (run ts T).stop refl
  where
    go : (z : Stop) → (run ts T).stop ≡ z → length (drop (length (joined ts G)) T) ≤ 254
    go (stuck k b) e = absurd (n (stuck_fails ts T k b e))
    go (waiting at x) e =
        let i : G ≡ (run ts T).ids = sure_unique ts T G (run ts T).ids s (claim_A ts v T) in
        let d : joined ts G ++ x ≡ T = ap (λ (is : List ℕ). joined ts is ++ x) i ∙ (run-rest ts v T at x e).0 in
        let p : drop (length (joined ts G)) T ≡ x =
        ap (drop (length (joined ts G))) (sym d) ∙ drop_at (joined ts G) x (length (joined ts G)) refl in
        rw p (rest-short ts v T at x e)

pub pending_short : (ts : List Token) (cs : List Call) (rs : List Reply) (q : Plain) → Valid ts → Follows ts start cs rs q
    → length (pending_in ts q.phase q.taken q.ids) ≤ 254
pending_short ts cs rs q v f = go q.phase (known ts v start cs rs q (known_start ts v) f)
  where
    go : (phase : Phase) → KnownIn ts q.taken q.ids phase → length (pending_in ts phase q.taken q.ids) ≤ 254
    go opened k = unfold pending_in in pending_open ts v q.taken q.ids k
    go (stopped k b) h = unfold pending_in in omega arith
    go ended h = unfold pending_in in omega arith
