-- What a call gives, in each of its ways: refused, added, ended. Assumes nothing.
use mathlib.Core.Path.{◌≡◌, refl, sym, ap, ◌∙◌, subst}
use mathlib.Core.Bool.{Bool, true, false}
use Rattle.std.specs.Prelude.{Option, None, Some}
use mathlib.Core.List.{List, [], ◌++◌}
use Prim.Native.Nat.{ℕ, ◌+◌, ◌-◌, ◌≤◌}
use lib.ListN.{length, take}
use lib.Seq.{length-take-le}
use native.Mathlib.Omega.{arith}
use Rattle.spec.specs.Answer.{Answer, bare}
use Rattle.spec.specs.Lists.{over}
use Rattle.spec.specs.Scan.{Stop, waiting, stuck, Run}
use Rattle.spec.specs.Memory.{Memory, too_short}
use Rattle.spec.specs.LookedOn.{sum_on}
use Rattle.spec.specs.Stream as spec
use Rattle.spec.specs.Stream.{StreamRecord, Call, add, end, added, run_on, or_else, goes_through}
use Rattle.spec.specs.Stream.{call_on}
use Rattle.stream_record.specs.declared.Called.{Called}
use Rattle.stream_record.specs.Answers.{record_of, answer_of, looked_of, Answered}
use Rattle.stream.specs.Handing.{gives, refusal, Hands}
use Rattle.stream_record.proofs.Refusing.{absurd_none, Passes, passes, end_as_add}

module _ (m : Memory) (r : StreamRecord) (c : Call) where
  -- a call by what refuses it
  by-refusal : call_on m r c ≡ or_else (refusal m r c) r (goes_through m r c)
  unfolding call_on
  by-refusal = go (too_short m) refl
    where
      go : (b : Bool) → too_short m ≡ b → call_on m r c ≡ or_else (refusal m r c) r (goes_through m r c)
      go true e = rw (e, refusal, call_on)
      go false e = rw (e, refusal, call_on)

  pub call-through : None ≡ refusal m r c → call_on m r c ≡ goes_through m r c
  call-through e = by-refusal ∙ ap (λ (o : Option Answer). or_else o r (goes_through m r c)) (sym e)

  pub gives-refused : (d : Called) (lent : List ℕ) {a : Answer} → Some a ≡ refusal m r c → answer_of d.answer ≡ a → looked_of d.answer ≡ 0
      → record_of d.stream ≡ r → Answered (call_on m r c) d lent lent
  gives-refused d lent e b l s =
      subst (λ (x : spec.Called). Answered x d lent lent)
      (sym (by-refusal ∙ ap (λ (o : Option Answer). or_else o r (goes_through m r c)) (sym e)))
      (record { answer = b; stream = s; looked = l; cells = refl })

-- what holds of a call with this piece and this output that nothing refuses
pub record Ready (m : Memory) (r : StreamRecord) (piece out : List ℕ) : Type 0 where
  pub long : too_short m ≡ false
  pub passes : Passes r (length piece) (length out)
  pub many : length (take r.held_len r.held) ≡ r.held_len

pub ready : (m : Memory) (r : StreamRecord) (piece out : List ℕ) → None ≡ refusal m r (add piece out) → 254 ≤ length r.held
    → Ready m r piece out
ready m r piece out n full = go (too_short m) refl n
  where
    go : (b : Bool) → too_short m ≡ b → None ≡ refusal m r (add piece out) → Ready m r piece out
    go true e n = absurd_none (sym (rw (e, refusal) at n))
    go false e n =
        let p = passes r piece out (rw (e, refusal) at n) in
        record { long = e; passes = p; many = length-take-le r.held_len r.held (omega (arith, p.few, full)) }

-- an end is refused as an add of the empty piece
pub end_ready : (m : Memory) (r : StreamRecord) (out : List ℕ) → r.total ≤ 4294967295 → refusal m r (add [] out) ≡ refusal m r (end out)
end_ready m r out h =
    ap (λ (o : Option Answer). elim (too_short m) [ true ↦ Some (bare 1) | false ↦ o ]) (end_as_add r out h)

-- ── Add ──────────────────────────────────────────────────────────────

through_add : (m : Memory) (r : StreamRecord) (piece out : List ℕ) → goes_through m r (add piece out)
    ≡ (let s = take r.held_len r.held ++ piece in gives m (r.total + length piece) [] 0 s (run_on m (r.total - r.held_len) 0 s))
unfolding goes_through
through_add m r piece out =
    let s : List ℕ = take r.held_len r.held ++ piece in
    let u : Run = run_on m (r.total - r.held_len) 0 s in
    let k : sum_on m (length u.ids) 0 s ≡ 0 + sum_on m (length u.ids) 0 s = omega arith in
    ap (λ (n : ℕ). added (r.total + length piece) u.ids n u.stop) k

added-ids : (total : ℕ) (ids : List ℕ) (looked : ℕ) (e : Stop) → (added total ids looked e).ids ≡ ids
added-ids total ids looked (waiting p t) = refl
added-ids total ids looked (stuck p b) = refl

pub gives-added : (m : Memory) (r : StreamRecord) (piece lent out : List ℕ) (d : Called) → None ≡ refusal m r (add piece lent)
    → 254 ≤ length r.held
    → Hands m (r.total + length piece) [] 0 (take r.held_len r.held ++ piece)
    (run_on m (r.total - length (take r.held_len r.held)) 0 (take r.held_len r.held ++ piece)) lent out d
    → Answered (call_on m r (add piece lent)) d lent out
gives-added m r piece lent out d goes full h =
    let all = r.total + length piece in
    let s : List ℕ = take r.held_len r.held ++ piece in
    let u : Run = run_on m (r.total - r.held_len) 0 s in
    let w = subst (λ (n : ℕ). Hands m all [] 0 s (run_on m (r.total - n) 0 s) lent out d) (ready m r piece lent goes full).many h in
    let same = call-through m r (add piece lent) goes ∙ through_add m r piece lent in
    subst (λ (x : spec.Called). Answered x d lent out) (sym same)
    (record {
      answer = w.answer;
      stream = w.stream;
      looked = w.sum;
      cells = w.written ∙ ap (λ (x : List ℕ). over x lent) (sym (added-ids all u.ids (0 + sum_on m (length u.ids) 0 s) u.stop));
    })
