-- The plain stream determines its answers: from one state and one call there is one reply and one next state. Assumes nothing.
use mathlib.Core.Path.{◌≡◌, refl, sym, ◌∙◌, ap, subst}
use Rattle.std.specs.Prelude.{Option, None, Some}
use mathlib.Core.List.{List, [], ◌∷◌, ◌++◌}
use Prim.Native.Nat.{ℕ}
use lib.ListN.{length, drop}
use lib.Seq.{drop-append_seam}
use Rattle.spec.specs.Lists.{over}
use Rattle.spec.specs.Token.{Token}
use Rattle.spec.specs.Valid.{Valid}
use Rattle.spec.specs.Scan.{failed}
use Rattle.spec.specs.Answer.{Answer}
use Rattle.spec.specs.Looked.{looked_sum}
use Rattle.spec.specs.Stream.{Call, add, end, piece_of, out_of, call_refusal}
use Rattle.spec.specs.Plain.{Phase, opened, stopped, ended, Plain, pending_in, record_of, Gains, Turns, answer_for, Reply}
use Rattle.spec.specs.Plain.{Accepts, Either, Follows}
use Rattle.spec.specs.Theorems.{Determined}
use Rattle.running.specs.Claims.{sure_unique}

append-cancel : (p g h : List ℕ) → p ++ g ≡ p ++ h → g ≡ h
append-cancel p g h e = sym (drop-append_seam p g) ∙ ap (drop (length p)) e ∙ drop-append_seam p h

-- one G for a call
gains_one : (ts : List Token) (c : Call) (T G H : List ℕ) → Gains ts c T G → Gains ts c T H → G ≡ H
gains_one ts (add piece out) T G H g h = sure_unique ts T G H g h
gains_one ts (end out) T G H g h = g ∙ sym h

-- one phase
turns_one : (ts : List Token) (c : Call) (T : List ℕ) (f g : Phase) → Turns ts c T f → Turns ts c T g → f ≡ g
turns_one ts c T opened opened x y = refl
turns_one ts c T opened (stopped k b) x y = absurd (x.1 y.0)
turns_one ts c T opened ended x y = absurd (y.0 x.0)
turns_one ts c T (stopped k b) opened x y = absurd (y.1 x.0)
turns_one ts c T (stopped k b) (stopped k' b') x y =
    let e : failed k b ≡ failed k' b' = sym x.1 ∙ y.1 in
    let p : k ≡ k' = cc in
    let q : b ≡ b' = cc in
    λ i. stopped (p i) (q i)
turns_one ts c T (stopped k b) ended x y = absurd (y.1 x.0)
turns_one ts c T ended opened x y = absurd (x.0 y.0)
turns_one ts c T ended (stopped k b) x y = absurd (x.1 y.0)
turns_one ts c T ended ended x y = refl

module _ (ts : List Token) (p : Plain) (c : Call) (r r' : Reply) (q q' : Plain) (a : Accepts ts p c r q) (a' : Accepts ts p c r' q') where
  same_taken : q.taken ≡ q'.taken
  same_taken = a.taken ∙ sym a'.taken

  same-ids : q.ids ≡ q'.ids
  same-ids =
      gains_one ts c q'.taken q.ids q'.ids (subst (λ (T : List ℕ). Gains ts c T q.ids) same_taken a.gains) a'.gains

  same-phase : q.phase ≡ q'.phase
  same-phase =
      turns_one ts c q'.taken q.phase q'.phase (subst (λ (T : List ℕ). Turns ts c T q.phase) same_taken a.turns) a'.turns

  same-gained : a.gained ≡ a'.gained
  same-gained = append-cancel p.ids a.gained a'.gained (sym a.ids ∙ same-ids ∙ a'.ids)

  same-plain : q ≡ q'
  same-plain = λ i. record { taken = same_taken i; ids = same-ids i; phase = same-phase i }

  same_answer : r.answer ≡ r'.answer
  same_answer = a.answer ∙ (λ i. answer_for (length (same-gained i)) (same-phase i)) ∙ sym a'.answer

  same_out : r.out ≡ r'.out
  same_out = a.out ∙ (λ i. over (same-gained i) (out_of c)) ∙ sym a'.out

  same-looked : r.looked ≡ r'.looked
  same-looked =
      a.looked ∙ (λ i. looked_sum ts (length (same-gained i)) (pending_in ts p.phase p.taken p.ids ++ piece_of c)) ∙ sym a'.looked

  same-reply : r ≡ r'
  same-reply = λ i. record {
    answer = same_answer i;
    out = same_out i;
    stream = (a.stream ∙ ap (record_of ts) same-plain ∙ sym a'.stream) i;
    looked = same-looked i;
  }

pub determined : Determined
determined ts v p c r r' q q' = go (call_refusal (record_of ts p) c)
  where
    go : (a : Option Answer) → Either ts p c r q a → Either ts p c r' q' a → (r ≡ r') × (q ≡ q')
    go None s s' = (same-reply ts p c r r' q q' s s', same-plain ts p c r r' q q' s s')
    go (Some a) s s' = (s.0 ∙ sym s'.0, s.1 ∙ sym s'.1)

-- and so over a list of calls
pub follows_one : (ts : List Token) → Valid ts → (p : Plain) (cs : List Call) (rs rs' : List Reply) (q q' : Plain)
    → Follows ts p cs rs q → Follows ts p cs rs' q' → (rs ≡ rs') × (q ≡ q')
follows_one ts v p [] rs rs' q q' (e, f) (e', f') = (e ∙ sym e', f ∙ sym f')
follows_one ts v p (c ∷ cs) rs rs' q q' (r, rest, next, e, s, f) (r', rest', next', e', s', f') =
    let (x, y) = determined ts v p c r r' next next' s s' in
    let g : Follows ts next cs rest' q' = subst (λ (n : Plain). Follows ts n cs rest' q') (sym y) f' in
    let (z, w) = follows_one ts v next cs rest rest' q q' f g in
    (e ∙ (λ i. x i ∷ z i) ∙ sym e', w)
