-- `stream::end` meets its contract: what refuses it leaves all as it was, and what goes through is the encoding of the held bytes.
-- Assumes nothing.
use Rattle.std.proofs.Common.{◌≡◌, ◌+◌, ◌-◌, [], Result, Err, arith, refl, sym, ap, ◌∙◌}
use Rattle.stream_record.specs.Answers.{record_of}
use Rattle.stream.proofs.Calling.{ready, end_ready, gives-refused}
use Rattle.stream.proofs.Ending.{fails_at, never, gives-closed, gives-stopped}
use Rattle.encoding.specs.declared.EncodeError.{EncodeError}
use Rattle.encoding.specs.Answers.{answer_of, looked_of}
use Rattle.tally.specs.declared.Tally.{Tally}
use Rattle.stream.proofs.end.Goals as goal

-- what an encoding answers, by the error that it met
told : {A : Type 0} (f : Result Tally EncodeError → A) {d e : EncodeError} {a : A} → d ≡ e → f (Err d) ≡ a → f (Err e) ≡ a
told f q a = sym (ap (λ (x : EncodeError). f (Err x)) q) ∙ a

pub returns-in-Err : goal.returns-in-Err
returns-in-Err c =
    let a = c.args in
    gives-refused _ _ _ _ _ (c.in-Err.ensures.refusal [] a.out.now refl refl ∙ end_ready _ (record_of a.stream) a.out.now (omega arith))
    refl c.in-Err.ensures.looked refl

pub overflow_sub-start : goal.overflow_sub-start
overflow_sub-start c =
    let g = ready _ (record_of c.args.stream) _ _ (c.in_default.ensures.refusal [] c.args.out.now refl refl) (omega arith) in
    omega (arith, g.passes.held)

pub shared_ref_as_front-held : goal.shared_ref_as_front-held
shared_ref_as_front-held c =
    let g = ready _ (record_of c.args.stream) _ _ (c.in_default.ensures.refusal [] c.args.out.now refl refl) (omega arith) in
    omega (arith, g.passes.few)

pub overflow_cast-offset : goal.overflow_cast-offset
overflow_cast-offset c =
    let go = c.in_default.ensures.refusal [] c.args.out.now refl refl in
    let w = c.in-Err-NoToken in
    let h = fails_at _ (record_of c.args.stream) _ go (omega arith) (omega arith) _ _ _
    (told answer_of w.field-0-is (rw c.from-2.ensures at w.ensures.answer)) in
    omega (arith, h.0, h.1)

pub overflow_add-start : goal.overflow_add-start
overflow_add-start c =
    let go = c.in_default.ensures.refusal [] c.args.out.now refl refl in
    let w = c.in-Err-NoToken in
    let h = fails_at _ (record_of c.args.stream) _ go (omega arith) (omega arith) _ _ _
    (told answer_of w.field-0-is (rw c.from-2.ensures at w.ensures.answer)) in
    omega (arith, h.0, h.1)

pub returns-in-Ok : goal.returns-in-Ok
returns-in-Ok c =
    let w = rw c.from-2.ensures at c.in-Ok.ensures in
    gives-closed _ (record_of c.args.stream) _ (c.in_default.ensures.refusal [] c.args.out.now refl refl) (omega arith) (omega arith) _ _
    w.cells _ w.sum w.answer c.closed.ensures

pub returns-in-Err-NoToken : goal.returns-in-Err-NoToken
returns-in-Err-NoToken c =
    let s = c.args.stream in
    let e = c.in-Err-NoToken in
    let w = rw c.from-2.ensures at e.ensures in
    gives-stopped _ (record_of s) _ (c.in_default.ensures.refusal [] c.args.out.now refl refl) (omega arith) (omega arith) _ _
    w.cells e.given (told looked_of e.field-0-is w.sum) _ _ _ (told answer_of e.field-0-is w.answer)
    (ap (λ n. s.total - n + e.offset) c.from.ensures) c.stopped.ensures

pub unreachable-requires : goal.unreachable-requires
unreachable-requires c =
    let w = c.in-Err-ShortMemory in
    never _ (record_of c.args.stream) _ (c.in_default.ensures.refusal [] c.args.out.now refl refl) (omega arith) (omega arith) _
    (λ z. omega arith) (λ z. omega arith) (told answer_of w.field-0-is (rw c.from-2.ensures at w.ensures.answer))

pub unreachable-requires-in-Err-Full : goal.unreachable-requires-in-Err-Full
unreachable-requires-in-Err-Full c =
    let w = c.in-Err-Full in
    never _ (record_of c.args.stream) _ (c.in_default.ensures.refusal [] c.args.out.now refl refl) (omega arith) (omega arith) _
    (λ z. omega arith) (λ z. omega arith) (told answer_of w.field-0-is (rw c.from-2.ensures at w.ensures.answer))
