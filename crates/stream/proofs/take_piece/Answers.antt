-- `stream::take_piece` meets its contract: the run over the window in each of its cases, and behind it the rest of the piece.
-- Assumes nothing.
use Rattle.std.proofs.Common.{◌≡◌, List, ℕ, ◌+◌, ◌-◌, ◌≤◌, length, take, drop, get_or, arith}
use Rattle.std.proofs.Common.{Err, sym, ap, ◌∙◌, subst, length-append, length-take, length-drop, drop_of_length-le, append-nil, ◌++◌}
use borrow.Rule.Slice.PartMut.{put_mid}
use Rattle.std.proofs.lemmas.List as lists
use Rattle.spec.specs.Memory.{Memory}
use Rattle.spec.specs.Stream.{holding, stopped_at}
use Rattle.stream_record.specs.declared.StreamError.TheVariants.{Stopped}
use Rattle.runs.specs.declared.Ran.{Ran}
use Rattle.runs.specs.Running.{RunsTo}
use Rattle.stream.specs.Handing.{reached}
use Rattle.runs.proofs.RunTurns.{few_given}
use Rattle.stream.proofs.Windows.{window}
use Rattle.stream.proofs.Adding.{waits_few, held-waiting, held-stuck, held-through}
use Rattle.stream.proofs.take_piece.Goals as goal

-- the window has the bytes held and some of the piece
record Window (held piece w : List ℕ) : Type 0 where
  from : length held ≤ length w
  upto : length w ≤ length held + length piece
  few : length w ≤ length held + reached

windowed : (held piece w : List ℕ) → w ≡ window held piece → Window held piece w
windowed held piece w e =
    let n = ap length e in
    let a = length-append held (take reached piece) in
    let t = length-take reached piece in
    record { from = omega arith; upto = omega arith; few = omega arith }

-- what a run does over the window's bytes
over_window : (m : Memory) (held piece w : List ℕ) (lent out : List ℕ) (r : Ran) → w ≡ window held piece
    → RunsTo m w (length held) lent out r → RunsTo m (window held piece) (length held) lent out r
over_window m held piece w lent out r e h = subst (λ (s : List ℕ). RunsTo m s (length held) lent out r) e h

-- how many elements there are from a place on
rest_long : (s : List ℕ) (i : ℕ) → length (take (length s - i) (drop i s)) ≡ length s - i
rest_long s i = ap length (lists.take_rest s i) ∙ length-drop i s

-- what was lent of a list from a place on, put back
put_rest : (n : ℕ) (l last : List ℕ) → put_mid n (length l - n) l last ≡ take n l ++ last
put_rest n l last =
    let d = length-drop n l in
    ap (λ (x : List ℕ). take n l ++ (last ++ x)) (drop_of_length-le (drop n l) (omega arith))
    ∙ ap (λ (x : List ℕ). take n l ++ x) (append-nil last)

pub run-requires : goal.run-requires
run-requires c =
    let j = windowed _ _ _ c.join-joined.ensures in
    (omega (arith, j.from), omega arith, omega arith, omega (arith, j.upto), omega (arith, j.upto))

pub opened-requires : goal.opened-requires
opened-requires c =
    let w = c.in-Waiting.ensures.comes in
    subst (λ (s : List ℕ). length s ≤ 254) (sym (lists.take_rest c.join-joined.result.now c.in-Waiting.at)) (waits_few _ _ w.1)

pub overflow_cast-over : goal.overflow_cast-over
overflow_cast-over c =
    let j = windowed _ _ _ c.join-joined.ensures in
    omega (arith, j.upto, c.in-Through.ensures.comes.1)

pub overflow_add-total : goal.overflow_add-total
overflow_add-total c =
    let j = windowed _ _ _ c.join-joined.ensures in
    omega (arith, j.upto, c.in-Through.ensures.comes.1)

pub slice_bounds-take_rest-start : goal.slice_bounds-take_rest-start
slice_bounds-take_rest-start c =
    let j = windowed _ _ _ c.join-joined.ensures in
    omega (arith, j.upto, c.in-Through.ensures.comes.1)

pub slice_bounds-take_rest-count : goal.slice_bounds-take_rest-count
slice_bounds-take_rest-count c =
    let j = windowed _ _ _ c.join-joined.ensures in
    omega (arith, j.upto, c.in-Through.ensures.comes.1)

pub take_rest-requires : goal.take_rest-requires
take_rest-requires c =
    let j = windowed _ _ _ c.join-joined.ensures in
    let w = c.in-Through.ensures in
    let f = few_given w in
    let r = rest_long c.args.piece.now (c.in-Through.at - length c.args.held.now) in
    let o = rest_long c.run.new.out c.in-Through.given.count in (
      omega arith,
      omega arith,
      omega (arith, r, j.upto, w.comes.0, w.comes.1),
      omega (arith, r, o, j.upto, w.comes.0, w.comes.1, w.count, w.few, c.run.auto.out),
      omega (arith, f.0, j.few, w.comes.1),
      omega (arith, f.1),
    )

pub returns-in-Through : goal.returns-in-Through
returns-in-Through c =
    let a = c.args in
    let j = windowed _ _ _ c.join-joined.ensures in
    let w = over_window _ _ _ _ _ _ _ c.join-joined.ensures c.in-Through.ensures in
    let n = c.in-Through.given.count in
    let o = c.run.new.out in
    held-through _ a.held.now a.piece.now (a.total - length a.held.now) (a.total + length a.piece.now) _ c.in-Through.given _ _ _ w
    (omega (arith, w.comes.0)) (lists.take_rest a.piece.now (c.in-Through.at - length a.held.now))
    (omega (arith, j.upto, w.comes.0, c.in-Through.ensures.comes.1, rest_long a.piece.now (c.in-Through.at - length a.held.now)))
    (lists.take_rest o n)
    (put_rest n o c.take_rest.new.out) c.take_rest.ensures

pub returns-in-Waiting : goal.returns-in-Waiting
returns-in-Waiting c =
    let a = c.args in
    held-waiting _ a.held.now a.piece.now (a.total - length a.held.now) (a.total + length a.piece.now) _ _ a.out.now _ _
    (over_window _ _ _ _ _ _ _ c.join-joined.ensures c.in-Waiting.ensures) (
      c.opened.ensures.0,
      c.opened.ensures.1
          ∙ ap (holding 0 (a.total + length a.piece.now))
          (lists.take_rest c.join-joined.result.now c.in-Waiting.at ∙ ap (drop c.in-Waiting.at) c.join-joined.ensures),
    )

pub returns-in-Stuck : goal.returns-in-Stuck
returns-in-Stuck c =
    let a = c.args in
    let p = a.total - length a.held.now + c.in-Stuck.at in
    let b = ap (λ (s : List ℕ). get_or s c.in-Stuck.at 0) c.join-joined.ensures in
    held-stuck _ a.held.now a.piece.now (a.total - length a.held.now) (a.total + length a.piece.now) _ _ a.out.now _ _
    (over_window _ _ _ _ _ _ _ c.join-joined.ensures c.in-Stuck.ensures) (
      c.stopped.ensures.0 ∙ ap (λ (x : ℕ). Err (Stopped c.in-Stuck.given p x)) b,
      c.stopped.ensures.1 ∙ ap (stopped_at (a.total + length a.piece.now) p) b,
    )
