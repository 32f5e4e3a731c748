-- `encoding::encode_sequential_bytes` meets its contract. The loop's invariant: before the bytes left, the ids that the encoding has there
-- stand in the output, whose other cells are as they were lent, and what was looked at for them is added up. Assumes nothing.
use Rattle.std.proofs.Common.{arith, sym}
use Rattle.std.proofs.lemmas.List.{take_rest}
use Rattle.matching.proofs.WalkBounds.{match_within, match_leaves}
use Rattle.encoding.proofs.EncodeTurns.{left_first, left-sum, left-whole, left-unmatched, left-full, left-next, some_left, none_left}
use Rattle.encoding.proofs.EncodeTurns.{long_enough, refuses}
use Rattle.encoding.proofs.encode_sequential_bytes.Goals as goal

pub returns-then-too_short : goal.returns-then-too_short
returns-then-too_short c = refuses _ _ _ (sym c.if-too_short.ensures)

pub loop-rest-init : goal.loop-rest-init
loop-rest-init c = left_first _ _ _

pub match_at-matched-requires : goal.match_at-matched-requires
match_at-matched-requires c =
    let long = long_enough _ (sym c.if-too_short.ensures) in
    (some_left _ c.is_empty.ensures c.loop-rest-test.true, long.0, long.1)

pub returns-in_default : goal.returns-in_default
returns-in_default c =
    left-unmatched c.loop-rest.invariant (some_left _ c.is_empty.ensures c.loop-rest-test.true) (sym c.if-too_short.ensures)
    (sym (rw c.in_default.is at c.match_at-matched.ensures.longest))

pub returns-then-given-room : goal.returns-then-given-room
returns-then-given-room c =
    let room = c.min-room.ensures in
    left-full c.loop-rest.invariant (some_left _ c.is_empty.ensures c.loop-rest-test.true) _ _
    (sym (rw c.in-Some.is at c.match_at-matched.ensures.longest)) (sym c.if-too_short.ensures) (omega arith)

pub with_one-given-requires : goal.with_one-given-requires
with_one-given-requires c =
    let room = c.min-room.ensures in
    let sum = left-sum c.loop-rest.invariant (omega arith) in
    (omega arith, omega (arith, sum, c.match_at-matched.ensures.looked))

pub slice_bounds-rest-count : goal.slice_bounds-rest-count
slice_bounds-rest-count c = (match_within _ _ _ _ (sym (rw c.in-Some.is at c.match_at-matched.ensures.longest))).1

pub slice_bounds-rest-start : goal.slice_bounds-rest-start
slice_bounds-rest-start c = (match_within _ _ _ _ (sym (rw c.in-Some.is at c.match_at-matched.ensures.longest))).1

pub loop-rest-smaller : goal.loop-rest-smaller
loop-rest-smaller c = match_leaves _ _ _ _ (sym (rw c.in-Some.is at c.match_at-matched.ensures.longest))

pub loop-rest-preserved : goal.loop-rest-preserved
loop-rest-preserved c =
    let room = c.min-room.ensures in
    rw (take_rest c.loop-rest.rest.now c.in-Some.found.len, c.with_one-given.ensures, c.match_at-matched.ensures.looked)
    (left-next c.loop-rest.invariant (some_left _ c.is_empty.ensures c.loop-rest-test.true) _ _
    (sym (rw c.in-Some.is at c.match_at-matched.ensures.longest)) (omega arith))

pub returns : goal.returns
returns c = left-whole c.loop-rest.invariant (sym c.if-too_short.ensures) (none_left _ c.is_empty.ensures c.loop-rest-test.false)
