-- `runs::run` meets its contract. The loop's invariant: the run from the start is the ids written and the run over the bytes left. Assumes
-- nothing.
use Rattle.std.proofs.Common.{arith, refl, sym, length-set}
use Rattle.std.proofs.lemmas.List.{take_rest}
use Rattle.matching.proofs.WalkBounds.{match_within, match_leaves}
use Rattle.runs.proofs.RunTurns.{left_first, left-fits, left-waiting, left_stuck, left-next, left_through}
use Rattle.runs.proofs.run.Goals as goal

pub loop-rest-init : goal.loop-rest-init
loop-rest-init c = record { long = refl; left = left_first _ _ _ _ }

pub undecided_at-requires : goal.undecided_at-requires
undecided_at-requires c = (omega arith, omega arith)

pub match_at-matched-requires : goal.match_at-matched-requires
match_at-matched-requires c = (omega arith, omega arith, omega arith)

pub returns-then-undecided_at : goal.returns-then-undecided_at
returns-then-undecided_at c =
    left-waiting c.loop-rest.invariant.left (omega arith) c.loop-rest-test.true (sym c.if-undecided_at.ensures)

pub returns-in_default : goal.returns-in_default
returns-in_default c =
    left_stuck c.loop-rest.invariant.left (omega arith) c.loop-rest-test.true (sym c.if-undecided_at.ensures)
    (sym (rw c.in_default.is at c.match_at-matched.ensures.longest))

pub with_one-given-requires : goal.with_one-given-requires
with_one-given-requires c =
    let fits = left-fits c.loop-rest.invariant.left (omega arith) (omega arith) in
    (fits.0, omega (arith, fits.1, c.match_at-matched.ensures.looked))

pub slice_bounds-rest-count : goal.slice_bounds-rest-count
slice_bounds-rest-count c = (match_within _ _ _ _ (sym (rw c.in-Some.is at c.match_at-matched.ensures.longest))).1

pub slice_bounds-rest-start : goal.slice_bounds-rest-start
slice_bounds-rest-start c = (match_within _ _ _ _ (sym (rw c.in-Some.is at c.match_at-matched.ensures.longest))).1

pub loop-rest-smaller : goal.loop-rest-smaller
loop-rest-smaller c = match_leaves _ _ _ _ (sym (rw c.in-Some.is at c.match_at-matched.ensures.longest))

pub loop-rest-preserved : goal.loop-rest-preserved
loop-rest-preserved c = record {
  long = simp length-set c.loop-rest.invariant.long;
  left =
      rw (take_rest c.loop-rest.rest.now c.in-Some.found.len, c.with_one-given.ensures, c.match_at-matched.ensures.looked)
      (left-next c.loop-rest.invariant.left (omega arith) c.loop-rest-test.true (sym c.if-undecided_at.ensures) (omega arith) _ _
      (sym (rw c.in-Some.is at c.match_at-matched.ensures.longest)));
}

pub returns : goal.returns
returns c = left_through c.loop-rest.invariant.left (omega arith) c.loop-rest-test.false
