-- With no block, with no slot for a node, and with all nodes placed.
use Rattle.std.proofs.Common.{refl}
use Rattle.packing.proofs.Answered.{end_lent, end-bounds, no_block, no_slot, all-put, roots_behind}
use Rattle.packing.proofs.pack.Goals as goal

pub returns-then-end-eq0-clause-stands : goal.returns-then-end-eq0-clause-stands
returns-then-end-eq0-clause-stands c = no_block _ _ _ _ c.words_of_marks-end.ensures _ _ _ _ c.if-end-eq0.true

pub place_all-requires : goal.place_all-requires
place_all-requires c = (c.requires.0, c.requires.1, end-bounds _ _ _ _ c.words_of_marks-end.ensures c.if-end-eq0.false)

pub returns-in_err-front-clause-stands : goal.returns-in_err-front-clause-stands
returns-in_err-front-clause-stands c =
    rw c.from_residual.ensures
    (no_slot _ _ _ _ (end_lent _ _ _ _ c.words_of_marks-end.ensures) _ _ _ _ c.place_all.new.nodes c.in_err-front.ensures.stands)

pub returns-clause-stands : goal.returns-clause-stands
returns-clause-stands c =
    all-put _ _ _ _ (end_lent _ _ _ _ c.words_of_marks-end.ensures) _ _ _ _ _ _ c.in_ok-front.ensures.stands _ _ _ _ c.words_to.ensures
    refl c.requires.2 (c.fill.ensures.after (λ y e. e)) c.put_words.ensures c.put_roots.ensures

pub returns-clause-kept : goal.returns-clause-kept
returns-clause-kept c = roots_behind _ _ _ c.requires.2 c.put_roots.ensures
