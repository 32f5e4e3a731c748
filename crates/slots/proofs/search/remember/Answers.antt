-- A cursor moves only where there is one label, to the word of its slot.
use Rattle.std.proofs.Common.{length, refl, sym, arith}
use borrow.Author.Tests.{eqb-true}
use Rattle.slots.proofs.Chosen.{cursors-kept, cursors-set}
use Rattle.slots.proofs.search.remember.Goals as goal

pub returns-else-is_empty : goal.returns-else-is_empty
returns-else-is_empty c = λ L xs p el small eb K. cursors-kept L small xs p c.args.cursors.now K

pub returns-then-is_empty : goal.returns-then-is_empty
returns-then-is_empty c = λ L xs p el small eb K.
    let none = eqb-true (length c.args.others.now) 0 (sym c.if-is_empty.ensures) in
    cursors-set L small xs p c.args.cursors.now K _ el (omega arith) c.requires.0 _ _ _ c.from-label.ensures eb refl
