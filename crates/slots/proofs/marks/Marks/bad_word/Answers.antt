-- The first label falls on the slot itself; each label more refuses more slots; the bases come last.
use Rattle.std.proofs.Common.{get_or, length, sym, arith}
use lib.Bits.{xor_lt}
use Rattle.slots.proofs.Find.{in_four, clash-first, clash-more, clash-all, clash-base}
use Rattle.slots.proofs.marks.Marks.bad_word.Goals as goal

pub loop-label-init : goal.loop-label-init
loop-label-init c = clash-first _ _ c.args.others.now _

pub returns-then-bad : goal.returns-then-bad
returns-then-bad c = clash-all _ _ c.args.others.now _ _ _ _ c.if-bad.true c.loop-label.invariant

pub loop-label-preserved : goal.loop-label-preserved
loop-label-preserved c =
    clash-more _ _ c.args.others.now _ _ _ _ c.loop-label-test.true c.loop-label.invariant
    (rw (sym c.from.ensures) c.moved-bad.ensures)

pub moved-bad-requires : goal.moved-bad-requires
moved-bad-requires c =
    let label = get_or c.args.others.now c.loop-label.label-index 0 in
    let d = xor_lt 8 c.args.first label (omega arith) (omega arith) in
    in_four _ _ _ (omega arith) (omega (arith, c.requires, c.args.self.now.blocks))

pub moved-requires : goal.moved-requires
moved-requires c =
    let K = c.args.self.now in
    let q = in_four c.args.i c.from-2.result (length K.used.now) (omega arith) (omega (arith, c.requires, K.blocks)) in
    omega (arith, K.as_many, q)

pub returns : goal.returns
returns c =
    clash-base _ _ c.args.others.now _ _ _ _ _ c.loop-label-test.false c.loop-label.invariant (rw (sym c.from-2.ensures) c.moved.ensures)
