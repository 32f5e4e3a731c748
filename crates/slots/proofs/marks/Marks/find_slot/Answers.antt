-- The lowest bit that is not set stands for the smallest slot that is not refused.
use Rattle.std.proofs.Common.{◌∷◌, ◌-◌, ◌^◌, length, refl, sym, arith}
use Rattle.slots.specs.Marks.{slot_on}
use Rattle.slots.proofs.Bitwise.{lowest-bit}
use Rattle.slots.proofs.Find.{hit, all-bad, both, none}
use Rattle.slots.proofs.marks.Marks.find_slot.Goals as goal

pub returns-then-free-ne0 : goal.returns-then-free-ne0
unfolding slot_on
returns-then-free-ne0 c =
    let K = c.args.self.now in
    let lt = (lowest-bit (2 ^ 64 - 1 - c.bad_word-free.result) c.if-free-ne0.true (omega arith)).0 in
    let is = hit K.used.now K.bases.now (c.args.first ∷ c.args.others.now) c.loop-i.i c.bad_word-free.result c.bad_word-free.ensures
    c.bad_word-free.type_inv c.args.from (length K.used.now - c.args.from)
    (lib.Count.count_trailing_zeros 64 (2 ^ 64 - 1 - c.bad_word-free.result))
    c.if-free-ne0.true refl (omega arith) (omega arith) c.loop-i.invariant in
    (is, omega (arith, sym is, lt))

pub loop-i-preserved : goal.loop-i-preserved
loop-i-preserved c =
    both _ _ _ _ c.loop-i.invariant (all-bad _ _ _ _ _ c.bad_word-free.ensures c.bad_word-free.type_inv c.if-free-ne0.false)

pub returns : goal.returns
unfolding slot_on
returns c = sym (none _ c.args.from (length c.args.self.now.used.now) (omega arith) (λ s a b. c.loop-i.invariant s a (omega arith)))
