-- `lossy::text_len` meets its contract. Assumes nothing.
use Rattle.std.proofs.Common.{arith}
use Rattle.lossy.proofs.LossyText.{lossy-near, breaks-size}
use Rattle.lossy.proofs.text_len.Goals as goal

pub overflow_add-len : goal.overflow_add-len
overflow_add-len c =
    let l = c.loop-part in
    omega (arith, l.invariant, c.requires, (lossy-near c.args.s.now).1, breaks-size l.rest.now c.in-Some.part c.in-Some.ensures)

pub overflow_add-len-in-Some : goal.overflow_add-len-in-Some
overflow_add-len-in-Some c =
    let l = c.loop-part in
    omega (arith, l.invariant, c.requires, (lossy-near c.args.s.now).1, breaks-size l.rest.now c.in-Some.part c.in-Some.ensures)
