-- `lossy::read_bytes` meets its contract. Assumes nothing.
use Rattle.std.proofs.Common.{arith}
use Rattle.reader.specs.HeldBytes.{held_of}
use Rattle.lossy.proofs.LossyPasses.{along-more, along-room, along-all, next_byte, no_byte}
use Rattle.lossy.proofs.read_bytes.Goals as goal

pub returns-then-pushed-room : goal.returns-then-pushed-room
returns-then-pushed-room c =
    let a = c.args in
    let l = c.loop-b in
    omega (
      arith,
      along-room (held_of a.from.held) a.token.now a.from.len l.at.held l.at.len _ _ _
          (next_byte a.token.now l.b-index c.loop-b-test.true) l.invariant.along c.push-pushed.result c.push-pushed.ensures,
    )

pub loop-b-preserved : goal.loop-b-preserved
loop-b-preserved c =
    let a = c.args in
    let l = c.loop-b in
    record {
      fits = omega arith;
      along = along-more (held_of a.from.held) a.token.now a.from.len l.at.held l.at.len _ _ _
          (next_byte a.token.now l.b-index c.loop-b-test.true) l.invariant.along c.push-pushed.result c.push-pushed.ensures;
    }

pub returns : goal.returns
returns c =
    let a = c.args in
    let l = c.loop-b in (
      along-all (held_of a.from.held) a.token.now a.from.len l.at.held l.at.len _
          (no_byte a.token.now l.b-index c.loop-b-test.false) l.invariant.along,
      l.invariant.fits,
    )
