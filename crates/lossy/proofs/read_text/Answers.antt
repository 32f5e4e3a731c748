-- `lossy::read_text` meets its contract. Assumes nothing.
use Rattle.std.proofs.Common.{refl, sym, ap, arith, length}
use Rattle.reader.specs.declared.Held.TheVariants.{Nothing}
use Rattle.memory.specs.Lent.{cells_of}
use Rattle.lossy.proofs.LossyPasses.{text-first, size-more, size-over, size-last}
use Rattle.lossy.proofs.read_text.Goals as goal

pub loop-id-init : goal.loop-id-init
loop-id-init c = record {
  fits = omega arith;
  whole = omega (arith, ap length (text-first (cells_of c.args.memory) c.args.ids.now Nothing refl));
}

pub returns-in_err-at : goal.returns-in_err-at
returns-in_err-at c =
    let a = c.args in
    let l = c.loop-id in
    rw c.from_residual.ensures
    (size-over (cells_of a.memory) a.ids.now l.id-index l.at.held l.at.len l.invariant.whole a.room c.loop-id-test.true
    (rw c.token_of.ensures at c.in_err-at.ensures))

pub loop-id-preserved : goal.loop-id-preserved
loop-id-preserved c =
    let a = c.args in
    let l = c.loop-id in
    let g = rw c.token_of.ensures at c.in_ok-at.ensures in
    record {
      fits = g.1;
      whole = size-more (cells_of a.memory) a.ids.now l.id-index l.at.held l.at.len l.invariant.whole _ c.loop-id-test.true g.0;
    }

pub returns-then-last-room : goal.returns-then-last-room
returns-then-last-room c =
    let a = c.args in
    let l = c.loop-id in
    omega (
      arith,
      size-last (cells_of a.memory) a.ids.now l.id-index l.at.held l.at.len l.invariant.whole c.finish-last.result
          c.loop-id-test.false c.finish-last.ensures,
    )

pub returns : goal.returns
returns c =
    let a = c.args in
    let l = c.loop-id in (
      sym (size-last (cells_of a.memory) a.ids.now l.id-index l.at.held l.at.len l.invariant.whole c.finish-last.result
          c.loop-id-test.false c.finish-last.ensures),
      omega arith,
    )
