-- `stream::add` meets its contract: what refuses it leaves all as it was, and what goes through is `take_piece`. Assumes nothing.
use Rattle.std.proofs.Common.{arith, refl}
use Rattle.laws.specs.Reads.{long_enough}
use Rattle.stream.proofs.Calling.{ready, gives-refused, gives-added}
use Rattle.stream_record.specs.Answers.{record_of}
use Rattle.stream.proofs.add.Goals as goal

pub returns-in-Err : goal.returns-in-Err
returns-in-Err c =
    let e = c.in-Err.ensures in
    gives-refused _ _ _ _ _ (e.refusal c.args.piece.now c.args.out.now refl refl) refl e.looked refl

pub shared_ref_as_front-held : goal.shared_ref_as_front-held
shared_ref_as_front-held c =
    let g = ready _ (record_of c.args.stream) _ _ (c.in_default.ensures.refusal c.args.piece.now c.args.out.now refl refl) (omega arith) in
    omega (arith, g.passes.few)

pub take_piece-requires : goal.take_piece-requires
take_piece-requires c =
    let g = ready _ (record_of c.args.stream) _ _ (c.in_default.ensures.refusal c.args.piece.now c.args.out.now refl refl) (omega arith) in
    let p = g.passes in
    let l = long_enough _ g.long in (
      omega (arith, g.many, p.few),
      omega (arith, g.many, p.held),
      l.single,
      l.roots,
      omega (arith, p.total),
      omega (arith, g.many, p.room),
    )

pub returns : goal.returns
returns c =
    gives-added _ _ _ _ _ _ (c.in_default.ensures.refusal c.args.piece.now c.args.out.now refl refl) (omega arith)
    (rw c.from.ensures at c.take_piece.ensures)
