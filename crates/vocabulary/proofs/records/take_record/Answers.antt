-- The record is refused as it is read, or its token is pushed.
use Rattle.std.proofs.lemmas.Result.{err_from_is_err_and}
use Rattle.vocabulary.proofs.RecordTurns.{pushable, pushed_takes, refused_takes}
use Rattle.vocabulary.proofs.records.take_record.Goals as goal

pub returns-in_err-token-clause-stands : goal.returns-in_err-token-clause-stands
returns-in_err-token-clause-stands c ts B =
    let e = err_from_is_err_and c.from_residual.result c.from_residual.ensures.1 in
    rw (e.1, e.2) (refused_takes _ _ c.args.memory.now _ _ _ B _ c.in_err-token.ensures)

pub push-requires : goal.push-requires
push-requires c = (
  c.requires.0,
  pushable _ _ c.args.part.now c.in_ok-token.token (λ k. (c.type_inv.part k).fits) c.in_ok-token.ensures,
  c.requires.1,
)

pub returns-clause-stands : goal.returns-clause-stands
returns-clause-stands c ts B =
    pushed_takes _ _ c.args.memory.now _ _ _ B c.in_ok-token.token c.in_ok-token.ensures c.push.new.memory _ c.push.result
    (λ table. c.push.ensures.stands table ts B)
