-- `stream::take_rest` meets its contract, by what `run` gives in each of its cases. Assumes nothing.
use Rattle.std.proofs.Common.{Ok, Err, ◌+◌, length, drop, get_or, arith, ap, ◌∙◌}
use Rattle.std.proofs.lemmas.List as lists
use Rattle.spec.specs.Stream.{holding}
use Rattle.tally.specs.declared.Tally.{Tally}
use Rattle.stream_record.specs.declared.StreamError.TheVariants.{Stopped}
use Rattle.runs.proofs.RunTurns.{few_given}
use Rattle.stream.proofs.Adding.{waits_few, rest-through, rest-waiting, rest-stuck}
use Rattle.stream.proofs.take_rest.Goals as goal

pub opened-requires-in-Waiting : goal.opened-requires-in-Waiting
opened-requires-in-Waiting c =
    let w = waits_few _ (drop c.in-Waiting.at c.args.rest.now) c.in-Waiting.ensures.comes.1 in
    let p = lists.take_rest c.args.rest.now c.in-Waiting.at in
    omega (arith, w, ap length p)

pub with-requires : goal.with-requires
with-requires c =
    let f = few_given c.in-Through.ensures in
    let p = c.in-Through.ensures.comes.1 in
    (omega (arith, f, p), omega (arith, f, p))

pub with-requires-in-Waiting : goal.with-requires-in-Waiting
with-requires-in-Waiting c =
    let f = few_given c.in-Waiting.ensures in
    let p = c.in-Waiting.ensures.comes.0 in
    (omega (arith, f, p), omega (arith, f, p))

pub with-requires-in-Stuck : goal.with-requires-in-Stuck
with-requires-in-Stuck c =
    let f = few_given c.in-Stuck.ensures in
    let p = c.in-Stuck.ensures.comes.0 in
    (omega (arith, f, p), omega (arith, f, p))

pub returns-in-Through : goal.returns-in-Through
returns-in-Through c ids b =
    let a = c.args in
    let all = a.start + length a.rest.now in
    rest-through _ a.rest.now a.start all _ a.before _ ids _ _ _ b c.in-Through.ensures (
      c.opened.ensures.0 ∙ ap Ok c.with.ensures,
      c.opened.ensures.1 ∙ ap (holding 0 all) (lists.take_rest a.rest.now c.in-Through.at),
    )

pub returns-in-Waiting : goal.returns-in-Waiting
returns-in-Waiting c ids b =
    let a = c.args in
    let all = a.start + length a.rest.now in
    rest-waiting _ a.rest.now a.start all _ a.before _ ids _ _ _ b c.in-Waiting.ensures (
      c.opened-in-Waiting.ensures.0 ∙ ap Ok c.with-in-Waiting.ensures,
      c.opened-in-Waiting.ensures.1 ∙ ap (holding 0 all) (lists.take_rest a.rest.now c.in-Waiting.at),
    )

pub returns-in-Stuck : goal.returns-in-Stuck
returns-in-Stuck c ids b =
    let a = c.args in
    let at = c.in-Stuck.at in
    rest-stuck _ a.rest.now a.start (a.start + length a.rest.now) at a.before _ ids _ _ _ b c.in-Stuck.ensures (
      c.stopped.ensures.0
          ∙ ap (λ (t : Tally). Err (Stopped t (a.start + at) (get_or a.rest.now at 0))) c.with-in-Stuck.ensures,
      c.stopped.ensures.1,
    )
