-- One turn after another keeps what is left of the source.
use Rattle.std.proofs.Common.{◌≡◌, ◌<◌, ◌+◌, ◌^◌, length, inl, ap, ◌∙◌, arith, rules}
use Rattle.std.specs.Iterator.Adapters.{enumerate_source, enumerate_count}
use Rattle.spec.specs.Line.{lines}
use Rattle.line.specs.Answers.{lines_left}
use Rattle.line.proofs.LineTurns.{lines_few}
use Rattle.answers.proofs.Settling.{kept_trans, long_kept}
use Rattle.vocabulary.proofs.RecordTurns.{small_of, going_starts, going_done, going_refused, going_on}
use Rattle.vocabulary.proofs.records.take_records.Goals as goal

-- nothing is counted yet, and all lines are left
starts : (c : goal.After-into_iter-n-iterator) → (enumerate_count c.into_iter-n-iterator.result ≡ 0)
    × (lines_left (enumerate_source c.into_iter-n-iterator.result) ≡ lines c.args.body.now)
starts c = (search rules, search rules)

pub loop-n-init-derived : goal.loop-n-init-derived
loop-n-init-derived c =
    let (none, all) = starts c in
    let few = lines_few c.args.body.now in
    let short : length c.args.body.now < 2 ^ 64 = search rules in
    ((tt, tt, inl (omega (arith, none, ap length all))), tt)

pub loop-n-init : goal.loop-n-init
loop-n-init c =
    let (none, all) = starts c in
    going_starts c.args.form c.args.body.now c.args.memory.now c.args.nodes.now c.args.build _ _ none all c.requires.1

pub take_record-requires : goal.take_record-requires
take_record-requires c =
    let G = c.loop-n.invariant in
    let S = G.same in
    (long_kept _ _ _ _ c.requires.0 S.single.1 S.offsets.1 S.roots.1, small_of G.built)

pub loop-n-preserved : goal.loop-n-preserved
loop-n-preserved c =
    let l = c.loop-n in
    let t = c.take_record in
    let step = c.in-Some.ensures.steps in
    going_on l.invariant _ _ step.0 _ step.2 t.new.memory t.new.nodes c.in-Ok.more c.in-Ok.ensures.stands t.ensures.kept
    t.ensures.table t.ensures.same t.auto.nodes

pub returns-in-Err-clause-stands : goal.returns-in-Err-clause-stands
returns-in-Err-clause-stands c =
    let step = c.in-Some.ensures.steps in
    going_refused c.loop-n.invariant _ _ step.0 _ (ap (λ n. n + 1) step.1) c.take_record.new.memory c.take_record.new.nodes
    c.in-Err.refusal c.in-Err.ensures.stands

pub returns-in-Err-clause-kept : goal.returns-in-Err-clause-kept
returns-in-Err-clause-kept c = kept_trans c.loop-n.invariant.kept c.take_record.ensures.kept

pub returns-in-Err-clause-table : goal.returns-in-Err-clause-table
returns-in-Err-clause-table c = c.take_record.ensures.table ∙ c.loop-n.invariant.table

pub returns-clause-stands : goal.returns-clause-stands
returns-clause-stands c = going_done c.loop-n.invariant c.in-None.ensures.steps.0.0
