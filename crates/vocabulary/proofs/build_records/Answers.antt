-- A record is refused, or the end of the build is, or the build is packed.
use Rattle.std.proofs.Common.{◌∙◌, refl, length}
use Rattle.std.proofs.lemmas.Result.{err_from_is_err_and}
use Rattle.spec.specs.Load.{table_room}
use Rattle.tokens.specs.Built.{room_for}
use Rattle.tokens.proofs.PushMeans.{counts_of_built}
use Rattle.answers.proofs.Settling.{begun_kept, kept_trans, long_kept, records_made, same_memory, finished_memory}
use Rattle.vocabulary.proofs.RecordTurns.{same_trans}
use Rattle.vocabulary.proofs.Building.{loads_same, reads_same, table_same}
use Rattle.vocabulary.proofs.build_records.Goals as goal

pub returns-in_err-st-clause-built : goal.returns-in_err-st-clause-built
returns-in_err-st-clause-built c =
    let a = c.args in
    let T = table_room (length a.memory.now.table.now) (length a.work.now.used.now) (length a.work.now.used_bases.now) in
    let e = err_from_is_err_and c.from_residual.result c.from_residual.ensures.1 in
    rw (e.1, e.2)
    (loads_same _ _ _ a.work.now.nodes.now a.memory.now c.begin-begun.new.memory c.begin-begun.ensures.same T _
    (c.in_err-st.ensures.stands a.plan.partial T))

pub returns-in_err-st-clause-kept : goal.returns-in_err-st-clause-kept
returns-in_err-st-clause-kept c = kept_trans (begun_kept _ _ _ _ c.begin-begun.ensures.emptied) c.take_records.ensures.kept

pub returns-in_err-st-clause-same : goal.returns-in_err-st-clause-same
returns-in_err-st-clause-same c = same_trans _ _ _ c.begin-begun.ensures.same c.take_records.ensures.same

pub finish-requires : goal.finish-requires
finish-requires c =
    let S = same_trans _ _ _ c.begin-begun.ensures.same c.take_records.ensures.same in
    let made = records_made (c.in_ok-st.ensures.stands c.args.plan.partial 0).2 in
    (long_kept _ _ _ _ c.requires.0 S.single.1 S.offsets.1 S.roots.1, made.0, made.1)

pub returns-in_err-words-clause-built : goal.returns-in_err-words-clause-built
returns-in_err-words-clause-built c =
    let a = c.args in
    let us = length a.work.now.used.now in
    let vs = length a.work.now.used_bases.now in
    let T = table_room (length a.memory.now.table.now) us vs in
    let S = same_trans _ _ _ c.begin-begun.ensures.same c.take_records.ensures.same in
    let R = c.in_ok-st.ensures.stands a.plan.partial T in
    let read = reads_same _ a.plan.partial _ a.work.now.nodes.now a.memory.now c.begin-begun.new.memory c.begin-begun.ensures.same T
    R.0 R.1 in
    let F = c.in_err-words.ensures.stands c.take_records.new.memory.blob.now (room_for a.work.now.nodes.now a.memory.now.blob.now T) R.0
    (table_same _ _ us vs S.table.1) R.2 in
    let e = err_from_is_err_and c.from_residual-in_err-words.result c.from_residual-in_err-words.ensures.1 in
    rw (e.1, e.2) (read ∙ F)

pub returns-in_err-words-clause-kept : goal.returns-in_err-words-clause-kept
returns-in_err-words-clause-kept c =
    kept_trans (kept_trans (begun_kept _ _ _ _ c.begin-begun.ensures.emptied) c.take_records.ensures.kept) c.finish.ensures.kept

pub returns-in_err-words-clause-same : goal.returns-in_err-words-clause-same
returns-in_err-words-clause-same c =
    same_trans _ _ _ (same_trans _ _ _ c.begin-begun.ensures.same c.take_records.ensures.same) c.finish.ensures.same

pub returns-clause-built : goal.returns-clause-built
returns-clause-built c =
    let a = c.args in
    let us = length a.work.now.used.now in
    let vs = length a.work.now.used_bases.now in
    let T = table_room (length a.memory.now.table.now) us vs in
    let S = same_trans _ _ _ c.begin-begun.ensures.same c.take_records.ensures.same in
    let K = kept_trans (begun_kept _ _ _ _ c.begin-begun.ensures.emptied) c.take_records.ensures.kept in
    let R = c.in_ok-st.ensures.stands a.plan.partial T in
    let read = reads_same _ a.plan.partial _ a.work.now.nodes.now a.memory.now c.begin-begun.new.memory c.begin-begun.ensures.same T
    R.0 R.1 in
    let F = c.in_ok-words.ensures.stands c.take_records.new.memory.blob.now (room_for a.work.now.nodes.now a.memory.now.blob.now T) R.0
    (table_same _ _ us vs S.table.1) R.2 in
    let rest = c.finish.ensures.rest in (
      R.0,
      read ∙ F.0,
      c.of.ensures.means R.0 (counts_of_built R.2) F.1,
      same_memory rest.0 refl rest.1 refl refl ∙ finished_memory R.2 _ _ _ K S.blob.1 S.table.1 F.2 F.3 F.4,
    )

pub returns-clause-kept : goal.returns-clause-kept
returns-clause-kept c =
    kept_trans (kept_trans (begun_kept _ _ _ _ c.begin-begun.ensures.emptied) c.take_records.ensures.kept) c.finish.ensures.kept

pub returns-clause-same : goal.returns-clause-same
returns-clause-same c =
    same_trans _ _ _ (same_trans _ _ _ c.begin-begun.ensures.same c.take_records.ensures.same) c.finish.ensures.same
