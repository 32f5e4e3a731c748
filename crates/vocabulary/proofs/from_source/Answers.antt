-- The start halts, or the records are loaded.
use Rattle.std.proofs.Common.{Option, sym, ap, ◌∙◌, length, take}
use Rattle.std.proofs.lemmas.Result.{err_from_is_err_and}
use Rattle.spec.specs.Load.{load, settled, table_room}
use Rattle.laws.specs.Reads.{long_enough}
use Rattle.loading.specs.Left.{start-goes, by-start}
use Rattle.memory.specs.Lent.{cells_in}
use Rattle.tokens.specs.Built.{room_for}
use Rattle.source.specs.SourceAnswers.{form_of}
use Rattle.source.specs.declared.Edition.{Edition}
use Rattle.vocabulary.proofs.Building.{starts_as}
use Rattle.vocabulary.proofs.from_source.Goals as goal

pub returns-in_err-plan-clause-loads : goal.returns-in_err-plan-clause-loads
returns-in_err-plan-clause-loads c =
    let a = c.args in
    let m = cells_in a.memory.now in
    let table = table_room (length a.memory.now.table.now) (length a.work.now.used.now) (length a.work.now.used_bases.now) in
    let e = err_from_is_err_and c.from_residual.result c.from_residual.ensures.1 in
    let s = starts_as a.how a.source.now c.as_memory.ensures c.in_err-plan.ensures.means in
    rw (e.1, e.2) (sym (by-start (form_of a.how.form) (length a.work.now.nodes.now) table m a.how.partial a.source.now _ s))

pub load_records-requires : goal.load_records-requires
load_records-requires c =
    let a = c.args in
    let m = cells_in a.memory.now in
    let s = starts_as a.how a.source.now c.as_memory.ensures c.in_ok-plan.ensures.means in
    (long_enough m (start-goes (form_of a.how.form) a.how.partial m a.source.now _ _ s).0, c.in_ok-plan.ensures.plan.1)

pub returns-clause-loads : goal.returns-clause-loads
returns-clause-loads c =
    let a = c.args in
    let p = c.in_ok-plan.plan in
    let m = cells_in a.memory.now in
    let table = table_room (length a.memory.now.table.now) (length a.work.now.used.now) (length a.work.now.used_bases.now) in
    let s = starts_as a.how a.source.now c.as_memory.ensures c.in_ok-plan.ensures.means in
    c.load_records.ensures.loads
    ∙ ap (λ (x : Option Edition).
    settled m (load (form_of x) p.partial (room_for a.work.now.nodes.now a.memory.now.blob.now table) (take p.end a.source.now)))
    (sym c.in_ok-plan.ensures.plan.0)
    ∙ sym (by-start (form_of a.how.form) (length a.work.now.nodes.now) table m a.how.partial a.source.now _ s)
