-- The answer of the load as numbers, and the load as the edition asks for it.
use Rattle.std.proofs.Common.{◌≡◌, ℕ, Bool, List, Result, length, ap, ap₂, subst, ◌∙◌}
use Rattle.spec.specs.Memory.{Memory}
use Rattle.spec.specs.Load.{Form, vocabulary, table_room, start_of, load_on, Start, LoadResult}
use Rattle.memory.specs.Lent.{cells_in}
use Rattle.refusals.specs.declared.LoadError.{LoadError}
use Rattle.source.specs.SourceAnswers.{form_of, known}
use Rattle.source.specs.declared.How.{How}
use Rattle.source.proofs.Early.{load-known}
use Rattle.answers.specs.declared.Counts.{Counts}
use Rattle.answers.specs.Answers.{answer_of, loaded, WorkKept}
use Rattle.reports.specs.Report.{load_report, LoadReported}
use Rattle.rwkv_tokenizer.proofs.load.rwkv_load.Goals as goal

-- a load that was asked for as a text of an edition is a load of that text
as_asked : (edition : ℕ) (partial : Bool) (how : How) → (form_of how.form ≡ vocabulary (known edition)) × (how.partial ≡ partial)
    → (nodes table : ℕ) (m : Memory) (s : List ℕ)
    → (start_of (form_of how.form) how.partial m s ≡ start_of (vocabulary edition) partial m s)
    × (load_on (form_of how.form) how.partial nodes table m s ≡ load_on (vocabulary edition) partial nodes table m s)
as_asked edition partial how is nodes table m s =
    let k = load-known edition partial nodes table m s in (
      ap₂ (λ (f : Form) (b : Bool). start_of f b m s) is.0 is.1 ∙ k.0,
      ap₂ (λ (f : Form) (b : Bool). load_on f b nodes table m s) is.0 is.1 ∙ k.1,
    )

-- the answer of the load, as numbers
told : {o : LoadResult} {after : Memory} {report : List ℕ} (a : Result Counts LoadError) (r : ℕ) → loaded a after ≡ o
    → r ≡ (answer_of a).number → report ≡ load_report (answer_of a) → LoadReported o r report after
told a r l n v = record {
  number = n ∙ ap (λ (x : LoadResult). x.answer.number) l;
  values = v ∙ ap (λ (x : LoadResult). load_report x.answer) l;
  memory = ap (λ (x : LoadResult). x.memory) l;
}

pub returns-clause-loads : goal.returns-clause-loads
returns-clause-loads c =
    let a = c.args in
    let w = a.work.now in
    let t = table_room (length a.memory.now.table.now) (length w.used.now) (length w.used_bases.now) in
    let q = as_asked a.edition a.partial c.text_of-how.result c.text_of-how.ensures (length w.nodes.now) t (cells_in a.memory.now)
    a.text.now in
    let e = c.report_to.ensures in
    told c.from_source-load.result c.report_to.result (c.from_source-load.ensures.loads ∙ q.1) e.number e.values

pub returns-clause-work : goal.returns-clause-work
returns-clause-work c =
    let a = c.args in
    let w = a.work.now in
    let n = c.from_source-load.new.work in
    let q = as_asked a.edition a.partial c.text_of-how.result c.text_of-how.ensures 0 0 (cells_in a.memory.now) a.text.now in
    subst (λ (x : Start). WorkKept x w.nodes.now w.used.now w.used_bases.now n.nodes.now n.used.now n.used_bases.now) q.0
    c.from_source-load.ensures.work
