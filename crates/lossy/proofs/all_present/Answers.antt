-- `lossy::all_present` meets its contract. Assumes nothing.
use Rattle.std.proofs.Common.{◌≡◌, sym, ap, ◌∙◌, get_or, zero-add, Bor, List, [], ℕ}
use borrow.Author.Count.{below_none, below_more}
use Rattle.std.proofs.lemmas.Result.{err_from_is_err_and}
use Rattle.std.specs.Prelude.{Option}
use Rattle.std.specs.Option.{ok_or, option_map}
use Rattle.spec.specs.Decode.{lookup}
use Rattle.memory.specs.Lent.{cells_of}
use Rattle.decoding.specs.declared.DecodeError.TheVariants.{Absent}
use Rattle.decoding.proofs.LookupLaws.{no_bytes, found}
use Rattle.lossy.proofs.LossyAnswers.{first_some, summed_none, summed-more}
use Rattle.lossy.proofs.all_present.Goals as goal

pub loop-index-init : goal.loop-index-init
loop-index-init c = record { present = below_none _; summed = summed_none _ }

pub returns-in_err-token : goal.returns-in_err-token
returns-in_err-token c =
    let a = c.args in
    let l = c.loop-index in
    let m = cells_of a.memory in
    let i = get_or a.ids.now l.index 0 in
    let p = err_from_is_err_and c.from_residual.result c.from_residual.ensures.1 in
    let e = c.in_err-token.ensures in
    let none : lookup m i ≡ [] = no_bytes _ (ap (option_map (λ (t : Bor (List ℕ)). t.now)) (sym e.ok_part) ∙ c.lookup.ensures) in
    let gone : c.in_err-token.field-0.0 ≡ Absent 0 l.index i =
    cc (e.value ∙ ap (λ (o : Option (Bor (List ℕ))). ok_or o (Absent 0 l.index i)) e.ok_part) in
    rw (p.1, p.2, gone) (first_some m a.ids.now 0 l.index l.invariant.present c.loop-index-test.true none ∙ rw zero-add)

pub loop-index-preserved : goal.loop-index-preserved
loop-index-preserved c =
    let a = c.args in
    let l = c.loop-index in
    let m = cells_of a.memory in
    let e = c.in_ok-token.ensures in
    let t = found _ _ (ap (option_map (λ (t : Bor (List ℕ)). t.now)) (sym e.ok_part) ∙ c.lookup.ensures) in
    record {
      present = below_more _ _ l.invariant.present (rw t.same t.some);
      summed = rw (c.saturating_add-total.ensures, ← t.same)
          (summed-more (lookup m) a.ids.now l.index l.total c.loop-index-test.true l.invariant.summed);
    }
