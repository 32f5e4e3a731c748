-- `lossy::decode_lossy` meets its contract: the first absent id, then the size of the text, then the text. Assumes nothing.
use Rattle.std.proofs.Common.{◌≡◌, ◌++◌, arith, ap, sym, subst, ◌∙◌, length, drop, length-take-le, List, ℕ}
use Rattle.std.proofs.lemmas.Result.{err_from_is_err_and}
use Rattle.std.specs.Prelude.{Option}
use Rattle.std.specs.Option.{ok_or}
use Rattle.spec.specs.Lists.{each}
use Rattle.spec.specs.Utf8.{lossy}
use Rattle.spec.specs.Decode.{lookup}
use Rattle.memory.specs.Lent.{cells_of}
use Rattle.decoding.specs.declared.DecodeError.TheVariants.{Full}
use Rattle.lossy.specs.Lossy.{SizeIs}
use Rattle.lossy.proofs.LossyAnswers.{lossy-answered-short, lossy-answered-absent, lossy-answered-full, lossy-answered-whole, summed-exact}
use Rattle.lossy.proofs.LossyText.{lossy-near}
use Rattle.lossy.proofs.decode_lossy.Goals as goal

pub returns-then-too_short : goal.returns-then-too_short
returns-then-too_short c = lossy-answered-short _ _ _ _ c.if-too_short.ensures

pub returns-in_err-total : goal.returns-in_err-total
returns-in_err-total c =
    let a = c.args in
    let p = err_from_is_err_and c.from_residual.result c.from_residual.ensures.1 in
    rw (p.1, p.2) (lossy-answered-absent (cells_of a.memory) a.ids.now a.out.now (length a.out.now) c.if-too_short.ensures
    c.in_err-total.field-0.0 c.in_err-total.ensures)

pub returns-then-total-out : goal.returns-then-total-out
returns-then-total-out c =
    let a = c.args in
    let m = cells_of a.memory in
    let p = c.in_ok-total.ensures in
    let w = c.write_sure.ensures in
    let total = summed-exact _ _ p.1 (omega arith) in
    lossy-answered-whole m a.ids.now a.out.now (length a.out.now) c.if-too_short.ensures p.0 _ _ w.size
    (omega (arith, w.size, total, (lossy-near (each (lookup m) a.ids.now)).1)) w.cells

pub returns-in_err-len : goal.returns-in_err-len
returns-in_err-len c =
    let a = c.args in
    let m = cells_of a.memory in
    let p = err_from_is_err_and c.from_residual-in_err-len.result c.from_residual-in_err-len.ensures.1 in
    let e = c.in_err-len.ensures in
    let gone : c.in_err-len.field-0.0 ≡ Full 0 (length a.ids.now) =
    cc (e.value ∙ ap (λ (o : Option ℕ). ok_or o (Full 0 (length a.ids.now))) e.ok_part) in
    let long = subst (SizeIs (lossy (each (lookup m) a.ids.now)) (length a.out.now)) e.ok_part c.read_text.ensures in
    rw (p.1, p.2, gone)
    (lossy-answered-full m a.ids.now a.out.now (length a.out.now) c.if-too_short.ensures c.in_ok-total.ensures.0 long)

pub write_text-requires : goal.write_text-requires
write_text-requires c =
    let a = c.args in
    let m = cells_of a.memory in
    let text = lossy (each (lookup m) a.ids.now) in
    let p = c.in_ok-total.ensures in
    let k = subst (SizeIs text (length a.out.now)) c.in_ok-len.ensures.ok_part c.read_text.ensures in (
      p.0,
      p.1.exact (omega (arith, k.0, k.1, (lossy-near (each (lookup m) a.ids.now)).0)),
      sym k.0 ∙ sym (length-take-le c.in_ok-len.len a.out.now k.1),
    )

pub returns : goal.returns
returns c =
    let a = c.args in
    let m = cells_of a.memory in
    let text = lossy (each (lookup m) a.ids.now) in
    let len = c.in_ok-len.len in
    let k = subst (SizeIs text (length a.out.now)) c.in_ok-len.ensures.ok_part c.read_text.ensures in
    lossy-answered-whole m a.ids.now a.out.now (length a.out.now) c.if-too_short.ensures c.in_ok-total.ensures.0 len _ k.0 k.1
    (ap (λ (u : List ℕ). u ++ drop len a.out.now) c.write_text.ensures ∙ ap (λ (n : ℕ). text ++ drop n a.out.now) k.0)
