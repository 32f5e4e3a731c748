-- `decoding::decode_utf8` meets its contract: the answer of decoding to bytes, and the first bad offset of what was written. Assumes
-- nothing.
use Rattle.std.proofs.Common.{sym, length}
use lib.Seq.{length-take-le}
use Rattle.std.proofs.lemmas.Result.{err_from_is_err_and}
use Rattle.memory.specs.Lent.{cells_of}
use Rattle.decoding.proofs.DecodeText.{text-other, text-good, text-bad, whole-inside}
use Rattle.decoding.proofs.decode_utf8.Goals as goal

pub returns-in_err-len : goal.returns-in_err-len
returns-in_err-len c =
    let a = c.args in
    let b = c.decode_bytes in
    let p = err_from_is_err_and c.from_residual.result c.from_residual.ensures.1 in
    rw (p.1, p.2) (text-other (cells_of a.memory) (length a.out.now) a.ids.now a.out.now b.new.out b.auto.out
    c.in_err-len.field-0.0 c.in_err-len.ensures)

pub slice_bounds-first_bad-end : goal.slice_bounds-first_bad-end
slice_bounds-first_bad-end c =
    let a = c.args in
    let b = c.decode_bytes in
    whole-inside (cells_of a.memory) (length a.out.now) a.ids.now a.out.now b.new.out b.auto.out c.in_ok-len.len c.in_ok-len.ensures

pub slice_bounds-first_bad-end-2 : goal.slice_bounds-first_bad-end-2
slice_bounds-first_bad-end-2 c =
    let a = c.args in
    let b = c.decode_bytes in
    sym (length-take-le _ _ (whole-inside (cells_of a.memory) (length a.out.now) a.ids.now a.out.now b.new.out b.auto.out
    c.in_ok-len.len c.in_ok-len.ensures))

pub returns-in-None : goal.returns-in-None
returns-in-None c =
    let a = c.args in
    let b = c.decode_bytes in
    text-good (cells_of a.memory) (length a.out.now) a.ids.now a.out.now b.new.out b.auto.out c.in_ok-len.len c.in_ok-len.ensures
    (sym c.in-None.ensures)

pub returns-in-Some : goal.returns-in-Some
returns-in-Some c =
    let a = c.args in
    let b = c.decode_bytes in
    text-bad (cells_of a.memory) (length a.out.now) a.ids.now a.out.now b.new.out b.auto.out c.in_ok-len.len c.in_ok-len.ensures
    c.in-Some.offset (sym c.in-Some.ensures)
