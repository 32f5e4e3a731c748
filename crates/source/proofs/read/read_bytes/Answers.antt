-- `source::read::read_bytes` meets its contract, where the literal is good. Assumes nothing.
use mathlib.Core.Path.{sym, ◌∙◌}
use native.Mathlib.Omega.{arith}
use Rattle.spec.specs.Check.{given}
use Rattle.spec.specs.Literal.{read}
use Rattle.source.proofs.Literals.{good, stored-front}
use Rattle.source.proofs.read.read_bytes.Goals as goal

pub returns : goal.returns
unfolding given
returns c =
    let a = c.args in
    let given = c.parse_python_literal_into.ensures in
    let len = c.in_ok-len.len in
    let g = good a.edition a.part.now len (sym c.in_ok-len.ensures.ok_part ∙ given.answer) in
    let bytes = (read a.edition a.part.now).bytes in
    let front = stored-front bytes a.cells.now len g.count (omega (arith, c.in_ok-length_refusal.ensures.short)) in
    rw (given.cells, front)
    (sym (rw g.is (c.in_ok-length_refusal.ensures.rule (record { id = a.id; bytes = bytes }) g.count)))
