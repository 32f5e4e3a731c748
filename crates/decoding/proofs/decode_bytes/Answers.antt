-- `decoding::decode_bytes` meets its contract: the first pass has the answer, the second writes what it says. Assumes nothing.
use Rattle.std.proofs.Common.{◌∙◌, ap, take, ℕ}
use Rattle.spec.specs.Lists.{each}
use Rattle.spec.specs.Decode.{lookup}
use Rattle.memory.specs.Lent.{cells_of}
use Rattle.decoding.proofs.DecodePasses.{answered-short, answered}
use Rattle.decoding.proofs.decode_bytes.Goals as goal

pub returns-then-too_short : goal.returns-then-too_short
returns-then-too_short c = answered-short _ _ _ _ c.if-too_short.ensures

pub returns : goal.returns
returns c =
    let a = c.args in
    answered _ a.ids.now a.out.now _ c.measure-answer.result c.write_tokens.new.out c.written-total.result
    c.if-too_short.ensures c.measure-answer.ensures c.written-total.ensures
    (c.write_tokens.ensures ∙ ap (λ (k : ℕ). each (lookup (cells_of a.memory)) (take k a.ids.now)) c.taken-count.ensures)
