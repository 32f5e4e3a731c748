use Rattle.std.proofs.Common.{pos, sym, ◌∙◌, arith, length-take-le}
use Rattle.std.proofs.lemmas.List.Quantifiers.{position-Some}
use Rattle.ending.proofs.BuildEnd.{is_free, free-missing}
use Rattle.ending.proofs.missing_byte.Goals as goal

pub returns-in_err-b : goal.returns-in_err-b
returns-in_err-b c = λ ts S. c.from_residual.ensures ∙ c.in_err-b.ensures ∙ free-missing ts _ S

pub overflow_cast-result : goal.overflow_cast-result
overflow_cast-result c =
    let p = position-Some is_free _ c.in_ok-b.b (pos 0) (sym c.in_ok-b.ensures) in
    omega (arith, p.0, length-take-le 256 c.args.single.now c.requires)

pub returns : goal.returns
returns c = λ ts S. c.in_ok-b.ensures ∙ free-missing ts _ S
