-- `line::split_fields` meets its contract, where the line has fields. Assumes nothing.
use mathlib.Core.Path.{sym, ◌∙◌}
use native.Mathlib.Omega.{arith}
use Rattle.line.proofs.Cut.{found}
use Rattle.line.proofs.split_fields.Goals as goal

pub returns-clause-means : goal.returns-clause-means
returns-clause-means c =
    found c.args.line.now c.in_ok-first.first c.in_ok-last.last (sym c.is_blank.ensures ∙ c.if-is_blank.false)
    (sym c.first_space.ensures ∙ c.in_ok-first.ensures.ok_part) (sym c.last_space.ensures ∙ c.in_ok-last.ensures.ok_part)
    (omega arith) (omega arith) (omega arith)
