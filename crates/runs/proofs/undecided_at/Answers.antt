-- `runs::undecided_at` meets its contract: each return is a case of `undecided_on`, told by the bytes left and their walk. Assumes
-- nothing.
use Rattle.std.proofs.Common.{arith, sym, ap, ◌∙◌}
use Rattle.matching.specs.declared.Walk as code
use Rattle.runs.proofs.Undecided.{long_decided, at_last, at-unused, at-used}
use Rattle.runs.proofs.undecided_at.Goals as goal

pub returns-then-rest-ge255 : goal.returns-then-rest-ge255
returns-then-rest-ge255 c = sym (long_decided _ _ (omega arith))

pub returns-then-rest-eq1 : goal.returns-then-rest-eq1
returns-then-rest-eq1 c = c.row_open.ensures ∙ at_last _ _ (omega arith)

pub returns-then-walk-rest : goal.returns-then-walk-rest
returns-then-walk-rest c =
    at-unused _ _ (omega arith) (omega arith) _ (ap (λ (k : code.Walk). k.used) c.walk_at-walk.ensures) c.if-walk-rest.true

pub returns : goal.returns
returns c =
    rw (ap (λ (k : code.Walk). k.base) c.walk_at-walk.ensures)
    (at-used _ _ (omega arith) (omega arith) _ (ap (λ (k : code.Walk). k.used) c.walk_at-walk.ensures) c.if-walk-rest.false)
