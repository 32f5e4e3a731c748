-- What the quotes leave is what the literal leaves.
use Rattle.std.proofs.Common.{sym, ap, ◌∙◌}
use Rattle.literal.specs.Answers.{left}
use Rattle.literal.proofs.QuotedTurns.{read-bytes, read-string, finished}
use Rattle.literal.proofs.parse_python_literal_into.Goals as goal

pub returns-in-Some : goal.returns-in-Some
returns-in-Some c =
    let a = c.args in
    let h = c.in-Some.ensures.cases in
    let p = finished a.edition a.text.now a.res.now _ _
    (c.quoted.ensures ∙ ap (left a.res.now 0) (sym (read-bytes _ _ _ h.0 h.1))) in
    record { answer = p.0; cells = p.1 }

pub returns-in-None : goal.returns-in-None
returns-in-None c =
    let a = c.args in
    let p = finished a.edition a.text.now a.res.now _ _
    (c.quoted-in-None.ensures ∙ ap (left a.res.now 0) (sym (read-string _ _ c.in-None.ensures.cases))) in
    record { answer = p.0; cells = p.1 }
