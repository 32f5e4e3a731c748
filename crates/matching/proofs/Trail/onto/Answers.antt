-- `matching::Trail::onto` meets its contract, by whether the word has an id. Assumes nothing.
use Rattle.std.proofs.Common.{sym, ◌∙◌}
use borrow.Author.Tests.{eq-eqb, ne_eqb}
use Rattle.spec.specs.Match.{id_in, onto}
use Rattle.matching.proofs.Trail.onto.Goals as goal

pub returns-then-id_in-eq0 : goal.returns-then-id_in-eq0
unfolding onto
returns-then-id_in-eq0 c = rw (eq-eqb (id_in c.args.word) 0 (sym c.id_in.ensures ∙ c.if-id_in-eq0.true), onto)

pub returns : goal.returns
unfolding onto
returns c = rw (ne_eqb (id_in c.args.word) 0 (λ z. c.if-id_in-eq0.false (c.id_in.ensures ∙ z)), onto)
