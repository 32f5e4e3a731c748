-- A byte against the rules of the grammar: the tests of a `match`, as inequalities, decide which rule begins with it.
-- Assumes nothing.
use mathlib.Core.Path.{◌≡◌}
use Rattle.std.specs.Prelude.{Some}
use mathlib.Core.List.{List, [], ◌∷◌}
use Prim.Native.Nat.{ℕ, zero, suc}
use Rattle.spec.specs.Utf8.{Range, Rule, grammar, rule_for, after}
use Rattle.laws.specs.Utf8Laws.{In, Out, inside, outside}

-- n lies in the first range of rule i, and in that of no rule before it
abbrev pub RuleAt : List Rule → ℕ → ℕ → Type 0
RuleAt [] i n = ⊥
RuleAt (r ∷ rs) zero n = In r.first n
RuleAt (r ∷ rs) (suc i) n = Out r.first n × RuleAt rs i n

abbrev pub others_at : List Rule → ℕ → List Range
others_at [] i = []
others_at (r ∷ rs) zero = r.others
others_at (r ∷ rs) (suc i) = others_at rs i

rule_at : (rs : List Rule) (i n : ℕ) → RuleAt rs i n → rule_for rs n ≡ Some (others_at rs i)
unfolding rule_for
rule_at [] i n h = absurd h
rule_at (r ∷ rs) zero n h = rw (inside r.first n h)
rule_at (r ∷ rs) (suc i) n h = rw (outside r.first n h.0) (rule_at rs i n h.1)

pub after-at : (i n : ℕ) → unfold grammar in RuleAt grammar i n → after n ≡ unfold grammar in Some (others_at grammar i)
unfolding after
after-at i n h = rule_at grammar i n h
