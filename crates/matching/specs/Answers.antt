-- The values of this crate's types as those of the definitions: a walk and a match. Assumes nothing.
use Rattle.std.specs.Prelude.{cond, List, ℕ, eqb, get_or, Option, None, Some}
use Rattle.std.specs.Int.Bits.{bit_xor}
use Rattle.spec.specs.Match as spec
use Rattle.spec.specs.Match.{goes, id_in, base_in}
use Rattle.matching.specs.declared.Walk.{Walk}
use Rattle.matching.specs.declared.Trail.{Trail}
use Rattle.matching.specs.declared.Match.{Match}

-- the last token that a walk passed: "length 0: none", and then its id is 0
abbrev pub longest : spec.Walk → Option Match
longest k = cond (eqb k.id 0) None (Some (record { id = k.id; len = k.len }))

abbrev pub walk_of : spec.Walk → Walk
walk_of k = record { longest = longest k; used = k.used; base = k.base }

-- its words tell the rest; the length counts only where there is an id
abbrev pub trail_of : Trail → spec.Walk
trail_of t = record { id = id_in t.best; len = cond (eqb (id_in t.best) 0) 0 t.len; used = t.used; base = base_in t.word }

abbrev pub match_of : Option Match → spec.Match
match_of (Some m) = spec.found m.id m.len
match_of None = spec.nothing

-- the word that byte b leads to from a base, if it leads anywhere
unfoldable pub child : List ℕ → ℕ → ℕ → Option ℕ
unfolding goes
child table base b = let w = get_or table (bit_xor base b) 0 in cond (goes w b) (Some w) None
