-- What the answers of the crate `line` mean. Assumes nothing.
use Rattle.std.specs.Prelude.{List, ℕ, ◌<◌, length}
use Rattle.spec.specs.Line as spec
use Rattle.line.specs.declared.Lines.{Lines}
use Rattle.line.specs.declared.Fields.{Fields}

-- the lines that are still to come
abbrev pub lines_left : Lines → List (List ℕ)
lines_left s = spec.lines s.rest.now

-- the fields that a line is split into
abbrev pub fields_of : Fields → spec.Fields
fields_of f = record { id = f.id.now; literal = f.literal.now; length = f.length.now }

-- each of the fields has a byte
abbrev pub NoneEmpty : Fields → Type 0
NoneEmpty f = (0 < length f.id.now) × (0 < length f.literal.now) × (0 < length f.length.now)
