-- `line::first_space` meets its contract. Assumes nothing.
use mathlib.Core.Path.{◌∙◌}
use Rattle.line.proofs.Spaces.{first_position}
use Rattle.line.proofs.first_space.Goals as goal

pub returns : goal.returns
returns c = c.find.ensures ∙ first_position c.args.line.now
