-- `line::last_space` meets its contract. Assumes nothing.
use Rattle.std.proofs.Common.{rules}
use Rattle.line.proofs.Spaces.{IsLast, is_last}
use Rattle.line.proofs.last_space.Goals as goal

pub returns : goal.returns
returns c =
    let f : IsLast c.args.line.now c.rposition.result = search rules in
    is_last c.args.line.now c.rposition.result f
