use Rattle.tokens.proofs.Begun.{built-begins}
use Rattle.tokens.proofs.begin.Goals as goal

pub returns-clause-stands : goal.returns-clause-stands
returns-clause-stands c =
    let m = c.args.memory.now in
    λ nodes. built-begins m.single.now m.offsets.now m.blob.now m.roots.now nodes m.table.now c.empty.ensures.emptied
