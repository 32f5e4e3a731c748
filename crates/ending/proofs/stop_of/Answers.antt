use Rattle.ending.proofs.BuildEnd.{single_of, finished-none, finished-wanting}
use Rattle.ending.proofs.stop_of.Goals as goal

pub returns-then-st-eq0-clause-stops : goal.returns-then-st-eq0-clause-stops
returns-then-st-eq0-clause-stops c = λ most ts os bl rs ns tb os' rs' tb' B.
    rw c.from.ensures (finished-none c.args.partial most B tb os' rs' tb' c.if-st-eq0.true)

pub returns-in-Some-clause-stops : goal.returns-in-Some-clause-stops
returns-in-Some-clause-stops c = λ most ts os bl rs ns tb os' rs' tb' B.
    finished-wanting c.args.partial most B tb os' rs' tb' c.if-st-eq0.false _ (c.in-Some.ensures ts (single_of B))
