-- What the library's search finds is the first word that is not full.
use Rattle.std.proofs.Common.{◌-◌, drop, take, length, length-drop, rules, tests, take_all, arith}
use Rattle.std.proofs.lemmas.Iterator.{YieldsList-from_slice}
use Rattle.std.proofs.lemmas.Iterator.Search.{position_from_yields_List}
use Rattle.slots.proofs.Starts.{some_free, open_where}
use Rattle.slots.proofs.search.open_from.Goals as goal

pub returns : goal.returns
returns c =
    let U = c.args.used.now in
    let xs = take (length U - c.args.from) (drop c.args.from U) in
    rw c.unwrap_or.ensures
    (open_where U c.args.from xs c.position-open.result (take_all _ _ (omega (arith, length-drop c.args.from U)))
    (position_from_yields_List some_free _ _ c.position-open.result c.position-open.ensures.ran (YieldsList-from_slice xs cc)
    (λ x b q k. search (rules, tests))))
