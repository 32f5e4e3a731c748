-- Demand 3 as one theorem, from a text to the calls that are linked. Assumes nothing.
use mathlib.Core.Path.{refl, sym, ◌∙◌, subst}
use lib.ListN.{length}
use Rattle.spec.specs.Memory.{Memory}
use Rattle.spec.specs.Load.{table_room, vocabulary, load_on}
use Rattle.demands.specs.DemandTheorems.{Streams, Demand3FromText, Demand3FromTextByValue}
use Rattle.demands.proofs.TextIn.{text_in-ids-out}

pub demand3-from_text_by_value : Demand3FromTextByValue
demand3-from_text_by_value form partial nodes used bases m s r h L e =
    let (mode, ts, T) = text_in-ids-out form partial nodes used bases m s r h L e in
    (mode, ts, record { states = T.states; lent = T.gives.lent; by_value = T.gives.by_value })

pub demand3-from_text : Demand3FromText
demand3-from_text edition partial nodes used bases m text r report after h L e =
    let form = vocabulary edition in
    let o = load_on form partial nodes (table_room (length m.table) used bases) m text in
    let (mode, ts, S) = demand3-from_text_by_value form partial nodes used bases m text o h refl (sym L.number ∙ e) in
    (mode, ts, subst (λ (x : Memory). Streams form partial nodes used bases m text x mode ts) (sym L.memory) S)
