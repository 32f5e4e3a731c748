-- The walk begins in order, from marks and cursors that are zero.
use Rattle.std.proofs.Common.{refl}
use Rattle.packing.proofs.Chained.{all_placed}
use Rattle.packing.proofs.place_all.Goals as goal

pub returns-clause-stands : goal.returns-clause-stands
returns-clause-stands c =
    let a = c.args in
    all_placed a.nodes.now c.thread_all-first.new.nodes c.place_chain.new.nodes a.made c.thread_all-first.result a.used.now
    a.bases.now _ _ _ c.place_chain.result c.requires.2.from_le c.thread_all-first.ensures.stands (c.fill.ensures.after (λ y e. e))
    (c.fill-2.ensures.after (λ y e. e)) refl c.place_chain.ensures.stands
