use Rattle.std.proofs.Common.{length-take-le, arith}
use Rattle.words.proofs.Roots.{goes_on, ends}
use Rattle.packing.proofs.layout.Based.put_roots.Goals as goal

pub offset_bounds-root-items-root-index : goal.offset_bounds-root-items-root-index
offset_bounds-root-items-root-index c = let n = length-take-le 65536 c.args.roots.now c.requires in omega arith

pub loop-root-preserved : goal.loop-root-preserved
loop-root-preserved c = goes_on _ _ _ _ _ c.loop-root-test.true c.word_of_root.ensures c.loop-root.invariant

pub returns : goal.returns
returns c = ends _ c.args.roots.now _ _ c.loop-root-test.false c.loop-root.invariant
