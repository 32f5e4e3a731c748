-- The loop over the roots: those so far are words.
use Rattle.nodes.specs.Run.{see}
use Rattle.words.specs.NodeWords.{root_word}
use Rattle.words.proofs.Roots.{Sofar}
use Rattle.packing.proofs.layout.Based.put_roots.Given as goal

abbrev pub invariant-loop-root : goal.invariant-loop-root
invariant-loop-root l = Sofar (root_word (see l.self.nodes.now) l.self.made) l.initial.root-items l.root-items l.root-index
