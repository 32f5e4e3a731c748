-- The loop over the nodes: what is still to be written from a node on leads to what was to be written at first.
use Rattle.std.proofs.Common.{◌≡◌, ◌+◌, ◌-◌}
use Rattle.spec.specs.Lists.{fold}
use Rattle.laws.specs.Fill.{write}
use Rattle.nodes.specs.Run.{see}
use Rattle.words.specs.NodeWords.{node_writes}
use Rattle.packing.proofs.layout.Based.put_words.Given as goal

abbrev pub invariant-loop-n : goal.invariant-loop-n
invariant-loop-n l =
    fold write l.table (node_writes (see l.self.nodes.now) l.self.made (l.self.made - (l.n-index + 1)) (l.n-index + 1))
    ≡ fold write l.initial.table (node_writes (see l.self.nodes.now) l.self.made (l.self.made - 1) 1)
