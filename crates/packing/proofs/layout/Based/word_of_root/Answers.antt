use Rattle.std.proofs.Common.{sym, ◌∙◌}
use Rattle.nodes.specs.Run.{see}
use Rattle.words.proofs.WordTurns.{root-none, root-at}
use Rattle.packing.proofs.layout.Based.word_of_root.Goals as goal

pub returns-in_default : goal.returns-in_default
returns-in_default c = root-none (see c.args.self.nodes.now) c.args.self.made c.args.root (sym c.link.ensures.means ∙ c.in_default.is)

pub returns : goal.returns
unfolding see
returns c =
    c.root_word_of.ensures
    ∙ root-at (see c.args.self.nodes.now) c.args.self.made c.args.root c.in-Some.i (sym c.link.ensures.means ∙ c.in-Some.is)
