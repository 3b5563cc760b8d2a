use Rattle.canonical_trees.proofs.WholePaths.{path_of_followed}
use Rattle.canonical_trees.proofs.path.path_from.Goals as goal

pub returns : goal.returns
returns c = path_of_followed c.args.star.now c.reversed.result c.args.s c.args.v c.new-arcs.result.items c.follow.new.arcs.items c.reverse.new.self.items c.reversed.ensures c.in_ok-follow.ensures c.new-arcs.ensures.items c.reverse.ensures.items
