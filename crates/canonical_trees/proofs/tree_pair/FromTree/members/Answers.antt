use Rattle.std.proofs.Common.{subst}
use Rattle.canonical_trees.specs.Trees.{Tree, IsInside, IsMembers}
use Rattle.canonical_trees.proofs.Balls.{read_members_from}
use Rattle.canonical_trees.proofs.tree_pair.FromTree.members.Goals as goal

pub returns : goal.returns
returns c =
    let t = c.self.inside in
    subst (λ (x : Tree). IsMembers (λ v. IsInside x.graph x.radius x.root v) c.members.result.now) c.self.view_is
    (read_members_from t.star.now t.source t.radius t.ball c.members.result.now c.self.invariant.tree c.members.ensures)
