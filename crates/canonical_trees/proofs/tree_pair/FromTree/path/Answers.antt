use Rattle.std.proofs.Common.{refl, sym, subst}
use Rattle.road_model.specs.Graph.{reversed, IsVertex}
use Rattle.canonical_trees.specs.Trees.{Tree, IsInside}
use Rattle.canonical_trees.proofs.Arcs.{rooted_scan_from}
use Rattle.canonical_trees.proofs.KeptSteps.{steps_from_tree}
use Rattle.canonical_trees.proofs.WholePaths.{vertex_inside}
use Rattle.canonical_trees.proofs.tree_pair.FromTree.path.Goals as goal

pub path_from-requires-clause-rooted : goal.path_from-requires-clause-rooted
path_from-requires-clause-rooted c =
    let t = c.self.inside in
    rooted_scan_from t.star.now (reversed t.star.now) t.source t.radius t.ball c.labels.result refl c.labels.ensures c.self.invariant.tree

pub path_from-requires-clause-steps : goal.path_from-requires-clause-steps
path_from-requires-clause-steps c =
    let t = c.self.inside in
    steps_from_tree t.star.now (reversed t.star.now) t.source t.ball c.labels.result t.steps refl c.labels.ensures c.self.invariant.steps

pub returns-clause-vertex : goal.returns-clause-vertex
returns-clause-vertex c =
    let t = c.self.inside in
    let inside = subst (λ (x : Tree). IsInside x.graph x.radius x.root c.args.v) (sym c.self.view_is) c.requires in
    subst (λ (x : Tree). IsVertex x.graph.vertices c.args.v) c.self.view_is
    (vertex_inside t.star.now t.source c.args.v t.radius t.ball c.self.invariant.tree inside)
