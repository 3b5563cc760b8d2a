use Rattle.std.proofs.Common.{◌≡◌, length, ap, arith}
use Rattle.road_model.specs.Graph.{Graph, arc_count}
use Rattle.forward_star.specs.declared.topology.Topology.{Topology}
use Rattle.forward_star.specs.Layout.{graph_of}
use Rattle.forward_star.proofs.Stars.{count_of_star}
use Rattle.forward_star.proofs.star.Star.arc_count.Goals as goal

pub overflow_cast-result : goal.overflow_cast-result
overflow_cast-result c =
    let t = c.self.inside.topology.value in
    let count : arc_count (graph_of t c.self.inside.lengths) ≡ length t.tails.items = count_of_star t c.self.inside.lengths c.self.invariant in
    let same : length c.deref.result.now.tails.items ≡ length t.tails.items = ap (λ (u : Topology). length u.tails.items) c.deref.ensures in
    omega (arith, count, c.len.ensures, c.deref.result.now.tails.ok.0, c.self.invariant.limits.few_arcs)

pub returns : goal.returns
returns c =
    let t = c.self.inside.topology.value in
    let count : arc_count (graph_of t c.self.inside.lengths) ≡ length t.tails.items = count_of_star t c.self.inside.lengths c.self.invariant in
    let same : length c.deref.result.now.tails.items ≡ length t.tails.items = ap (λ (u : Topology). length u.tails.items) c.deref.ensures in
    let whole : arc_count (graph_of t c.self.inside.lengths) ≡ arc_count c.args.self.now = ap (λ (g : Graph). arc_count g) c.self.view_is in
    omega (arith, count, whole, c.len.ensures, c.deref.result.now.tails.ok.0)
