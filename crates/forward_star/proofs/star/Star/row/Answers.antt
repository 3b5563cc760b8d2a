use Rattle.std.proofs.Common.{◌≡◌, ◌<◌, length, Some, slice_get, sym, ap, ◌∙◌, arith}
use Rattle.std.proofs.lemmas.Option.{get_or_from_slice_get}
use Rattle.road_model.specs.declared.rows.ArcRow.{ArcRow}
use Rattle.road_model.specs.Graph.{Graph, arc_count, rows_of}
use Rattle.forward_star.specs.declared.topology.Topology.{Topology}
use Rattle.forward_star.specs.Layout.{graph_of}
use Rattle.forward_star.proofs.Stars.{count_of_star, row_of_star}
use Rattle.forward_star.proofs.star.Star.row.Goals as goal

pub index-requires : goal.index-requires
index-requires c =
    let t = c.self.inside.topology.value in
    let count : arc_count (graph_of t c.self.inside.lengths) ≡ length t.tails.items = count_of_star t c.self.inside.lengths c.self.invariant in
    let whole : arc_count (graph_of t c.self.inside.lengths) ≡ arc_count c.args.self.now = ap (λ (g : Graph). arc_count g) c.self.view_is in
    let same : length c.deref.result.now.tails.items ≡ length t.tails.items = ap (λ (u : Topology). length u.tails.items) c.deref.ensures in
    omega (arith, count, whole, c.requires, c.deref.result.now.tails.ok.0)

pub index-requires-2 : goal.index-requires-2
index-requires-2 c =
    let t = c.self.inside.topology.value in
    let count : arc_count (graph_of t c.self.inside.lengths) ≡ length t.tails.items = count_of_star t c.self.inside.lengths c.self.invariant in
    let whole : arc_count (graph_of t c.self.inside.lengths) ≡ arc_count c.args.self.now = ap (λ (g : Graph). arc_count g) c.self.view_is in
    let same : length c.deref-2.result.now.heads.items ≡ length t.heads.items = ap (λ (u : Topology). length u.heads.items) c.deref-2.ensures in
    omega (arith, count, whole, c.requires, c.self.invariant.heads, c.deref-2.result.now.heads.ok.0)

pub index-requires-3 : goal.index-requires-3
index-requires-3 c =
    let t = c.self.inside.topology.value in
    let count : arc_count (graph_of t c.self.inside.lengths) ≡ length t.tails.items = count_of_star t c.self.inside.lengths c.self.invariant in
    let whole : arc_count (graph_of t c.self.inside.lengths) ≡ arc_count c.args.self.now = ap (λ (g : Graph). arc_count g) c.self.view_is in
    omega (arith, count, whole, c.requires, c.self.invariant.numbers, c.self.inside.lengths.by_number.ok.0)

pub returns : goal.returns
returns c =
    let t = c.self.inside.topology.value in
    let count : arc_count (graph_of t c.self.inside.lengths) ≡ length t.tails.items = count_of_star t c.self.inside.lengths c.self.invariant in
    let whole : arc_count (graph_of t c.self.inside.lengths) ≡ arc_count c.args.self.now = ap (λ (g : Graph). arc_count g) c.self.view_is in
    let inside : c.args.place < length t.tails.items = omega (arith, count, whole, c.requires) in
    let r : ArcRow = record { tail = c.index.result.now; head = c.index-2.result.now; length = c.index-3.result.now } in
    let read : slice_get (rows_of c.args.self.now) c.args.place ≡ Some r =
    ap (λ (g : Graph). slice_get (rows_of g) c.args.place) (sym c.self.view_is)
    ∙ row_of_star t c.deref.result.now c.deref-2.result.now c.self.inside.lengths c.args.place c.index.result.now c.index-2.result.now c.index-3.result.now c.self.invariant c.deref.ensures c.deref-2.ensures inside c.index.ensures c.index-2.ensures c.index-3.ensures in
    sym (get_or_from_slice_get (rows_of c.args.self.now) c.args.place r r read)
