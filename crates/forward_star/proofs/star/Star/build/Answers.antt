use Rattle.std.proofs.Common.{◌≡◌, ◌≤◌, ℕ, All, List, map, sym, ap, ◌∙◌, subst}
use Rattle.road_model.specs.declared.rows.ArcRow.{ArcRow}
use Rattle.road_model.specs.Graph.{Graph}
use Rattle.forward_star.specs.declared.lengths.Lengths.{Lengths}
use Rattle.forward_star.specs.declared.topology.Topology.{Topology}
use Rattle.forward_star.specs.Layout.{IsStar, graph_of}
use Rattle.forward_star.proofs.Stars.{tails_of_graph, heads_of_graph, IsBuilt, graph_of-built, IsStar-built}
use Rattle.forward_star.proofs.star.Star.build.Goals as goal

pub build-requires-clause-inside : goal.build-requires-clause-inside
build-requires-clause-inside c =
    let g : Graph = c.args.graph in
    let tails : c.deref.result.now ≡ map (λ (r : ArcRow). r.tail) g.arcs = c.deref.ensures.value ∙ c.in_ok-tails.ensures ∙ ap (λ (rows : List ArcRow). map (λ (r : ArcRow). r.tail) rows) c.arcs-rows.ensures.rows in
    subst (λ (n : ℕ). All (λ (v : ℕ). v ≤ n) c.deref.result.now) (sym c.vertices-vertices.ensures.count)
    (subst (λ (ends : List ℕ). All (λ (v : ℕ). v ≤ c.args.graph.vertices) ends) (sym tails) (tails_of_graph g c.vertices-vertices.ensures.limits.is_graph))

pub build-requires-2-clause-inside : goal.build-requires-2-clause-inside
build-requires-2-clause-inside c =
    let g : Graph = c.args.graph in
    let heads : c.deref-4.result.now ≡ map (λ (r : ArcRow). r.head) g.arcs = c.deref-4.ensures.value ∙ c.in_ok-heads.ensures ∙ ap (λ (rows : List ArcRow). map (λ (r : ArcRow). r.head) rows) c.arcs-rows.ensures.rows in
    subst (λ (n : ℕ). All (λ (v : ℕ). v ≤ n) c.deref-4.result.now) (sym c.vertices-vertices.ensures.count)
    (subst (λ (ends : List ℕ). All (λ (v : ℕ). v ≤ c.args.graph.vertices) ends) (sym heads) (heads_of_graph g c.vertices-vertices.ensures.limits.is_graph))

pub invariant_of-result : goal.invariant_of-result
invariant_of-result c =
    let g : Graph = c.args.graph in
    let t : Topology = record { vertices = c.vertices-vertices.result; tails = c.in_ok-tails.tails; heads = c.in_ok-heads.heads; forward = c.in_ok-forward.forward; backward = c.in_ok-backward.backward } in
    let l : Lengths = record { by_number = c.in_ok-by_number.by_number; by_tail = c.in_ok-forward.by_tail; by_head = c.in_ok-backward.by_head } in
    let built : IsBuilt g t l = record {
      vertices = c.vertices-vertices.ensures.count;
      tails = c.in_ok-tails.ensures ∙ ap (λ (rows : List ArcRow). map (λ (r : ArcRow). r.tail) rows) c.arcs-rows.ensures.rows;
      heads = c.in_ok-heads.ensures ∙ ap (λ (rows : List ArcRow). map (λ (r : ArcRow). r.head) rows) c.arcs-rows.ensures.rows;
      numbers = c.in_ok-by_number.ensures ∙ ap (λ (rows : List ArcRow). map (λ (r : ArcRow). r.length) rows) c.arcs-rows.ensures.rows;
    } in
    subst (λ (x : Topology). IsStar x l) (sym c.in_ok-topology.ensures.ok)
    (IsStar-built g t l c.deref.result.now c.deref-2.result.now c.deref-4.result.now c.deref-5.result.now c.deref-3.result.now c.deref-6.result.now c.vertices-vertices.ensures.limits built c.deref.ensures.value c.deref-2.ensures.value c.deref-4.ensures.value c.deref-5.ensures.value c.deref-3.ensures.value c.deref-6.ensures.value c.in_ok-forward.ensures.laid c.in_ok-forward.ensures.measured c.in_ok-backward.ensures.laid c.in_ok-backward.ensures.measured)

pub returns : goal.returns
returns c =
    let g : Graph = c.args.graph in
    let t : Topology = record { vertices = c.vertices-vertices.result; tails = c.in_ok-tails.tails; heads = c.in_ok-heads.heads; forward = c.in_ok-forward.forward; backward = c.in_ok-backward.backward } in
    let l : Lengths = record { by_number = c.in_ok-by_number.by_number; by_tail = c.in_ok-forward.by_tail; by_head = c.in_ok-backward.by_head } in
    let built : IsBuilt g t l = record {
      vertices = c.vertices-vertices.ensures.count;
      tails = c.in_ok-tails.ensures ∙ ap (λ (rows : List ArcRow). map (λ (r : ArcRow). r.tail) rows) c.arcs-rows.ensures.rows;
      heads = c.in_ok-heads.ensures ∙ ap (λ (rows : List ArcRow). map (λ (r : ArcRow). r.head) rows) c.arcs-rows.ensures.rows;
      numbers = c.in_ok-by_number.ensures ∙ ap (λ (rows : List ArcRow). map (λ (r : ArcRow). r.length) rows) c.arcs-rows.ensures.rows;
    } in
    ap (λ (x : Topology). graph_of x l) c.in_ok-topology.ensures.ok ∙ graph_of-built g t l built
