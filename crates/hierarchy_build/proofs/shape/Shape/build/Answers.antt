use Rattle.std.proofs.Common.{◌≡◌, [], ℕ, List, length, sym, ap, ◌∙◌, subst}
use Rattle.std.specs.List.{All}
use Rattle.road_model.specs.Graph.{rows_of, IsArc}
use Rattle.hierarchy_build.specs.Runs.{IsRanked}
use Rattle.hierarchy_build.specs.Waits.{IsDue}
use Rattle.hierarchy_build.specs.Hierarchy.{IsShapeOf}
use Rattle.hierarchy_build.proofs.Whole.{IsShapeOf-laid}
use Rattle.hierarchy_build.proofs.shape.Shape.build.Goals as goal

pub returns : goal.returns
returns c =
    let g = c.args.star.now in
    let order : c.as_slice.result.now ≡ c.args.order.vertices = c.as_slice.ensures in
    let long : length c.as_slice.result.now ≡ c.args.star.now.vertices = ap (λ (l : List ℕ). length l) order ∙ c.requires.size in
    let ranked : IsRanked c.args.star.now.vertices c.args.order.vertices c.in_ok-rank.rank.items =
    subst (λ (n : ℕ). IsRanked n c.args.order.vertices c.in_ok-rank.rank.items) long
    (subst (λ (l : List ℕ). IsRanked (length c.as_slice.result.now) l c.in_ok-rank.rank.items) order c.in_ok-rank.ensures) in
    let due : All (IsDue 0 c.in_ok-rank.rank.items [] [] c.in_ok-pending.pending) (rows_of c.args.star.now) =
    subst (λ (r : List ℕ). All (IsDue 0 r [] [] c.in_ok-pending.pending) (rows_of c.args.star.now)) c.as_slice-3.ensures.value c.in_ok-pending.ensures.due in
    let ranks : c.len.result ≡ c.args.star.now.vertices = c.len.ensures ∙ c.requires.size in
    let arcs : All (IsArc c.args.star.now.vertices) (rows_of c.args.star.now) = c.within_limits.ensures.is_graph in
    let whole = IsShapeOf-laid c.args.star.now c.args.order.vertices c.in_ok-rank.rank.items c.in_ok-first.field-0.first.items c.in_ok-first.field-0.head.items c.len.result c.in_ok-pending.pending c.in_ok-first.field-0.pending ranks ranked arcs c.in_ok-first.ensures.so_far due c.in_ok-first.ensures.waits in
    let Whole : List ℕ → List ℕ → List ℕ → Type 0 = λ rank first head. IsShapeOf c.args.star.now (record { order = c.args.order.vertices; rank = rank; first = first; head = head }) in
    subst (λ (l : List ℕ). Whole l c.from_vec-2.result c.from_vec-3.result) (sym c.from_vec.ensures)
    (subst (λ (l : List ℕ). Whole c.in_ok-rank.rank.items l c.from_vec-3.result) (sym c.from_vec-2.ensures)
    (subst (λ (l : List ℕ). Whole c.in_ok-rank.rank.items c.in_ok-first.field-0.first.items l) (sym c.from_vec-3.ensures) whole))
