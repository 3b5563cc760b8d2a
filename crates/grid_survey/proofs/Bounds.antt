-- How many paths an answer has, and how long they are.
use Rattle.std.proofs.Common.{ℕ, ◌*◌, ◌^◌, ◌<◌, ◌≤◌, List, [], ◌∷◌, length, All, ap, ⊎_elim, lit≤, arith}
use Rattle.std.specs.List.{sum_by}
use Rattle.std.proofs.lemmas.Bool.{cases_lt}
use Rattle.std.proofs.lemmas.List.Elements.{All-nil, All-cons, All-weaker}
use Rattle.std.proofs.lemmas.List.Sums.{sum_by-le}
use Rattle.std.proofs.Math.Nat.{mul-le-mul_right}
use Rattle.road_model.specs.declared.answer.Plan.{Plan}
use Rattle.road_model.specs.declared.answer.Plan.TheVariants.{NoPath, Found}
use Rattle.road_model.specs.declared.answer.Query.{Query}
use Rattle.road_model.specs.declared.answer.Route.{Route}
use Rattle.road_model.specs.Graph.{Graph}
use Rattle.road_model.specs.Walk.{walk_length}
use Rattle.road_model.specs.Dist.{IsShortest}
use Rattle.road_model.specs.File.{IsWithinLimits}
use Rattle.road_model.specs.Alternatives.{IsVia}
use Rattle.road_model.specs.Answers.{IsAnswer, IsRoute}
use Rattle.road_model.specs.Queries.{usual}
use Rattle.road_model.proofs.Walks.{walk_length-append}
use Rattle.forward_star.proofs.Bound.{dists_below}
use Rattle.grid_survey.specs.Summary.{AreAnswers, length_in, routes_in}
use Rattle.grid_survey.proofs.Listings.{few_routes}

shortest_below : (g : Graph) (u v : ℕ) (p : List ℕ) → IsWithinLimits g → IsShortest g u p v → walk_length g p < 2 ^ 57
shortest_below g u v p limits h =
    ⊎_elim
    (λ (low : walk_length g p < 2 ^ 57). low)
    (λ (high : 2 ^ 57 ≤ walk_length g p). absurd (dists_below g limits u v p h.walk (λ q walk. omega (arith, h.least q walk))))
    (cases_lt (walk_length g p) (2 ^ 57))

via_below : (g : Graph) (s t v : ℕ) (p : List ℕ) → IsWithinLimits g → IsVia g s t v p → walk_length g p ≤ 2 ^ 58
via_below g s t v p limits h =
    let prefix = shortest_below g s v h.prefix limits h.first.shortest in
    let back = shortest_below g v t h.back limits h.last.shortest in
    omega (arith, ap (λ (q : List ℕ). walk_length g q) h.joined, walk_length-append g h.prefix h.back)

abbrev IsShort : Route → Type 0
IsShort r = r.length ≤ 2 ^ 58

route_short : (g : Graph) (q : Query) (o : List ℕ) → IsWithinLimits g → (r : Route) → IsRoute g q o r → IsShort r
route_short g q o limits r h = omega (arith, h.numbers.is_length, via_below g q.from q.to r.via r.arcs limits h.numbers.is_name.through)

-- the bounds of one answer
pub record IsSmall (plan : Plan) : Type 0 where
  pub few : routes_in plan ≤ 2 ^ 26
  pub short : length_in plan ≤ 2 ^ 26 * 2 ^ 58

pub small : (g : Graph) (q : Query) (plan : Plan) → IsWithinLimits g → IsAnswer g q plan → IsSmall plan
small g q NoPath limits h = record { few = lit≤ tt; short = lit≤ tt }
small g q (Found optimum others) limits h =
    let few = few_routes g q optimum.arcs others h.1 in
    let first = shortest_below g q.from q.to optimum.arcs limits h.0.0.shortest in
    let others_short = sum_by-le (λ (r : Route). r.length) (2 ^ 58) others (All-weaker (IsRoute g q optimum.arcs) IsShort (route_short g q optimum.arcs limits) others h.1.each) in
    let few_enough : length others ≤ 33554432 = omega (arith, few, limits.few_vertices) in
    let most : length others * 2 ^ 58 ≤ 33554432 * 2 ^ 58 = mul-le-mul_right (2 ^ 58) few_enough in
    record { few = omega (arith, few, limits.few_vertices); short = omega (arith, h.0.1, first, others_short, most) }

-- the bounds of several
pub record AreSmall (plans : List Plan) : Type 0 where
  pub few : sum_by routes_in plans ≤ length plans * 2 ^ 26
  pub short : sum_by length_in plans ≤ length plans * (2 ^ 26 * 2 ^ 58)

each_small : (g : Graph) (ds : List (ℕ × ℕ)) (plans : List Plan) → IsWithinLimits g → AreAnswers g ds plans → All IsSmall plans
each_small g [] [] limits h = All-nil IsSmall
each_small g [] (plan ∷ plans) limits h = absurd h
each_small g (d ∷ ds) [] limits h = absurd h
each_small g (d ∷ ds) (plan ∷ plans) limits h = All-cons IsSmall plan plans (small g (usual d.0 d.1) plan limits h.0) (each_small g ds plans limits h.1)

abbrev HasFew : Plan → Type 0
HasFew plan = routes_in plan ≤ 2 ^ 26

abbrev HasShort : Plan → Type 0
HasShort plan = length_in plan ≤ 2 ^ 26 * 2 ^ 58

pub all_small : (g : Graph) (ds : List (ℕ × ℕ)) (plans : List Plan) → IsWithinLimits g → AreAnswers g ds plans → AreSmall plans
all_small g ds plans limits h =
    let each = each_small g ds plans limits h in
    record {
      few = sum_by-le routes_in (2 ^ 26) plans (All-weaker IsSmall HasFew (λ (plan : Plan) (s : IsSmall plan). s.few) plans each);
      short = sum_by-le length_in (2 ^ 26 * 2 ^ 58) plans (All-weaker IsSmall HasShort (λ (plan : Plan) (s : IsSmall plan). s.short) plans each);
    }
