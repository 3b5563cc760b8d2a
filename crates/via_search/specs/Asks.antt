-- How many questions a plan asks: for each path of the query that is within the stretch bound and isn't the optimum
-- at most its cost. The sum is said by every function that is no less than the cost at each such path's name.
--   cost a b               the questions that a path may take, with a arcs before its name and b after it: its
--                          local optimality, and then its stretch
--   BoundsEach g s t n o f f is at least the cost at the name of each path through a vertex that is at most n long,
--                          other than o
--   total f n              the sum of f over the vertices 1 to n
--   AsksAtMost g s t n o old new   a count of questions has risen by no more than the sum of the costs
--   AsksFor g s t n o v old new    by no more than the cost at the name v
--   AsksOnce g s t p v old new     by no more than the cost of p with v as its name
--   AsksForPlan g q old new        the first of these for the optimum of the query and every n that no path within
--                                  the stretch bound is longer than; where there is no path, nothing is asked
use Rattle.std.specs.Prelude.{◌≡◌, ◌≢◌, ◌≤◌, ◌+◌, ◌*◌, ℕ, zero, suc, List, length}
use Rattle.road_model.specs.declared.answer.Query.{Query}
use Rattle.road_model.specs.Graph.{Graph}
use Rattle.road_model.specs.Walk.{walk_length}
use Rattle.road_model.specs.Dist.{NoWalk}
use Rattle.road_model.specs.Canonical.{IsFirst}
use Rattle.road_model.specs.Fraction.{Stretches}
use Rattle.road_model.specs.Alternatives.{IsVia, IsName}

abbrev pub cost : ℕ → ℕ → ℕ
cost a b = a * b + a + (a + b) + 1

pub record BoundsEach (g : Graph) (s t bound : ℕ) (o : List ℕ) (f : ℕ → ℕ) : Type 0 where
  pub each : (v : ℕ) (p : List ℕ) (h : IsName g s t p v) → walk_length g p ≤ bound → p ≢ o → cost (length h.through.prefix) (length h.through.back) ≤ f v

abbrev pub total : (ℕ → ℕ) → ℕ → ℕ
total f zero = 0
total f (suc n) = total f n + f (suc n)

abbrev pub AsksAtMost : Graph → ℕ → ℕ → ℕ → List ℕ → ℕ → ℕ → Type 0
AsksAtMost g s t bound o old new = (f : ℕ → ℕ) → BoundsEach g s t bound o f → new ≤ old + total f g.vertices

abbrev pub AsksFor : Graph → ℕ → ℕ → ℕ → List ℕ → ℕ → ℕ → ℕ → Type 0
AsksFor g s t bound o name old new = (f : ℕ → ℕ) → BoundsEach g s t bound o f → new ≤ old + f name

abbrev pub AsksOnce : Graph → ℕ → ℕ → List ℕ → ℕ → ℕ → ℕ → Type 0
AsksOnce g s t p v old new = (h : IsVia g s t v p) → new ≤ old + cost (length h.prefix) (length h.back)

pub record AsksForPlan (g : Graph) (q : Query) (old new : ℕ) : Type 0 where
  pub paths : (o : List ℕ) (bound : ℕ) → IsFirst g q.from o q.to → ((n : ℕ) → Stretches q.epsilon n (walk_length g o) → n ≤ bound) → AsksAtMost g q.from q.to bound o old new
  pub none : NoWalk g q.from q.to → new ≡ old
