-- What a survey of a grid counts.
--   drawn n x            the vertex, of 1 to n, that the next word gives, where the generator stands at x
--   step x               where the generator stands then
--   draws x n q          q queries between vertices 1 to n: each takes two words of the generator, which stands at x
--   AreAnswers g ds ps   each plan answers the query of its draw, with the usual ratios
--   is_none plan         there is no path
--   routes_in plan       how many paths a plan has, its optimum among them
--   length_in plan       the sum of their lengths
--   IsSummary g ds s     the summary of these queries over the graph
--   IsSurvey ..          the summary of a grid, and of so many queries drawn after its lengths
--   summary_line line       the line with its line feed
--   graph_line, queries_line, routes_line   the first three lines of a summary
--   summary_text s       its four lines
use Rattle.std.specs.Prelude.{◌≡◌, ℕ, suc, zero, ◌+◌, ◌%◌, Bool, true, false, List, [], ◌∷◌, ◌++◌, length, codes, decimal}
use Rattle.std.specs.List.{sum_by, count_by}
use Rattle.rand_xoshiro.specs.SplitMix64.{mix_u64}
use Rattle.road_model.specs.declared.answer.Plan.{Plan}
use Rattle.road_model.specs.declared.answer.Plan.TheVariants.{NoPath, Found}
use Rattle.road_model.specs.declared.answer.Route.{Route}
use Rattle.road_model.specs.Graph.{Graph, arc_count}
use Rattle.road_model.specs.Queries.{usual}
use Rattle.road_model.specs.Answers.{IsAnswer}
use Rattle.grid_maker.specs.Grid.{grid, grid_ends, state_after}
use Rattle.grid_survey.specs.declared.Summary.{Summary}

-- a vertex by the next word
abbrev pub drawn : ℕ → ℕ → ℕ
drawn n x = 1 + (mix_u64 x).0 % n

abbrev pub step : ℕ → ℕ
step x = (mix_u64 x).1

unfoldable pub draws : ℕ → ℕ → ℕ → List (ℕ × ℕ)
draws x n zero = []
draws x n (suc q) = (drawn n x, drawn n (step x)) ∷ draws (step (step x)) n q

abbrev pub AreAnswers : Graph → List (ℕ × ℕ) → List Plan → Type 0
AreAnswers g [] [] = Unit {0}
AreAnswers g [] (plan ∷ plans) = ⊥
AreAnswers g (draw ∷ draws) [] = ⊥
AreAnswers g (draw ∷ draws) (plan ∷ plans) = IsAnswer g (usual draw.0 draw.1) plan × AreAnswers g draws plans

abbrev pub is_none : Plan → Bool
is_none NoPath = true
is_none (Found optimum others) = false

abbrev pub routes_in : Plan → ℕ
routes_in NoPath = 0
routes_in (Found optimum others) = 1 + length others

abbrev pub length_in : Plan → ℕ
length_in NoPath = 0
length_in (Found optimum others) = optimum.length + sum_by (λ (r : Route). r.length) others

pub record IsSummary (g : Graph) (ds : List (ℕ × ℕ)) (s : Summary) : Type 0 where
  pub plans : List Plan
  pub answers : AreAnswers g ds plans
  pub is_vertices : s.vertices ≡ g.vertices
  pub is_arcs : s.arcs ≡ arc_count g
  pub is_queries : s.queries ≡ length ds
  pub is_none_count : s.without_path ≡ count_by is_none plans
  pub is_routes : s.routes ≡ sum_by routes_in plans
  pub is_length : s.length ≡ sum_by length_in plans

abbrev pub IsSurvey : ℕ → ℕ → ℕ → ℕ → Summary → Type 0
IsSurvey seed width height queries s =
    IsSummary (grid seed width height)
    (draws (state_after seed (grid_ends width height)) (grid seed width height).vertices queries) s

abbrev pub summary_line : List ℕ → List ℕ
summary_line line = line ++ 10 ∷ []

abbrev pub graph_line : Summary → List ℕ
graph_line s = summary_line (codes "graph vertices " ++ decimal s.vertices ++ codes " arcs " ++ decimal s.arcs)

abbrev pub queries_line : Summary → List ℕ
queries_line s = summary_line (codes "queries " ++ decimal s.queries ++ codes " none " ++ decimal s.without_path)

abbrev pub routes_line : Summary → List ℕ
routes_line s = summary_line (codes "routes " ++ decimal s.routes ++ codes " length " ++ decimal s.length)

abbrev pub summary_text : Summary → List ℕ
summary_text s = graph_line s ++ queries_line s ++ routes_line s ++ summary_line (codes "end")
