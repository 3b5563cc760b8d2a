-- Counting one answer after another.
--   none_in plan          1 where there is no path
--   HasRoom s plan        the counts have room for one more answer
--   Counts old new plan   one more answer was counted, and nothing else changed
use Rattle.std.specs.Prelude.{◌≡◌, ℕ, ◌+◌, ◌<◌, ◌^◌, if◌then◌else◌}
use Rattle.road_model.specs.declared.answer.Plan.{Plan}
use Rattle.grid_survey.specs.declared.Summary.{Summary}
use Rattle.grid_survey.specs.Summary.{is_none, length_in, routes_in}

abbrev pub none_in : Plan → ℕ
none_in plan = if is_none plan then 1 else 0

pub record HasRoom (s : Summary) (plan : Plan) : Type 0 where
  pub for_none : s.without_path + none_in plan < 2 ^ 32
  pub for_routes : s.routes + routes_in plan < 2 ^ 64
  pub for_length : s.length + length_in plan < 2 ^ 128

pub record Counts (old new : Summary) (plan : Plan) : Type 0 where
  pub same_vertices : new.vertices ≡ old.vertices
  pub same_arcs : new.arcs ≡ old.arcs
  pub same_queries : new.queries ≡ old.queries
  pub is_none_count : new.without_path ≡ old.without_path + none_in plan
  pub is_routes : new.routes ≡ old.routes + routes_in plan
  pub is_length : new.length ≡ old.length + length_in plan
