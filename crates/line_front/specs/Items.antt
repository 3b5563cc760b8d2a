-- The lines of a page's items, in two parts.
--   routes_text          the lines of alternatives
--   optimum_part span o  the line of the optimum, where it is one of the items
use Rattle.std.specs.Prelude.{ℕ, ◌==◌, ◌&&◌, List, [], nat_lt, if◌then◌else◌}
use Rattle.std.specs.List.{flat_map}
use Rattle.road_model.specs.declared.answer.Optimum.{Optimum}
use Rattle.road_model.specs.declared.answer.PageSpan.{PageSpan}
use Rattle.road_model.specs.declared.answer.Route.{Route}
use Rattle.line_front.specs.Replies.{line_text, optimum_text, route_text}

abbrev pub routes_text : List Route → List ℕ
routes_text routes = flat_map (λ route. line_text (route_text route)) routes

abbrev pub optimum_part : PageSpan → Optimum → List ℕ
optimum_part span optimum = if span.first == 0 && nat_lt 0 span.count then line_text (optimum_text optimum) else []
