-- The routes that are listed.
--   IsRouteOf g q o ts c r   Some: the route of the walk of the plateau c, an alternative, named by c's least
--                            vertex; None: that walk is no alternative
use Rattle.std.specs.Prelude.{◌≡◌, ℕ, List, Option, Some, None}
use Rattle.road_model.specs.declared.answer.Query.{Query}
use Rattle.road_model.specs.declared.answer.Route.{Route}
use Rattle.road_model.specs.Graph.{Graph}
use Rattle.road_model.specs.Alternatives.{IsAlternative}
use Rattle.road_model.specs.Answers.{IsRoute}
use Rattle.canonical_trees.specs.Trees.{Trees}
use Rattle.plateau_finder.specs.declared.plateau.Plateau.{Plateau}
use Rattle.plateau_finder.specs.Plateaus.{IsPlateauOf}

pub record IsNamedRoute (g : Graph) (q : Query) (optimum : List ℕ) (ts : Trees) (c : Plateau) (r : Route) : Type 0 where
  pub is_route : IsRoute g q optimum r
  pub path : IsPlateauOf ts r.arcs c
  pub name : r.via ≡ c.least

abbrev pub IsRouteOf : Graph → Query → List ℕ → Trees → Plateau → Option Route → Type 0
IsRouteOf g q optimum ts c None = (p : List ℕ) → IsPlateauOf ts p c → IsAlternative g q optimum p → ⊥
IsRouteOf g q optimum ts c (Some r) = IsNamedRoute g q optimum ts c r
