-- The answer of a query: its optimum, and every alternative once, in rank order; and its pages.
--   HasNumbers g q o r   the numbers of a route are those of its path
--   IsRoute g q o r      a route whose path is an alternative, with its numbers
--   IsBefore a b         a has the lower rank, or the same and the lower via number
--   IsAscending rs       each is before all that follow it, so none stands twice
--   HasRoute rs p        p is the path of one of these routes
--   IsListing g q o rs   the routes of every alternative and of nothing else, ascending
--   IsAnswer g q plan    no path exactly where no walk leads there; else the optimum and such a list
--   IsPage total size offset span   the items of one page: item 0 is the optimum, item k the k-th alternative
use Rattle.std.specs.Prelude.{◌≡◌, ◌<◌, ◌⊎◌, ◌+◌, ◌-◌, ◌↔◌, ℕ, min, List, [], ◌∷◌, Some, All, Contains, IsTrue}
use Rattle.road_model.specs.declared.answer.Route.{Route}
use Rattle.road_model.specs.declared.answer.Query.{Query}
use Rattle.road_model.specs.declared.answer.PageSpan.{PageSpan}
use Rattle.road_model.specs.declared.answer.Plan.{Plan}
use Rattle.road_model.specs.declared.answer.Plan.TheVariants.{NoPath, Found}
use Rattle.road_model.specs.Graph.{Graph}
use Rattle.road_model.specs.Walk.{walk_length}
use Rattle.road_model.specs.Dist.{NoWalk}
use Rattle.road_model.specs.Canonical.{IsOptimum}
use Rattle.road_model.specs.Tests.{shared}
use Rattle.road_model.specs.Alternatives.{IsAlternative, IsName, IsPlateau, rank_of}

pub record HasNumbers (g : Graph) (q : Query) (optimum : List ℕ) (r : Route) : Type 0 where
  pub is_name : IsName g q.from q.to r.arcs r.via
  pub is_length : r.length ≡ walk_length g r.arcs
  pub is_shared : r.shared ≡ shared g optimum r.arcs
  pub is_plateau : IsPlateau g q.from q.to r.arcs r.plateau
  pub is_rank : r.rank ≡ rank_of r.length r.shared r.plateau

pub record IsRoute (g : Graph) (q : Query) (optimum : List ℕ) (r : Route) : Type 0 where
  pub alternative : IsAlternative g q optimum r.arcs
  pub numbers : HasNumbers g q optimum r

abbrev pub IsBefore : Route → Route → Type 0
IsBefore a b = (a.rank < b.rank) ⊎ ((a.rank ≡ b.rank) × (a.via < b.via))

abbrev pub IsAscending : List Route → Type 0
IsAscending [] = Unit {0}
IsAscending (r ∷ rs) = All (IsBefore r) rs × IsAscending rs

pub record HasRoute (rs : List Route) (p : List ℕ) : Type 0 where
  pub route : Route
  pub listed : Contains rs route
  pub path : route.arcs ≡ p

pub record IsListing (g : Graph) (q : Query) (optimum : List ℕ) (rs : List Route) : Type 0 where
  pub each : All (IsRoute g q optimum) rs
  pub every : (p : List ℕ) → IsAlternative g q optimum p → HasRoute rs p
  pub ascending : IsAscending rs

abbrev pub IsAnswer : Graph → Query → Plan → Type 0
IsAnswer g q NoPath = NoWalk g q.from q.to
IsAnswer g q (Found optimum others) =
    IsOptimum g q.from q.to (Some optimum) × IsListing g q optimum.arcs others

pub record IsPage (total size offset : ℕ) (span : PageSpan) : Type 0 where
  pub is_first : span.first ≡ min offset total
  pub is_count : span.count ≡ min size (total - span.first)
  pub is_more : IsTrue span.more ↔ (span.first + span.count < total)
