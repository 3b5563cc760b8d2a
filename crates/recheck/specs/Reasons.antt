-- The checks on a via line.
--   IsNextNear o before v   v is the least near vertex above the one before
--   IsAllNear o before      no near vertex is above the one before
--   Shows.. o p ..          what a reason says of the path p
--   IsReason o routes x     the reason of the line holds of the path through its vertex
-- A detour is a walk of the graph between two places of the path.
use Rattle.std.specs.Prelude.{◌≡◌, ◌<◌, ◌≤◌, ℕ, List, length, Contains}
use Rattle.road_model.specs.Walk.{IsWalk, walk_length}
use Rattle.road_model.specs.Fraction.{IsAbove, Exceeds}
use Rattle.road_model.specs.Places.{vertex_at, between}
use Rattle.road_model.specs.Tests.{shared, IsTested}
use Rattle.certificate_text.specs.declared.certificate.CertRoute.{CertRoute}
use Rattle.certificate_text.specs.declared.certificate.Reason.{Reason}
use Rattle.certificate_text.specs.declared.certificate.Reason.TheVariants as reason
use Rattle.certificate_text.specs.declared.certificate.ViaRow.{ViaRow}
use Rattle.recheck.specs.Paths.{Ground, IsNear, IsThrough, trail}

pub record IsNextNear (o : Ground) (before v : ℕ) : Type 0 where
  pub near : IsNear o v
  pub above : before < v
  pub least : (w : ℕ) → IsNear o w → before < w → v ≤ w

abbrev pub IsAllNear : Ground → ℕ → Type 0
IsAllNear o before = (w : ℕ) → IsNear o w → w ≤ before

pub record IsOverShared (o : Ground) (p : List ℕ) (sum : ℕ) : Type 0 where
  pub is_sum : sum ≡ shared o.graph o.optimum p
  pub over : IsAbove o.query.gamma sum o.best

-- the detour leads from the first of two places of the path to the last
pub record IsDetour (o : Ground) (p : List ℕ) (first last : ℕ) (detour : List ℕ) : Type 0 where
  pub rise : first < last
  pub inside : last ≤ length p
  pub walk : IsWalk o.graph (vertex_at (trail o p) first) detour (vertex_at (trail o p) last)

pub record IsShorter (o : Ground) (p : List ℕ) (first last : ℕ) (detour : List ℕ) : Type 0 where
  pub leads : IsDetour o p first last detour
  pub tested : IsTested o.query.alpha o.best (trail o p) first last
  pub shorter : walk_length o.graph detour < between (trail o p) first last

pub record IsOverStretched (o : Ground) (p : List ℕ) (first last : ℕ) (detour : List ℕ) : Type 0 where
  pub leads : IsDetour o p first last detour
  pub above : Exceeds o.query.epsilon (between (trail o p) first last) (walk_length o.graph detour)

pub record IsListedAs (routes : List CertRoute) (p : List ℕ) (name : ℕ) : Type 0 where
  pub route : CertRoute
  pub listed : Contains routes route
  pub named : route.via ≡ name
  pub same : route.arcs ≡ p

abbrev pub Shows : Ground → List CertRoute → List ℕ → Reason → Type 0
Shows o routes p reason.Optimum = p ≡ o.optimum
Shows o routes p (reason.Shared sum) = IsOverShared o p sum
Shows o routes p (reason.Local first last detour) = IsShorter o p first last detour
Shows o routes p (reason.Stretch first last detour) = IsOverStretched o p first last detour
Shows o routes p (reason.Listed name) = IsListedAs routes p name

pub record IsReason (o : Ground) (routes : List CertRoute) (x : ViaRow) : Type 0 where
  pub path : List ℕ
  pub through : IsThrough o x.vertex path
  pub shows : Shows o routes path x.reason
