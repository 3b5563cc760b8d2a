-- What an accepted certificate proves, in the words of walks and distances alone.
--   route_in r        a route line as a route
--   plan_in f         what was found, as a plan
--   HasVia xs v       the vertex has a via line
--   IsFar w           the verdict is that no walk leads through the vertex, or that the path through it is too long
--   OthersAreFar      each vertex without a via line has such a verdict
--   Refutes           the detour leads between two places, and the pair fails, whatever its distance is
--   Tells             what a reason tells of the path through a vertex
--   IsTrueReason      the reason of a via line is true of the path through its vertex
--   Proves g q f      what was found is the answer of the query, and each reason is true
--   TellsTruth g c x  where the certificate is accepted, that holds of its query
use Rattle.std.specs.Prelude.{◌≡◌, ℕ, List, Contains, map}
use Rattle.road_model.specs.declared.answer.Query.{Query}
use Rattle.road_model.specs.declared.answer.Route.{Route}
use Rattle.road_model.specs.declared.answer.Plan.{Plan}
use Rattle.road_model.specs.declared.answer.Plan.TheVariants as plan
use Rattle.road_model.specs.declared.answer.Verdict.{Verdict}
use Rattle.road_model.specs.declared.answer.Verdict.TheVariants as verdict
use Rattle.road_model.specs.Graph.{Graph}
use Rattle.road_model.specs.Walk.{IsWalk, walk_length}
use Rattle.road_model.specs.Fraction.{IsAbove}
use Rattle.road_model.specs.Places.{trail_of, vertex_at, IsDistAt}
use Rattle.road_model.specs.Tests.{shared, FailsLocal, FailsStretch}
use Rattle.road_model.specs.Queries.{query_of}
use Rattle.road_model.specs.Alternatives.{IsVia}
use Rattle.road_model.specs.Answers.{IsAnswer}
use Rattle.road_model.specs.Verdicts.{IsVerdict}
use Rattle.certificate_text.specs.declared.certificate.CertRoute.{CertRoute}
use Rattle.certificate_text.specs.declared.certificate.Reason.{Reason}
use Rattle.certificate_text.specs.declared.certificate.Reason.TheVariants as reason
use Rattle.certificate_text.specs.declared.certificate.ViaRow.{ViaRow}
use Rattle.certificate_text.specs.declared.certificate.Finding.{Finding}
use Rattle.certificate_text.specs.declared.certificate.Finding.TheVariants as finding
use Rattle.certificate_text.specs.declared.certificate.Certificate.{Certificate}
use Rattle.recheck.specs.declared.whole.Checked.{Checked}
use Rattle.recheck.specs.declared.whole.Checked.TheVariants as checked

abbrev pub route_in : CertRoute → Route
route_in r = record { via = r.via; length = r.length; shared = r.shared; plateau = r.plateau; rank = r.rank; arcs = r.arcs }

abbrev pub plan_in : Finding → Plan
plan_in finding.Nothing = plan.NoPath
plan_in (finding.Found length arcs routes vias) = plan.Found (record { length = length; arcs = arcs }) (map route_in routes)

pub record HasVia (xs : List ViaRow) (v : ℕ) : Type 0 where
  pub line : ViaRow
  pub listed : Contains xs line
  pub vertex : line.vertex ≡ v

abbrev pub IsFar : Verdict → Type 0
IsFar verdict.Unreached = Unit {0}
IsFar (verdict.Long l) = Unit {0}
IsFar other = ⊥

abbrev pub OthersAreFar : Graph → Query → List ℕ → List ViaRow → Type 0
OthersAreFar g q optimum xs = (v : ℕ) → (HasVia xs v → ⊥) → (w : Verdict) → IsVerdict g q optimum v w → IsFar w

-- the detour leads from the first of two places to the last, and by it the pair fails, whatever its distance is
pub record Refutes (g : Graph) (q : Query) (p : List ℕ) (Fails : ℕ → ℕ → ℕ → Type 0) (first last : ℕ) (detour : List ℕ) : Type 0 where
  pub walk : IsWalk g (vertex_at (trail_of g q.from p) first) detour (vertex_at (trail_of g q.from p) last)
  pub fails : (d : ℕ) → IsDistAt g (trail_of g q.from p) first last d → Fails first last d

pub record TellsShared (g : Graph) (q : Query) (optimum p : List ℕ) (sum : ℕ) : Type 0 where
  pub is_sum : sum ≡ shared g optimum p
  pub over : IsAbove q.gamma sum (walk_length g optimum)

-- a listed route of this name has the path
pub record TellsListed (routes : List CertRoute) (p : List ℕ) (name : ℕ) : Type 0 where
  pub route : CertRoute
  pub listed : Contains routes route
  pub named : route.via ≡ name
  pub same : route.arcs ≡ p

abbrev pub Tells : Graph → Query → List ℕ → List CertRoute → List ℕ → Reason → Type 0
Tells g q optimum routes p reason.Optimum = p ≡ optimum
Tells g q optimum routes p (reason.Shared sum) = TellsShared g q optimum p sum
Tells g q optimum routes p (reason.Local first last detour) = Refutes g q p (FailsLocal g q.alpha (walk_length g optimum) (trail_of g q.from p)) first last detour
Tells g q optimum routes p (reason.Stretch first last detour) = Refutes g q p (FailsStretch g q.epsilon (trail_of g q.from p)) first last detour
Tells g q optimum routes p (reason.Listed name) = TellsListed routes p name

pub record IsTrueReason (g : Graph) (q : Query) (optimum : List ℕ) (routes : List CertRoute) (x : ViaRow) : Type 0 where
  pub path : List ℕ
  pub through : IsVia g q.from q.to x.vertex path
  pub tells : Tells g q optimum routes path x.reason

abbrev pub Proves : Graph → Query → Finding → Type 0
Proves g q finding.Nothing = IsAnswer g q plan.NoPath
Proves g q (finding.Found length arcs routes vias) =
    IsAnswer g q (plan_in (finding.Found length arcs routes vias)) × OthersAreFar g q arcs vias × ((x : ViaRow) → Contains vias x → IsTrueReason g q arcs routes x)

abbrev pub TellsTruth : Graph → Certificate → Checked → Type 0
TellsTruth g c (checked.Yes listed) = Proves g (query_of c.query) c.finding
TellsTruth g c (checked.No fault) = Unit {0}
