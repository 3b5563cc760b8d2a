-- The reason of a path.
--   IsPosed g q o          a query between two vertices of a graph within the limits, and its optimum, below 2^57
--   pair_of g q radius     what a clause sees of the two trees of a query
--   IsLocalReason g q o p first last detour   p isn't the optimum and doesn't share too much with it, the least pair of
--                          places that fails the test of shortest subpaths is this, and the detour is canonical
--   IsStretchReason        the same of the stretch, where that test is passed
--   IsListedReason g q o p name   p passes all tests, and has the name
--   IsPathReason g q o p r   the reason is that of the path, which is no longer than the bound
--   HasReason g q o v r    it is that of the path through the vertex
use Rattle.std.specs.Prelude.{◌≡◌, ◌≢◌, ◌<◌, ◌^◌, ℕ, List, Option, Some}
use Rattle.road_model.specs.declared.answer.Optimum.{Optimum}
use Rattle.road_model.specs.declared.answer.Query.{Query}
use Rattle.road_model.specs.Graph.{Graph, IsVertex}
use Rattle.road_model.specs.File.{IsWithinLimits}
use Rattle.road_model.specs.Walk.{walk_length}
use Rattle.road_model.specs.Canonical.{IsOptimum}
use Rattle.road_model.specs.Fraction.{Allows, IsAbove}
use Rattle.road_model.specs.Places.{trail_of}
use Rattle.road_model.specs.Tests.{shared, FailsLocal, FailsStretch, NoneFails, IsLeastFailure}
use Rattle.road_model.specs.Alternatives.{IsVia, IsName}
use Rattle.canonical_trees.specs.Trees.{Trees}
use Rattle.certificate_text.specs.declared.certificate.Reason.{Reason}
use Rattle.certificate_text.specs.declared.certificate.Reason.TheVariants as reason
use Rattle.certify.specs.Written.{IsOwnDetour}

pub record IsPosed (g : Graph) (q : Query) (optimum : Optimum) : Type 0 where
  pub limits : IsWithinLimits g
  pub source : IsVertex g.vertices q.from
  pub target : IsVertex g.vertices q.to
  pub best : IsOptimum g q.from q.to (Some optimum)
  pub short : optimum.length < 2 ^ 57

abbrev pub pair_of : Graph → Query → Option ℕ → Trees
pair_of g q radius = record { graph = g; source = q.from; target = q.to; radius = radius }

abbrev pub FailsLocalOf : Graph → Query → List ℕ → List ℕ → ℕ → ℕ → ℕ → Type 0
FailsLocalOf g q optimum p = FailsLocal g q.alpha (walk_length g optimum) (trail_of g q.from p)

abbrev pub FailsStretchOf : Graph → Query → List ℕ → ℕ → ℕ → ℕ → Type 0
FailsStretchOf g q p = FailsStretch g q.epsilon (trail_of g q.from p)

pub record IsSharedReason (g : Graph) (q : Query) (optimum p : List ℕ) (sum : ℕ) : Type 0 where
  pub other : p ≢ optimum
  pub is_sum : sum ≡ shared g optimum p
  pub over : IsAbove q.gamma sum (walk_length g optimum)

pub record IsLocalReason (g : Graph) (q : Query) (optimum p : List ℕ) (first last : ℕ) (detour : List ℕ) : Type 0 where
  pub other : p ≢ optimum
  pub limited : Allows q.gamma (shared g optimum p) (walk_length g optimum)
  pub distance : ℕ
  pub fails : IsLeastFailure (FailsLocalOf g q optimum p) first last distance
  pub own : IsOwnDetour g q p first last detour

pub record IsStretchReason (g : Graph) (q : Query) (optimum p : List ℕ) (first last : ℕ) (detour : List ℕ) : Type 0 where
  pub other : p ≢ optimum
  pub limited : Allows q.gamma (shared g optimum p) (walk_length g optimum)
  pub optimal : NoneFails (FailsLocalOf g q optimum p)
  pub distance : ℕ
  pub fails : IsLeastFailure (FailsStretchOf g q p) first last distance
  pub own : IsOwnDetour g q p first last detour

pub record IsListedReason (g : Graph) (q : Query) (optimum p : List ℕ) (name : ℕ) : Type 0 where
  pub other : p ≢ optimum
  pub limited : Allows q.gamma (shared g optimum p) (walk_length g optimum)
  pub optimal : NoneFails (FailsLocalOf g q optimum p)
  pub bounded : NoneFails (FailsStretchOf g q p)
  pub is_name : IsName g q.from q.to p name

abbrev pub IsPathReason : Graph → Query → List ℕ → List ℕ → Reason → Type 0
IsPathReason g q optimum p reason.Optimum = p ≡ optimum
IsPathReason g q optimum p (reason.Shared sum) = IsSharedReason g q optimum p sum
IsPathReason g q optimum p (reason.Local first last detour) = IsLocalReason g q optimum p first last detour
IsPathReason g q optimum p (reason.Stretch first last detour) = IsStretchReason g q optimum p first last detour
IsPathReason g q optimum p (reason.Listed name) = IsListedReason g q optimum p name

pub record HasReason (g : Graph) (q : Query) (optimum : List ℕ) (v : ℕ) (r : Reason) : Type 0 where
  pub path : List ℕ
  pub through : IsVia g q.from q.to v path
  pub is : IsPathReason g q optimum path r
