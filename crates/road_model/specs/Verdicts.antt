-- Why the path through a vertex is, or isn't, among the alternatives: the first of these that holds.
--   Unreached     no walk leads through the vertex
--   Optimum       its path is the optimum
--   Long          it is longer than 1 + epsilon times the optimum
--   Shared        it shares more with the optimum than the limit
--   Local         a tested pair fails: the one with the least first, then the least last place
--   Stretch       a pair fails the stretch: the same
--   Listed        it is the alternative of this name
--   IsOther g q o v p       p is the path through v, and isn't the optimum
--   IsLong, IsOverShared, IsNotLocal, IsStretched, IsListed   the last five of these, each where none before it holds
--   IsVerdict g q o v w     w is the verdict on v, where o is the arcs of the optimum
--   IsMeasured g q v w      w is the verdict on v, by the optimum of the query
--   IsVerdictOf g q v d     None exactly where the query has no walk; else Some of the verdict
use Rattle.std.specs.Prelude.{◌≡◌, ◌≢◌, ℕ, List, Option, Some, None}
use Rattle.road_model.specs.declared.answer.Pair.{Pair}
use Rattle.road_model.specs.declared.answer.Query.{Query}
use Rattle.road_model.specs.declared.answer.Verdict.{Verdict}
use Rattle.road_model.specs.declared.answer.Verdict.TheVariants as the
use Rattle.road_model.specs.Graph.{Graph}
use Rattle.road_model.specs.Walk.{walk_length}
use Rattle.road_model.specs.Dist.{NoWalk}
use Rattle.road_model.specs.Canonical.{IsFirst}
use Rattle.road_model.specs.Fraction.{Allows, IsAbove, Stretches, Exceeds}
use Rattle.road_model.specs.Places.{trail_of}
use Rattle.road_model.specs.Tests.{shared, FailsLocal, FailsStretch, NoneFails, IsLeastFailure}
use Rattle.road_model.specs.Alternatives.{IsVia, HasNoVia, IsName}

-- the path through v, which isn't the optimum
pub record IsOther (g : Graph) (q : Query) (optimum : List ℕ) (v : ℕ) (p : List ℕ) : Type 0 where
  pub through : IsVia g q.from q.to v p
  pub other : p ≢ optimum

pub record IsLong (g : Graph) (q : Query) (optimum : List ℕ) (v l : ℕ) : Type 0 where
  pub path : List ℕ
  pub is : IsOther g q optimum v path
  pub is_length : l ≡ walk_length g path
  pub long : Exceeds q.epsilon l (walk_length g optimum)

pub record IsOverShared (g : Graph) (q : Query) (optimum : List ℕ) (v sum : ℕ) : Type 0 where
  pub path : List ℕ
  pub is : IsOther g q optimum v path
  pub short : Stretches q.epsilon (walk_length g path) (walk_length g optimum)
  pub is_sum : sum ≡ shared g optimum path
  pub over : IsAbove q.gamma sum (walk_length g optimum)

pub record IsNotLocal (g : Graph) (q : Query) (optimum : List ℕ) (v : ℕ) (pair : Pair) : Type 0 where
  pub path : List ℕ
  pub is : IsOther g q optimum v path
  pub short : Stretches q.epsilon (walk_length g path) (walk_length g optimum)
  pub limited : Allows q.gamma (shared g optimum path) (walk_length g optimum)
  pub fails : IsLeastFailure (FailsLocal g q.alpha (walk_length g optimum) (trail_of g q.from path)) pair.first pair.last pair.distance

pub record IsStretched (g : Graph) (q : Query) (optimum : List ℕ) (v : ℕ) (pair : Pair) : Type 0 where
  pub path : List ℕ
  pub is : IsOther g q optimum v path
  pub short : Stretches q.epsilon (walk_length g path) (walk_length g optimum)
  pub limited : Allows q.gamma (shared g optimum path) (walk_length g optimum)
  pub optimal : NoneFails (FailsLocal g q.alpha (walk_length g optimum) (trail_of g q.from path))
  pub fails : IsLeastFailure (FailsStretch g q.epsilon (trail_of g q.from path)) pair.first pair.last pair.distance

pub record IsListed (g : Graph) (q : Query) (optimum : List ℕ) (v name : ℕ) : Type 0 where
  pub path : List ℕ
  pub is : IsOther g q optimum v path
  pub short : Stretches q.epsilon (walk_length g path) (walk_length g optimum)
  pub limited : Allows q.gamma (shared g optimum path) (walk_length g optimum)
  pub optimal : NoneFails (FailsLocal g q.alpha (walk_length g optimum) (trail_of g q.from path))
  pub bounded : NoneFails (FailsStretch g q.epsilon (trail_of g q.from path))
  pub is_name : IsName g q.from q.to path name

abbrev pub IsVerdict : Graph → Query → List ℕ → ℕ → Verdict → Type 0
IsVerdict g q optimum v the.Unreached = HasNoVia g q.from q.to v
IsVerdict g q optimum v the.Optimum = IsVia g q.from q.to v optimum
IsVerdict g q optimum v (the.Long l) = IsLong g q optimum v l
IsVerdict g q optimum v (the.Shared sum) = IsOverShared g q optimum v sum
IsVerdict g q optimum v (the.Local pair) = IsNotLocal g q optimum v pair
IsVerdict g q optimum v (the.Stretch pair) = IsStretched g q optimum v pair
IsVerdict g q optimum v (the.Listed name) = IsListed g q optimum v name

-- with the optimum that it is measured by
pub record IsMeasured (g : Graph) (q : Query) (v : ℕ) (verdict : Verdict) : Type 0 where
  pub optimum : List ℕ
  pub is_optimum : IsFirst g q.from optimum q.to
  pub is_verdict : IsVerdict g q optimum v verdict

abbrev pub IsVerdictOf : Graph → Query → ℕ → Option Verdict → Type 0
IsVerdictOf g q v None = NoWalk g q.from q.to
IsVerdictOf g q v (Some verdict) = IsMeasured g q v verdict
