-- What the tests say of a path.
--   IsJudged g q o p j   j is the first test that the path p of the query q fails, where o is the arcs of the
--                        optimum: its length as a whole, sharing, local optimality, stretch; or p passes all
--   IsTried g q o p t    the same of the last two tests alone, which ask the oracle
--   IsPassing g q o p b  b tells whether p passes these two
--   StaysCounted old new a count of questions hasn't fallen, if it is within the count's type
use Rattle.std.specs.Prelude.{◌≡◌, ◌<◌, ◌≤◌, ◌^◌, ℕ, List, Bool, MatchBool}
use Rattle.road_model.specs.declared.answer.Query.{Query}
use Rattle.road_model.specs.Graph.{Graph}
use Rattle.road_model.specs.Walk.{walk_length}
use Rattle.road_model.specs.Fraction.{Allows, IsAbove, Stretches, Exceeds}
use Rattle.road_model.specs.Places.{trail_of}
use Rattle.road_model.specs.Tests.{shared, FailsLocal, FailsStretch, NoneFails, IsLeastFailure}
use Rattle.road_model.specs.Alternatives.{IsAdmissible}
use Rattle.via_search.specs.declared.judging.Judged.{Judged}
use Rattle.via_search.specs.declared.judging.Judged.TheVariants as judged
use Rattle.via_search.specs.declared.judging.Tried.{Tried}
use Rattle.via_search.specs.declared.judging.Tried.TheVariants as tried

abbrev pub FailsLocalOf : Graph → Query → List ℕ → List ℕ → ℕ → ℕ → ℕ → Type 0
FailsLocalOf g q optimum p = FailsLocal g q.alpha (walk_length g optimum) (trail_of g q.from p)

abbrev pub FailsStretchOf : Graph → Query → List ℕ → ℕ → ℕ → ℕ → Type 0
FailsStretchOf g q p = FailsStretch g q.epsilon (trail_of g q.from p)

-- it is neither too long as a whole nor shares too much
pub record IsLimited (g : Graph) (q : Query) (optimum p : List ℕ) : Type 0 where
  pub short : Stretches q.epsilon (walk_length g p) (walk_length g optimum)
  pub limited : Allows q.gamma (shared g optimum p) (walk_length g optimum)

abbrev pub IsJudged : Graph → Query → List ℕ → List ℕ → Judged → Type 0
IsJudged g q optimum p judged.Long = Exceeds q.epsilon (walk_length g p) (walk_length g optimum)
IsJudged g q optimum p (judged.Shared sum) =
    Stretches q.epsilon (walk_length g p) (walk_length g optimum) × (sum ≡ shared g optimum p) × IsAbove q.gamma sum (walk_length g optimum)
IsJudged g q optimum p (judged.Local pair) =
    IsLimited g q optimum p × IsLeastFailure (FailsLocalOf g q optimum p) pair.first pair.last pair.distance
IsJudged g q optimum p (judged.Stretch pair) =
    IsLimited g q optimum p × NoneFails (FailsLocalOf g q optimum p) × IsLeastFailure (FailsStretchOf g q p) pair.first pair.last pair.distance
IsJudged g q optimum p (judged.Passed sum) = (sum ≡ shared g optimum p) × IsAdmissible g q optimum p

abbrev pub IsTried : Graph → Query → List ℕ → List ℕ → Tried → Type 0
IsTried g q optimum p (tried.Local pair) = IsLeastFailure (FailsLocalOf g q optimum p) pair.first pair.last pair.distance
IsTried g q optimum p (tried.Stretch pair) =
    NoneFails (FailsLocalOf g q optimum p) × IsLeastFailure (FailsStretchOf g q p) pair.first pair.last pair.distance
IsTried g q optimum p tried.Passed = NoneFails (FailsLocalOf g q optimum p) × NoneFails (FailsStretchOf g q p)

abbrev pub IsPassing : Graph → Query → List ℕ → List ℕ → Bool → Type 0
IsPassing g q optimum p passes =
    MatchBool passes
    (NoneFails (FailsLocalOf g q optimum p) × NoneFails (FailsStretchOf g q p))
    (NoneFails (FailsLocalOf g q optimum p) → NoneFails (FailsStretchOf g q p) → ⊥)

abbrev pub StaysCounted : ℕ → ℕ → Type 0
StaysCounted old new = old < 2 ^ 64 → (old ≤ new) × (new < 2 ^ 64)
