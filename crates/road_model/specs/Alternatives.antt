-- Single-via paths, and which of them are reasonable alternatives.
--   IsVia g s t v p      p is the canonical path from s to v followed by the canonical path from v to t
--   HasNoVia g s t v     no walk leads from s to v and on to t
--   IsAdmissible g q o p p shares within the limit with the optimum o, is locally optimal, and its stretch
--                        is uniformly bounded, by the ratios of the query q
--   IsAlternative g q o p  a single-via path of the query other than its optimum, and admissible
--   IsName g s t p v     v is the least via vertex of p
--   IsPlateau g s t p n  n is the greatest difference of distance from s between two via vertices of p
--   rank_of              the ranking value
use Rattle.std.specs.Prelude.{◌≡◌, ◌≢◌, ◌≤◌, ◌+◌, ◌-◌, ◌*◌, ◌++◌, ℕ, List, Some}
use Rattle.road_model.specs.declared.answer.Query.{Query}
use Rattle.road_model.specs.Graph.{Graph, IsVertex}
use Rattle.road_model.specs.Walk.{IsWalk, walk_length}
use Rattle.road_model.specs.Dist.{IsDist}
use Rattle.road_model.specs.Canonical.{IsFirst, IsLast}
use Rattle.road_model.specs.Fraction.{Allows}
use Rattle.road_model.specs.Places.{trail_of}
use Rattle.road_model.specs.Tests.{shared, FailsLocal, FailsStretch, NoneFails}

pub record IsVia (g : Graph) (s t v : ℕ) (p : List ℕ) : Type 0 where
  pub vertex : IsVertex g.vertices v
  pub prefix : List ℕ
  pub back : List ℕ
  pub first : IsFirst g s prefix v
  pub last : IsLast g v back t
  pub joined : p ≡ prefix ++ back

abbrev pub HasNoVia : Graph → ℕ → ℕ → ℕ → Type 0
HasNoVia g s t v = (p q : List ℕ) → IsWalk g s p v → IsWalk g v q t → ⊥

pub record IsAdmissible (g : Graph) (q : Query) (optimum p : List ℕ) : Type 0 where
  pub limited : Allows q.gamma (shared g optimum p) (walk_length g optimum)
  pub optimal : NoneFails (FailsLocal g q.alpha (walk_length g optimum) (trail_of g q.from p))
  pub bounded : NoneFails (FailsStretch g q.epsilon (trail_of g q.from p))

pub record IsAlternative (g : Graph) (q : Query) (optimum p : List ℕ) : Type 0 where
  pub via : ℕ
  pub through : IsVia g q.from q.to via p
  pub other : p ≢ optimum
  pub admissible : IsAdmissible g q optimum p

pub record IsName (g : Graph) (s t : ℕ) (p : List ℕ) (v : ℕ) : Type 0 where
  pub through : IsVia g s t v p
  pub least : (w : ℕ) → IsVia g s t w p → v ≤ w

pub record IsPlateau (g : Graph) (s t : ℕ) (p : List ℕ) (n : ℕ) : Type 0 where
  pub start : ℕ
  pub end : ℕ
  pub near : ℕ
  pub through_start : IsVia g s t start p
  pub through_end : IsVia g s t end p
  pub dist_start : IsDist g s start (Some near)
  pub dist_end : IsDist g s end (Some (near + n))
  pub greatest : (v w a b : ℕ) → IsVia g s t v p → IsVia g s t w p → IsDist g s v (Some a) → IsDist g s w (Some b) → b ≤ a + n

abbrev pub rank_of : ℕ → ℕ → ℕ → ℕ
rank_of length shared plateau = 2 * length + shared - plateau
