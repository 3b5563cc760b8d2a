-- Canonical trees: the canonical paths from a source, and those to a target, within a radius.
--   Tree                   what a clause sees of one tree: its graph, the vertex at its root, and its radius,
--                          where None is no limit
--   Trees                  and of the two together: one graph, a source, a target, and one radius
--   IsInside g r u v       a walk leads from u to v, and the distance is within the radius
--   IsOutside g r u v      each walk from u to v is beyond the radius
--   IsLabel g r u v d      Some d: d is the distance from u to v, and within the radius; None: outside
--   IsMembers In vs        vs are the vertices that In holds of, each once, ascending
--   IsMembersFrom, IsMembersTo  those inside the ball from a source, or to a target
--   IsFromStep g r s v x   Some: the last arc of the canonical path from s to v, which isn't s, seen from v;
--                          None: v is s, or outside
--   IsToStep g r v t x     Some: the first arc of the canonical path from v, which isn't t, to t;
--                          None: v is t, or outside
--   IsLastStep, IsFirstStep  the same where there is such a step: v is inside, and isn't the root
--   IsFromArc, IsToArc, IsLastArc, IsFirstArc   the same of the arc's number alone
--   IsViaPath ts v p       Some p: v is inside both trees, and p is the path through it; None: v is outside one
--   IsTreeFrom, IsTreeTo   the ball that a tree keeps is the one from its root, or the one to it
--   IsSearched r q         q is the radius to search by: none where r is above every distance
use Rattle.std.specs.Prelude.{◌≡◌, ◌≢◌, ◌<◌, ◌≤◌, ◌⊎◌, ◌^◌, ℕ, List, [], ◌∷◌, ◌++◌, Option, Some, None, Contains}
use Rattle.std.specs.List.Sorted.{IsStrictlyIncreasing}
use Rattle.road_model.specs.declared.network.Step.{Step}
use Rattle.road_model.specs.Graph.{Graph, IsVertex, arc_at, reversed}
use Rattle.road_model.specs.File.{IsWithinLimits}
use Rattle.road_model.specs.Walk.{IsWalk, walk_length}
use Rattle.road_model.specs.Dist.{IsDist}
use Rattle.road_model.specs.Canonical.{IsFirst, IsLast}
use Rattle.road_model.specs.Alternatives.{IsVia}
use Rattle.tree_search.specs.Ball.{IsWithin, IsBeyond, Reached, IsBall}

pub record Tree : Type 0 where
  pub graph : Graph
  pub root : ℕ
  pub radius : Option ℕ

pub record Trees : Type 0 where
  pub graph : Graph
  pub source : ℕ
  pub target : ℕ
  pub radius : Option ℕ

pub record IsInside (g : Graph) (radius : Option ℕ) (u v : ℕ) : Type 0 where
  pub distance : ℕ
  pub dist : IsDist g u v (Some distance)
  pub within : IsWithin radius distance

abbrev pub IsOutside : Graph → Option ℕ → ℕ → ℕ → Type 0
IsOutside g radius u v = (p : List ℕ) → IsWalk g u p v → IsBeyond radius (walk_length g p)

abbrev pub IsLabel : Graph → Option ℕ → ℕ → ℕ → Option ℕ → Type 0
IsLabel g radius u v None = IsOutside g radius u v
IsLabel g radius u v (Some d) = IsDist g u v (Some d) × IsWithin radius d

pub record IsMembers (In : ℕ → Type 0) (members : List ℕ) : Type 0 where
  pub each : (v : ℕ) → Contains members v → In v
  pub every : (v : ℕ) → In v → Contains members v
  pub ascending : IsStrictlyIncreasing members

abbrev pub IsMembersFrom : Graph → Option ℕ → ℕ → List ℕ → Type 0
IsMembersFrom g radius s members = IsMembers (λ v. IsInside g radius s v) members

abbrev pub IsMembersTo : Graph → Option ℕ → ℕ → List ℕ → Type 0
IsMembersTo g radius t members = IsMembers (λ v. IsInside g radius v t) members

pub record IsLastStep (g : Graph) (radius : Option ℕ) (s v : ℕ) (x : Step) : Type 0 where
  pub inside : IsInside g radius s v
  pub other : v ≢ s
  pub arc : arc_at g x.arc ≡ Some (record { tail = x.head; head = v; length = x.length })
  pub prefix : List ℕ
  pub beyond : IsFirst g s prefix x.head
  pub path : IsFirst g s (prefix ++ x.arc ∷ []) v

pub record IsFirstStep (g : Graph) (radius : Option ℕ) (v t : ℕ) (x : Step) : Type 0 where
  pub inside : IsInside g radius v t
  pub other : v ≢ t
  pub arc : arc_at g x.arc ≡ Some (record { tail = v; head = x.head; length = x.length })
  pub back : List ℕ
  pub beyond : IsLast g x.head back t
  pub path : IsLast g v (x.arc ∷ back) t

abbrev pub IsFromStep : Graph → Option ℕ → ℕ → ℕ → Option Step → Type 0
IsFromStep g radius s v None = (v ≡ s) ⊎ IsOutside g radius s v
IsFromStep g radius s v (Some x) = IsLastStep g radius s v x

abbrev pub IsToStep : Graph → Option ℕ → ℕ → ℕ → Option Step → Type 0
IsToStep g radius v t None = (v ≡ t) ⊎ IsOutside g radius v t
IsToStep g radius v t (Some x) = IsFirstStep g radius v t x

pub record IsLastArc (g : Graph) (radius : Option ℕ) (s v a : ℕ) : Type 0 where
  pub inside : IsInside g radius s v
  pub other : v ≢ s
  pub prefix : List ℕ
  pub path : IsFirst g s (prefix ++ a ∷ []) v

pub record IsFirstArc (g : Graph) (radius : Option ℕ) (v t a : ℕ) : Type 0 where
  pub inside : IsInside g radius v t
  pub other : v ≢ t
  pub back : List ℕ
  pub path : IsLast g v (a ∷ back) t

abbrev pub IsFromArc : Graph → Option ℕ → ℕ → ℕ → Option ℕ → Type 0
IsFromArc g radius s v None = (v ≡ s) ⊎ IsOutside g radius s v
IsFromArc g radius s v (Some a) = IsLastArc g radius s v a

abbrev pub IsToArc : Graph → Option ℕ → ℕ → ℕ → Option ℕ → Type 0
IsToArc g radius v t None = (v ≡ t) ⊎ IsOutside g radius v t
IsToArc g radius v t (Some a) = IsFirstArc g radius v t a

abbrev pub IsViaPath : Trees → ℕ → Option (List ℕ) → Type 0
IsViaPath ts v None = IsOutside ts.graph ts.radius ts.source v ⊎ IsOutside ts.graph ts.radius v ts.target
IsViaPath ts v (Some p) =
    IsVia ts.graph ts.source ts.target v p × IsInside ts.graph ts.radius ts.source v × IsInside ts.graph ts.radius v ts.target

pub record IsTreeFrom (g : Graph) (s : ℕ) (radius : Option ℕ) (b : Reached) : Type 0 where
  pub limits : IsWithinLimits g
  pub root : IsVertex g.vertices s
  pub ball : IsBall g s radius b

pub record IsTreeTo (g : Graph) (t : ℕ) (radius : Option ℕ) (b : Reached) : Type 0 where
  pub limits : IsWithinLimits g
  pub root : IsVertex g.vertices t
  pub ball : IsBall (reversed g) t radius b

abbrev pub IsSearched : Option ℕ → Option ℕ → Type 0
IsSearched None q = q ≡ None
IsSearched (Some r) None = 2 ^ 57 ≤ r
IsSearched (Some r) (Some q) = (q ≡ r) × (r < 2 ^ 57)
