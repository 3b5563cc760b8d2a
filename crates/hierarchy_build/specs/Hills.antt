-- Links between ranks, rising paths over them, and hills: two that meet at their top.
-- A link relation L says by L a b x that a link of the length x joins the lower rank a with the higher rank b.
-- U has the links that lead up, from a to b; D has those that lead down, from b to a.
--   IsRise L a p b         p leads from a up to b; a step of p is the rank that it reaches, and its length
--   rise_length p          the sum of its lengths
--   HasRise L a b k        some rise from a to b has the length k
--   Hill U D u v           a rise over U from u and one over D from v that meet: read from u over the top to v
--                          it is a walk that first rises and then falls
--   hill_length h          its length
--   HillWithin U D u v k   a hill of at most that length
--   Within L a b k         a link of at most that length
--   HasHill U D u v k      some hill has the length k
--   NoneLower U D u v k    no hill is shorter than k
--   IsHillDist cap U D u v d  Some k: k is the least length of a hill; None: each is as long as the cap at least
--   HasTriangles cap U D   two links that meet at their lower end are joined by a third that isn't longer than
--                          both, where that is below the cap
--   IsSound g name U D     each link has the length of some walk of g, where name a is the vertex of rank a
--   Covers g rank U D      each arc of g that is no loop has a link that isn't longer
--   AreShortest g rank U D  each link between vertices of g is as long as their distance
--   HasHills cap g rank U D  each walk of g below the cap has a hill that isn't longer
--   HasHillDists cap g rank U D  the distances of g are those over hills
use Rattle.std.specs.Prelude.{◌≡◌, ◌≢◌, ◌<◌, ◌≤◌, ◌+◌, ◌⊎◌, ◌↔◌, ℕ, List, [], ◌∷◌, Option, Some, None}
use Rattle.road_model.specs.declared.rows.ArcRow.{ArcRow}
use Rattle.road_model.specs.Graph.{Graph, arc_at, IsVertex}
use Rattle.road_model.specs.Walk.{IsWalk, walk_length}
use Rattle.road_model.specs.Dist.{HasWalk, IsDist}

abbrev pub IsRise : (ℕ → ℕ → ℕ → Type 0) → ℕ → List (ℕ × ℕ) → ℕ → Type 0
IsRise L a [] b = a ≡ b
IsRise L a (s ∷ p) b = L a s.0 s.1 × IsRise L s.0 p b

abbrev pub rise_length : List (ℕ × ℕ) → ℕ
rise_length [] = 0
rise_length (s ∷ p) = s.1 + rise_length p

pub record HasRise (L : ℕ → ℕ → ℕ → Type 0) (a b k : ℕ) : Type 0 where
  pub path : List (ℕ × ℕ)
  pub rise : IsRise L a path b
  pub long : rise_length path ≡ k

pub record Hill (U D : ℕ → ℕ → ℕ → Type 0) (u v : ℕ) : Type 0 where
  pub top : ℕ
  pub rise : List (ℕ × ℕ)
  pub fall : List (ℕ × ℕ)
  pub is_rise : IsRise U u rise top
  pub is_fall : IsRise D v fall top

abbrev pub hill_length : {U D : ℕ → ℕ → ℕ → Type 0} {u v : ℕ} → Hill U D u v → ℕ
hill_length h = rise_length h.rise + rise_length h.fall

pub record HillWithin (U D : ℕ → ℕ → ℕ → Type 0) (u v k : ℕ) : Type 0 where
  pub hill : Hill U D u v
  pub within : rise_length hill.rise + rise_length hill.fall ≤ k

pub record Within (L : ℕ → ℕ → ℕ → Type 0) (a b k : ℕ) : Type 0 where
  pub long : ℕ
  pub link : L a b long
  pub within : long ≤ k

pub record HasHill (U D : ℕ → ℕ → ℕ → Type 0) (u v k : ℕ) : Type 0 where
  pub hill : Hill U D u v
  pub long : rise_length hill.rise + rise_length hill.fall ≡ k

abbrev pub NoneLower : (ℕ → ℕ → ℕ → Type 0) → (ℕ → ℕ → ℕ → Type 0) → ℕ → ℕ → ℕ → Type 0
NoneLower U D u v k = (h : Hill U D u v) → k ≤ rise_length h.rise + rise_length h.fall

abbrev pub IsHillDist : ℕ → (ℕ → ℕ → ℕ → Type 0) → (ℕ → ℕ → ℕ → Type 0) → ℕ → ℕ → Option ℕ → Type 0
IsHillDist cap U D u v None = NoneLower U D u v cap
IsHillDist cap U D u v (Some k) = HasHill U D u v k × NoneLower U D u v k

pub record HasTriangles (cap : ℕ) (U D : ℕ → ℕ → ℕ → Type 0) : Type 0 where
  pub up_rises : (a b x : ℕ) → U a b x → a < b
  pub down_rises : (a b x : ℕ) → D a b x → a < b
  pub up : (a b c x y : ℕ) → D b a x → U b c y → a < c → x + y < cap → Within U a c (x + y)
  pub down : (a b c x y : ℕ) → D b a x → U b c y → c < a → x + y < cap → Within D c a (x + y)

pub record IsSound (g : Graph) (name : ℕ → ℕ) (U D : ℕ → ℕ → ℕ → Type 0) : Type 0 where
  pub up : (a b x : ℕ) → U a b x → HasWalk g (name a) (name b) x
  pub down : (a b x : ℕ) → D a b x → HasWalk g (name b) (name a) x

abbrev pub Covers : Graph → (ℕ → ℕ) → (ℕ → ℕ → ℕ → Type 0) → (ℕ → ℕ → ℕ → Type 0) → Type 0
Covers g rank U D =
    (k : ℕ) (r : ArcRow) → arc_at g k ≡ Some r → r.tail ≢ r.head
    → Within U (rank r.tail) (rank r.head) r.length ⊎ Within D (rank r.head) (rank r.tail) r.length

pub record AreShortest (g : Graph) (rank : ℕ → ℕ) (U D : ℕ → ℕ → ℕ → Type 0) : Type 0 where
  pub up : (u v x : ℕ) → IsVertex g.vertices u → IsVertex g.vertices v → U (rank u) (rank v) x → IsDist g u v (Some x)
  pub down : (u v x : ℕ) → IsVertex g.vertices u → IsVertex g.vertices v → D (rank u) (rank v) x → IsDist g v u (Some x)

abbrev pub HasHills : ℕ → Graph → (ℕ → ℕ) → (ℕ → ℕ → ℕ → Type 0) → (ℕ → ℕ → ℕ → Type 0) → Type 0
HasHills cap g rank U D =
    (u v : ℕ) (p : List ℕ) → IsVertex g.vertices u → IsVertex g.vertices v → IsWalk g u p v → walk_length g p < cap
    → HillWithin U D (rank u) (rank v) (walk_length g p)

abbrev pub HasHillDists : ℕ → Graph → (ℕ → ℕ) → (ℕ → ℕ → ℕ → Type 0) → (ℕ → ℕ → ℕ → Type 0) → Type 0
HasHillDists cap g rank U D =
    (u v : ℕ) (d : Option ℕ) → IsVertex g.vertices u → IsVertex g.vertices v
    → IsDist g u v d ↔ IsHillDist cap U D (rank u) (rank v) d
