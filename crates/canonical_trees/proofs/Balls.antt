-- What the labels and members of a ball say of distances within its radius, in both directions.
use Rattle.std.proofs.Common.{◌≡◌, ℕ, ◌<◌, ◌≤◌, ◌^◌, List, length, Option, Some, None, IsSome, reverse, refl, sym, subst, arith, ⊎_elim}
use Rattle.std.proofs.lemmas.Bool.{cases_lt, false≢true}
use Rattle.std.proofs.lemmas.List.{length-map}
use Rattle.road_model.specs.Graph.{Graph, IsGraph, IsVertex, turned, reversed}
use Rattle.road_model.specs.File.{IsWithinLimits}
use Rattle.road_model.specs.Walk.{walk_length}
use Rattle.road_model.specs.Dist.{IsDist, DistsBelow}
use Rattle.road_model.proofs.Walks.{IsWalk-inside}
use Rattle.tree_search.specs.Ball.{label_at, IsWithin, IsBeyond, IsLabelled, Reached, IsBall}
use Rattle.canonical_trees.specs.Tight.{IsRooted}
use Rattle.canonical_trees.specs.Trees.{IsInside, IsOutside, IsLabel, IsMembers, IsTreeFrom, IsTreeTo, IsSearched}
use Rattle.forward_star.proofs.Turned.{reversed-reversed, IsGraph-reversed, IsWalk-reversed, walk_length-reversed, IsDist-reversed, IsDist-unreversed}
use Rattle.canonical_trees.proofs.StepsDown.{some_at}

pub beyond_above : (radius : Option ℕ) (k m : ℕ) → IsWithin radius k → IsBeyond radius m → k < m
beyond_above None k m within beyond = absurd beyond
beyond_above (Some r) k m within beyond = omega arith

pub rooted_by_labels : (g : Graph) (t : ℕ) (radius : Option ℕ) (labels : List (Option ℕ)) → IsGraph g → length g.arcs < 2 ^ 32 → IsLabelled (reversed g) t radius labels → IsRooted g t labels
rooted_by_labels g t radius labels sound few labelled =
    record {
      sound = sound;
      few = few;
      exact = (λ v k is. IsDist-unreversed g t v (Some k) (labelled.near v k is).0);
      reach = (λ u v k p none walk label.
          let far = labelled.far u none (reverse p) (IsWalk-reversed g p u t walk) in
          let low : k < walk_length (reversed g) (reverse p) = beyond_above radius k (walk_length (reversed g) (reverse p)) (labelled.near v k label).1 far in
          omega (arith, walk_length-reversed g p));
    }

-- the labels of a search from s are the distances to s of the reversed graph
pub rooted_from_source : (g : Graph) (s : ℕ) (radius : Option ℕ) (labels : List (Option ℕ)) → IsWithinLimits g → IsLabelled g s radius labels → IsRooted (reversed g) s labels
rooted_from_source g s radius labels limits labelled =
    let long : length (reversed g).arcs ≡ length g.arcs = length-map g.arcs turned in
    rooted_by_labels (reversed g) s radius labels (IsGraph-reversed g limits.is_graph) (omega (arith, limits.few_arcs))
    (subst (λ (h : Graph). IsLabelled h s radius labels) (sym (reversed-reversed g)) labelled)

pub rooted_from : (g : Graph) (s : ℕ) (radius : Option ℕ) (b : Reached) → IsTreeFrom g s radius b → IsRooted (reversed g) s b.labels
rooted_from g s radius b tree = rooted_from_source g s radius b.labels tree.limits tree.ball.labelled

pub rooted_to : (g : Graph) (t : ℕ) (radius : Option ℕ) (b : Reached) → IsTreeTo g t radius b → IsRooted g t b.labels
rooted_to g t radius b tree =
    rooted_by_labels g t radius b.labels tree.limits.is_graph (omega (arith, tree.limits.few_arcs)) tree.ball.labelled

-- a label is a distance, and where there is none the vertex is outside
pub label_of : (g : Graph) (s v : ℕ) (radius : Option ℕ) (labels : List (Option ℕ)) (o : Option ℕ) → IsLabelled g s radius labels → label_at labels v ≡ o → IsLabel g radius s v o
label_of g s v radius labels None labelled is = labelled.far v is
label_of g s v radius labels (Some d) labelled is = labelled.near v d is

pub IsLabel-unreversed : (g : Graph) (t v : ℕ) (radius : Option ℕ) (o : Option ℕ) → IsLabel (reversed g) radius t v o → IsLabel g radius v t o
IsLabel-unreversed g t v radius None h = λ p walk.
    subst (λ (k : ℕ). IsBeyond radius k) (walk_length-reversed g p) (h (reverse p) (IsWalk-reversed g p v t walk))
IsLabel-unreversed g t v radius (Some d) h = (IsDist-unreversed g t v (Some d) h.0, h.1)

pub inside_of : (g : Graph) (s v k : ℕ) (radius : Option ℕ) (labels : List (Option ℕ)) → IsLabelled g s radius labels → label_at labels v ≡ Some k → IsInside g radius s v
inside_of g s v k radius labels labelled is =
    record { distance = k; dist = (labelled.near v k is).0; within = (labelled.near v k is).1 }

pub IsInside-unreversed : (g : Graph) (t v : ℕ) (radius : Option ℕ) → IsInside (reversed g) radius t v → IsInside g radius v t
IsInside-unreversed g t v radius h =
    record { distance = h.distance; dist = IsDist-unreversed g t v (Some h.distance) h.dist; within = h.within }

pub IsInside-reversed : (g : Graph) (t v : ℕ) (radius : Option ℕ) → IsInside g radius v t → IsInside (reversed g) radius t v
IsInside-reversed g t v radius h =
    record { distance = h.distance; dist = IsDist-reversed g v t (Some h.distance) h.dist; within = h.within }

-- nothing is inside and outside
pub apart : (g : Graph) (radius : Option ℕ) (u v : ℕ) → IsInside g radius u v → IsOutside g radius u v → ⊥
apart g radius u v inside outside =
    let low = beyond_above radius inside.distance (walk_length g inside.dist.0.path) inside.within (outside inside.dist.0.path inside.dist.0.walk) in
    absurd (omega (arith, inside.dist.0.long))

pub some_label : (g : Graph) (s v : ℕ) (radius : Option ℕ) (labels : List (Option ℕ)) (o : Option ℕ) → IsLabelled g s radius labels → label_at labels v ≡ o → IsInside g radius s v → IsSome (label_at labels v)
some_label g s v radius labels None labelled is inside = absurd (apart g radius s v inside (labelled.far v is))
some_label g s v radius labels (Some k) labelled is inside = some_at (label_at labels v) k is

inside_some : (g : Graph) (s v : ℕ) (radius : Option ℕ) (labels : List (Option ℕ)) (o : Option ℕ) → IsLabelled g s radius labels → label_at labels v ≡ o → IsSome (label_at labels v) → IsInside g radius s v
inside_some g s v radius labels None labelled is some =
    let gone : IsSome {T = ℕ} None = subst (λ (x : Option ℕ). IsSome x) is some in
    absurd (false≢true gone)
inside_some g s v radius labels (Some k) labelled is some = inside_of g s v k radius labels labelled is

pub members_from : (g : Graph) (s : ℕ) (radius : Option ℕ) (b : Reached) → IsBall g s radius b → IsMembers (λ v. IsInside g radius s v) b.members
members_from g s radius b ball =
    record {
      each = (λ v h. inside_some g s v radius b.labels (label_at b.labels v) ball.labelled refl ((ball.members v).0 h));
      every = (λ v h. (ball.members v).1 (some_label g s v radius b.labels (label_at b.labels v) ball.labelled refl h));
      ascending = ball.ascending;
    }

pub members_to : (g : Graph) (t : ℕ) (radius : Option ℕ) (b : Reached) → IsBall (reversed g) t radius b → IsMembers (λ v. IsInside g radius v t) b.members
members_to g t radius b ball =
    let from = members_from (reversed g) t radius b ball in
    record {
      each = (λ v h. IsInside-unreversed g t v radius (from.each v h));
      every = (λ v h. from.every v (IsInside-reversed g t v radius h));
      ascending = from.ascending;
    }

-- no distance is as long as a bound on all of them
pub dist_below : (g : Graph) (u v k m : ℕ) → DistsBelow g m → IsDist g u v (Some k) → k < m
dist_below g u v k m bound dist =
    ⊎_elim
    (λ (lt : k < m). lt)
    (λ (ge : m ≤ k). absurd (bound u v dist.0.path dist.0.walk (λ p walk. omega (arith, dist.1 p walk))))
    (cases_lt k m)

-- a search without a radius is one by any radius above every distance
pub searched : (g : Graph) (s : ℕ) (radius : Option ℕ) (q : Option ℕ) (b : Reached) → DistsBelow g (2 ^ 57) → IsSearched radius q → IsBall g s q b → IsBall g s radius b
searched g s None q b bound is ball = subst (λ (x : Option ℕ). IsBall g s x b) is ball
searched g s (Some r) None b bound is ball =
    record {
      labelled = record {
        near = (λ v k label.
            let dist = (ball.labelled.near v k label).0 in
            let low : k < 2 ^ 57 = dist_below g s v k (2 ^ 57) bound dist in
            (dist, omega arith));
        far = (λ v none p walk. absurd (ball.labelled.far v none p walk));
      };
      members = ball.members;
      ascending = ball.ascending;
    }
searched g s (Some r) (Some q) b bound is ball =
    subst (λ (x : ℕ). IsBall g s (Some x) b) is.0 ball

-- what a walk leads to from a vertex is a vertex
pub inside_vertex : (g : Graph) (radius : Option ℕ) (u v : ℕ) → IsGraph g → IsVertex g.vertices u → IsInside g radius u v → IsVertex g.vertices v
inside_vertex g radius u v sound vertex inside = IsWalk-inside g inside.dist.0.path u v sound vertex inside.dist.0.walk

-- what the code reads of a ball
pub label_to : (g : Graph) (t v : ℕ) (radius : Option ℕ) (b : Reached) (o : Option ℕ) → IsTreeTo g t radius b → o ≡ label_at b.labels v → IsLabel g radius v t o
label_to g t v radius b o tree is =
    IsLabel-unreversed g t v radius o (label_of (reversed g) t v radius b.labels o tree.ball.labelled (sym is))

pub read_members_from : (g : Graph) (s : ℕ) (radius : Option ℕ) (b : Reached) (members : List ℕ) → IsTreeFrom g s radius b → members ≡ b.members → IsMembers (λ v. IsInside g radius s v) members
read_members_from g s radius b members tree is =
    subst (λ (l : List ℕ). IsMembers (λ v. IsInside g radius s v) l) (sym is) (members_from g s radius b tree.ball)

pub read_members_to : (g : Graph) (t : ℕ) (radius : Option ℕ) (b : Reached) (members : List ℕ) → IsTreeTo g t radius b → members ≡ b.members → IsMembers (λ v. IsInside g radius v t) members
read_members_to g t radius b members tree is =
    subst (λ (l : List ℕ). IsMembers (λ v. IsInside g radius v t) l) (sym is) (members_to g t radius b tree.ball)
