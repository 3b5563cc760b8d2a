-- What the walks that are found from the trees are.
use Rattle.std.proofs.Common.{◌≡◌, ℕ, ◌<◌, ◌^◌, List, [], ◌++◌, reverse, Option, Some, None, IsSome, IfSome, sym, ap, ◌∙◌, subst, refl, map, arith}
use Rattle.road_model.specs.Graph.{Graph, IsVertex, reversed}
use Rattle.road_model.specs.File.{IsWithinLimits}
use Rattle.road_model.specs.Walk.{walk_length}
use Rattle.road_model.specs.Canonical.{IsFirst, IsLast}
use Rattle.road_model.specs.Alternatives.{IsVia}
use Rattle.road_model.proofs.Dists.{IsDist-same, dist_of_shortest}
use Rattle.forward_star.proofs.Bound.{dists_below}
use Rattle.tree_search.specs.Ball.{label_at, label_within, Reached, IsLabelled, IsLabelledTo}
use Rattle.canonical_trees.specs.Tight.{IsRooted, AddsPath}
use Rattle.canonical_trees.specs.Trees.{IsInside, IsLabel, IsTreeFrom, IsTreeTo}
use Rattle.canonical_trees.proofs.Turned.{IsFirst-unreversed}
use Rattle.canonical_trees.proofs.Balls.{rooted_from_source, some_label, IsInside-reversed, inside_vertex, dist_below}

-- a walk that was followed in the reversed graph, read backwards
pub path_of_followed : (g h : Graph) (s v : ℕ) (old added path : List ℕ) → h ≡ reversed g → AddsPath h s v old added → old ≡ [] → path ≡ reverse added → IsFirst g s path v
path_of_followed g h s v old added path same adds nothing is =
    let walk : added ≡ adds.walk = adds.is ∙ ap (λ (l : List ℕ). l ++ adds.walk) nothing in
    let turned : path ≡ reverse adds.walk = is ∙ ap (λ (l : List ℕ). reverse l) walk in
    subst (λ (l : List ℕ). IsFirst g s l v) (sym turned)
    (IsFirst-unreversed g s v adds.walk (subst (λ (x : Graph). IsLast x v adds.walk s) same adds.last))

pub vertex_inside : (g : Graph) (s v : ℕ) (radius : Option ℕ) (b : Reached) → IsTreeFrom g s radius b → IsInside g radius s v → IsVertex g.vertices v
vertex_inside g s v radius b tree inside = inside_vertex g radius s v tree.limits.is_graph tree.root inside

pub labelled_to : (g : Graph) (t v : ℕ) (radius : Option ℕ) (b : Reached) (labels : List (Option ℕ)) → labels ≡ b.labels → IsTreeTo g t radius b → IsInside g radius v t → IsSome (label_at labels v)
labelled_to g t v radius b labels kept tree inside =
    subst (λ (l : List (Option ℕ)). IsSome (label_at l v)) (sym kept)
    (some_label (reversed g) t v radius b.labels (label_at b.labels v) tree.ball.labelled refl (IsInside-reversed g t v radius inside))

-- the two halves of a path through v
pub via_of_halves : (g : Graph) (s t v : ℕ) (prefix path : List ℕ) → IsVertex g.vertices v → IsFirst g s prefix v → AddsPath g t v prefix path → IsVia g s t v path
via_of_halves g s t v prefix path vertex first adds =
    record { vertex = vertex; prefix = prefix; back = adds.walk; first = first; last = adds.last; joined = adds.is }

-- the labels of a search to a target that was found
pub rooted_found : (g : Graph) (s t distance : ℕ) (values : List ℕ) (labels : List (Option ℕ)) → IsWithinLimits g → IsLabelledTo g s t values distance → labels ≡ map (label_within distance) values → IsRooted (reversed g) s labels
rooted_found g s t distance values labels limits hit is =
    rooted_from_source g s (Some distance) labels limits (subst (λ (l : List (Option ℕ)). IsLabelled g s (Some distance) l) (sym is) hit.labelled)

pub labelled_found : (g : Graph) (s t distance : ℕ) (values : List ℕ) (labels : List (Option ℕ)) → IsLabelledTo g s t values distance → labels ≡ map (label_within distance) values → IsSome (label_at labels t)
labelled_found g s t distance values labels hit is =
    subst (λ (l : List (Option ℕ)). IsSome (label_at l t)) (sym is)
    (some_label g s t (Some distance) (map (label_within distance) values) (label_at (map (label_within distance) values) t) hit.labelled refl
    (record { distance = distance; dist = hit.dist; within = omega arith }))

-- the distance of the target is the length of its canonical path, and no distance is long
pub record IsLengthOf (g : Graph) (s t length : ℕ) : Type 0 where
  pub every : (p : List ℕ) → IsFirst g s p t → length ≡ walk_length g p
  pub short : length < 2 ^ 57

pub length_found : (g : Graph) (s t distance : ℕ) (values : List ℕ) → IsWithinLimits g → IsLabelledTo g s t values distance → IsLengthOf g s t distance
length_found g s t distance values limits hit =
    record {
      every = (λ p first. IsDist-same g s t distance (walk_length g p) hit.dist (dist_of_shortest g s t p first.shortest));
      short = dist_below g s t distance (2 ^ 57) (dists_below g limits) hit.dist;
    }

-- a label is a distance, and so it isn't long
pub label_short : (g : Graph) (radius : Option ℕ) (u v : ℕ) (o : Option ℕ) → IsWithinLimits g → IsLabel g radius u v o → IfSome o (λ d. d < 2 ^ 57)
label_short g radius u v None limits h = tt
label_short g radius u v (Some d) limits h = dist_below g u v d (2 ^ 57) (dists_below g limits) h.0
