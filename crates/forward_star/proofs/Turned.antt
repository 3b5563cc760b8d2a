-- A graph with its arcs turned round: its limits, its walks and its distances.
use Rattle.std.proofs.Common.{◌≡◌, ◌<◌, ◌≤◌, ℕ, zero, suc, List, [], ◌∷◌, ◌++◌, map, reverse, Option, Some, None, option_map, refl, sym, ap, ◌∙◌, subst, arith}
use Rattle.std.proofs.lemmas.List.{length-map, reverse-reverse}
use Rattle.std.proofs.lemmas.List.Elements.{All-map, All-weaker}
use Rattle.std.proofs.lemmas.Option.{slice_get-map}
use Rattle.road_model.specs.declared.rows.ArcRow.{ArcRow}
use Rattle.road_model.specs.Graph.{Graph, arc_at, row_length, length_at, IsArc, IsGraph, LengthsBelow, turned, reversed}
use Rattle.road_model.specs.Walk.{IsWalk, walk_length}
use Rattle.road_model.specs.Dist.{IsDist, NoneShorter}
use Rattle.road_model.specs.File.{IsWithinLimits}
use Rattle.road_model.proofs.Walks.{IsWalk-append, walk_length-append}
use Rattle.road_model.proofs.Basics.{reverse-cons}

pub map-turned : (rows : List ArcRow) → map turned (map turned rows) ≡ rows
map-turned [] = refl
map-turned (r ∷ rows) = ap (λ (l : List ArcRow). r ∷ l) (map-turned rows)

pub reversed-reversed : (g : Graph) → reversed (reversed g) ≡ g
reversed-reversed g = ap (λ (rows : List ArcRow). record g { arcs = rows }) (map-turned g.arcs)

abbrev IsShort : ℕ → ArcRow → Type 0
IsShort m r = r.length < m

pub IsGraph-reversed : (g : Graph) → IsGraph g → IsGraph (reversed g)
IsGraph-reversed g h =
    All-map (IsArc g.vertices) turned g.arcs
    (All-weaker (IsArc g.vertices) (λ (r : ArcRow). IsArc g.vertices (turned r)) (λ r a. record { tail = a.head; head = a.tail; positive = a.positive }) g.arcs h)

pub LengthsBelow-reversed : (g : Graph) (m : ℕ) → LengthsBelow g m → LengthsBelow (reversed g) m
LengthsBelow-reversed g m h = All-map (IsShort m) turned g.arcs h

pub IsWithinLimits-reversed : (g : Graph) → IsWithinLimits g → IsWithinLimits (reversed g)
IsWithinLimits-reversed g h =
    record {
      few_vertices = h.few_vertices;
      few_arcs = omega (arith, h.few_arcs, length-map g.arcs turned);
      is_graph = IsGraph-reversed g h.is_graph;
      short = LengthsBelow-reversed g 4294967296 h.short;
    }

pub arc_at-reversed : (g : Graph) (a : ℕ) → arc_at (reversed g) a ≡ option_map turned (arc_at g a)
arc_at-reversed g zero = refl
arc_at-reversed g (suc k) = slice_get-map turned g.arcs k

pub arc_at-reversed_some : (g : Graph) (a : ℕ) (r : ArcRow) → arc_at g a ≡ Some r → arc_at (reversed g) a ≡ Some (turned r)
arc_at-reversed_some g a r is = arc_at-reversed g a ∙ ap (λ (o : Option ArcRow). option_map turned o) is

same_length : (o : Option ArcRow) → row_length (option_map turned o) ≡ row_length o
same_length None = refl
same_length (Some r) = refl

pub length_at-reversed : (g : Graph) (a : ℕ) → length_at (reversed g) a ≡ length_at g a
length_at-reversed g a = ap row_length (arc_at-reversed g a) ∙ same_length (arc_at g a)

-- the walk read backwards
pub IsWalk-reversed : (g : Graph) (p : List ℕ) (u v : ℕ) → IsWalk g u p v → IsWalk (reversed g) v (reverse p) u
IsWalk-reversed g [] u v h = sym h
IsWalk-reversed g (a ∷ p) u v h =
    let rest : IsWalk (reversed g) v (reverse p) h.0.head = IsWalk-reversed g p h.0.head v h.3 in
    let last : IsWalk (reversed g) h.0.head (a ∷ []) u = (turned h.0, arc_at-reversed_some g a h.0 h.1, refl, h.2) in
    subst (λ (l : List ℕ). IsWalk (reversed g) v l u) (sym (reverse-cons a p)) (IsWalk-append (reversed g) (reverse p) (a ∷ []) v h.0.head u rest last)

pub walk_length-reversed : (g : Graph) (p : List ℕ) → walk_length (reversed g) (reverse p) ≡ walk_length g p
walk_length-reversed g [] = refl
walk_length-reversed g (a ∷ p) =
    let split : walk_length (reversed g) (reverse (a ∷ p)) ≡ walk_length (reversed g) (reverse p ++ a ∷ []) = ap (λ (l : List ℕ). walk_length (reversed g) l) (reverse-cons a p) in
    let parts = walk_length-append (reversed g) (reverse p) (a ∷ []) in
    let rest = walk_length-reversed g p in
    let one = length_at-reversed g a in
    omega arith

-- and a walk of the reversed graph read backwards
pub IsWalk-unreversed : (g : Graph) (p : List ℕ) (u v : ℕ) → IsWalk (reversed g) u p v → IsWalk g v (reverse p) u
IsWalk-unreversed g p u v h =
    subst (λ (x : Graph). IsWalk x v (reverse p) u) (reversed-reversed g) (IsWalk-reversed (reversed g) p u v h)

pub walk_length-unreversed : (g : Graph) (p : List ℕ) → walk_length g (reverse p) ≡ walk_length (reversed g) p
walk_length-unreversed g p =
    sym (walk_length-reversed g (reverse p)) ∙ ap (λ (l : List ℕ). walk_length (reversed g) l) (reverse-reverse p)

pub NoneShorter-unreversed : (g : Graph) (u v k : ℕ) → NoneShorter (reversed g) u v k → NoneShorter g v u k
NoneShorter-unreversed g u v k h p walk =
    let low : k ≤ walk_length (reversed g) (reverse p) = h (reverse p) (IsWalk-reversed g p v u walk) in
    omega (arith, walk_length-reversed g p)

-- distances are those of the graph with the ends exchanged
pub IsDist-unreversed : (g : Graph) (u v : ℕ) (d : Option ℕ) → IsDist (reversed g) u v d → IsDist g v u d
IsDist-unreversed g u v None h = λ p walk. h (reverse p) (IsWalk-reversed g p v u walk)
IsDist-unreversed g u v (Some k) h = (
  record {
    path = reverse h.0.path;
    walk = IsWalk-unreversed g h.0.path u v h.0.walk;
    long = walk_length-unreversed g h.0.path ∙ h.0.long;
  },
  NoneShorter-unreversed g u v k h.1,
)

pub IsDist-reversed : (g : Graph) (u v : ℕ) (d : Option ℕ) → IsDist g u v d → IsDist (reversed g) v u d
IsDist-reversed g u v d h =
    IsDist-unreversed (reversed g) u v d (subst (λ (x : Graph). IsDist x u v d) (sym (reversed-reversed g)) h)
