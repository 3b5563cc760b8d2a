-- Shortest and canonical walks of the reversed graph.
use Rattle.std.proofs.Common.{◌≡◌, ℕ, List, reverse, Option, Some, sym, ap, ◌∙◌, subst, arith}
use Rattle.std.specs.Option.{option_map}
use Rattle.std.proofs.lemmas.List.{reverse-reverse}
use Rattle.road_model.specs.declared.rows.ArcRow.{ArcRow}
use Rattle.road_model.specs.Graph.{Graph, arc_at, turned, reversed}
use Rattle.road_model.specs.Dist.{IsShortest}
use Rattle.road_model.specs.Canonical.{LexLe, IsFirst, IsLast}
use Rattle.forward_star.proofs.Turned.{reversed-reversed, arc_at-reversed, IsWalk-reversed, IsWalk-unreversed, walk_length-reversed, walk_length-unreversed}

pub arc_unreversed : (g : Graph) (a : ℕ) (r : ArcRow) → arc_at (reversed g) a ≡ Some r → arc_at g a ≡ Some (turned r)
arc_unreversed g a r is =
    ap (λ (h : Graph). arc_at h a) (sym (reversed-reversed g)) ∙ arc_at-reversed (reversed g) a ∙ ap (λ (o : Option ArcRow). option_map turned o) is

pub IsShortest-unreversed : (g : Graph) (p : List ℕ) (u v : ℕ) → IsShortest (reversed g) v p u → IsShortest g u (reverse p) v
IsShortest-unreversed g p u v h =
    record {
      walk = IsWalk-unreversed g p v u h.walk;
      least = (λ q w. omega (arith, h.least (reverse q) (IsWalk-reversed g q u v w), walk_length-reversed g q, walk_length-unreversed g p));
    }

pub IsShortest-reversed : (g : Graph) (p : List ℕ) (u v : ℕ) → IsShortest g u p v → IsShortest (reversed g) v (reverse p) u
IsShortest-reversed g p u v h =
    IsShortest-unreversed (reversed g) p v u (subst (λ (x : Graph). IsShortest x u p v) (sym (reversed-reversed g)) h)

-- the canonical walk to s in the reversed graph, read backwards, is the canonical walk from s
pub IsFirst-unreversed : (g : Graph) (s v : ℕ) (p : List ℕ) → IsLast (reversed g) v p s → IsFirst g s (reverse p) v
IsFirst-unreversed g s v p h =
    record {
      shortest = IsShortest-unreversed g p s v h.shortest;
      least = (λ q short.
          subst (λ (x : List ℕ). LexLe x (reverse q)) (sym (reverse-reverse p)) (h.least (reverse q) (IsShortest-reversed g q s v short)));
    }

pub IsLast-reversed : (g : Graph) (s v : ℕ) (p : List ℕ) → IsFirst g s p v → IsLast (reversed g) v (reverse p) s
IsLast-reversed g s v p h =
    record {
      shortest = IsShortest-reversed g p s v h.shortest;
      least = (λ q short.
          subst (λ (x : List ℕ). LexLe (reverse p) x) (reverse-reverse q) (h.least (reverse q) (IsShortest-unreversed g q s v short)));
    }
