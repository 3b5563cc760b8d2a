-- Two canonical paths, one after the other.
use Rattle.std.proofs.Common.{◌≡◌, ℕ, ◌<◌, ◌≤◌, ◌^◌, List, ◌++◌, length, Option, Some, IfSome, refl, sym, subst, arith}
use Rattle.road_model.specs.declared.answer.Optimum.{Optimum}
use Rattle.road_model.specs.declared.trail.Trail.{Trail}
use Rattle.road_model.specs.Graph.{Graph, IsVertex}
use Rattle.road_model.specs.File.{IsWithinLimits}
use Rattle.road_model.specs.Walk.{IsWalkFrom, walk_length}
use Rattle.road_model.specs.Dist.{HaveSameDist}
use Rattle.road_model.specs.Canonical.{IsOptimum}
use Rattle.road_model.specs.Places.{trail_of}
use Rattle.road_model.specs.ViaWalk.{IsViaWalk}
use Rattle.road_model.proofs.Walks.{IsWalk-append, walk_length-append}

HaveSameDist-refl : (g : Graph) → HaveSameDist g g
HaveSameDist-refl g = record { vertices = refl; dist = (λ u v d. (λ h. h, λ h. h)) }

-- what a search for an optimum found, where it found one
pub record IsFound (g : Graph) (s v : ℕ) (o : Optimum) : Type 0 where
  pub best : IsOptimum g s v (Some o)
  pub short : o.length < 2 ^ 57

pub found_at : (g : Graph) (s v : ℕ) (result : Option Optimum) (o : Optimum) → result ≡ Some o → IsOptimum g s v result → IfSome result (λ (x : Optimum). x.length < 2 ^ 57) → IsFound g s v o
found_at g s v result o is best short =
    record {
      best = subst (λ (x : Option Optimum). IsOptimum g s v x) is best;
      short = subst (λ (x : Option Optimum). IfSome x (λ (y : Optimum). y.length < 2 ^ 57)) is short;
    }

pub walk_of_paths : (g : Graph) (s v t : ℕ) (prefix back : Optimum) (arcs : List ℕ) → IsFound g s v prefix → IsFound g v t back → arcs ≡ prefix.arcs ++ back.arcs → IsWalkFrom g s arcs
walk_of_paths g s v t prefix back arcs h k is =
    subst (λ (p : List ℕ). IsWalkFrom g s p) (sym is)
    (record { end = t; walk = IsWalk-append g prefix.arcs back.arcs s v t h.best.0.shortest.walk k.best.0.shortest.walk })

pub short_walk : (g : Graph) (s v t : ℕ) (prefix back : Optimum) (arcs : List ℕ) → IsFound g s v prefix → IsFound g v t back → arcs ≡ prefix.arcs ++ back.arcs → walk_length g arcs < 2 ^ 58
short_walk g s v t prefix back arcs h k is =
    subst (λ (p : List ℕ). walk_length g p < 2 ^ 58) (sym is)
    (omega (arith, walk_length-append g prefix.arcs back.arcs, h.best.1, k.best.1, h.short, k.short))

pub via_walk_of : (g : Graph) (s v t via : ℕ) (prefix back : Optimum) (arcs : List ℕ) (trail : Trail) → IsWithinLimits g → IsVertex g.vertices s → IsFound g s v prefix → IsFound g v t back → arcs ≡ prefix.arcs ++ back.arcs → length arcs ≤ 1000 → trail ≡ trail_of g s arcs → via ≡ length prefix.arcs → IsViaWalk g trail via
via_walk_of g s v t via prefix back arcs trail limits inside h k is few at place =
    let long : length (prefix.arcs ++ back.arcs) ≤ 1000 = subst (λ (p : List ℕ). length p ≤ 1000) is few in
    record {
      graph = g;
      same = HaveSameDist-refl g;
      sound = limits.is_graph;
      source = s;
      middle = v;
      target = t;
      inside = inside;
      prefix = prefix.arcs;
      back = back.arcs;
      prefix_shortest = h.best.0.shortest;
      back_shortest = k.best.0.shortest;
      is = subst (λ (p : List ℕ). trail ≡ trail_of g s p) is at;
      place = place;
      few = omega arith;
      short = short_walk g s v t prefix back (prefix.arcs ++ back.arcs) h k refl;
    }
