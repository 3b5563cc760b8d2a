-- What a search of a graph within the limits requires.
use Rattle.std.proofs.Common.{◌≡◌, ℕ, ◌^◌, Option, Some, None, sym, subst, arith}
use Rattle.road_model.specs.Graph.{Graph, LengthsBelow, reversed}
use Rattle.road_model.specs.File.{IsWithinLimits}
use Rattle.road_model.specs.Dist.{DistsBelow}
use Rattle.forward_star.proofs.Bound.{dists_below, DistsBelow-weaker, LengthsBelow-weaker}
use Rattle.forward_star.proofs.Turned.{IsWithinLimits-reversed}
use Rattle.tree_search.specs.Ball.{IsBounded, Reached, IsBall}
use Rattle.canonical_trees.specs.Trees.{IsSearched}
use Rattle.canonical_trees.proofs.Balls.{searched}

pub short : (g : Graph) → IsWithinLimits g → LengthsBelow g (2 ^ 58)
short g limits = LengthsBelow-weaker g 4294967296 (2 ^ 58) (omega arith) limits.short

pub near : (g : Graph) → IsWithinLimits g → DistsBelow g (2 ^ 58)
near g limits = DistsBelow-weaker g (2 ^ 57) (2 ^ 58) (omega arith) (dists_below g limits)

pub bounded : (g : Graph) (radius q : Option ℕ) → IsWithinLimits g → IsSearched radius q → IsBounded g q
bounded g None None limits is = near g limits
bounded g None (Some q) limits is = absurd (let e : Some q ≡ None = is in cc)
bounded g (Some r) None limits is = near g limits
bounded g (Some r) (Some q) limits is = omega (arith, is.0, is.1)

-- the same of the reversed graph h
pub short_reversed : (g h : Graph) → IsWithinLimits g → h ≡ reversed g → LengthsBelow h (2 ^ 58)
short_reversed g h limits is =
    subst (λ (x : Graph). LengthsBelow x (2 ^ 58)) (sym is) (short (reversed g) (IsWithinLimits-reversed g limits))

pub bounded_reversed : (g h : Graph) (radius q : Option ℕ) → IsWithinLimits g → h ≡ reversed g → IsSearched radius q → IsBounded h q
bounded_reversed g h radius q limits is searched =
    subst (λ (x : Graph). IsBounded x q) (sym is) (bounded (reversed g) radius q (IsWithinLimits-reversed g limits) searched)

-- the ball that is found is the one of the radius that was asked for
pub ball_from : (g : Graph) (s : ℕ) (radius q : Option ℕ) (b : Reached) → IsWithinLimits g → IsSearched radius q → IsBall g s q b → IsBall g s radius b
ball_from g s radius q b limits is ball = searched g s radius q b (dists_below g limits) is ball

pub ball_to : (g h : Graph) (t : ℕ) (radius q : Option ℕ) (b : Reached) → IsWithinLimits g → h ≡ reversed g → IsSearched radius q → IsBall h t q b → IsBall (reversed g) t radius b
ball_to g h t radius q b limits same is ball =
    ball_from (reversed g) t radius q b (IsWithinLimits-reversed g limits) is (subst (λ (x : Graph). IsBall x t q b) same ball)
