-- The tests of a path by an oracle, told of the star's own graph.
use Rattle.std.proofs.Common.{◌≡◌, ◌≢◌, ℕ, ◌+◌, ◌<◌, ◌^◌, List, length, Option, Some, None, sym, ap, ◌∙◌, subst, arith}
use Rattle.road_model.specs.declared.answer.Optimum.{Optimum}
use Rattle.road_model.specs.declared.answer.Pair.{Pair}
use Rattle.road_model.specs.declared.answer.Query.{Query}
use Rattle.road_model.specs.declared.trail.Trail.{Trail}
use Rattle.road_model.specs.Graph.{Graph, IsVertex}
use Rattle.road_model.specs.Walk.{walk_length}
use Rattle.road_model.specs.Dist.{HaveSameDist}
use Rattle.road_model.specs.Canonical.{IsFirst}
use Rattle.road_model.specs.Fraction.{Fraction, Allows}
use Rattle.road_model.specs.Places.{trail_of, vertex_at}
use Rattle.road_model.specs.Tests.{shared, FailsLocal, FailsStretch, NoneFails, IsLeastFailure}
use Rattle.road_model.specs.ViaWalk.{IsViaWalk, FindsLeast}
use Rattle.road_model.specs.Alternatives.{IsVia, IsName}
use Rattle.canonical_trees.proofs.ThroughVertex.{via_walk}
use Rattle.certify.specs.Reasons.{IsPosed, FailsLocalOf, IsLocalReason, IsStretchReason, IsListedReason}
use Rattle.certify.proofs.RouteStarts.{IsTrailOf, trail_lists, via_place, via_short}
use Rattle.certify.proofs.FewPlaces.{vertex_on, via_few}

pub is_via_walk : (g o : Graph) (q : Query) (best : Optimum) (name : ℕ) (p : List ℕ) (t : Trail) (place : ℕ) → IsPosed g q best → HaveSameDist g o → IsVia g q.from q.to name p → t ≡ trail_of g q.from p → vertex_at t place ≡ name → ((j : ℕ) → j < place → vertex_at t j ≢ name) → IsViaWalk o t place
is_via_walk g o q best name p t place posed same h is here none =
    let few : length p + 1 < 2 ^ 32 = via_few g q.from q.to name p posed.limits posed.source h in
    let short : walk_length g p < 2 ^ 58 = via_short g q.from q.to name p posed.limits h in
    record {
      graph = g;
      same = same;
      sound = posed.limits.is_graph;
      source = q.from;
      middle = name;
      target = q.to;
      inside = posed.source;
      prefix = h.prefix;
      back = h.back;
      prefix_shortest = h.first.shortest;
      back_shortest = h.last.shortest;
      is = is ∙ ap (λ (l : List ℕ). trail_of g q.from l) h.joined;
      place = via_place g q.from q.to name p t place posed.limits.is_graph h is here none;
      few = subst (λ (l : List ℕ). length l + 1 < 2 ^ 32) h.joined few;
      short = subst (λ (l : List ℕ). walk_length g l < 2 ^ 58) h.joined short;
    }

pub place_fits : (g : Graph) (q : Query) (best : Optimum) (name : ℕ) (p : List ℕ) (t : Trail) (place : ℕ) → IsPosed g q best → IsVia g q.from q.to name p → t ≡ trail_of g q.from p → place < length t.vertices → place < 2 ^ 32
place_fits g q best name p t place posed h is lt =
    let lists : IsTrailOf t (length p) = trail_lists g q.from p t is in
    omega (arith, via_few g q.from q.to name p posed.limits posed.source h, lists.vertices)

pub vertex_there : (g : Graph) (q : Query) (best : Optimum) (name : ℕ) (p : List ℕ) (t : Trail) (place : ℕ) → IsPosed g q best → IsVia g q.from q.to name p → t ≡ trail_of g q.from p → place < length t.vertices → IsVertex g.vertices (vertex_at t place)
vertex_there g q best name p t place posed h is lt =
    let lists : IsTrailOf t (length p) = trail_lists g q.from p t is in
    subst (λ (x : Trail). IsVertex g.vertices (vertex_at x place)) (sym is)
    (vertex_on g q.from q.to p place posed.limits.is_graph posed.source (via_walk g q.from q.to name p h) (omega (arith, lists.vertices)))

-- from one graph to another with the same distances

local_to : (g o : Graph) (f : Fraction) (l : ℕ) (t : Trail) (i j d : ℕ) → HaveSameDist g o → FailsLocal g f l t i j d → FailsLocal o f l t i j d
local_to g o f l t i j d same h =
    record { rise = h.rise; inside = h.inside; tested = h.tested; dist = (same.dist (vertex_at t i) (vertex_at t j) (Some d)).0 h.dist; other = h.other }

local_back : (g o : Graph) (f : Fraction) (l : ℕ) (t : Trail) (i j d : ℕ) → HaveSameDist g o → FailsLocal o f l t i j d → FailsLocal g f l t i j d
local_back g o f l t i j d same h =
    record { rise = h.rise; inside = h.inside; tested = h.tested; dist = (same.dist (vertex_at t i) (vertex_at t j) (Some d)).1 h.dist; other = h.other }

stretch_to : (g o : Graph) (f : Fraction) (t : Trail) (i j d : ℕ) → HaveSameDist g o → FailsStretch g f t i j d → FailsStretch o f t i j d
stretch_to g o f t i j d same h =
    record { rise = h.rise; inside = h.inside; dist = (same.dist (vertex_at t i) (vertex_at t j) (Some d)).0 h.dist; above = h.above }

stretch_back : (g o : Graph) (f : Fraction) (t : Trail) (i j d : ℕ) → HaveSameDist g o → FailsStretch o f t i j d → FailsStretch g f t i j d
stretch_back g o f t i j d same h =
    record { rise = h.rise; inside = h.inside; dist = (same.dist (vertex_at t i) (vertex_at t j) (Some d)).1 h.dist; above = h.above }

finds_same : (F G : ℕ → ℕ → ℕ → Type 0) (r : Option Pair) → ((i j d : ℕ) → F i j d → G i j d) → ((i j d : ℕ) → G i j d → F i j d) → FindsLeast F r → FindsLeast G r
finds_same F G None to from h = (λ i j d g. h i j d (from i j d g))
finds_same F G (Some pair) to from h =
    record {
      fails = to pair.first pair.last pair.distance h.fails;
      first = (λ a b c g. h.first a b c (from a b c g));
      last = (λ b c g. h.last b c (from pair.first b c g));
    }

local_found : (g o : Graph) (f : Fraction) (l : ℕ) (t : Trail) (r : Option Pair) → HaveSameDist g o → FindsLeast (FailsLocal o f l t) r → FindsLeast (FailsLocal g f l t) r
local_found g o f l t r same h =
    finds_same (FailsLocal o f l t) (FailsLocal g f l t) r (λ i j d x. local_back g o f l t i j d same x) (λ i j d x. local_to g o f l t i j d same x) h

stretch_found : (g o : Graph) (f : Fraction) (t : Trail) (r : Option Pair) → HaveSameDist g o → FindsLeast (FailsStretch o f t) r → FindsLeast (FailsStretch g f t) r
stretch_found g o f t r same h =
    finds_same (FailsStretch o f t) (FailsStretch g f t) r (λ i j d x. stretch_back g o f t i j d same x) (λ i j d x. stretch_to g o f t i j d same x) h

at_some : (F : ℕ → ℕ → ℕ → Type 0) (r : Option Pair) (pair : Pair) → FindsLeast F r → r ≡ Some pair → IsLeastFailure F pair.first pair.last pair.distance
at_some F r pair h is = subst (λ (x : Option Pair). FindsLeast F x) is h

at_none : (F : ℕ → ℕ → ℕ → Type 0) (r : Option Pair) → FindsLeast F r → r ≡ None → NoneFails F
at_none F r h is = subst (λ (x : Option Pair). FindsLeast F x) is h

pub local_some : (g o : Graph) (f : Fraction) (l : ℕ) (t : Trail) (r : Option Pair) (pair : Pair) → HaveSameDist g o → FindsLeast (FailsLocal o f l t) r → r ≡ Some pair → IsLeastFailure (FailsLocal g f l t) pair.first pair.last pair.distance
local_some g o f l t r pair same h is = at_some (FailsLocal g f l t) r pair (local_found g o f l t r same h) is

pub local_none : (g o : Graph) (f : Fraction) (l : ℕ) (t : Trail) (r : Option Pair) → HaveSameDist g o → FindsLeast (FailsLocal o f l t) r → r ≡ None → NoneFails (FailsLocal g f l t)
local_none g o f l t r same h is = at_none (FailsLocal g f l t) r (local_found g o f l t r same h) is

pub same_after : (g o now : Graph) → now ≡ o → HaveSameDist g o → HaveSameDist g now
same_after g o now kept same = subst (λ (x : Graph). HaveSameDist g x) (sym kept) same

pub stretch_some : (g o now : Graph) (f : Fraction) (t : Trail) (r : Option Pair) (pair : Pair) → HaveSameDist g o → now ≡ o → FindsLeast (FailsStretch now f t) r → r ≡ Some pair → IsLeastFailure (FailsStretch g f t) pair.first pair.last pair.distance
stretch_some g o now f t r pair same kept h is = at_some (FailsStretch g f t) r pair (stretch_found g now f t r (same_after g o now kept same) h) is

pub stretch_none : (g o now : Graph) (f : Fraction) (t : Trail) (r : Option Pair) → HaveSameDist g o → now ≡ o → FindsLeast (FailsStretch now f t) r → r ≡ None → NoneFails (FailsStretch g f t)
stretch_none g o now f t r same kept h is = at_none (FailsStretch g f t) r (stretch_found g now f t r (same_after g o now kept same) h) is

-- the reasons

pub local_reason : (g : Graph) (q : Query) (best : Optimum) (p : List ℕ) (t : Trail) (first last distance : ℕ) (detour : List ℕ) → IsPosed g q best → t ≡ trail_of g q.from p → p ≢ best.arcs → Allows q.gamma (shared g best.arcs p) best.length →
    IsLeastFailure (FailsLocal g q.alpha best.length t) first last distance → IsFirst g (vertex_at t first) detour (vertex_at t last) → IsLocalReason g q best.arcs p first last detour
local_reason g q best p t first last distance detour posed is other limited fails own =
    record {
      other = other;
      limited = subst (λ (n : ℕ). Allows q.gamma (shared g best.arcs p) n) posed.best.1 limited;
      distance = distance;
      fails = subst (λ (n : ℕ). IsLeastFailure (FailsLocal g q.alpha n (trail_of g q.from p)) first last distance) posed.best.1
          (subst (λ (x : Trail). IsLeastFailure (FailsLocal g q.alpha best.length x) first last distance) is fails);
      own = record { path = subst (λ (x : Trail). IsFirst g (vertex_at x first) detour (vertex_at x last)) is own };
    }

none_local : (g : Graph) (q : Query) (best : Optimum) (p : List ℕ) (t : Trail) → IsPosed g q best → t ≡ trail_of g q.from p → NoneFails (FailsLocal g q.alpha best.length t) → NoneFails (FailsLocalOf g q best.arcs p)
none_local g q best p t posed is h =
    subst (λ (n : ℕ). NoneFails (FailsLocal g q.alpha n (trail_of g q.from p))) posed.best.1
    (subst (λ (x : Trail). NoneFails (FailsLocal g q.alpha best.length x)) is h)

pub stretch_reason : (g : Graph) (q : Query) (best : Optimum) (p : List ℕ) (t : Trail) (first last distance : ℕ) (detour : List ℕ) → IsPosed g q best → t ≡ trail_of g q.from p → p ≢ best.arcs → Allows q.gamma (shared g best.arcs p) best.length →
    NoneFails (FailsLocal g q.alpha best.length t) → IsLeastFailure (FailsStretch g q.epsilon t) first last distance → IsFirst g (vertex_at t first) detour (vertex_at t last) → IsStretchReason g q best.arcs p first last detour
stretch_reason g q best p t first last distance detour posed is other limited optimal fails own =
    record {
      other = other;
      limited = subst (λ (n : ℕ). Allows q.gamma (shared g best.arcs p) n) posed.best.1 limited;
      optimal = none_local g q best p t posed is optimal;
      distance = distance;
      fails = subst (λ (x : Trail). IsLeastFailure (FailsStretch g q.epsilon x) first last distance) is fails;
      own = record { path = subst (λ (x : Trail). IsFirst g (vertex_at x first) detour (vertex_at x last)) is own };
    }

pub listed_reason : (g : Graph) (q : Query) (best : Optimum) (p : List ℕ) (t : Trail) (name n : ℕ) → IsPosed g q best → t ≡ trail_of g q.from p → p ≢ best.arcs → Allows q.gamma (shared g best.arcs p) best.length →
    NoneFails (FailsLocal g q.alpha best.length t) → NoneFails (FailsStretch g q.epsilon t) → IsName g q.from q.to p name → n ≡ name → IsListedReason g q best.arcs p n
listed_reason g q best p t name n posed is other limited optimal bounded named same =
    record {
      other = other;
      limited = subst (λ (n : ℕ). Allows q.gamma (shared g best.arcs p) n) posed.best.1 limited;
      optimal = none_local g q best p t posed is optimal;
      bounded = subst (λ (x : Trail). NoneFails (FailsStretch g q.epsilon x)) is bounded;
      is_name = subst (λ (x : ℕ). IsName g q.from q.to p x) (sym same) named;
    }
