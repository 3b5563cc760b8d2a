-- The trail of a candidate, as the tests take it, and what they say told of the star's own graph.
use Rattle.std.proofs.Common.{◌≡◌, ℕ, ◌+◌, ◌<◌, ◌≤◌, ◌^◌, List, ◌++◌, length, get_or, Option, Some, None, Bool, true, false, Contains, sym, ap, ◌∙◌, subst, arith, length-append}
use Rattle.road_model.specs.declared.answer.Optimum.{Optimum}
use Rattle.road_model.specs.declared.answer.Pair.{Pair}
use Rattle.road_model.specs.declared.answer.Query.{Query}
use Rattle.road_model.specs.declared.trail.Trail.{Trail}
use Rattle.road_model.specs.Graph.{Graph}
use Rattle.road_model.specs.Walk.{IsWalkFrom, walk_length}
use Rattle.road_model.specs.Dist.{HaveSameDist}
use Rattle.road_model.specs.Fraction.{Fraction}
use Rattle.road_model.specs.Places.{sums, trail_of, vertex_at}
use Rattle.road_model.specs.Tests.{FailsLocal, FailsStretch, NoneFails, IsLeastFailure}
use Rattle.road_model.specs.ViaWalk.{IsViaWalk, FindsLeast, AsksWithin}
use Rattle.road_model.specs.Alternatives.{IsVia}
use Rattle.road_model.proofs.CanonicalWalks.{IsFirst-unique}
use Rattle.road_model.proofs.Parts.{length-sums, sum_after}
use Rattle.path_tests.specs.Passing.{HasFailure, TellsPassing}
use Rattle.via_search.specs.declared.candidates.Candidate.{Candidate}
use Rattle.via_search.specs.Candidates.{IsPosed, IsCandidate}
use Rattle.via_search.specs.Judging.{FailsLocalOf, FailsStretchOf, IsPassing, StaysCounted}
use Rattle.canonical_trees.proofs.ThroughVertex.{via_walk, near_of_via}
use Rattle.via_search.proofs.FewArcs.{default_of, place_unique, shortest_few}

-- the trail of a path, told of another name of it
pub trail_along : (g : Graph) (s : ℕ) (t : Trail) (p q : List ℕ) → t ≡ trail_of g s p → p ≡ q → t ≡ trail_of g s q
trail_along g s t p q is same = is ∙ ap (λ (l : List ℕ). trail_of g s l) same

pub candidate_walk : (g : Graph) (s t : ℕ) (c : Candidate) → IsCandidate g s t c → IsWalkFrom g s c.arcs
candidate_walk g s t c h = record { end = t; walk = via_walk g s t c.via c.arcs h.through }

pub few_places : (g : Graph) (q : Query) (o : Optimum) (c : Candidate) → IsPosed g q o → IsCandidate g q.from q.to c → length c.arcs + 1 < 2 ^ 32
few_places g q o c posed h =
    let v = h.through in
    let prefix : length v.prefix ≤ g.vertices = shortest_few g v.prefix q.from c.via posed.limits.is_graph posed.source v.first.shortest in
    let back : length v.back ≤ g.vertices = shortest_few g v.back c.via q.to posed.limits.is_graph v.vertex v.last.shortest in
    let most : g.vertices ≤ 33554432 = posed.limits.few_vertices in
    let whole : length c.arcs ≡ length (v.prefix ++ v.back) = ap (λ (l : List ℕ). length l) v.joined in
    omega (arith, length-append v.prefix v.back)

pub few_sums : (g : Graph) (q : Query) (o : Optimum) (c : Candidate) (t : Trail) → IsPosed g q o → IsCandidate g q.from q.to c → t ≡ trail_of g q.from c.arcs → length t.sums < 2 ^ 32
few_sums g q o c t posed h is =
    let same : length t.sums ≡ length (sums g 0 c.arcs) = ap (λ (x : Trail). length x.sums) is in
    omega (arith, length-sums g 0 c.arcs, few_places g q o c posed h)

sum_at_via : (g : Graph) (s t : ℕ) (c : Candidate) (h : IsCandidate g s t c) → get_or (sums g 0 c.arcs) (length h.through.prefix) 0 ≡ c.near
sum_at_via g s t c h =
    let v = h.through in
    let here : get_or (sums g 0 (v.prefix ++ v.back)) (length v.prefix) 0 ≡ 0 + walk_length g v.prefix = sum_after g v.prefix v.back 0 in
    let moved : get_or (sums g 0 c.arcs) (length v.prefix) 0 ≡ get_or (sums g 0 (v.prefix ++ v.back)) (length v.prefix) 0 = ap (λ (l : List ℕ). get_or (sums g 0 l) (length v.prefix) 0) v.joined in
    omega (arith, near_of_via g s t c.via c.near c.arcs v h.dist)

prefix_inside : (g : Graph) (s t : ℕ) (c : Candidate) (h : IsCandidate g s t c) → length h.through.prefix ≤ length c.arcs
prefix_inside g s t c h =
    let v = h.through in
    let whole : length c.arcs ≡ length (v.prefix ++ v.back) = ap (λ (l : List ℕ). length l) v.joined in
    omega (arith, length-append v.prefix v.back)

contains_at : (xs : List ℕ) (i x : ℕ) → i < length xs → get_or xs i 0 ≡ x → Contains xs x
contains_at xs i x lt is = (i, lt, default_of xs i x lt ∙ is)

pub via_stands : (g : Graph) (s t : ℕ) (c : Candidate) (trail : Trail) → IsCandidate g s t c → trail ≡ trail_of g s c.arcs → Contains trail.sums c.near
via_stands g s t c trail h is =
    let inside : length h.through.prefix < length (sums g 0 c.arcs) = omega (arith, prefix_inside g s t c h, length-sums g 0 c.arcs) in
    subst (λ (l : List ℕ). Contains l c.near) (sym (ap (λ (x : Trail). x.sums) is))
    (contains_at (sums g 0 c.arcs) (length h.through.prefix) c.near inside (sum_at_via g s t c h))

-- the place whose length so far is the distance of the via is that of the via
place_is : (g : Graph) (q : Query) (o : Optimum) (c : Candidate) (t : Trail) (place : ℕ) → IsPosed g q o → (h : IsCandidate g q.from q.to c) → t ≡ trail_of g q.from c.arcs → place < length t.sums → get_or t.sums place 0 ≡ c.near → place ≡ length h.through.prefix
place_is g q o c t place posed h is lt here =
    let same : t.sums ≡ sums g 0 c.arcs = ap (λ (x : Trail). x.sums) is in
    let long : length t.sums ≡ length (sums g 0 c.arcs) = ap (λ (l : List ℕ). length l) same in
    let near : get_or (sums g 0 c.arcs) place 0 ≡ c.near = ap (λ (l : List ℕ). get_or l place 0) (sym same) ∙ here in
    place_unique g c.arcs q.from q.to place (length h.through.prefix) posed.limits.is_graph (via_walk g q.from q.to c.via c.arcs h.through)
    (omega (arith, length-sums g 0 c.arcs)) (prefix_inside g q.from q.to c h) (near ∙ sym (sum_at_via g q.from q.to c h))

-- so it is the length of any list of arcs that leads to the via canonically
pub place_of_via : (g : Graph) (q : Query) (o : Optimum) (c : Candidate) (t : Trail) (place : ℕ) → IsPosed g q o → IsCandidate g q.from q.to c → t ≡ trail_of g q.from c.arcs → place < length t.sums → get_or t.sums place 0 ≡ c.near → (h : IsVia g q.from q.to c.via c.arcs) → place ≡ length h.prefix
place_of_via g q o c t place posed own is lt here h =
    place_is g q o c t place posed own is lt here ∙ ap (λ (l : List ℕ). length l) (IsFirst-unique g q.from c.via own.through.prefix h.prefix own.through.first h.first)

pub is_via_walk : (g o : Graph) (q : Query) (best : Optimum) (c : Candidate) (t : Trail) (place : ℕ) → IsPosed g q best → HaveSameDist g o → IsCandidate g q.from q.to c → t ≡ trail_of g q.from c.arcs → place < length t.sums → get_or t.sums place 0 ≡ c.near → IsViaWalk o t place
is_via_walk g o q best c t place posed same h is lt here =
    let v = h.through in
    let whole : length c.arcs ≡ length (v.prefix ++ v.back) = ap (λ (l : List ℕ). length l) v.joined in
    let long : walk_length g c.arcs ≡ walk_length g (v.prefix ++ v.back) = ap (λ (l : List ℕ). walk_length g l) v.joined in
    record {
      graph = g;
      same = same;
      sound = posed.limits.is_graph;
      source = q.from;
      middle = c.via;
      target = q.to;
      inside = posed.source;
      prefix = v.prefix;
      back = v.back;
      prefix_shortest = v.first.shortest;
      back_shortest = v.last.shortest;
      is = is ∙ ap (λ (l : List ℕ). trail_of g q.from l) v.joined;
      place = place_is g q best c t place posed h is lt here;
      few = omega (arith, few_places g q best c posed h);
      short = omega (arith, h.short, h.is_length);
    }

local_to : (g o : Graph) (f : Fraction) (l : ℕ) (t : Trail) (i j d : ℕ) → HaveSameDist g o → FailsLocal g f l t i j d → FailsLocal o f l t i j d
local_to g o f l t i j d same h =
    record { rise = h.rise; inside = h.inside; tested = h.tested; dist = (same.dist (vertex_at t i) (vertex_at t j) (Some d)).0 h.dist; other = h.other }

local_back : (g o : Graph) (f : Fraction) (l : ℕ) (t : Trail) (i j d : ℕ) → HaveSameDist g o → FailsLocal o f l t i j d → FailsLocal g f l t i j d
local_back g o f l t i j d same h =
    record { rise = h.rise; inside = h.inside; tested = h.tested; dist = (same.dist (vertex_at t i) (vertex_at t j) (Some d)).1 h.dist; other = h.other }

stretch_to : (g o : Graph) (f : Fraction) (t : Trail) (i j d : ℕ) → HaveSameDist g o → FailsStretch g f t i j d → FailsStretch o f t i j d
stretch_to g o f t i j d same h =
    record { rise = h.rise; inside = h.inside; dist = (same.dist (vertex_at t i) (vertex_at t j) (Some d)).0 h.dist; above = h.above }

stretch_back : (g o : Graph) (f : Fraction) (t : Trail) (i j d : ℕ) → HaveSameDist g o → FailsStretch o f t i j d → FailsStretch g f t i j d
stretch_back g o f t i j d same h =
    record { rise = h.rise; inside = h.inside; dist = (same.dist (vertex_at t i) (vertex_at t j) (Some d)).1 h.dist; above = h.above }

-- what a test finds of one predicate is found of another that holds of the same pairs
finds_same : (F G : ℕ → ℕ → ℕ → Type 0) (o : Option Pair) → ((i j d : ℕ) → F i j d → G i j d) → ((i j d : ℕ) → G i j d → F i j d) → FindsLeast F o → FindsLeast G o
finds_same F G None to from h = (λ i j d g. h i j d (from i j d g))
finds_same F G (Some pair) to from h =
    record {
      fails = to pair.first pair.last pair.distance h.fails;
      first = (λ a b c g. h.first a b c (from a b c g));
      last = (λ b c g. h.last b c (from pair.first b c g));
    }

pub local_found : (g o : Graph) (f : Fraction) (l m : ℕ) (t u : Trail) (r : Option Pair) → HaveSameDist g o → l ≡ m → t ≡ u → FindsLeast (FailsLocal o f l t) r → FindsLeast (FailsLocal g f m u) r
local_found g o f l m t u r same long is h =
    subst (λ (n : ℕ). FindsLeast (FailsLocal g f n u) r) long
    (subst (λ (x : Trail). FindsLeast (FailsLocal g f l x) r) is
    (finds_same (FailsLocal o f l t) (FailsLocal g f l t) r (λ i j d x. local_back g o f l t i j d same x) (λ i j d x. local_to g o f l t i j d same x) h))

pub stretch_found : (g o now : Graph) (f : Fraction) (t u : Trail) (r : Option Pair) → HaveSameDist g o → now ≡ o → t ≡ u → FindsLeast (FailsStretch now f t) r → FindsLeast (FailsStretch g f u) r
stretch_found g o now f t u r same kept is h =
    let here : FindsLeast (FailsStretch o f t) r = subst (λ (x : Graph). FindsLeast (FailsStretch x f t) r) kept h in
    subst (λ (x : Trail). FindsLeast (FailsStretch g f x) r) is
    (finds_same (FailsStretch o f t) (FailsStretch g f t) r (λ i j d x. stretch_back g o f t i j d same x) (λ i j d x. stretch_to g o f t i j d same x) here)

pub at_some : (F : ℕ → ℕ → ℕ → Type 0) (r : Option Pair) (pair : Pair) → FindsLeast F r → r ≡ Some pair → IsLeastFailure F pair.first pair.last pair.distance
at_some F r pair h is = subst (λ (x : Option Pair). FindsLeast F x) is h

pub at_none : (F : ℕ → ℕ → ℕ → Type 0) (r : Option Pair) → FindsLeast F r → r ≡ None → NoneFails F
at_none F r h is = subst (λ (x : Option Pair). FindsLeast F x) is h

-- the same of a test that only tells whether a path passes
passes_same : (F G : ℕ → ℕ → ℕ → Type 0) (b : Bool) → ((i j d : ℕ) → F i j d → G i j d) → ((i j d : ℕ) → G i j d → F i j d) → TellsPassing F b → TellsPassing G b
passes_same F G true to from h = (λ i j d g. h i j d (from i j d g))
passes_same F G false to from h = record { first = h.first; last = h.last; distance = h.distance; fails = to h.first h.last h.distance h.fails }

pub local_passes : (g o : Graph) (f : Fraction) (l m : ℕ) (t u : Trail) (b : Bool) → HaveSameDist g o → l ≡ m → t ≡ u → TellsPassing (FailsLocal o f l t) b → TellsPassing (FailsLocal g f m u) b
local_passes g o f l m t u b same long is h =
    subst (λ (n : ℕ). TellsPassing (FailsLocal g f n u) b) long
    (subst (λ (x : Trail). TellsPassing (FailsLocal g f l x) b) is
    (passes_same (FailsLocal o f l t) (FailsLocal g f l t) b (λ i j d x. local_back g o f l t i j d same x) (λ i j d x. local_to g o f l t i j d same x) h))

pub stretch_passes : (g o now : Graph) (f : Fraction) (t u : Trail) (b : Bool) → HaveSameDist g o → now ≡ o → t ≡ u → TellsPassing (FailsStretch now f t) b → TellsPassing (FailsStretch g f u) b
stretch_passes g o now f t u b same kept is h =
    let here : TellsPassing (FailsStretch o f t) b = subst (λ (x : Graph). TellsPassing (FailsStretch x f t) b) kept h in
    subst (λ (x : Trail). TellsPassing (FailsStretch g f x) b) is
    (passes_same (FailsStretch o f t) (FailsStretch g f t) b (λ i j d x. stretch_back g o f t i j d same x) (λ i j d x. stretch_to g o f t i j d same x) here)

pub at_true : (F : ℕ → ℕ → ℕ → Type 0) (b : Bool) → TellsPassing F b → b ≡ true → NoneFails F
at_true F b h is = subst (λ (x : Bool). TellsPassing F x) is h

pub at_false : (F : ℕ → ℕ → ℕ → Type 0) (b : Bool) → TellsPassing F b → b ≡ false → HasFailure F
at_false F b h is = subst (λ (x : Bool). TellsPassing F x) is h

pub not_local : (g : Graph) (q : Query) (o p : List ℕ) → HasFailure (FailsLocalOf g q o p) → IsPassing g q o p false
not_local g q o p h local stretch = local h.first h.last h.distance h.fails

pub passing_of : (g : Graph) (q : Query) (o p : List ℕ) (b : Bool) → NoneFails (FailsLocalOf g q o p) → TellsPassing (FailsStretchOf g q p) b → IsPassing g q o p b
passing_of g q o p true local h = (local, h)
passing_of g q o p false local h = (λ a b. b h.first h.last h.distance h.fails)

pub still_counted : (a b n : ℕ) → AsksWithin a b n → StaysCounted a b
still_counted a b n h = h.counted

pub counted_same : (a b : ℕ) → b ≡ a → StaysCounted a b
counted_same a b is = (λ lt. (omega arith, omega arith))

pub counted_both : (a b c : ℕ) → StaysCounted a b → StaysCounted b c → StaysCounted a c
counted_both a b c h k = (λ lt.
    let one = h lt in
    let two = k one.1 in
    (omega arith, two.1))
