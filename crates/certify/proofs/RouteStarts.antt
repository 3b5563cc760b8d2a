-- The places before a via, and the starts of routes.
use Rattle.std.proofs.Common.{◌≡◌, ◌≢◌, ℕ, ◌<◌, ◌≤◌, ◌⊎◌, ◌+◌, ◌-◌, ◌^◌, zero, suc, List, [], ◌∷◌, ◌++◌, length, get_or, take, drop, Contains, sym, ap, ◌∙◌, subst, arith, inl, inr, ⊎_elim, append_assoc, length-append}
use Rattle.std.proofs.lemmas.Bool.{cases_lt}
use Rattle.std.proofs.lemmas.List.{get_or_default, length-drop, length-take-le, take-append-drop, take_more}
use Rattle.std.proofs.lemmas.List.Elements.{Contains-push, Contains-push_cases, Contains-append_left}
use Rattle.road_model.specs.declared.answer.Route.{Route}
use Rattle.road_model.specs.declared.trail.Trail.{Trail}
use Rattle.road_model.specs.Graph.{Graph, IsGraph, IsVertex, length_at}
use Rattle.road_model.specs.File.{IsWithinLimits}
use Rattle.road_model.specs.Walk.{IsWalk, IsWalkFrom, walk_length}
use Rattle.road_model.specs.Dist.{IsShortest}
use Rattle.road_model.specs.Places.{places, sums, trail_of, vertex_at, between}
use Rattle.road_model.specs.Alternatives.{IsVia}
use Rattle.road_model.proofs.Walks.{Cut, cut, walk_length-append, walk_length-positive, IsWalk-inside}
use Rattle.road_model.proofs.Dists.{dist_of_shortest}
use Rattle.road_model.proofs.CanonicalWalks.{IsFirst-unique}
use Rattle.road_model.proofs.Parts.{length-places, length-sums, place_after, sums_low}
use Rattle.forward_star.proofs.Bound.{dists_below}
use Rattle.canonical_trees.proofs.Balls.{dist_below}
use Rattle.canonical_trees.proofs.ThroughVertex.{via_walk, via_parts}
use Rattle.certify.specs.declared.starts.Start.{Start}
use Rattle.certify.specs.Starts.{IsViaRoute, IsRouteStart, HasStartAt, AddsStarts, AreStartsOf}

-- the lengths so far never fall
pub sums_rise : (g : Graph) (k : ℕ) (p : List ℕ) (i j : ℕ) → i ≤ j → j ≤ length p → get_or (sums g k p) i 0 ≤ get_or (sums g k p) j 0
sums_rise g k [] zero zero le inside = omega arith
sums_rise g k [] (suc i) zero le inside = absurd (omega arith)
sums_rise g k [] i (suc j) le inside = absurd (omega arith)
sums_rise g k (a ∷ p) zero j le inside = sums_low g k (a ∷ p) j inside
sums_rise g k (a ∷ p) (suc i) zero le inside = absurd (omega arith)
sums_rise g k (a ∷ p) (suc i) (suc j) le inside = sums_rise g (k + length_at g a) p i j (omega arith) (omega arith)

positive_of : (g : Graph) (p : List ℕ) (u v : ℕ) → IsGraph g → IsWalk g u p v → 0 < length p → 1 ≤ walk_length g p
positive_of g [] u v sound walk some = absurd (omega arith)
positive_of g (a ∷ p) u v sound walk some = walk_length-positive g a p u v sound walk

-- a shortest walk comes to its end at its last place alone
not_before_pieces : (g : Graph) (s v : ℕ) (a b back : List ℕ) → IsGraph g → 0 < length b → IsShortest g s (a ++ b) v → vertex_at (trail_of g s ((a ++ b) ++ back)) (length a) ≡ v → ⊥
not_before_pieces g s v a b back sound some h here =
    let parts : Cut g s a b v = cut g a b s v h.walk in
    let there : get_or (places g s (a ++ (b ++ back))) (length a) 0 ≡ parts.middle = place_after g a (b ++ back) s parts.middle parts.prefix in
    let same : parts.middle ≡ v = sym there ∙ (ap (λ (l : List ℕ). get_or (places g s l) (length a) 0) (sym (append_assoc a b back)) ∙ here) in
    let short : walk_length g (a ++ b) ≤ walk_length g a = h.least a (subst (λ (x : ℕ). IsWalk g s a x) same parts.prefix) in
    omega (arith, walk_length-append g a b, positive_of g b parts.middle v sound parts.back some)

pub not_before : (g : Graph) (s v : ℕ) (p back : List ℕ) (i : ℕ) → IsGraph g → IsShortest g s p v → i < length p → vertex_at (trail_of g s (p ++ back)) i ≡ v → ⊥
not_before g s v p back i sound h lt here =
    let whole : take i p ++ drop i p ≡ p = take-append-drop i p in
    let near : length (take i p) ≡ i = length-take-le i p (omega arith) in
    let rest : length (drop i p) ≡ length p - i = length-drop i p in
    not_before_pieces g s v (take i p) (drop i p) back sound (omega arith)
    (subst (λ (l : List ℕ). IsShortest g s l v) (sym whole) h)
    (ap (λ (l : List ℕ). vertex_at (trail_of g s (l ++ back)) (length (take i p))) whole ∙ ap (λ (n : ℕ). vertex_at (trail_of g s (p ++ back)) n) near ∙ here)

-- a path through a via

pub at_via : (g : Graph) (s t v : ℕ) (p : List ℕ) (h : IsVia g s t v p) → vertex_at (trail_of g s p) (length h.prefix) ≡ v
at_via g s t v p h =
    ap (λ (l : List ℕ). vertex_at (trail_of g s l) (length h.prefix)) h.joined ∙ place_after g h.prefix h.back s v h.first.shortest.walk

pub prefix_inside : (g : Graph) (s t v : ℕ) (p : List ℕ) (h : IsVia g s t v p) → length h.prefix ≤ length p
prefix_inside g s t v p h =
    let whole : length p ≡ length (h.prefix ++ h.back) = ap (λ (l : List ℕ). length l) h.joined in
    omega (arith, length-append h.prefix h.back)

pub via_stands : (g : Graph) (s t v : ℕ) (p : List ℕ) (trail : Trail) → IsVia g s t v p → trail ≡ trail_of g s p → Contains trail.vertices v
via_stands g s t v p trail h is =
    let inside : length h.prefix < length (places g s p) = omega (arith, prefix_inside g s t v p h, length-places g s p) in
    subst (λ (l : List ℕ). Contains l v) (sym (ap (λ (x : Trail). x.vertices) is))
    (length h.prefix, inside, get_or_default (places g s p) (length h.prefix) v 0 inside ∙ at_via g s t v p h)

pub via_place : (g : Graph) (s t v : ℕ) (p : List ℕ) (trail : Trail) (i : ℕ) → IsGraph g → (h : IsVia g s t v p) → trail ≡ trail_of g s p → vertex_at trail i ≡ v → ((j : ℕ) → j < i → vertex_at trail j ≢ v) → i ≡ length h.prefix
via_place g s t v p trail i sound h is here none =
    let told : vertex_at (trail_of g s (h.prefix ++ h.back)) i ≡ v = ap (λ (l : List ℕ). vertex_at (trail_of g s l) i) (sym h.joined) ∙ ap (λ (x : Trail). vertex_at x i) (sym is) ∙ here in
    ⊎_elim
    (λ (lt : i < length h.prefix). absurd (not_before g s v h.prefix h.back i sound h.first.shortest lt told))
    (λ (ge : length h.prefix ≤ i).
    ⊎_elim
    (λ (gt : length h.prefix < i). absurd (none (length h.prefix) gt (ap (λ (x : Trail). vertex_at x (length h.prefix)) is ∙ at_via g s t v p h)))
    (λ (le : i ≤ length h.prefix). omega arith)
    (cases_lt (length h.prefix) i))
    (cases_lt i (length h.prefix))

pub via_from : (g : Graph) (s t v : ℕ) (p : List ℕ) → IsVia g s t v p → IsWalkFrom g s p
via_from g s t v p h = record { end = t; walk = via_walk g s t v p h }

pub via_short : (g : Graph) (s t v : ℕ) (p : List ℕ) → IsWithinLimits g → IsVia g s t v p → walk_length g p < 2 ^ 58
via_short g s t v p limits h =
    let near : walk_length g h.prefix < 2 ^ 57 = dist_below g s v (walk_length g h.prefix) (2 ^ 57) (dists_below g limits) (dist_of_shortest g s v h.prefix h.first.shortest) in
    let far : walk_length g h.back < 2 ^ 57 = dist_below g v t (walk_length g h.back) (2 ^ 57) (dists_below g limits) (dist_of_shortest g v t h.back h.last.shortest) in
    omega (arith, via_parts g s t v p h)

-- the lists of a trail

pub trail_along : (g : Graph) (s : ℕ) (t : Trail) (p q : List ℕ) → t ≡ trail_of g s p → p ≡ q → t ≡ trail_of g s q
trail_along g s t p q is same = is ∙ ap (λ (l : List ℕ). trail_of g s l) same

pub record IsTrailOf (trail : Trail) (n : ℕ) : Type 0 where
  pub vertices : length trail.vertices ≡ n + 1
  pub sums : length trail.sums ≡ n + 1
  pub rising : (i j : ℕ) → i ≤ j → j ≤ n → get_or trail.sums i 0 ≤ get_or trail.sums j 0

pub trail_lists : (g : Graph) (s : ℕ) (p : List ℕ) (trail : Trail) → trail ≡ trail_of g s p → IsTrailOf trail (length p)
trail_lists g s p trail is =
    subst (λ (x : Trail). IsTrailOf x (length p)) (sym is)
    (record { vertices = length-places g s p; sums = length-sums g 0 p; rising = sums_rise g 0 p })

-- the starts before a place of one trail

pub record IsPlaced (t : Trail) (end : ℕ) (s : Start) : Type 0 where
  pub place : ℕ
  pub before : place < end
  pub at : s.vertex ≡ vertex_at t place
  pub long : s.rest ≡ between t place (length t.sums - 1)

pub record AddsBefore (t : Trail) (end : ℕ) (old new : List Start) : Type 0 where
  pub each : (s : Start) → Contains new s → Contains old s ⊎ IsPlaced t end s
  pub kept : (s : Start) → Contains old s → Contains new s
  pub every : (k : ℕ) → k < end → HasStartAt new (vertex_at t k) (between t k (length t.sums - 1))

pub adds_none : (t : Trail) (old : List Start) → AddsBefore t 0 old old
adds_none t old = record { each = (λ s h. inl h); kept = (λ s h. h); every = (λ k lt. absurd (omega arith)) }

has_later : (ss : List Start) (s : Start) (x k : ℕ) → HasStartAt ss x k → HasStartAt (ss ++ s ∷ []) x k
has_later ss s x k h = record { start = h.start; listed = Contains-append_left ss (s ∷ []) h.start h.listed; at = h.at; long = h.long }

has_last : (ss : List Start) (s : Start) (x k : ℕ) → s.vertex ≡ x → s.rest ≡ k → HasStartAt (ss ++ s ∷ []) x k
has_last ss s x k at long = record { start = s; listed = Contains-push ss s; at = at; long = long }

pub adds_more : (t : Trail) (end : ℕ) (old new now : List Start) (s : Start) → now ≡ new ++ s ∷ [] → s.vertex ≡ vertex_at t end → s.rest ≡ between t end (length t.sums - 1) → AddsBefore t end old new → AddsBefore t (end + 1) old now
adds_more t end old new now s more at long h =
    subst (λ (l : List Start). AddsBefore t (end + 1) old l) (sym more)
    (record {
      each = (λ x there.
          ⊎_elim
          (λ (before : Contains new x).
          ⊎_elim
          (λ (first : Contains old x). inl first)
          (λ (placed : IsPlaced t end x). inr (record { place = placed.place; before = omega (arith, placed.before); at = placed.at; long = placed.long }))
          (h.each x before))
          (λ (same : s ≡ x). inr (subst (λ (y : Start). IsPlaced t (end + 1) y) same (record { place = end; before = omega arith; at = at; long = long })))
          (Contains-push_cases new s x there));
      kept = (λ x first. Contains-append_left new (s ∷ []) x (h.kept x first));
      every = (λ k lt.
          ⊎_elim
          (λ (less : k < end). has_later new s (vertex_at t k) (between t k (length t.sums - 1)) (h.every k less))
          (λ (ge : end ≤ k).
          let same : end ≡ k = omega arith in
          has_last new s (vertex_at t k) (between t k (length t.sums - 1)) (at ∙ ap (λ (n : ℕ). vertex_at t n) same) (long ∙ ap (λ (n : ℕ). between t n (length t.sums - 1)) same))
          (cases_lt k end));
    })

pub adds_route : (g : Graph) (from : ℕ) (r : Route) (t : Trail) (end : ℕ) (old new : List Start) (h : IsViaRoute g from r) → t ≡ trail_of g from r.arcs → end ≡ length h.through.prefix → AddsBefore t end old new → AddsStarts g from r old new
adds_route g from r t end old new h is ends adds =
    let lists : IsTrailOf t (length r.arcs) = trail_lists g from r.arcs t is in
    let last : length t.sums - 1 ≡ length r.arcs = omega (arith, lists.sums) in
    record {
      each = (λ s there.
          ⊎_elim
          (λ (first : Contains old s). inl first)
          (λ (placed : IsPlaced t end s). inr (record {
            prefix = h.through.prefix;
            back = h.through.back;
            first = h.through.first;
            joined = h.through.joined;
            place = placed.place;
            before = omega (arith, placed.before);
            is = ap (λ (x : Trail). vertex_at x placed.place) (sym is) ∙ sym placed.at;
            far = ap (λ (x : Trail). between x placed.place (length r.arcs)) (sym is) ∙ ap (λ (n : ℕ). between t placed.place n) (sym last) ∙ sym placed.long;
          }))
          (adds.each s there));
      kept = adds.kept;
      every = (λ x k start.
          let same : start.prefix ≡ h.through.prefix = IsFirst-unique g from r.via start.prefix h.through.prefix start.first h.through.first in
          let long : length start.prefix ≡ length h.through.prefix = ap (λ (l : List ℕ). length l) same in
          let has = adds.every start.place (omega (arith, start.before)) in
          record {
            start = has.start;
            listed = has.listed;
            at = has.at ∙ (ap (λ (y : Trail). vertex_at y start.place) is ∙ start.is);
            long = has.long ∙ (ap (λ (n : ℕ). between t start.place n) last ∙ (ap (λ (y : Trail). between y start.place (length r.arcs)) is ∙ start.far));
          });
    }

-- the starts of routes

pub starts_none : (g : Graph) (from : ℕ) (rs : List Route) → AreStartsOf g from (take 0 rs) []
starts_none g from rs =
    record {
      each = (λ s there. absurd (let none : there.0 < 0 = there.1 in omega arith));
      every = (λ x k h. absurd (let none : h.listed.0 < 0 = h.listed.1 in omega arith));
    }

pub starts_more : (g : Graph) (from : ℕ) (rs : List Route) (i : ℕ) (r : Route) (old new : List Start) → i < length rs → r ≡ get_or rs i r → AreStartsOf g from (take i rs) old → AddsStarts g from r old new → AreStartsOf g from (take (i + 1) rs) new
starts_more g from rs i r old new lt is before adds =
    let more : take (i + 1) rs ≡ take i rs ++ r ∷ [] = take_more rs i r lt ∙ ap (λ (x : Route). take i rs ++ x ∷ []) (sym is) in
    subst (λ (l : List Route). AreStartsOf g from l new) (sym more)
    (record {
      each = (λ s there.
          ⊎_elim
          (λ (first : Contains old s).
          let h = before.each s first in
          record { route = h.route; listed = Contains-append_left (take i rs) (r ∷ []) h.route h.listed; start = h.start })
          (λ (own : IsRouteStart g from r s.vertex s.rest). record { route = r; listed = Contains-push (take i rs) r; start = own })
          (adds.each s there));
      every = (λ x k h.
          ⊎_elim
          (λ (first : Contains (take i rs) h.route).
          let has = before.every x k (record { route = h.route; listed = first; start = h.start }) in
          record { start = has.start; listed = adds.kept has.start has.listed; at = has.at; long = has.long })
          (λ (same : r ≡ h.route). adds.every x k (subst (λ (y : Route). IsRouteStart g from y x k) (sym same) h.start))
          (Contains-push_cases (take i rs) r h.route h.listed));
    })

-- a start is a vertex
pub start_vertex : (g : Graph) (from : ℕ) (r : Route) (x k : ℕ) → IsGraph g → IsVertex g.vertices from → IsRouteStart g from r x k → IsVertex g.vertices x
start_vertex g from r x k sound inside h =
    let whole : take h.place h.prefix ++ drop h.place h.prefix ≡ h.prefix = take-append-drop h.place h.prefix in
    let near : length (take h.place h.prefix) ≡ h.place = length-take-le h.place h.prefix (omega (arith, h.before)) in
    let parts : Cut g from (take h.place h.prefix) (drop h.place h.prefix) r.via = cut g (take h.place h.prefix) (drop h.place h.prefix) from r.via (subst (λ (l : List ℕ). IsWalk g from l r.via) (sym whole) h.first.shortest.walk) in
    let there : get_or (places g from (take h.place h.prefix ++ (drop h.place h.prefix ++ h.back))) (length (take h.place h.prefix)) 0 ≡ parts.middle = place_after g (take h.place h.prefix) (drop h.place h.prefix ++ h.back) from parts.middle parts.prefix in
    let same : parts.middle ≡ x =
    sym there ∙ (ap (λ (l : List ℕ). get_or (places g from l) (length (take h.place h.prefix)) 0) (sym (append_assoc (take h.place h.prefix) (drop h.place h.prefix) h.back) ∙ (ap (λ (l : List ℕ). l ++ h.back) whole ∙ sym h.joined))
    ∙ (ap (λ (n : ℕ). vertex_at (trail_of g from r.arcs) n) near ∙ h.is)) in
    subst (λ (y : ℕ). IsVertex g.vertices y) same (IsWalk-inside g (take h.place h.prefix) from parts.middle sound inside parts.prefix)
