-- The routes that are listed, and their order.
use Rattle.std.proofs.Common.{◌≡◌, ◌≢◌, ℕ, ◌<◌, ◌≤◌, ◌⊎◌, ◌==◌, zero, suc, Bool, false, List, [], ◌∷◌, get_or, Some, None, All, AllPairs, IsPermutation, sym, ap, subst, arith, inl, inr, ⊎_elim, Contains}
use Rattle.std.specs.List.{IsDistinct}
use Rattle.std.proofs.lemmas.Bool.{cases_order, ne_eqb, eqb-false}
use Rattle.std.proofs.lemmas.List.Elements.{All-from_recursion}
use Rattle.std.proofs.lemmas.List.Sorted.{All-permutation, Contains-permutation}
use Rattle.std.proofs.lemmas.Map.Keys.{IsDistinct-from_apart, IsDistinct-head, IsDistinct-tail, IsDistinct-IsPermutation}
use Rattle.road_model.specs.declared.answer.Route.{Route}
use Rattle.road_model.specs.Walk.{walk_length}
use Rattle.road_model.specs.Fraction.{Stretches}
use Rattle.road_model.specs.Alternatives.{IsAlternative}
use Rattle.road_model.specs.Answers.{IsRoute, IsBefore, IsAscending, HasRoute, IsListing}
use Rattle.road_model.proofs.Dists.{dist_of_shortest}
use Rattle.road_model.proofs.Basics.{eqb-flips}
use Rattle.road_model.proofs.CanonicalWalks.{IsVia-unique}
use Rattle.route_ranking.specs.Order.{IsInOrder}
use Rattle.canonical_trees.proofs.ThroughVertex.{via_walk, via_parts}
use Rattle.plateau_finder.specs.declared.plateau.Plateau.{Plateau}
use Rattle.plateau_finder.specs.Plateaus.{IsInBoth, IsPlateauOf, HasPlateau, ArePlateaus}
use Rattle.via_search.specs.Candidates.{IsPosed, IsBoundOf, pair_of}
use Rattle.via_search.specs.declared.sifting.Sifted.{Sifted}
use Rattle.via_search.specs.Settings.{Givens, trees_of}
use Rattle.via_search.specs.Asks.{AsksAtMost}
use Rattle.via_search.specs.Listing.{IsRouteOf}
use Rattle.via_search.specs.Sifting.{IsSifted, SiftsTo, AreSifted, IsPut, ArePut, AsksForAll}
use Rattle.via_search.proofs.ViaPaths.{near_of_admissible}
use Rattle.via_search.proofs.Gathering.{gathers_all, gathers_rising, gathers_every}
use Rattle.via_search.proofs.AskedSums.{asks_all}

kept_rising : (x : Givens) (cs : List Plateau) (ss : List Sifted) → AllPairs (λ (a b : Plateau). a.least < b.least) cs → AreSifted x cs ss → AllPairs (λ (a b : Sifted). a.plateau.least < b.plateau.least) ss
kept_rising x cs ss rising h =
    gathers_rising (SiftsTo x) (λ (c : Plateau). c.least) (λ (s : Sifted). s.plateau.least) (λ c s is. ap (λ (y : Plateau). y.least) is.0) cs ss rising h

pub all_sifted : (x : Givens) (cs : List Plateau) (ss : List Sifted) → AreSifted x cs ss → All (IsSifted x) ss
all_sifted x cs ss h =
    gathers_all (SiftsTo x) (λ (c : Plateau). Unit {0}) (IsSifted x) (λ c s own is. is.1) cs ss (λ k d lt. tt) h

-- the walk of a plateau that is an alternative has its route
has_route : (x : Givens) (cs : List Plateau) (ss : List Sifted) (rs : List Route) (c : Plateau) (p : List ℕ) → AreSifted x cs ss → ArePut x ss rs → Contains cs c → IsPlateauOf (trees_of x) p c → IsAlternative x.graph x.query x.optimum.arcs p → HasRoute rs p
has_route x cs ss rs c p sifted put listed is alternative =
    let kept = gathers_every (SiftsTo x) cs ss c sifted listed (λ (none : IsRouteOf x.graph x.query x.optimum.arcs (trees_of x) c None). none p is alternative) in
    let own : IsPlateauOf (trees_of x) p kept.0.plateau = subst (λ (y : Plateau). IsPlateauOf (trees_of x) p y) (sym kept.2.0) is in
    let route = gathers_every (IsPut x) ss rs kept.0 put kept.1 (λ (none : IsRouteOf x.graph x.query x.optimum.arcs (trees_of x) kept.0.plateau None). none p own alternative) in
    record {
      route = route.0;
      listed = route.1;
      path = IsVia-unique x.graph x.query.from x.query.to kept.0.plateau.least route.0.arcs p route.2.path.least own.least;
    }

abbrev same_name : Route → Route → Bool
same_name a b = a.via == b.via

before_of : (r x : Route) → (IsBefore x r → ⊥) → r.via ≢ x.via → IsBefore r x
before_of r x not other =
    ⊎_elim
    (λ (same : r.rank ≡ x.rank).
    ⊎_elim
    (λ (clash : r.via ≡ x.via). absurd (other clash))
    (λ (order : (r.via < x.via) ⊎ (x.via < r.via)).
    ⊎_elim
    (λ (lt : r.via < x.via). inr (same, lt))
    (λ (gt : x.via < r.via). absurd (not (inr (sym same, gt))))
    order)
    (cases_order r.via x.via))
    (λ (order : (r.rank < x.rank) ⊎ (x.rank < r.rank)).
    ⊎_elim
    (λ (lt : r.rank < x.rank). inl lt)
    (λ (gt : x.rank < r.rank). absurd (not (inl gt)))
    order)
    (cases_order r.rank x.rank)

ascending : (rs : List Route) → IsDistinct same_name rs → IsInOrder rs → IsAscending rs
ascending [] names order = tt
ascending (r ∷ rs) names order = (
  (λ i d lt.
      let head : All (λ (y : Route). same_name r y ≡ false) rs = All-from_recursion (λ (y : Route). same_name r y ≡ false) rs (IsDistinct-head same_name r rs names) in
      before_of r (get_or rs i d) (order zero (suc i) d (omega arith) (omega arith)) (eqb-false r.via (get_or rs i d).via (head i d lt))),
  ascending rs (IsDistinct-tail same_name r rs names) (λ i j d lt inside. order (suc i) (suc j) d (omega arith) (omega arith)),
)

distinct_names : (rs : List Route) → AllPairs (λ (a b : Route). a.via < b.via) rs → IsDistinct same_name rs
distinct_names rs rising =
    IsDistinct-from_apart same_name rs (λ i j d lt inside. ne_eqb (get_or rs i d).via (get_or rs j d).via (λ (same : (get_or rs i d).via ≡ (get_or rs j d).via).
    let low : (get_or rs i d).via < (get_or rs j d).via = rising i j d lt inside in
    omega arith))

HasRoute-permutation : (xs ys : List Route) (p : List ℕ) → IsPermutation xs ys → HasRoute xs p → HasRoute ys p
HasRoute-permutation xs ys p moved h =
    record { route = h.route; listed = Contains-permutation xs ys h.route moved h.listed; path = h.path }

-- an alternative is within the bound, so its vertices are in both balls
pub listing_of : (x : Givens) (cs : List Plateau) (ss : List Sifted) (rs ys : List Route) → IsPosed x.graph x.query x.optimum → IsBoundOf x.query x.optimum.length x.reach → ArePlateaus (trees_of x) (Some x.reach) cs → AreSifted x cs ss → ArePut x ss rs → IsPermutation rs ys → IsInOrder ys → IsListing x.graph x.query x.optimum.arcs ys
listing_of x cs ss rs ys posed bound all sifted put moved order =
    let g = x.graph in
    let q = x.query in
    let o = x.optimum in
    let n = x.reach in
    let rising : AllPairs (λ (a b : Route). a.via < b.via) rs = gathers_rising (IsPut x) (λ (s : Sifted). s.plateau.least) (λ (r : Route). r.via) (λ s r is. is.name) ss rs (kept_rising x cs ss all.rising sifted) put in
    record {
      each = All-permutation (IsRoute g q o.arcs) rs ys moved (gathers_all (IsPut x) (λ (s : Sifted). Unit {0}) (IsRoute g q o.arcs) (λ s r own is. is.is_route) ss rs (λ k d lt. tt) put);
      every = (λ p alternative.
          let via = alternative.through in
          let walk = via_walk g q.from q.to alternative.via p alternative.through in
          let near : Stretches q.epsilon (walk_length g p) (walk_length g o.arcs) = near_of_admissible g q o.arcs p posed.best.0 walk alternative.admissible in
          let short : walk_length g p ≤ n = bound.greatest (walk_length g p) (subst (λ (m : ℕ). Stretches q.epsilon (walk_length g p) m) (sym posed.best.1) near) in
          let parts = via_parts g q.from q.to alternative.via p alternative.through in
          let inside : IsInBoth (pair_of g q n) alternative.via = record {
            from = record { distance = walk_length g via.prefix; dist = dist_of_shortest g q.from alternative.via via.prefix via.first.shortest; within = omega arith };
            to = record { distance = walk_length g via.back; dist = dist_of_shortest g alternative.via q.to via.back via.last.shortest; within = omega arith };
          } in
          let plateau : HasPlateau (pair_of g q n) p cs = all.every alternative.via p alternative.through inside short in
          HasRoute-permutation rs ys p moved (has_route x cs ss rs plateau.plateau p sifted put plateau.listed plateau.is alternative));
      ascending = ascending ys (IsDistinct-IsPermutation same_name (λ a b. eqb-flips a.via b.via) rs ys moved (distinct_names rs rising)) order;
    }

-- what was asked of all that are left
pub asks_at_most : (x : Givens) (cs : List Plateau) (ss : List Sifted) (old new : ℕ) → ArePlateaus (trees_of x) (Some x.reach) cs → AreSifted x cs ss → AsksForAll x ss old new → AsksAtMost x.graph x.query.from x.query.to x.reach x.optimum.arcs old new
asks_at_most x cs ss old new all sifted asks =
    asks_all x ss old new (kept_rising x cs ss all.rising sifted) (all_sifted x cs ss sifted) asks
