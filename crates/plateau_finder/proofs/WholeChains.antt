-- A chain of links, from a vertex into which none leads to one out of which none does, is a plateau.
use Rattle.std.proofs.Common.{◌≡◌, ℕ, ◌+◌, ◌<◌, ◌≤◌, ◌⊎◌, List, [], ◌∷◌, ◌++◌, length, Option, Some, None, refl, sym, subst, arith, ⊎_elim}
use Rattle.std.proofs.lemmas.Bool.{cases_lt}
use Rattle.road_model.specs.Graph.{IsGraph, IsVertex}
use Rattle.road_model.specs.Walk.{walk_length}
use Rattle.road_model.specs.Dist.{IsDist}
use Rattle.road_model.proofs.Walks.{walk_length-append, walk_length-positive}
use Rattle.road_model.proofs.Dists.{IsDist-same, dist_of_shortest}
use Rattle.tree_search.specs.Ball.{IsWithin}
use Rattle.canonical_trees.specs.Trees.{Trees, IsOutside}
use Rattle.canonical_trees.proofs.Balls.{apart, inside_vertex}
use Rattle.canonical_trees.proofs.CanonicalExists.{first_of_dist, last_of_dist}
use Rattle.canonical_trees.proofs.CanonicalParts.{within_less}
use Rattle.canonical_trees.proofs.ThroughVertex.{via_parts, via_length}
use Rattle.plateau_finder.specs.declared.plateau.Plateau.{Plateau}
use Rattle.plateau_finder.specs.Plateaus.{IsInBoth, IsThrough, IsPlateauOf, IsOwnPlateau}
use Rattle.plateau_finder.specs.Links.{IsLink, IsLinkInside, IsNext, IsPrevious, IsChainFrom, IsChainBack, HasLinkInto, IsStart, StartsAt}
use Rattle.plateau_finder.proofs.LinkedVias.{same_place, farther, later_links, earlier_links, link_walk, via_on, via_before}

-- along a link the source is farther, and the target nearer
pub link_farther : (ts : Trees) (u v a b : ℕ) → IsGraph ts.graph → IsLink ts u v → IsDist ts.graph ts.source u (Some a) → IsDist ts.graph ts.source v (Some b) → a < b
link_farther ts u v a b sound l da db =
    let g = ts.graph in
    let one : walk_length ts.graph l.prefix ≡ a = IsDist-same ts.graph ts.source u (walk_length ts.graph l.prefix) a (dist_of_shortest ts.graph ts.source u l.prefix l.first.shortest) da in
    let two : walk_length ts.graph (l.prefix ++ l.arc ∷ []) ≡ b = IsDist-same ts.graph ts.source v (walk_length ts.graph (l.prefix ++ l.arc ∷ [])) b (dist_of_shortest ts.graph ts.source v (l.prefix ++ l.arc ∷ []) l.first_on.shortest) db in
    let some : 1 ≤ walk_length ts.graph (l.arc ∷ []) = walk_length-positive ts.graph l.arc [] u v sound (link_walk ts u v l) in
    omega (arith, walk_length-append ts.graph l.prefix (l.arc ∷ []))

pub link_nearer : (ts : Trees) (u v a b : ℕ) → IsGraph ts.graph → IsLink ts u v → IsDist ts.graph u ts.target (Some a) → IsDist ts.graph v ts.target (Some b) → b < a
link_nearer ts u v a b sound l da db =
    let one : walk_length ts.graph (l.arc ∷ l.back) ≡ a = IsDist-same ts.graph u ts.target (walk_length ts.graph (l.arc ∷ l.back)) a (dist_of_shortest ts.graph u ts.target (l.arc ∷ l.back) l.last.shortest) da in
    let two : walk_length ts.graph l.back ≡ b = IsDist-same ts.graph v ts.target (walk_length ts.graph l.back) b (dist_of_shortest ts.graph v ts.target l.back l.last_on.shortest) db in
    let some : 1 ≤ walk_length ts.graph (l.arc ∷ []) = walk_length-positive ts.graph l.arc [] u v sound (link_walk ts u v l) in
    omega (arith, one, two, some)

-- a walk through `last`, whose vias up to there are no lower than `least`
pub record OnChain (ts : Trees) (p : List ℕ) (last least : ℕ) : Type 0 where
  pub here : IsThrough ts last p
  pub name : IsThrough ts least p
  pub lowest : (v : ℕ) (h : IsThrough ts v p) → IsInBoth ts v → length h.prefix ≤ length here.prefix → least ≤ v

pub record IsChainSoFar (ts : Trees) (first last least left : ℕ) : Type 0 where
  pub last_inside : IsInBoth ts last
  pub least_inside : IsInBoth ts least
  pub left_is : IsDist ts.graph last ts.target (Some left)
  pub rise : (a b : ℕ) → IsDist ts.graph ts.source first (Some a) → IsDist ts.graph ts.source last (Some b) → a ≤ b
  pub on : (p : List ℕ) → IsThrough ts first p → OnChain ts p last least

-- no via in both balls is before the first vertex of a chain, nor after its last
none_before : (ts : Trees) (first v : ℕ) (p : List ℕ) → IsGraph ts.graph → IsInBoth ts first → IsPrevious ts first None → (k : IsThrough ts first p) (h : IsThrough ts v p) → IsInBoth ts v → length k.prefix ≤ length h.prefix
none_before ts first v p sound in_first begins k h in_v =
    ⊎_elim
    (λ (lt : length h.prefix < length k.prefix).
    let into : HasLinkInto ts first = earlier_links ts v first p sound h k in_v in_first lt in
    absurd (begins into.tail into.link))
    (λ (le : length k.prefix ≤ length h.prefix). le)
    (cases_lt (length h.prefix) (length k.prefix))

none_beyond : (ts : Trees) (last v : ℕ) (p : List ℕ) → IsGraph ts.graph → IsInBoth ts last → IsNext ts last None → (k : IsThrough ts last p) (h : IsThrough ts v p) → IsInBoth ts v → length h.prefix ≤ length k.prefix
none_beyond ts last v p sound in_last ends k h in_v =
    ⊎_elim
    (λ (lt : length k.prefix < length h.prefix).
    let out = later_links ts last v p sound k h in_last in_v lt in
    absurd (ends out.head out.link))
    (λ (le : length h.prefix ≤ length k.prefix). le)
    (cases_lt (length k.prefix) (length h.prefix))

pub chain_start : (ts : Trees) (first left : ℕ) → IsGraph ts.graph → IsInBoth ts first → IsPrevious ts first None → IsDist ts.graph first ts.target (Some left) → IsChainSoFar ts first first first left
chain_start ts first left sound inside begins dist =
    record {
      last_inside = inside;
      least_inside = inside;
      left_is = dist;
      rise = (λ a b da db. omega (arith, IsDist-same ts.graph ts.source first a b da db));
      on = (λ p k. record {
        here = k;
        name = k;
        lowest = (λ v h in_v le.
            let ge : length k.prefix ≤ length h.prefix = none_before ts first v p sound inside begins k h in_v in
            let same : first ≡ v = same_place ts first v p k h (omega arith) in
            omega arith);
      });
    }

pub record IsLesser (a b least : ℕ) : Type 0 where
  pub first : least ≤ a
  pub second : least ≤ b
  pub one : (least ≡ a) ⊎ (least ≡ b)

on_more : (ts : Trees) (p : List ℕ) (last next least now : ℕ) → IsGraph ts.graph → IsLink ts last next → IsLesser least next now → OnChain ts p last least → OnChain ts p next now
on_more ts p last next least now sound l lesser h =
    let on = via_on ts last next p sound h.here l in
    let longer = on.one_more in
    let low = lesser.first in
    let lower = lesser.second in
    record {
      here = on.through;
      name = ⊎_elim
          (λ (same : now ≡ least). subst (λ (x : ℕ). IsThrough ts x p) (sym same) h.name)
          (λ (same : now ≡ next). subst (λ (x : ℕ). IsThrough ts x p) (sym same) on.through)
          lesser.one;
      lowest = (λ v k in_v le. ⊎_elim
          (λ (beyond : length h.here.prefix < length k.prefix).
          let same : next ≡ v = same_place ts next v p on.through k (omega arith) in
          omega arith)
          (λ (before : length k.prefix ≤ length h.here.prefix).
          let old : least ≤ v = h.lowest v k in_v before in
          omega arith)
          (cases_lt (length h.here.prefix) (length k.prefix)));
    }

pub chain_more : (ts : Trees) (first last next least now left rest : ℕ) → IsGraph ts.graph → IsLinkInside ts last next → IsLesser least next now → IsDist ts.graph next ts.target (Some rest) → IsChainSoFar ts first last least left → IsChainSoFar ts first next now rest
chain_more ts first last next least now left rest sound l lesser dist h =
    record {
      last_inside = l.head_inside;
      least_inside = ⊎_elim
          (λ (same : now ≡ least). subst (λ (x : ℕ). IsInBoth ts x) (sym same) h.least_inside)
          (λ (same : now ≡ next). subst (λ (x : ℕ). IsInBoth ts x) (sym same) l.head_inside)
          lesser.one;
      left_is = dist;
      rise = (λ a b da db.
          let middle = h.last_inside.from.distance in
          let old : a ≤ h.last_inside.from.distance = h.rise a h.last_inside.from.distance da h.last_inside.from.dist in
          let on : h.last_inside.from.distance < b = link_farther ts last next h.last_inside.from.distance b sound l.link h.last_inside.from.dist db in
          omega arith);
      on = (λ p k. on_more ts p last next least now sound l.link lesser (h.on p k));
    }

-- of a walk within the radius each via is in both balls
inside_of_within : (ts : Trees) (v : ℕ) (p : List ℕ) → IsThrough ts v p → IsWithin ts.radius (walk_length ts.graph p) → IsInBoth ts v
inside_of_within ts v p h within =
    let parts = via_parts ts.graph ts.source ts.target v p h in
    record {
      from = record {
        distance = walk_length ts.graph h.prefix;
        dist = dist_of_shortest ts.graph ts.source v h.prefix h.first.shortest;
        within = within_less ts.radius (walk_length ts.graph h.prefix) (walk_length ts.graph p) (omega (arith, parts)) within;
      };
      to = record {
        distance = walk_length ts.graph h.back;
        dist = dist_of_shortest ts.graph v ts.target h.back h.last.shortest;
        within = within_less ts.radius (walk_length ts.graph h.back) (walk_length ts.graph p) (omega (arith, parts)) within;
      };
    }

-- the facts that a plateau within the balls is made of
record Spans (ts : Trees) (p : List ℕ) (first last least : ℕ) : Type 0 where
  begins : IsThrough ts first p
  ends : IsThrough ts last p
  between : (v a b d : ℕ) → IsThrough ts v p → IsInBoth ts v → IsDist ts.graph ts.source first (Some a) → IsDist ts.graph ts.source v (Some b) → IsDist ts.graph ts.source last (Some d) → (a ≤ b) × (b ≤ d)
  lowest : (v : ℕ) → IsThrough ts v p → IsInBoth ts v → least ≤ v

spans : (ts : Trees) (p : List ℕ) (first last least : ℕ) → IsGraph ts.graph → IsInBoth ts first → IsInBoth ts last → IsPrevious ts first None → IsNext ts last None → IsThrough ts first p → OnChain ts p last least → Spans ts p first last least
spans ts p first last least sound in_first in_last begins ends k h =
    record {
      begins = k;
      ends = h.here;
      between = (λ v a b d through in_v da db dd. (
        farther ts first v a b p k through (none_before ts first v p sound in_first begins k through in_v) da db,
        farther ts v last b d p through h.here (none_beyond ts last v p sound in_last ends h.here through in_v) db dd,
      ));
      lowest = (λ v through in_v. h.lowest v through in_v (none_beyond ts last v p sound in_last ends h.here through in_v));
    }

plateau_is : (ts : Trees) (p : List ℕ) (c : Plateau) (near far : ℕ) → IsInBoth ts c.first → IsInBoth ts c.last → IsInBoth ts c.least → IsThrough ts c.least p → Spans ts p c.first c.last c.least → IsDist ts.graph ts.source c.first (Some near) → IsDist ts.graph ts.source c.last (Some far) → far ≡ near + c.length → IsPlateauOf ts p c
plateau_is ts p c near far in_first in_last in_least least h d_first d_last is =
    record {
      first = h.begins;
      last = h.ends;
      least = least;
      first_inside = in_first;
      last_inside = in_last;
      least_inside = in_least;
      between = h.between;
      lowest = h.lowest;
      long = (λ a d da dd. omega (arith, IsDist-same ts.graph ts.source c.first a near da d_first, IsDist-same ts.graph ts.source c.last d far dd d_last));
      is_name = (λ within. record {
        through = least;
        least = (λ w via. h.lowest w via (inside_of_within ts w p via within));
      });
      is_plateau = (λ within. record {
        start = c.first;
        end = c.last;
        near = near;
        through_start = h.begins;
        through_end = h.ends;
        dist_start = d_first;
        dist_end = subst (λ (n : ℕ). IsDist ts.graph ts.source c.last (Some n)) is d_last;
        greatest = (λ v w a b via_v via_w da db.
            let low : near ≤ a = (h.between v near a far via_v (inside_of_within ts v p via_v within) d_first da d_last).0 in
            let high : b ≤ far = (h.between w near b far via_w (inside_of_within ts w p via_w within) d_first db d_last).1 in
            omega arith);
      });
    }

pub chain_whole : (ts : Trees) (c : Plateau) (left near far : ℕ) → IsGraph ts.graph → IsInBoth ts c.first → IsPrevious ts c.first None → IsNext ts c.last None → IsChainSoFar ts c.first c.last c.least left → IsDist ts.graph ts.source c.first (Some near) → IsDist ts.graph ts.source c.last (Some far) → far ≡ near + c.length → IsChainFrom ts c
chain_whole ts c left near far sound in_first begins ends h d_first d_last is =
    record {
      begins = begins;
      is = (λ p k.
          let on = h.on p k in
          plateau_is ts p c near far in_first h.last_inside h.least_inside on.name
          (spans ts p c.first c.last c.least sound in_first h.last_inside begins ends k on) d_first d_last is);
    }

-- a walk through v goes through the vertices that links lead to v from
pub record IsBackSoFar (ts : Trees) (v first near : ℕ) : Type 0 where
  pub inside : IsInBoth ts first
  pub near_is : IsDist ts.graph ts.source first (Some near)
  pub through : (p : List ℕ) → IsThrough ts v p → IsThrough ts first p

pub back_more : (ts : Trees) (v first previous near now : ℕ) → IsGraph ts.graph → IsLinkInside ts previous first → IsDist ts.graph ts.source previous (Some now) → IsBackSoFar ts v first near → IsBackSoFar ts v previous now
back_more ts v first previous near now sound l dist h =
    record {
      inside = l.tail_inside;
      near_is = dist;
      through = (λ p via. (via_before ts previous first p sound (h.through p via) l.link).through);
    }

-- each vertex in both balls has its walk
pub record HasWalkThrough (ts : Trees) (v : ℕ) : Type 0 where
  pub path : List ℕ
  pub through : IsThrough ts v path

pub walk_through : (ts : Trees) (v : ℕ) → IsGraph ts.graph → IsVertex ts.graph.vertices ts.source → IsInBoth ts v → HasWalkThrough ts v
walk_through ts v sound source inside =
    let first = first_of_dist ts.graph ts.source v inside.from.distance sound inside.from.dist in
    let last = last_of_dist ts.graph v ts.target inside.to.distance sound inside.to.dist in
    record {
      path = first.path ++ last.path;
      through = record {
        vertex = inside_vertex ts.graph ts.radius ts.source v sound source inside.from;
        prefix = first.path;
        back = last.path;
        first = first.first;
        last = last.last;
        joined = refl;
      };
    }

-- what is found at a vertex
pub not_from : (ts : Trees) (bound : Option ℕ) (v : ℕ) → IsOutside ts.graph ts.radius ts.source v → StartsAt ts bound v None
not_from ts bound v out p via inside within = absurd (apart ts.graph ts.radius ts.source v inside.from out)

pub not_to : (ts : Trees) (bound : Option ℕ) (v : ℕ) → IsOutside ts.graph ts.radius v ts.target → StartsAt ts bound v None
not_to ts bound v out p via inside within = absurd (apart ts.graph ts.radius v ts.target inside.to out)

pub not_within : (ts : Trees) (bound : Option ℕ) (v near left : ℕ) → IsDist ts.graph ts.source v (Some near) → IsDist ts.graph v ts.target (Some left) → (IsWithin bound (near + left) → ⊥) → StartsAt ts bound v None
not_within ts bound v near left d_near d_left far p via inside within =
    absurd (far (subst (λ (n : ℕ). IsWithin bound n) (via_length ts.graph ts.source ts.target v near left p via d_near d_left) within))

pub not_first : (ts : Trees) (bound : Option ℕ) (v previous : ℕ) → IsLinkInside ts previous v → StartsAt ts bound v None
not_first ts bound v previous l p via inside within = record { tail = previous; link = l }

pub starts : (ts : Trees) (bound : Option ℕ) (v near left : ℕ) (c : Plateau) → IsGraph ts.graph → IsVertex ts.graph.vertices ts.source → IsInBoth ts v → IsDist ts.graph ts.source v (Some near) → IsDist ts.graph v ts.target (Some left) → IsWithin bound (near + left) → c.first ≡ v → IsChainFrom ts c → IsStart ts bound v c
starts ts bound v near left c sound source inside d_near d_left within first chain =
    let walk = walk_through ts v sound source inside in
    record {
      is_first = first;
      begins = chain.begins;
      listed = record {
        walk = walk.path;
        within = subst (λ (n : ℕ). IsWithin bound n) (sym (via_length ts.graph ts.source ts.target v near left walk.path walk.through d_near d_left)) within;
        is = chain.is walk.path (subst (λ (x : ℕ). IsThrough ts x walk.path) (sym first) walk.through);
      };
    }

-- two chains of one walk begin at one vertex
pub same_first : (ts : Trees) (p : List ℕ) (a b : Plateau) → IsGraph ts.graph → IsPrevious ts a.first None → IsPrevious ts b.first None → IsPlateauOf ts p a → IsPlateauOf ts p b → a.first ≡ b.first
same_first ts p a b sound begins_a begins_b h k =
    let one : length h.first.prefix ≤ length k.first.prefix = none_before ts a.first b.first p sound h.first_inside begins_a h.first k.first k.first_inside in
    let two : length k.first.prefix ≤ length h.first.prefix = none_before ts b.first a.first p sound k.first_inside begins_b k.first h.first h.first_inside in
    same_place ts a.first b.first p h.first k.first (omega arith)

pub inside_both : (ts : Trees) (v near left : ℕ) → IsDist ts.graph ts.source v (Some near) × IsWithin ts.radius near → IsDist ts.graph v ts.target (Some left) × IsWithin ts.radius left → IsInBoth ts v
inside_both ts v near left h k =
    record { from = record { distance = near; dist = h.0; within = h.1 }; to = record { distance = left; dist = k.0; within = k.1 } }

pub own_plateau : (ts : Trees) (v : ℕ) (c : Plateau) → IsInBoth ts v → IsChainBack ts v c.first → IsChainFrom ts c → IsOwnPlateau ts v c
own_plateau ts v c inside back chain = record { inside = inside; is = (λ p via. chain.is p (back.through p via)) }
