-- The path of a plateau within the stretch bound of a query: whether it is the optimum, and its route.
use Rattle.std.proofs.Common.{◌≡◌, ◌≢◌, ℕ, ◌+◌, ◌*◌, ◌<◌, ◌≤◌, List, [], ◌∷◌, ◌++◌, Option, Some, None, Bool, true, false, refl, sym, ap, ◌∙◌, subst, arith, ⊎_elim}
use Rattle.std.proofs.lemmas.List.{append-nil}
use Rattle.std.proofs.lemmas.Bool.{cases_lt}
use Rattle.road_model.specs.declared.answer.Optimum.{Optimum}
use Rattle.road_model.specs.declared.answer.Query.{Query}
use Rattle.road_model.specs.declared.answer.Route.{Route}
use Rattle.road_model.specs.Graph.{Graph, IsGraph}
use Rattle.road_model.specs.Walk.{IsWalk, walk_length}
use Rattle.road_model.specs.Dist.{IsDist}
use Rattle.road_model.specs.Canonical.{IsFirst, IsLast}
use Rattle.road_model.specs.Fraction.{Allows, IsAbove}
use Rattle.road_model.specs.Tests.{shared}
use Rattle.road_model.specs.Alternatives.{IsVia, IsAdmissible, IsName, IsPlateau, rank_of}
use Rattle.road_model.specs.Answers.{IsRoute}
use Rattle.road_model.proofs.Walks.{IsWalk-inside, walk_length-positive}
use Rattle.road_model.proofs.Dists.{IsDist-itself, dist_of_shortest}
use Rattle.road_model.proofs.CanonicalWalks.{IsFirst-unique, IsLast-unique, IsVia-unique}
use Rattle.canonical_trees.specs.Trees.{Trees}
use Rattle.canonical_trees.proofs.Canonical.{IsLast-nil}
use Rattle.canonical_trees.proofs.ThroughVertex.{via_walk, via_parts}
use Rattle.plateau_finder.specs.declared.plateau.Plateau.{Plateau}
use Rattle.plateau_finder.specs.Plateaus.{IsInBoth, IsPlateauOf, IsListedPlateau}
use Rattle.tree_tests.specs.Sums.{Shares, carried}
use Rattle.tree_tests.specs.Never.{IsNever}
use Rattle.tree_tests.proofs.UpSteps.{carried-le}
use Rattle.tree_tests.proofs.Repeats.{carries_too_much, bounded_is_distinct, shortest_is_distinct, shared_is_carried}
use Rattle.via_search.specs.declared.candidates.Candidate.{Candidate}
use Rattle.via_search.specs.Candidates.{IsPosed, IsCandidate, FindsCandidate, IsBoundOf, pair_of}
use Rattle.via_search.specs.Judging.{IsPassing}
use Rattle.via_search.specs.Listing.{IsNamedRoute, IsRouteOf}

-- a ratio that some length is beyond has a denominator above 0
pub has_denominator : (q : Query) (l n : ℕ) → IsBoundOf q l n → 1 ≤ q.epsilon.den
has_denominator q l n h =
    ⊎_elim
    (λ (none : q.epsilon.den < 1).
    let zero_den : q.epsilon.den ≡ 0 = omega arith in
    let part : (n + 1) * q.epsilon.den ≡ (n + 1) * 0 = ap (λ (k : ℕ). (n + 1) * k) zero_den in
    let product : (n + 1) * q.epsilon.den ≡ 0 = omega (arith, part) in
    let beyond : n + 1 ≤ n = h.greatest (n + 1) (subst (λ (k : ℕ). k ≤ (q.epsilon.den + q.epsilon.num) * l) (sym product) (omega arith)) in
    absurd (omega arith))
    (λ (some : 1 ≤ q.epsilon.den). some)
    (cases_lt q.epsilon.den 1)

-- only the optimum is the path through the target
pub target_is_optimum : (g : Graph) (q : Query) (o : Optimum) (v : ℕ) (p : List ℕ) → IsPosed g q o → v ≡ q.to → IsVia g q.from q.to v p → p ≡ o.arcs
target_is_optimum g q o v p posed same via =
    let prefix : via.prefix ≡ o.arcs = IsFirst-unique g q.from q.to via.prefix o.arcs (subst (λ (x : ℕ). IsFirst g q.from via.prefix x) same via.first) posed.best.0 in
    let back : via.back ≡ [] = IsLast-unique g q.to q.to via.back [] (subst (λ (x : ℕ). IsLast g x via.back q.to) same via.last) (IsLast-nil g q.to) in
    via.joined ∙ (ap (λ (l : List ℕ). l ++ via.back) prefix ∙ (ap (λ (l : List ℕ). o.arcs ++ l) back ∙ append-nil o.arcs))

pub not_optimum_route : (g : Graph) (q : Query) (o : Optimum) (n : ℕ) (c : Plateau) → IsPosed g q o → c.last ≡ q.to → IsRouteOf g q o.arcs (pair_of g q n) c None
not_optimum_route g q o n c posed same p is alternative =
    alternative.other (target_is_optimum g q o c.last p posed same is.last)

no_length : (g : Graph) (u v : ℕ) (p : List ℕ) → IsGraph g → IsWalk g u p v → walk_length g p ≡ 0 → u ≡ v
no_length g u v [] sound walk none = walk
no_length g u v (a ∷ p) sound walk none = absurd (let some : 1 ≤ walk_length g (a ∷ p) = walk_length-positive g a p u v sound walk in omega arith)

-- the plateau of the optimum ends at the target
pub ends_at_target : (g : Graph) (q : Query) (o : Optimum) (n : ℕ) (c : Plateau) (p : List ℕ) → IsPosed g q o → walk_length g p ≤ n → IsPlateauOf (pair_of g q n) p c → (c.last ≡ q.to → ⊥) → p ≢ o.arcs
ends_at_target g q o n c p posed within is other same =
    let first = posed.best.0 in
    let long : walk_length g p ≡ walk_length g o.arcs = ap (λ (l : List ℕ). walk_length g l) same in
    let dist : IsDist g q.from q.to (Some (walk_length g o.arcs)) = dist_of_shortest g q.from q.to o.arcs posed.best.0.shortest in
    let at_target : IsVia g q.from q.to q.to p = record {
      vertex = IsWalk-inside g o.arcs q.from q.to posed.limits.is_graph posed.source posed.best.0.shortest.walk;
      prefix = o.arcs;
      back = [];
      first = posed.best.0;
      last = IsLast-nil g q.to;
      joined = same ∙ sym (append-nil o.arcs);
    } in
    let inside : IsInBoth (pair_of g q n) q.to = record {
      from = record { distance = walk_length g o.arcs; dist = dist; within = omega arith };
      to = record { distance = 0; dist = IsDist-itself g q.to; within = omega arith };
    } in
    let d_first = dist_of_shortest g q.from c.first is.first.prefix is.first.first.shortest in
    let d_last = dist_of_shortest g q.from c.last is.last.prefix is.last.first.shortest in
    let low : walk_length g o.arcs ≤ walk_length g is.last.prefix = (is.between q.to (walk_length g is.first.prefix) (walk_length g o.arcs) (walk_length g is.last.prefix) at_target inside d_first dist d_last).1 in
    let none : walk_length g is.last.back ≡ 0 = omega (arith, via_parts g q.from q.to c.last p is.last) in
    other (no_length g c.last q.to is.last.back posed.limits.is_graph is.last.last.shortest.walk none)

-- the facts of the path that the plateau's least vertex gives
pub path_of : (g : Graph) (q : Query) (n : ℕ) (c : Plateau) (p : List ℕ) → (h : IsListedPlateau (pair_of g q n) (Some n) c) → IsVia g q.from q.to c.least p → p ≡ h.walk
path_of g q n c p h via = IsVia-unique g q.from q.to c.least p h.walk via h.is.least

not_allowed : (num den part whole : ℕ) → (part * den ≤ num * whole → ⊥) → num * whole < part * den
not_allowed num den part whole above =
    ⊎_elim
    (λ (lt : num * whole < part * den). lt)
    (λ (ge : part * den ≤ num * whole). absurd (above ge))
    (cases_lt (num * whole) (part * den))

-- it shares too much
pub shares_too_much : (g : Graph) (q : Query) (o : Optimum) (n sum : ℕ) (c : Plateau) (sh : Shares) → IsPosed g q o → IsBoundOf q o.length n → sh ≡ record { trees = pair_of g q n; optimum = o.arcs }
    → ((p : List ℕ) → IsVia sh.trees.graph sh.trees.source sh.trees.target c.least p → sum ≡ carried sh.trees.graph sh.optimum p) → (Allows q.gamma sum o.length → ⊥) → IsRouteOf g q o.arcs (pair_of g q n) c None
shares_too_much g q o n sum c sh posed bound same sums above p is alternative =
    let here : (p : List ℕ) → IsVia g q.from q.to c.least p → sum ≡ carried g o.arcs p = subst (λ (s : Shares). (p : List ℕ) → IsVia s.trees.graph s.trees.source s.trees.target c.least p → sum ≡ carried s.trees.graph s.optimum p) same sums in
    let over : IsAbove q.gamma sum (walk_length g o.arcs) = subst (λ (k : ℕ). IsAbove q.gamma sum k) posed.best.1 (not_allowed q.gamma.num q.gamma.den sum o.length above) in
    carries_too_much g q o.arcs p sum posed.limits.is_graph (has_denominator q o.length n bound) posed.best.0 (via_walk g q.from q.to c.least p is.least) (here p is.least) over alternative.admissible

-- a test refuses it
not_passing : (g : Graph) (q : Query) (o p : List ℕ) (b : Bool) → b ≡ false → IsPassing g q o p b → IsAdmissible g q o p → ⊥
not_passing g q o p b is h a = subst (λ (x : Bool). IsPassing g q o p x) is h a.optimal a.bounded

pub fails_a_test : (g : Graph) (q : Query) (o : Optimum) (n : ℕ) (c : Plateau) (x : Candidate) (b : Bool) → x.via ≡ c.least → IsCandidate g q.from q.to x → b ≡ false → IsPassing g q o.arcs x.arcs b → IsRouteOf g q o.arcs (pair_of g q n) c None
fails_a_test g q o n c x b same own failed h p is alternative =
    let path : p ≡ x.arcs = IsVia-unique g q.from q.to c.least p x.arcs is.least (subst (λ (v : ℕ). IsVia g q.from q.to v x.arcs) same own.through) in
    not_passing g q o.arcs x.arcs b failed h (subst (λ (l : List ℕ). IsAdmissible g q o.arcs l) path alternative.admissible)

pub has_candidate : (g : Graph) (q : Query) (n : ℕ) (c : Plateau) (found : Option Candidate) → IsListedPlateau (pair_of g q n) (Some n) c → FindsCandidate g q.from q.to n c.least found → found ≡ None → ⊥
has_candidate g q n c found h finds none =
    let far : (p : List ℕ) → IsVia g q.from q.to c.least p → n < walk_length g p = subst (λ (o : Option Candidate). FindsCandidate g q.from q.to n c.least o) none finds in
    let long : n < walk_length g h.walk = far h.walk h.is.least in
    let within : walk_length g h.walk ≤ n = h.within in
    absurd (omega arith)

-- it passes
pub record Passes (g : Graph) (q : Query) (o : Optimum) (n : ℕ) (c : Plateau) (x : Candidate) : Type 0 where
  pub walk : List ℕ
  pub is : IsPlateauOf (pair_of g q n) walk c
  pub path : x.arcs ≡ walk
  pub within : walk_length g walk ≤ n
  pub own : IsCandidate g q.from q.to x
  pub via : x.via ≡ c.least
  pub other : walk ≢ o.arcs

pub passes : (g : Graph) (q : Query) (o : Optimum) (n : ℕ) (c : Plateau) (x : Candidate) → IsPosed g q o → IsListedPlateau (pair_of g q n) (Some n) c → x.via ≡ c.least → IsCandidate g q.from q.to x → (c.last ≡ q.to → ⊥) → Passes g q o n c x
passes g q o n c x posed h same own other =
    record {
      walk = h.walk;
      is = h.is;
      path = path_of g q n c x.arcs h (subst (λ (v : ℕ). IsVia g q.from q.to v x.arcs) same own.through);
      within = h.within;
      own = own;
      via = same;
      other = ends_at_target g q o n c h.walk posed h.within h.is other;
    }

pub named_of : (g : Graph) (q : Query) (o : Optimum) (n : ℕ) (c : Plateau) (x : Candidate) → (h : Passes g q o n c x) → IsName g q.from q.to x.arcs c.least
named_of g q o n c x h = subst (λ (l : List ℕ). IsName g q.from q.to l c.least) (sym h.path) (h.is.is_name h.within)

pub short_of : (g : Graph) (q : Query) (o : Optimum) (n : ℕ) (c : Plateau) (x : Candidate) → (h : Passes g q o n c x) → walk_length g x.arcs ≤ n
short_of g q o n c x h = subst (λ (l : List ℕ). walk_length g l ≤ n) (sym h.path) h.within

pub other_of : (g : Graph) (q : Query) (o : Optimum) (n : ℕ) (c : Plateau) (x : Candidate) → (h : Passes g q o n c x) → x.arcs ≢ o.arcs
other_of g q o n c x h same = h.other (sym h.path ∙ same)

pub plateau_fits : (g : Graph) (q : Query) (o : Optimum) (n : ℕ) (c : Plateau) (x : Candidate) → (h : Passes g q o n c x) → c.length ≤ x.length
plateau_fits g q o n c x h =
    let d_first = dist_of_shortest g q.from c.first h.is.first.prefix h.is.first.first.shortest in
    let d_last = dist_of_shortest g q.from c.last h.is.last.prefix h.is.last.first.shortest in
    let long = h.is.long (walk_length g h.is.first.prefix) (walk_length g h.is.last.prefix) d_first d_last in
    let same : walk_length g x.arcs ≡ walk_length g h.walk = ap (λ (l : List ℕ). walk_length g l) h.path in
    omega (arith, via_parts g q.from q.to c.last h.walk h.is.last, h.own.is_length, long)

pub sum_here : (g : Graph) (q : Query) (o : Optimum) (n sum : ℕ) (c : Plateau) (x : Candidate) (sh : Shares) → sh ≡ record { trees = pair_of g q n; optimum = o.arcs }
    → ((p : List ℕ) → IsVia sh.trees.graph sh.trees.source sh.trees.target c.least p → sum ≡ carried sh.trees.graph sh.optimum p) → Passes g q o n c x → sum ≡ carried g o.arcs x.arcs
sum_here g q o n sum c x sh same sums h =
    let here : (p : List ℕ) → IsVia g q.from q.to c.least p → sum ≡ carried g o.arcs p = subst (λ (s : Shares). (p : List ℕ) → IsVia s.trees.graph s.trees.source s.trees.target c.least p → sum ≡ carried s.trees.graph s.optimum p) same sums in
    here x.arcs (subst (λ (v : ℕ). IsVia g q.from q.to v x.arcs) h.via h.own.through)

pub sum_fits : (g : Graph) (q : Query) (o : Optimum) (n sum : ℕ) (c : Plateau) (x : Candidate) → Passes g q o n c x → sum ≡ carried g o.arcs x.arcs → sum ≤ x.length
sum_fits g q o n sum c x h is = omega (arith, carried-le g o.arcs x.arcs, h.own.is_length)

pub none_fails : (g : Graph) (q : Query) (o p : List ℕ) (b : Bool) → b ≡ true → IsPassing g q o p b → IsPassing g q o p true
none_fails g q o p b is h = subst (λ (x : Bool). IsPassing g q o p x) is h

pub route_made : (g : Graph) (q : Query) (o : Optimum) (n sum : ℕ) (c : Plateau) (x : Candidate) (r : Route) → IsPosed g q o → IsBoundOf q o.length n → Passes g q o n c x → IsPassing g q o.arcs x.arcs true → sum ≡ carried g o.arcs x.arcs → Allows q.gamma sum o.length
    → r.via ≡ c.least → r.length ≡ x.length → r.shared ≡ sum → r.plateau ≡ c.length → r.rank ≡ rank_of x.length sum c.length → r.arcs ≡ x.arcs → IsNamedRoute g q o.arcs (pair_of g q n) c r
route_made g q o n sum c x r posed bound h tests is part via long common plateau ranked path =
    let walk = via_walk g q.from q.to x.via x.arcs h.own.through in
    let distinct = bounded_is_distinct g q.epsilon q.from q.to x.arcs posed.limits.is_graph (has_denominator q o.length n bound) walk tests.1 in
    let best = shortest_is_distinct g q.from q.to o.arcs posed.limits.is_graph posed.best.0.shortest in
    let same_sum : sum ≡ shared g o.arcs x.arcs = is ∙ sym (shared_is_carried g o.arcs x.arcs best distinct) in
    let limited : Allows q.gamma (shared g o.arcs x.arcs) (walk_length g o.arcs) = subst (λ (k : ℕ). Allows q.gamma k (walk_length g o.arcs)) same_sum (subst (λ (k : ℕ). Allows q.gamma sum k) posed.best.1 part) in
    let made : IsRoute g q o.arcs (record { via = c.least; length = x.length; shared = sum; plateau = c.length; rank = rank_of x.length sum c.length; arcs = x.arcs }) =
    record {
      alternative = record { via = x.via; through = h.own.through; other = other_of g q o n c x h; admissible = record { limited = limited; optimal = tests.0; bounded = tests.1 } };
      numbers = record {
        is_name = named_of g q o n c x h;
        is_length = h.own.is_length;
        is_shared = same_sum;
        is_plateau = subst (λ (l : List ℕ). IsPlateau g q.from q.to l c.length) (sym h.path) (h.is.is_plateau h.within);
        is_rank = refl;
      };
    } in
    let same : r ≡ record { via = c.least; length = x.length; shared = sum; plateau = c.length; rank = rank_of x.length sum c.length; arcs = x.arcs } = rw (via, long, common, plateau, ranked, path) refl in
    record {
      is_route = subst (λ (y : Route). IsRoute g q o.arcs y) (sym same) made;
      path = subst (λ (l : List ℕ). IsPlateauOf (pair_of g q n) l c) (sym (path ∙ h.path)) h.is;
      name = via;
    }

-- the trees refuse it
pub refused_after : (g : Graph) (q : Query) (o : Optimum) (n : ℕ) (c : Plateau) (ts : Trees) → ts ≡ pair_of g q n → IsPosed g q o → IsNever ts q o.length c.last → IsRouteOf g q o.arcs (pair_of g q n) c None
refused_after g q o n c ts is posed never p plateau alternative =
    let here : IsNever (pair_of g q n) q o.length c.last = subst (λ (x : Trees). IsNever x q o.length c.last) is never in
    here o.arcs p (sym posed.best.1) plateau.last alternative.admissible

pub refused_before : (g : Graph) (q : Query) (o : Optimum) (n : ℕ) (c : Plateau) (ts : Trees) → ts ≡ pair_of g q n → IsPosed g q o → IsNever ts q o.length c.first → IsRouteOf g q o.arcs (pair_of g q n) c None
refused_before g q o n c ts is posed never p plateau alternative =
    let here : IsNever (pair_of g q n) q o.length c.first = subst (λ (x : Trees). IsNever x q o.length c.first) is never in
    here o.arcs p (sym posed.best.1) plateau.first alternative.admissible
