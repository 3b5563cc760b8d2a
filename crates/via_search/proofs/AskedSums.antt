-- The questions of a plan, summed over the plateaus that are left for the oracle.
use Rattle.std.proofs.Common.{◌≡◌, ◌≢◌, ℕ, ◌+◌, ◌*◌, ◌-◌, ◌<◌, ◌≤◌, zero, suc, List, [], ◌∷◌, ◌++◌, length, get_or, take, All, AllPairs, sym, ap, ◌∙◌, subst, arith, ⊎_elim, length-append}
use Rattle.std.specs.List.{sum_by}
use Rattle.std.proofs.Math.Nat.{mul-le-mul_right}
use Rattle.std.proofs.lemmas.Bool.{cases_lt}
use Rattle.std.proofs.lemmas.List.Sums.{sum_by-cons, sum_by_more, sum_by-take-le}
use Rattle.road_model.specs.declared.answer.Optimum.{Optimum}
use Rattle.road_model.specs.declared.answer.Query.{Query}
use Rattle.road_model.specs.declared.trail.Trail.{Trail}
use Rattle.road_model.specs.Graph.{Graph}
use Rattle.road_model.specs.Walk.{walk_length}
use Rattle.road_model.specs.Fraction.{Stretches}
use Rattle.road_model.specs.Places.{places, trail_of}
use Rattle.road_model.specs.Alternatives.{IsVia, IsName}
use Rattle.road_model.specs.ViaWalk.{AsksWithin}
use Rattle.road_model.proofs.Parts.{length-places}
use Rattle.road_model.proofs.CanonicalWalks.{IsFirst-unique}
use Rattle.via_search.specs.Candidates.{IsPosed, IsBoundOf}
use Rattle.via_search.specs.declared.sifting.Sifted.{Sifted}
use Rattle.via_search.specs.Settings.{Givens}
use Rattle.via_search.specs.Sifting.{IsSifted, AsksForAll}
use Rattle.via_search.specs.Asks.{cost, total, AsksAtMost, AsksFor, AsksOnce, AsksForPlan}

total_rises : (f : ℕ → ℕ) (n m : ℕ) → m ≤ n → total f m ≤ total f n
total_rises f zero zero le = omega arith
total_rises f zero (suc m) le = absurd (omega arith)
total_rises f (suc n) m le =
    ⊎_elim
    (λ (lt : m < suc n). let low : total f m ≤ total f n = total_rises f n m (omega arith) in omega arith)
    (λ (ge : suc n ≤ m).
    let same : suc n ≡ m = omega arith in
    let equal : total f (suc n) ≡ total f m = ap (λ (k : ℕ). total f k) same in
    omega arith)
    (cases_lt m (suc n))

total_step : (f : ℕ → ℕ) (m v : ℕ) → m < v → total f m + f v ≤ total f v
total_step f m zero lt = absurd (omega arith)
total_step f m (suc v) lt = let low : total f m ≤ total f v = total_rises f v m (omega arith) in omega arith

abbrev asked_of : (ℕ → ℕ) → List Sifted → ℕ
asked_of f ss = sum_by (λ (s : Sifted). f s.plateau.least) ss

sum_total : (f : ℕ → ℕ) (n m : ℕ) (ss : List Sifted) → AllPairs (λ (a b : Sifted). a.plateau.least < b.plateau.least) ss → All (λ (s : Sifted). m < s.plateau.least) ss → All (λ (s : Sifted). s.plateau.least ≤ n) ss → m ≤ n → asked_of f ss + total f m ≤ total f n
sum_total f n m [] rising above below le = omega (arith, total_rises f n m le)
sum_total f n m (s ∷ ss) rising above below le =
    let step : total f m + f s.plateau.least ≤ total f s.plateau.least = total_step f m s.plateau.least (above 0 s (omega arith)) in
    let rest : asked_of f ss + total f s.plateau.least ≤ total f n = sum_total f n s.plateau.least ss
    (λ i j d lt inside. rising (suc i) (suc j) d (omega arith) (omega arith))
    (λ i d lt. rising zero (suc i) d (omega arith) (omega arith))
    (λ i d lt. below (suc i) d (omega arith))
    (below 0 s (omega arith)) in
    omega (arith, sum_by-cons (λ (y : Sifted). f y.plateau.least) s ss)

pub asks_start : (x : Givens) (ss : List Sifted) (old : ℕ) → AsksForAll x ss old old
asks_start x ss old f h = omega arith

-- one more of a list
pub asks_more : (x : Givens) (ss : List Sifted) (i old now new : ℕ) (s : Sifted) → i < length ss → s ≡ get_or ss i s → AsksForAll x (take i ss) old now → AsksFor x.graph x.query.from x.query.to x.reach x.optimum.arcs s.plateau.least now new → AsksForAll x (take (i + 1) ss) old new
asks_more x ss i old now new s inside at h own f each =
    let least : f (get_or ss i s).plateau.least ≡ f s.plateau.least = ap (λ (y : Sifted). f y.plateau.least) (sym at) in
    omega (arith, sum_by_more (λ (y : Sifted). f y.plateau.least) ss i s inside, h f each, own f each)

pub asks_of_part : (x : Givens) (ss : List Sifted) (i old new : ℕ) → AsksForAll x (take i ss) old new → AsksForAll x ss old new
asks_of_part x ss i old new h f each = omega (arith, h f each, sum_by-take-le (λ (s : Sifted). f s.plateau.least) ss i)

pub asks_all : (x : Givens) (ss : List Sifted) (old new : ℕ) → AllPairs (λ (a b : Sifted). a.plateau.least < b.plateau.least) ss → All (IsSifted x) ss → AsksForAll x ss old new → AsksAtMost x.graph x.query.from x.query.to x.reach x.optimum.arcs old new
asks_all x ss old new rising each_is h f each =
    let most : asked_of f ss + total f 0 ≤ total f x.graph.vertices = sum_total f x.graph.vertices 0 ss rising
    (λ k d lt. (each_is k d lt).listed.is.least.vertex.first)
    (λ k d lt. (each_is k d lt).listed.is.least.vertex.last)
    (omega arith) in
    omega (arith, h f each)

pub asks_none : (g : Graph) (s t bound : ℕ) (o : List ℕ) (old new : ℕ) → new ≡ old → AsksAtMost g s t bound o old new
asks_none g s t bound o old new same f each = omega arith

pub asks_none_for : (g : Graph) (s t bound : ℕ) (o : List ℕ) (v old new : ℕ) → new ≡ old → AsksFor g s t bound o v old new
asks_none_for g s t bound o v old new same f each = omega arith

-- the tests of one path, at the place of its name
pub asks_named : (g : Graph) (s t bound : ℕ) (o p : List ℕ) (v w old new : ℕ) → IsName g s t p v → walk_length g p ≤ bound → p ≢ o → w ≡ v → AsksOnce g s t p w old new → AsksFor g s t bound o v old new
asks_named g s t bound o p v w old new name within other same once f each =
    let at_name : AsksOnce g s t p v old new = subst (λ (x : ℕ). AsksOnce g s t p x old new) same once in
    omega (arith, at_name name.through, each.each v p name within other)

stretched_less : (q : Query) (l a b : ℕ) → a ≤ b → Stretches q.epsilon b l → Stretches q.epsilon a l
stretched_less q l a b le h = omega (arith, mul-le-mul_right q.epsilon.den le)

pub asks_for_plan : (g : Graph) (q : Query) (o : Optimum) (bound old new : ℕ) → IsPosed g q o → IsBoundOf q o.length bound → AsksAtMost g q.from q.to bound o.arcs old new → AsksForPlan g q old new
asks_for_plan g q o bound old new posed is h =
    record {
      paths = (λ p most best greatest f each.
          let same : p ≡ o.arcs = IsFirst-unique g q.from q.to p o.arcs best posed.best.0 in
          h f (record {
            each = (λ v r name within other.
                let long : walk_length g r ≤ most = greatest (walk_length g r)
                (stretched_less q (walk_length g p) (walk_length g r) bound within (subst (λ (n : ℕ). Stretches q.epsilon bound n) (posed.best.1 ∙ ap (λ (l : List ℕ). walk_length g l) (sym same)) is.within)) in
                each.each v r name long (λ e. other (e ∙ same)));
          }));
      none = (λ no. absurd (no o.arcs posed.best.0.shortest.walk));
    }

pub asks_nothing : (g : Graph) (q : Query) (old new : ℕ) → new ≡ old → AsksForPlan g q old new
asks_nothing g q old new same = record { paths = (λ p most best greatest f each. omega arith); none = (λ no. same) }

-- the bounds of the two tests are one cost
pub asked_nothing_yet : (g : Graph) (s t : ℕ) (p : List ℕ) (v old new : ℕ) → new ≡ old → AsksOnce g s t p v old new
asked_nothing_yet g s t p v old new same h = omega arith

places_of : (g : Graph) (s : ℕ) (p prefix back : List ℕ) (t : Trail) → t ≡ trail_of g s p → p ≡ prefix ++ back → length t.vertices ≡ length prefix + length back + 1
places_of g s p prefix back t is joined =
    let one : length t.vertices ≡ length (places g s p) = ap (λ (x : Trail). length x.vertices) is in
    let two : length p ≡ length (prefix ++ back) = ap (λ (l : List ℕ). length l) joined in
    omega (arith, length-places g s p, length-append prefix back)

-- fast fact on products, over plain numbers
one_cost : (a b old middle new via places : ℕ) → via ≡ a → places ≡ a + b + 1 → middle ≤ old + (via + places) → new ≤ middle + via * (places - 1 - via) → new ≤ old + cost a b
one_cost a b old middle new via places is_via is_places first second =
    let rest : places - 1 - via ≡ b = omega arith in
    let product : via * (places - 1 - via) ≡ a * b = ap (λ (n : ℕ). n * (places - 1 - via)) is_via ∙ ap (λ (n : ℕ). a * n) rest in
    omega arith

pub asked_local : (g : Graph) (s t : ℕ) (p : List ℕ) (v via old new : ℕ) (trail : Trail) → trail ≡ trail_of g s p → ((h : IsVia g s t v p) → via ≡ length h.prefix) → AsksWithin old new (via + length trail.vertices) → AsksOnce g s t p v old new
asked_local g s t p v via old new trail is place asks h =
    omega (arith, places_of g s p h.prefix h.back trail is h.joined, place h, asks.few)

pub asked_both : (g : Graph) (s t : ℕ) (p : List ℕ) (v via old middle new : ℕ) (trail : Trail) → trail ≡ trail_of g s p → ((h : IsVia g s t v p) → via ≡ length h.prefix) → AsksWithin old middle (via + length trail.vertices) → AsksWithin middle new (via * (length trail.vertices - 1 - via)) → AsksOnce g s t p v old new
asked_both g s t p v via old middle new trail is place first second h =
    one_cost (length h.prefix) (length h.back) old middle new via (length trail.vertices) (place h) (places_of g s p h.prefix h.back trail is h.joined) first.few second.few
