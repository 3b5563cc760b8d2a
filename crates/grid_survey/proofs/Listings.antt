-- A listing has at most as many routes as the graph has vertices, since each has another via.
use Rattle.std.proofs.Common.{◌≡◌, ◌≢◌, ℕ, ◌+◌, ◌<◌, ◌≤◌, true, false, eqb, List, [], ◌∷◌, length, map, All, sym, ap, subst, ⊎_elim, arith}
use Rattle.std.specs.List.{list_any, IsDistinct, AllByRecursion}
use Rattle.std.proofs.lemmas.Bool.{eqb-true, or_cases}
use Rattle.std.proofs.lemmas.Bool.Decides.{nat_tests}
use Rattle.std.proofs.lemmas.List.{length-map}
use Rattle.std.proofs.lemmas.List.Elements.{All-head, All-tail}
use Rattle.std.proofs.lemmas.Map.Keys.{IsDistinct-cons, IsDistinct-from_apart}
use Rattle.std.proofs.lemmas.Map.Steps.{length-le_from_distinct_below}
use Rattle.road_model.specs.declared.answer.Query.{Query}
use Rattle.road_model.specs.declared.answer.Route.{Route}
use Rattle.road_model.specs.Graph.{Graph, IsVertex}
use Rattle.road_model.specs.Alternatives.{IsVia}
use Rattle.road_model.specs.Answers.{IsAscending, IsBefore, IsListing, IsRoute}
use Rattle.road_model.proofs.CanonicalWalks.{IsVia-unique}
use Rattle.road_laws.proofs.Vias.{HasNumbers-unique}

abbrev via_of : Route → ℕ
via_of r = r.via

vertex_of : (g : Graph) (q : Query) (o : List ℕ) (r : Route) → IsRoute g q o r → IsVertex g.vertices r.via
vertex_of g q o r h = h.numbers.is_name.through.vertex

-- two routes of a listing with one via would be one route
other_via : (g : Graph) (q : Query) (o : List ℕ) (a b : Route) → IsRoute g q o a → IsRoute g q o b → IsBefore a b → a.via ≢ b.via
other_via g q o a b h k before same =
    let through : IsVia g q.from q.to a.via b.arcs = subst (λ (v : ℕ). IsVia g q.from q.to v b.arcs) (sym same) k.numbers.is_name.through in
    let path : a.arcs ≡ b.arcs = IsVia-unique g q.from q.to a.via a.arcs b.arcs h.numbers.is_name.through through in
    let is : a ≡ b = HasNumbers-unique g q o a b path h.numbers k.numbers in
    let rank : a.rank ≡ b.rank = ap (λ (r : Route). r.rank) is in
    ⊎_elim
    (λ (lower : a.rank < b.rank). omega arith)
    (λ (tied : (a.rank ≡ b.rank) × (a.via < b.via)). omega (arith, tied.1))
    before

other_vias : (g : Graph) (q : Query) (o : List ℕ) (a : Route) (rs : List Route) → IsRoute g q o a → All (IsRoute g q o) rs → All (IsBefore a) rs → AllByRecursion (λ v. eqb a.via v ≡ false) (map via_of rs)
other_vias g q o a [] h each before = tt
other_vias g q o a (b ∷ rs) h each before =
    let apart : a.via ≢ b.via = other_via g q o a b h (All-head (IsRoute g q o) b rs each) (All-head (IsBefore a) b rs before) in
    (grind (arith, nat_tests), other_vias g q o a rs h (All-tail (IsRoute g q o) b rs each) (All-tail (IsBefore a) b rs before))

distinct_vias : (g : Graph) (q : Query) (o : List ℕ) (rs : List Route) → All (IsRoute g q o) rs → IsAscending rs → IsDistinct eqb (map via_of rs)
distinct_vias g q o [] each rising = IsDistinct-from_apart eqb [] (λ i j d lt inside. absurd (let z : j < 0 = inside in omega arith))
distinct_vias g q o (r ∷ rs) each rising =
    IsDistinct-cons eqb r.via (map via_of rs)
    (other_vias g q o r rs (All-head (IsRoute g q o) r rs each) (All-tail (IsRoute g q o) r rs each) rising.0)
    (distinct_vias g q o rs (All-tail (IsRoute g q o) r rs each) rising.1)

inside : (g : Graph) (q : Query) (o : List ℕ) (rs : List Route) (v : ℕ) → All (IsRoute g q o) rs → list_any (eqb v) (map via_of rs) ≡ true → IsVertex g.vertices v
inside g q o [] v each any = absurd (let e : false ≡ true = any in cc)
inside g q o (r ∷ rs) v each any =
    ⊎_elim
    (λ (here : eqb v r.via ≡ true). subst (IsVertex g.vertices) (sym (eqb-true v r.via here)) (vertex_of g q o r (All-head (IsRoute g q o) r rs each)))
    (λ (later : list_any (eqb v) (map via_of rs) ≡ true). inside g q o rs v (All-tail (IsRoute g q o) r rs each) later)
    (or_cases (eqb v r.via) (list_any (eqb v) (map via_of rs)) any)

no_zero : (g : Graph) (q : Query) (o : List ℕ) (rs : List Route) → All (IsRoute g q o) rs → AllByRecursion (λ v. eqb 0 v ≡ false) (map via_of rs)
no_zero g q o [] each = tt
no_zero g q o (r ∷ rs) each =
    let vertex = vertex_of g q o r (All-head (IsRoute g q o) r rs each) in
    let apart : 0 ≢ r.via = omega (arith, vertex.first) in
    (grind (arith, nat_tests), no_zero g q o rs (All-tail (IsRoute g q o) r rs each))

pub few_routes : (g : Graph) (q : Query) (o : List ℕ) (rs : List Route) → IsListing g q o rs → length rs ≤ g.vertices
few_routes g q o rs listing =
    let all : IsDistinct eqb (0 ∷ map via_of rs) = IsDistinct-cons eqb 0 (map via_of rs) (no_zero g q o rs listing.each) (distinct_vias g q o rs listing.each listing.ascending) in
    let below : (v : ℕ) → list_any (eqb v) (0 ∷ map via_of rs) ≡ true → v < g.vertices + 1 =
    λ v any. ⊎_elim
    (λ (here : eqb v 0 ≡ true). let is : v ≡ 0 = eqb-true v 0 here in omega arith)
    (λ (later : list_any (eqb v) (map via_of rs) ≡ true). let high = (inside g q o rs v listing.each later).last in omega arith)
    (or_cases (eqb v 0) (list_any (eqb v) (map via_of rs)) any) in
    let count : length (0 ∷ map via_of rs) ≤ g.vertices + 1 = length-le_from_distinct_below (0 ∷ map via_of rs) (g.vertices + 1) all below in
    omega (arith, length-map rs via_of)
