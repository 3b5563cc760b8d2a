-- Two ascending lists with the same routes are one list, so the answer is one.
use Rattle.std.proofs.Common.{◌≡◌, ℕ, ◌⊎◌, zero, suc, List, [], ◌∷◌, Some, All, Contains, refl, sym, ap, ◌∙◌, subst, arith, inl, inr, ⊎_elim}
use Rattle.std.proofs.lemmas.List.Elements.{All-contains}
use Rattle.road_model.specs.declared.answer.Optimum.{Optimum}
use Rattle.road_model.specs.declared.answer.Plan.{Plan}
use Rattle.road_model.specs.declared.answer.Plan.TheVariants.{NoPath, Found}
use Rattle.road_model.specs.declared.answer.Query.{Query}
use Rattle.road_model.specs.declared.answer.Route.{Route}
use Rattle.road_model.specs.Graph.{Graph}
use Rattle.road_model.specs.Walk.{walk_length}
use Rattle.road_model.specs.Canonical.{IsOptimum}
use Rattle.road_model.specs.Answers.{IsRoute, IsBefore, IsAscending, HasRoute, IsListing, IsAnswer}
use Rattle.road_model.proofs.CanonicalWalks.{IsFirst-unique}
use Rattle.road_laws.proofs.Vias.{HasNumbers-unique}

contains_cases : (y : Route) (xs : List Route) (x : Route) → Contains (y ∷ xs) x → (y ≡ x) ⊎ Contains xs x
contains_cases y xs x (zero, lt, is) = inl is
contains_cases y xs x (suc k, lt, is) = inr (k, omega arith, is)

contains_head : (y : Route) (xs : List Route) → Contains (y ∷ xs) y
contains_head y xs = (zero, omega arith, refl)

contains_tail : (y : Route) (xs : List Route) (x : Route) → Contains xs x → Contains (y ∷ xs) x
contains_tail y xs x h = (suc h.0, omega (arith, h.1), h.2)

not_before_itself : (a : Route) → IsBefore a a → ⊥
not_before_itself a (inl h) = omega arith
not_before_itself a (inr h) = omega (arith, h.1)

not_both : (a b : Route) → IsBefore a b → IsBefore b a → ⊥
not_both a b (inl h) (inl k) = omega arith
not_both a b (inl h) (inr k) = omega (arith, k.0)
not_both a b (inr h) (inl k) = omega (arith, h.0)
not_both a b (inr h) (inr k) = omega (arith, h.1, k.1)

before_all : (r : Route) (rs : List Route) (x : Route) → All (IsBefore r) rs → Contains rs x → IsBefore r x
before_all r rs x all has = All-contains (IsBefore r) rs x all has

-- what stands in the rest of one list stands in the rest of the other
tail_of : (r s : Route) (rs ss : List Route) → r ≡ s → All (IsBefore r) rs → ((x : Route) → Contains (r ∷ rs) x → Contains (s ∷ ss) x) → (x : Route) → Contains rs x → Contains ss x
tail_of r s rs ss e all every x has =
    ⊎_elim
    (λ (is : s ≡ x). absurd (not_before_itself r (subst (λ (y : Route). IsBefore r y) (sym (e ∙ is)) (before_all r rs x all has))))
    (λ (there : Contains ss x). there)
    (contains_cases s ss x (every x (contains_tail r rs x has)))

same_head : (r s : Route) (rs ss : List Route) → All (IsBefore r) rs → All (IsBefore s) ss → Contains (s ∷ ss) r → Contains (r ∷ rs) s → r ≡ s
same_head r s rs ss before_r before_s has_r has_s =
    ⊎_elim
    (λ (is : s ≡ r). sym is)
    (λ (r_there : Contains ss r).
    ⊎_elim
    (λ (is : r ≡ s). is)
    (λ (s_there : Contains rs s). absurd (not_both r s (before_all r rs s before_r s_there) (before_all s ss r before_s r_there)))
    (contains_cases r rs s has_s))
    (contains_cases s ss r has_r)

not_in_nil : {P : Type 0} (x : Route) → Contains [] x → P
not_in_nil x h = absurd (omega (arith, h.1))

pub ascending_is_one : (rs ss : List Route) → IsAscending rs → IsAscending ss → ((x : Route) → Contains rs x → Contains ss x) → ((x : Route) → Contains ss x → Contains rs x) → rs ≡ ss
ascending_is_one [] [] a b to from = refl
ascending_is_one [] (s ∷ ss) a b to from = not_in_nil s (from s (contains_head s ss))
ascending_is_one (r ∷ rs) [] a b to from = not_in_nil r (to r (contains_head r rs))
ascending_is_one (r ∷ rs) (s ∷ ss) a b to from =
    let head : r ≡ s = same_head r s rs ss a.0 b.0 (to r (contains_head r rs)) (from s (contains_head s ss)) in
    let tail : rs ≡ ss = ascending_is_one rs ss a.1 b.1 (tail_of r s rs ss head a.0 to) (tail_of s r ss rs (sym head) b.0 from) in
    cc

-- each route of one listing is in the other
listed_there : (g : Graph) (q : Query) (o : List ℕ) (rs ss : List Route) → IsListing g q o rs → IsListing g q o ss → (x : Route) → Contains rs x → Contains ss x
listed_there g q o rs ss h k x has =
    let route : IsRoute g q o x = All-contains (IsRoute g q o) rs x h.each has in
    let other : HasRoute ss x.arcs = k.every x.arcs route.alternative in
    let numbers : IsRoute g q o other.route = All-contains (IsRoute g q o) ss other.route k.each other.listed in
    let same : other.route ≡ x = HasNumbers-unique g q o other.route x other.path numbers.numbers route.numbers in
    subst (λ (y : Route). Contains ss y) same other.listed

pub listing_is_one : (g : Graph) (q : Query) (o : List ℕ) (rs ss : List Route) → IsListing g q o rs → IsListing g q o ss → rs ≡ ss
listing_is_one g q o rs ss h k =
    ascending_is_one rs ss h.ascending k.ascending (listed_there g q o rs ss h k) (listed_there g q o ss rs k h)

same_optimum : (a b : Optimum) → a.length ≡ b.length → a.arcs ≡ b.arcs → a ≡ b
same_optimum a b e f = rw (e, f) refl

pub optimum_is_one : (g : Graph) (s t : ℕ) (a b : Optimum) → IsOptimum g s t (Some a) → IsOptimum g s t (Some b) → a ≡ b
optimum_is_one g s t a b h k =
    let arcs : a.arcs ≡ b.arcs = IsFirst-unique g s t a.arcs b.arcs h.0 k.0 in
    same_optimum a b (h.1 ∙ (ap (λ (x : List ℕ). walk_length g x) arcs ∙ sym k.1)) arcs

pub answer_is_one_lem : (g : Graph) (q : Query) (a b : Plan) → IsAnswer g q a → IsAnswer g q b → a ≡ b
answer_is_one_lem g q NoPath NoPath h k = refl
answer_is_one_lem g q NoPath (Found o rs) h k = absurd (h o.arcs k.0.0.shortest.walk)
answer_is_one_lem g q (Found o rs) NoPath h k = absurd (k o.arcs h.0.0.shortest.walk)
answer_is_one_lem g q (Found o rs) (Found p ss) h k =
    let optimum : o ≡ p = optimum_is_one g q.from q.to o p h.0 k.0 in
    let arcs : p.arcs ≡ o.arcs = ap (λ (x : Optimum). x.arcs) (sym optimum) in
    let others : rs ≡ ss = listing_is_one g q o.arcs rs ss h.1 (subst (λ (x : List ℕ). IsListing g q x ss) arcs k.1) in
    cc
