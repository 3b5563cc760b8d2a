-- Routes that are sorted by rank, and then by via.
use Rattle.std.proofs.Common.{◌≡◌, true, false, List, get_or, sym, ap, ◌∙◌, arith, inl, inr, Ordering}
use Rattle.std.specs.declared.cmp.Ordering.TheVariants.{Less, Equal}
use Rattle.std.specs.Ordering.{nat_cmp, ordering_then, is_lt}
use Rattle.std.specs.Cmp.{IsTotalOrder, nat_cmp_is}
use Rattle.std.specs.List.Sorted.{IsSortedBy}
use Rattle.std.proofs.lemmas.Cmp.{nat_cmp_total, on_total, then_total}
use Rattle.std.proofs.lemmas.List.Sorted.{ranks_by, sorted_far}
use Rattle.road_model.specs.declared.answer.Route.{Route}
use Rattle.road_model.specs.Answers.{IsBefore}
use Rattle.route_ranking.specs.Order.{IsInOrder}

abbrev pub route_cmp : Route → Route → Ordering
route_cmp a b = ordering_then (nat_cmp a.rank b.rank) (nat_cmp a.via b.via)

route_cmp-total : IsTotalOrder route_cmp
route_cmp-total =
    then_total (on_total (λ (r : Route). r.rank) nat_cmp_total) (on_total (λ (r : Route). r.via) nat_cmp_total)

is_lt-before : (a b : Route) → IsBefore a b → is_lt (route_cmp a b) ≡ true
is_lt-before a b (inl lower) =
    ap (λ (o : Ordering). is_lt (ordering_then o (nat_cmp a.via b.via))) (sym (nat_cmp_is a.rank b.rank Less lower))
is_lt-before a b (inr tied) =
    ap (λ (o : Ordering). is_lt (ordering_then o (nat_cmp a.via b.via))) (sym (nat_cmp_is a.rank b.rank Equal tied.0))
    ∙ ap (λ (o : Ordering). is_lt o) (sym (nat_cmp_is a.via b.via Less tied.1))

pub IsInOrder-from_sorted : (xs : List Route) → IsSortedBy (λ a b. is_lt (route_cmp a b)) xs → IsInOrder xs
IsInOrder-from_sorted xs up i j d lt inside before =
    let far : is_lt (route_cmp (get_or xs j d) (get_or xs i d)) ≡ false = sorted_far (λ a b. is_lt (route_cmp a b)) (ranks_by route_cmp-total (λ (r : Route). r)) xs up i j d (omega arith) inside in
    let clash : true ≡ false = sym (is_lt-before (get_or xs j d) (get_or xs i d) before) ∙ far in
    cc
