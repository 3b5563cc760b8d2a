-- The lines of a page's items, from the optimum's part and a part of the alternatives.
use Rattle.std.proofs.Common.{◌≡◌, ℕ, zero, suc, ◌+◌, ◌-◌, ◌==◌, ◌&&◌, true, false, nat_eq, nat_lt, if◌then◌else◌, List, [], ◌∷◌, ◌++◌, take, drop, map, Some, refl, sym, ap, ◌∙◌, arith}
use Rattle.std.specs.List.{flat_map, slice_range}
use Rattle.std.proofs.lemmas.Bool.Decides.{nat_tests}
use Rattle.std.proofs.lemmas.List.{take-map, drop-map}
use Rattle.road_model.specs.declared.answer.Optimum.{Optimum}
use Rattle.road_model.specs.declared.answer.PageSpan.{PageSpan}
use Rattle.road_model.specs.declared.answer.Plan.TheVariants.{Found}
use Rattle.road_model.specs.declared.answer.Route.{Route}
use Rattle.line_front.specs.Items.{optimum_part, routes_text}
use Rattle.line_front.specs.Replies.{item_texts, items_text, line_text, optimum_text, route_text}

routes_text-lines : (routes : List Route) → flat_map line_text (map route_text routes) ≡ routes_text routes
routes_text-lines [] = refl
routes_text-lines (route ∷ routes) = ap (λ (l : List ℕ). line_text (route_text route) ++ l) (routes_text-lines routes)

-- the lines of some alternatives after the first ones
part_lines : (count first : ℕ) (others : List Route) → flat_map line_text (take count (drop first (map route_text others))) ≡ routes_text (take count (drop first others))
part_lines count first others =
    ap (λ (l : List (List ℕ)). flat_map line_text (take count l)) (drop-map route_text first others)
    ∙ (ap (λ (l : List (List ℕ)). flat_map line_text l) (take-map route_text count (drop first others))
    ∙ routes_text-lines (take count (drop first others)))

-- the same, with the numbers of the span by themselves
parts_at : (first count : ℕ) (optimum : Optimum) (others : List Route) →
    (if first == 0 && nat_lt 0 count then line_text (optimum_text optimum) else []) ++ routes_text (slice_range others (first - 1) (first + count - 1))
    ≡ flat_map line_text (take count (drop first (item_texts optimum others)))
parts_at zero zero optimum others = refl
parts_at zero (suc m) optimum others =
    let some : nat_lt 0 (suc m) ≡ true = grind (arith, nat_tests) in
    let long : 0 + suc m - 1 - (0 - 1) ≡ m = omega arith in
    rw (some, long) (ap (λ (l : List ℕ). line_text (optimum_text optimum) ++ l) (sym (part_lines m 0 others)))
parts_at (suc n) count optimum others =
    let later : nat_eq (suc n) 0 ≡ false = grind (arith, nat_tests) in
    let from : suc n - 1 ≡ n = omega arith in
    let long : suc n + count - 1 - n ≡ count = omega arith in
    rw (later, from, long) (sym (part_lines count n others))

pub items_parts : (span : PageSpan) (optimum : Optimum) (others : List Route) →
    optimum_part span optimum ++ routes_text (slice_range others (span.first - 1) (span.first + span.count - 1)) ≡ items_text span (Some (Found optimum others))
items_parts span optimum others = parts_at span.first span.count optimum others
