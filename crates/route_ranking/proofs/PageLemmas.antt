-- The pages of a chain, one after another.
use Rattle.std.proofs.Common.{◌≡◌, ℕ, ◌+◌, ◌<◌, ◌≤◌, Bool, true, false, List, [], ◌∷◌, ◌++◌, length, take, drop, refl, sym, ap, ◌∙◌, arith}
use Rattle.std.specs.Prelude.{MatchBool, ◌↔◌}
use Rattle.std.proofs.lemmas.Bool.{iff_false}
use Rattle.std.proofs.lemmas.List.{append-nil, take_all, drop-drop, take-append-drop, length-drop}
use Rattle.road_model.specs.declared.answer.PageSpan.{PageSpan}
use Rattle.route_ranking.specs.Chains.{IsChain, joined}

-- a page that others follow
page_then : {X : Type 0} (xs : List X) (offset first count : ℕ) (later : List X) → first ≡ offset → later ≡ drop (first + count) xs → take count (drop first xs) ++ later ≡ drop offset xs
page_then {X = X} xs offset first count later same rest =
    ap (λ (ys : List X). take count (drop first xs) ++ ys) (rest ∙ ap (λ (n : ℕ). drop n xs) (omega arith) ∙ sym (drop-drop count first xs))
    ∙ take-append-drop count (drop first xs)
    ∙ ap (λ (n : ℕ). drop n xs) same

-- the last page
page_last : {X : Type 0} (xs : List X) (offset first count : ℕ) → first ≡ offset → length xs ≤ first + count → take count (drop first xs) ++ [] ≡ drop offset xs
page_last {X = X} xs offset first count same past =
    append-nil (take count (drop first xs))
    ∙ take_all count (drop first xs) (omega (arith, length-drop first xs))
    ∙ ap (λ (n : ℕ). drop n xs) same

page_joined : {X : Type 0} (size : ℕ) (xs : List X) (spans : List PageSpan) (offset first count : ℕ) (more : Bool) → first ≡ offset → first + count ≤ length xs → ((more ≡ true) ↔ (first + count < length xs)) → (IsChain (length xs) size (first + count) spans → joined spans xs ≡ drop (first + count) xs) → MatchBool more (IsChain (length xs) size (first + count) spans) (spans ≡ []) → take count (drop first xs) ++ joined spans xs ≡ drop offset xs
page_joined size xs spans offset first count true same within is_more beyond chain =
    page_then xs offset first count (joined spans xs) same (beyond chain)
page_joined {X = X} size xs spans offset first count false same within is_more beyond none =
    ap (λ (ss : List PageSpan). take count (drop first xs) ++ joined ss xs) none
    ∙ page_last xs offset first count same (let over = iff_false is_more refl in omega arith)

pub joined-from : {X : Type 0} (size : ℕ) (xs : List X) (spans : List PageSpan) (offset : ℕ) → offset ≤ length xs → IsChain (length xs) size offset spans → joined spans xs ≡ drop offset xs
joined-from size xs [] offset within chain = absurd chain
joined-from size xs (span ∷ spans) offset within chain =
    let first = chain.0.is_first in
    let count = chain.0.is_count in
    page_joined size xs spans offset span.first span.count span.more (omega arith) (omega arith) chain.0.is_more
    (λ c. joined-from size xs spans (span.first + span.count) (omega arith) c)
    chain.1
