-- Pages one after another.
--   IsChain total size offset spans   the pages from the offset on, each of which begins where the one before ended,
--                                     up to the first after which no item stands
--   items_of span xs                  the items of a page, where xs are all items
--   joined spans xs                   the items of these pages, one after another
use Rattle.std.specs.Prelude.{◌≡◌, ℕ, ◌+◌, List, [], ◌∷◌, take, drop, MatchBool}
use Rattle.std.specs.List.{flat_map}
use Rattle.road_model.specs.declared.answer.PageSpan.{PageSpan}
use Rattle.road_model.specs.Answers.{IsPage}

abbrev pub IsChain : ℕ → ℕ → ℕ → List PageSpan → Type 0
IsChain total size offset [] = ⊥
IsChain total size offset (span ∷ spans) =
    IsPage total size offset span
    × MatchBool span.more (IsChain total size (span.first + span.count) spans) (spans ≡ [])

abbrev pub items_of : {X : Type 0} → PageSpan → List X → List X
items_of span xs = take span.count (drop span.first xs)

abbrev pub joined : {X : Type 0} → List PageSpan → List X → List X
joined spans xs = flat_map (λ span. items_of span xs) spans
