-- What the steps of a reader of raw lines do to its text.
use Rattle.std.proofs.Common.{◌≡◌, ℕ, ◌+◌, ◌≤◌, List, ◌∷◌, ◌++◌, length, take, sym, ap, ◌∙◌, arith}
use Rattle.std.specs.List.{between}
use Rattle.std.proofs.lemmas.List.Edits.{length-between}
use Rattle.road_text.specs.Filling.{IsFeedAt}
use Rattle.road_text.proofs.HeldLemmas.{between-drop}
use Rattle.road_text.proofs.LineLemmas.{feed-parts}

-- the bytes of a buffer between two places, up to their first line feed and after it
pub between-feed : (xs : List ℕ) (start end' size : ℕ) → end' ≤ length xs → start ≤ end' → IsFeedAt (between start end' xs) size → between start end' xs ≡ take size (between start end' xs) ++ 10 ∷ between (start + (size + 1)) end' xs
between-feed xs start end' size high low feed =
    let within : start + (size + 1) ≤ end' = (let h = feed.within in omega (arith, length-between xs start end' high)) in
    feed-parts (between start end' xs) size feed
    ∙ ap (λ (rest : List ℕ). take size (between start end' xs) ++ 10 ∷ rest) (sym (between-drop xs start end' (size + 1) within))

pub between-feed_within : (xs : List ℕ) (start end' size : ℕ) → end' ≤ length xs → start ≤ end' → IsFeedAt (between start end' xs) size → start + (size + 1) ≤ end'
between-feed_within xs start end' size high low feed = (let h = feed.within in omega (arith, length-between xs start end' high))
