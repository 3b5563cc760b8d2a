-- The length of a path, taken arc by arc.
use Rattle.std.proofs.Common.{◌≡◌, ℕ, ◌+◌, ◌<◌, List, [], ◌∷◌, ◌++◌, length, get_or, take, ap, arith}
use Rattle.std.proofs.lemmas.List.{take_more}
use Rattle.road_model.specs.Graph.{Graph, length_at}
use Rattle.road_model.specs.Walk.{walk_length}
use Rattle.road_model.proofs.Walks.{walk_length-append}

pub length_more : (g : Graph) (p : List ℕ) (i a n : ℕ) → i < length p → a ≡ get_or p i 0 → n ≡ length_at g a → walk_length g (take (i + 1) p) ≡ walk_length g (take i p) + n
length_more g p i a n lt is long =
    let one : walk_length g (take (i + 1) p) ≡ walk_length g (take i p ++ get_or p i 0 ∷ []) = ap (λ (l : List ℕ). walk_length g l) (take_more p i 0 lt) in
    let two : length_at g a ≡ length_at g (get_or p i 0) = ap (λ (x : ℕ). length_at g x) is in
    omega (arith, walk_length-append g (take i p) (get_or p i 0 ∷ []))
