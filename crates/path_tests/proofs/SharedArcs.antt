-- The shared length, arc by arc.
use Rattle.std.proofs.Common.{◌≡◌, ℕ, ◌+◌, ◌<◌, ◌≤◌, ◌==◌, true, false, cond, List, length, get_or, take, ap, ◌∙◌, sym, subst, arith}
use Rattle.std.specs.List.{list_any}
use Rattle.std.proofs.lemmas.List.Sums.{sum_by_more, sum_by_more_le_part}
use Rattle.std.proofs.lemmas.List.{get_or_read}
use Rattle.std.proofs.lemmas.Bool.{cond-true, cond-false}
use Rattle.road_model.specs.Graph.{Graph, length_at}
use Rattle.road_model.specs.Walk.{walk_length}
use Rattle.road_model.specs.Tests.{shared}
use Rattle.road_model.proofs.Basics.{cond-le}
use Rattle.road_model.proofs.Walks.{walk_length-sum_by}

-- what one arc of the optimum adds
abbrev pub counted : Graph → List ℕ → ℕ → ℕ
counted g p a = cond (list_any (λ b. b == a) p) (length_at g a) 0

-- an item of a slice, as an element of the list that it shows
pub item_of : (o xs : List ℕ) (i a : ℕ) → xs ≡ o → i < length xs → a ≡ get_or xs i a → (i < length o) × (a ≡ get_or o i 0)
item_of o xs i a same lt is =
    let read : a ≡ get_or xs i 0 = get_or_read xs i a lt is 0 in
    (subst (λ (l : List ℕ). i < length l) same lt, read ∙ ap (λ (l : List ℕ). get_or l i 0) same)

-- the sum so far and the next arc's length are no longer than the optimum
pub shared_fits : (g : Graph) (o p : List ℕ) (i a : ℕ) → i < length o → a ≡ get_or o i 0 → shared g (take i o) p + length_at g a ≤ walk_length g o
shared_fits g o p i a lt is =
    subst (λ (x : ℕ). shared g (take i o) p + length_at g x ≤ walk_length g o) (sym is)
    (subst (λ (n : ℕ). shared g (take i o) p + length_at g (get_or o i 0) ≤ n) (sym (walk_length-sum_by g o))
    (sum_by_more_le_part (counted g p) (λ x. length_at g x) o i 0 lt (λ x. cond-le (list_any (λ b. b == x) p) (length_at g x))))

shared_more : (g : Graph) (o p : List ℕ) (i a : ℕ) → i < length o → a ≡ get_or o i 0 → shared g (take (i + 1) o) p ≡ shared g (take i o) p + counted g p a
shared_more g o p i a lt is =
    subst (λ (x : ℕ). shared g (take (i + 1) o) p ≡ shared g (take i o) p + counted g p x) (sym is) (sum_by_more (counted g p) o i 0 lt)

pub shared_more_yes : (g : Graph) (o p : List ℕ) (i a sum long : ℕ) → (i < length o) × (a ≡ get_or o i 0) → true ≡ list_any (λ b. b == a) p → sum ≡ shared g (take i o) p → long ≡ length_at g a → sum + long ≡ shared g (take (i + 1) o) p
shared_more_yes g o p i a sum long at has is adds =
    let one : counted g p a ≡ length_at g a = cond-true (list_any (λ b. b == a) p) (length_at g a) 0 (sym has) in
    omega (arith, shared_more g o p i a at.0 at.1)

pub shared_more_no : (g : Graph) (o p : List ℕ) (i a sum : ℕ) → (i < length o) × (a ≡ get_or o i 0) → false ≡ list_any (λ b. b == a) p → sum ≡ shared g (take i o) p → sum ≡ shared g (take (i + 1) o) p
shared_more_no g o p i a sum at hasnt is =
    let none : counted g p a ≡ 0 = cond-false (list_any (λ b. b == a) p) (length_at g a) 0 (sym hasnt) in
    omega (arith, shared_more g o p i a at.0 at.1)
