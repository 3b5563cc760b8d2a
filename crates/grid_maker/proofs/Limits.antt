-- A grid is a graph within the limits.
use Rattle.std.proofs.Common.{◌≡◌, ℕ, zero, suc, ◌+◌, ◌*◌, ◌<◌, ◌≤◌, List, [], ◌∷◌, ◌++◌, length, All, refl, ap, subst, ⊎_elim, length-append, lit≤, arith}
use Rattle.std.proofs.lemmas.Bool.{cases_lt}
use Rattle.std.proofs.lemmas.Bool.Decides.{nat_tests}
use Rattle.std.proofs.lemmas.List.Elements.{All-nil, All-cons, All-head, All-tail, All-append, All-weaker}
use Rattle.std.proofs.lemmas.Nat.{mul-le, mul-add-lt}
use Rattle.std.specs.List.{flat_map, range_with_len}
use Rattle.rand_xoshiro.specs.SplitMix64.{mix_u64}
use Rattle.road_model.specs.declared.rows.ArcRow.{ArcRow}
use Rattle.road_model.specs.Graph.{IsArc, IsVertex}
use Rattle.road_model.specs.File.{IsWithinLimits}
use Rattle.grid_maker.specs.Grid.{IsSide, both_ways, cell_ends, grid, grid_ends, lower_ends, right_ends, row_ends, row_of, rows_from, corner_at}

record AreEnds (n : ℕ) (ends : ℕ × ℕ) : Type 0 where
  tail : IsVertex n ends.0
  head : IsVertex n ends.1

-- at most k pieces of ends within 1 to n
record Bounded (n k : ℕ) (ends : List (ℕ × ℕ)) : Type 0 where
  few : length ends ≤ k
  within : All (AreEnds n) ends

bounded_append : (n j k m : ℕ) (a b : List (ℕ × ℕ)) → j + k ≤ m → Bounded n j a → Bounded n k b → Bounded n m (a ++ b)
bounded_append n j k m a b fits first then = record {
  few = omega (arith, length-append a b, first.few, then.few);
  within = All-append (AreEnds n) a b first.within then.within;
}

bounded_none : (n k : ℕ) → Bounded n k []
bounded_none n k = record { few = omega arith; within = All-nil (AreEnds n) }

bounded_pieces : (n k : ℕ) (f : ℕ → List (ℕ × ℕ)) (first count end : ℕ) → first + count ≤ end → ((i : ℕ) → i < end → Bounded n k (f i)) → Bounded n (k * count) (flat_map f (range_with_len first count))
bounded_pieces n k f first zero end fits each = bounded_none n (k * zero)
bounded_pieces n k f first (suc count) end fits each =
    let here : first < end = omega arith in
    let rest : first + 1 + count ≤ end = omega arith in
    let sum : k + k * count ≤ k * suc count = omega arith in
    bounded_append n k (k * count) (k * suc count) (f first) (flat_map f (range_with_len (first + 1) count)) sum (each first here) (bounded_pieces n k f (first + 1) count end rest each)

vertex_within : (w h r c : ℕ) → r < h → c < w → IsVertex (w * h) (corner_at w r c)
vertex_within w h r c in_row in_column = record { first = omega arith; last = omega (arith, mul-add-lt r w c h in_row in_column) }

bounded_street : (n u v : ℕ) → IsVertex n u → IsVertex n v → Bounded n 2 (both_ways u v)
bounded_street n u v from to = record {
  few = lit≤ tt;
  within =
      let there : AreEnds n (u, v) = record { tail = from; head = to } in
      let back : AreEnds n (v, u) = record { tail = to; head = from } in
      All-cons (AreEnds n) (u, v) ((v, u) ∷ []) there (All-cons (AreEnds n) (v, u) [] back (All-nil (AreEnds n)));
}

bounded_right : (w h r c : ℕ) → r < h → c < w → Bounded (w * h) 2 (right_ends w r c)
bounded_right w h r c in_row in_column =
    ⊎_elim
    (λ (inside : c + 1 < w).
    let is : both_ways (corner_at w r c) (corner_at w r (c + 1)) ≡ right_ends w r c = grind (arith, nat_tests) in
    subst (Bounded (w * h) 2) is (bounded_street (w * h) (corner_at w r c) (corner_at w r (c + 1)) (vertex_within w h r c in_row in_column) (vertex_within w h r (c + 1) in_row inside)))
    (λ (outside : w ≤ c + 1).
    let is : [] ≡ right_ends w r c = grind (arith, nat_tests) in
    subst (Bounded (w * h) 2) is (bounded_none (w * h) 2))
    (cases_lt (c + 1) w)

bounded_lower : (w h r c : ℕ) → r < h → c < w → Bounded (w * h) 2 (lower_ends w h r c)
bounded_lower w h r c in_row in_column =
    ⊎_elim
    (λ (inside : r + 1 < h).
    let is : both_ways (corner_at w r c) (corner_at w (r + 1) c) ≡ lower_ends w h r c = grind (arith, nat_tests) in
    subst (Bounded (w * h) 2) is (bounded_street (w * h) (corner_at w r c) (corner_at w (r + 1) c) (vertex_within w h r c in_row in_column) (vertex_within w h (r + 1) c inside in_column)))
    (λ (outside : h ≤ r + 1).
    let is : [] ≡ lower_ends w h r c = grind (arith, nat_tests) in
    subst (Bounded (w * h) 2) is (bounded_none (w * h) 2))
    (cases_lt (r + 1) h)

bounded_cell : (w h r : ℕ) → r < h → (c : ℕ) → c < w → Bounded (w * h) 4 (cell_ends w h r c)
bounded_cell w h r in_row c in_column =
    bounded_append (w * h) 2 2 4 (right_ends w r c) (lower_ends w h r c) (lit≤ tt) (bounded_right w h r c in_row in_column) (bounded_lower w h r c in_row in_column)

bounded_row : (w h r : ℕ) → r < h → Bounded (w * h) (4 * w) (row_ends w h r)
unfolding row_ends
bounded_row w h r in_row = bounded_pieces (w * h) 4 (cell_ends w h r) 0 w w (omega arith) (bounded_cell w h r in_row)

bounded_grid : (w h : ℕ) → Bounded (w * h) (4 * w * h) (grid_ends w h)
unfolding grid_ends
bounded_grid w h = bounded_pieces (w * h) (4 * w) (row_ends w h) 0 h h (omega arith) (bounded_row w h)

length-rows_from : (x : ℕ) (ends : List (ℕ × ℕ)) → length (rows_from x ends) ≡ length ends
unfolding rows_from
length-rows_from x [] = refl
length-rows_from x (e ∷ ends) = ap suc (length-rows_from (mix_u64 x).1 ends)

-- an arc of the grid
record IsStreet (n : ℕ) (r : ArcRow) : Type 0 where
  arc : IsArc n r
  short : r.length ≤ 1000

abbrev IsShort : ArcRow → Type 0
IsShort r = r.length < 4294967296

street_row : (n : ℕ) (e : ℕ × ℕ) (word : ℕ) → AreEnds n e → IsStreet n (row_of e word)
street_row n e word ends = record {
  arc = record { tail = ends.tail; head = ends.head; positive = omega arith };
  short = omega arith;
}

streets : (n x : ℕ) (ends : List (ℕ × ℕ)) → All (AreEnds n) ends → All (IsStreet n) (rows_from x ends)
unfolding rows_from
streets n x [] within = All-nil (IsStreet n)
streets n x (e ∷ ends) within =
    All-cons (IsStreet n) (row_of e (mix_u64 x).0) (rows_from (mix_u64 x).1 ends)
    (street_row n e (mix_u64 x).0 (All-head (AreEnds n) e ends within))
    (streets n (mix_u64 x).1 ends (All-tail (AreEnds n) e ends within))

pub within_limits : (x w h : ℕ) → IsSide w → IsSide h → IsWithinLimits (grid x w h)
unfolding grid
within_limits x w h wide high =
    let area = mul-le w h 4096 4096 wide.last high.last in
    let all = streets (w * h) x (grid_ends w h) (bounded_grid w h).within in
    record {
      few_vertices = omega (arith, area);
      few_arcs = omega (arith, area, length-rows_from x (grid_ends w h), (bounded_grid w h).few);
      is_graph = All-weaker (IsStreet (w * h)) (IsArc (w * h)) (λ (r : ArcRow) (street : IsStreet (w * h) r). street.arc) (rows_from x (grid_ends w h)) all;
      short =
          All-weaker (IsStreet (w * h)) IsShort (λ (r : ArcRow) (street : IsStreet (w * h) r). omega (arith, street.short)) (rows_from x (grid_ends w h)) all;
    }
