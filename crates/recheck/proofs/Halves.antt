-- Rows that rise, looked through by halves.
use Rattle.std.proofs.Common.{◌≡◌, ◌≢◌, ◌+◌, ◌-◌, ◌<◌, ◌≤◌, ◌==◌, ℕ, zero, suc, Bool, true, false, cond, List, [], ◌∷◌, length, map, slice_index, get_or, take, drop, refl, sym, ap, ◌∙◌, arith, subst, ⊎_elim}
use Rattle.std.specs.Prelude.{Option, Some, None, slice_get}
use Rattle.std.specs.Ordering.{nat_cmp, is_eq}
use Rattle.std.proofs.lemmas.Bool.{cases_lt}
use Rattle.std.proofs.lemmas.Bool.Decides.{nat_tests}
use Rattle.std.proofs.lemmas.List.{get_or-map, length-map, drop_more}
use Rattle.std.proofs.lemmas.Option.{slice_get-get_or}
use Rattle.certificate_text.specs.declared.certificate.BlockRow.{BlockRow}
use Rattle.recheck.specs.Rows.{row_of}
use Rattle.recheck.specs.Standing.{IsRising}
use Rattle.recheck.proofs.RowLookups.{row_of_first, row_of_later, rising_tail}

abbrev vertices_of : List BlockRow → List ℕ
vertices_of rows = map (λ (r : BlockRow). r.vertex) rows

pub rising_head : (r : BlockRow) (rs : List BlockRow) (m : ℕ) (x : BlockRow) → IsRising (r ∷ rs) → slice_get rs m ≡ Some x → r.vertex < x.vertex
rising_head r [] m x h at = cc
rising_head r (y ∷ rs) zero x h at =
    let first : r.vertex < y.vertex = h 0 (omega arith) in
    let same : y ≡ x = cc in
    subst (λ (z : BlockRow). r.vertex < z.vertex) same first
rising_head r (y ∷ rs) (suc m) x h at =
    let first : r.vertex < y.vertex = h 0 (omega arith) in
    let rest = rising_head y rs m x (rising_tail r (y ∷ rs) h) at in
    omega arith

pub row_at : (rows : List BlockRow) (m : ℕ) (x : BlockRow) → IsRising rows → slice_get rows m ≡ Some x → row_of rows x.vertex ≡ Some x
row_at [] m x h at = cc
row_at (r ∷ rs) zero x h at =
    let same : r ≡ x = cc in
    row_of_first r rs x.vertex (ap (λ (z : BlockRow). z.vertex) same) ∙ ap (λ (z : BlockRow). Some z) same
row_at (r ∷ rs) (suc m) x h at =
    let above : r.vertex < x.vertex = rising_head r rs m x h at in
    row_of_later r rs x.vertex (λ e. absurd (omega arith)) ∙ row_at rs m x (rising_tail r rs h) at

pub none_up_to : (rows : List BlockRow) (m v : ℕ) (x : BlockRow) → IsRising rows → slice_get rows m ≡ Some x → x.vertex < v → row_of (take (suc m) rows) v ≡ None
none_up_to [] m v x h at low = cc
none_up_to (r ∷ rs) zero v x h at low =
    let same : r.vertex ≡ x.vertex = ap (λ (z : BlockRow). z.vertex) (let e : r ≡ x = cc in e) in
    row_of_later r [] v (λ e. absurd (omega arith))
none_up_to (r ∷ rs) (suc m) v x h at low =
    let above : r.vertex < x.vertex = rising_head r rs m x h at in
    row_of_later r (take (suc m) rs) v (λ e. absurd (omega arith)) ∙ none_up_to rs m v x (rising_tail r rs h) at low

pub none_from_head : (rows : List BlockRow) (v : ℕ) (x : BlockRow) → IsRising rows → slice_get rows 0 ≡ Some x → v < x.vertex → row_of rows v ≡ None
none_from_head [] v x h at low = refl
none_from_head (r ∷ []) v x h at low =
    let same : r.vertex ≡ x.vertex = ap (λ (z : BlockRow). z.vertex) (let e : r ≡ x = cc in e) in
    row_of_later r [] v (λ e. absurd (omega arith))
none_from_head (r ∷ y ∷ rs) v x h at low =
    let same : r.vertex ≡ x.vertex = ap (λ (z : BlockRow). z.vertex) (let e : r ≡ x = cc in e) in
    let first : r.vertex < y.vertex = h 0 (omega arith) in
    row_of_later r (y ∷ rs) v (λ e. absurd (omega arith)) ∙ none_from_head (y ∷ rs) v y (rising_tail r (y ∷ rs) h) refl (omega arith)

pub none_from : (rows : List BlockRow) (m v : ℕ) (x : BlockRow) → IsRising rows → slice_get rows m ≡ Some x → v < x.vertex → row_of (drop m rows) v ≡ None
none_from rows zero v x h at low = none_from_head rows v x h at low
none_from [] (suc m) v x h at low = refl
none_from (r ∷ rs) (suc m) v x h at low = none_from rs m v x (rising_tail r rs h) at low

pub row_after : (rows : List BlockRow) (low v : ℕ) → row_of (take low rows) v ≡ None → row_of rows v ≡ row_of (drop low rows) v
row_after rows zero v h = refl
row_after [] (suc low) v h = refl
row_after (r ∷ rs) (suc low) v h =
    elim (r.vertex == v) as (λ (b : Bool). cond b (Some r) (row_of (take low rs) v) ≡ None → cond b (Some r) (row_of rs v) ≡ row_of (drop low rs) v)
    [ true ↦ (λ e. cc) | false ↦ (λ e. row_after rs low v e) ]
    h

-- the same for a place of the list
pub row_in_place : (rows : List BlockRow) (m v : ℕ) (d : BlockRow) → IsRising rows → m < length rows → (get_or rows m d).vertex ≡ v → row_of rows v ≡ Some (get_or rows m d)
row_in_place rows m v d h inside same =
    subst (λ (n : ℕ). row_of rows n ≡ Some (get_or rows m d)) same (row_at rows m (get_or rows m d) h (slice_get-get_or rows m d inside))

pub none_after : (rows : List BlockRow) (m v : ℕ) (d : BlockRow) → IsRising rows → m < length rows → (get_or rows m d).vertex < v → row_of (take (m + 1) rows) v ≡ None
none_after rows m v d h inside low =
    let same : suc m ≡ m + 1 = omega arith in
    subst (λ (n : ℕ). row_of (take n rows) v ≡ None) same (none_up_to rows m v (get_or rows m d) h (slice_get-get_or rows m d inside) low)

pub none_before : (rows : List BlockRow) (m v : ℕ) (d : BlockRow) → IsRising rows → m < length rows → (get_or rows m d).vertex ≢ v → v ≤ (get_or rows m d).vertex → row_of (drop m rows) v ≡ None
none_before rows m v d h inside other le = none_from rows m v (get_or rows m d) h (slice_get-get_or rows m d inside) (omega arith)

pub none_both : (rows : List BlockRow) (low high v : ℕ) → high ≡ low → row_of (take low rows) v ≡ None → row_of (drop high rows) v ≡ None → None ≡ row_of rows v
none_both rows low high v same before later_line =
    sym (row_after rows low v before ∙ subst (λ (n : ℕ). row_of (drop n rows) v ≡ None) same later_line)

-- the vertices rise at one place more, or don't
pub rising_more : (rows : List BlockRow) (i : ℕ) (d : BlockRow) → 1 ≤ i → i < length rows → (get_or rows (i - 1) d).vertex < (get_or rows i d).vertex → ((k : ℕ) → k + 1 < i → slice_index (vertices_of rows) k < slice_index (vertices_of rows) (k + 1)) → (k : ℕ) → k + 1 < i + 1 → slice_index (vertices_of rows) k < slice_index (vertices_of rows) (k + 1)
rising_more rows i d first inside rise before k low =
    ⊎_elim
    (λ (lt : k + 1 < i). before k lt)
    (λ (ge : i ≤ k + 1).
    let here : k ≡ i - 1 = omega arith in
    let next : k + 1 ≡ i = omega arith in
    let one : slice_index (vertices_of rows) k ≡ (get_or rows (i - 1) d).vertex = get_or-map (λ (r : BlockRow). r.vertex) rows k d 0 (omega arith) ∙ ap (λ (n : ℕ). (get_or rows n d).vertex) here in
    let two : slice_index (vertices_of rows) (k + 1) ≡ (get_or rows i d).vertex = get_or-map (λ (r : BlockRow). r.vertex) rows (k + 1) d 0 (omega arith) ∙ ap (λ (n : ℕ). (get_or rows n d).vertex) next in
    omega arith)
    (cases_lt (k + 1) i)

pub not_rising : (rows : List BlockRow) (i : ℕ) (d : BlockRow) → 1 ≤ i → i < length rows → (get_or rows i d).vertex ≤ (get_or rows (i - 1) d).vertex → IsRising rows → ⊥
not_rising rows i d first inside low h =
    let next : (i - 1) + 1 ≡ i = omega arith in
    let one : slice_index (vertices_of rows) (i - 1) ≡ (get_or rows (i - 1) d).vertex = get_or-map (λ (r : BlockRow). r.vertex) rows (i - 1) d 0 (omega arith) in
    let two : slice_index (vertices_of rows) ((i - 1) + 1) ≡ (get_or rows i d).vertex = get_or-map (λ (r : BlockRow). r.vertex) rows ((i - 1) + 1) d 0 (omega arith) ∙ ap (λ (n : ℕ). (get_or rows n d).vertex) next in
    let rise = h (i - 1) (simp length-map (omega arith)) in
    omega arith

eq_by_nat_cmp : (x y : ℕ) → is_eq (nat_cmp x y) ≡ (x == y)
eq_by_nat_cmp x y = grind (arith, nat_tests)

-- a map of the first rows, one row more to the front
pub first_row_more : (rows : List BlockRow) (i v : ℕ) (d : BlockRow) (was now : Option BlockRow) → 1 ≤ i → i ≤ length rows → now ≡ cond (is_eq (nat_cmp (get_or rows (i - 1) d).vertex v)) (Some (get_or rows (i - 1) d)) was → was ≡ row_of (drop i rows) v → now ≡ row_of (drop (i - 1) rows) v
first_row_more rows i v d was now first inside is before =
    let next : (i - 1) + 1 ≡ i = omega arith in
    let front : drop (i - 1) rows ≡ get_or rows (i - 1) d ∷ drop i rows = drop_more rows (i - 1) d (omega arith) ∙ ap (λ (n : ℕ). get_or rows (i - 1) d ∷ drop n rows) next in
    is ∙ ap (λ (o : Option BlockRow). cond (is_eq (nat_cmp (get_or rows (i - 1) d).vertex v)) (Some (get_or rows (i - 1) d)) o) before
    ∙ ap (λ (b : Bool). cond b (Some (get_or rows (i - 1) d)) (row_of (drop i rows) v)) (eq_by_nat_cmp (get_or rows (i - 1) d).vertex v)
    ∙ sym (ap (λ (l : List BlockRow). row_of l v) front)
