-- Arcs of ends and lengths, and what a change of a length makes of them.
use Rattle.std.proofs.Common.{◌≡◌, ◌≢◌, ◌-◌, ◌<◌, ◌≤◌, ℕ, zero, suc, List, [], ◌∷◌, length, map, get_or, set, Option, Some, slice_get, All, refl, sym, ap, ◌∙◌, subst, arith, ⊎_elim}
use Rattle.std.proofs.lemmas.Bool.{cases_eq}
use Rattle.std.proofs.lemmas.List.{length-set, get_or-set_same, get_or-set_other, get_or_default}
use Rattle.std.proofs.lemmas.List.Elements.{All-set}
use Rattle.std.proofs.lemmas.Option.{get_or_from_slice_get}
use Rattle.road_model.specs.declared.rows.ArcRow.{ArcRow}
use Rattle.road_model.specs.Graph.{Graph, arc_at, turned, IsArc}
use Rattle.road_model.specs.Changes.{with_row}
use Rattle.road_model.specs.File.{IsWithinLimits}
use Rattle.forward_star.specs.Layout.{place_at, IsMeasured, arcs_of}
use Rattle.forward_star.proofs.Counts.{place_at-inside, place_at-apart}

pub length-arcs_of : (tails heads lengths : List ℕ) → length heads ≡ length tails → length lengths ≡ length tails → length (arcs_of tails heads lengths) ≡ length tails
length-arcs_of [] heads lengths many long = refl
length-arcs_of (t ∷ tails) [] lengths many long = absurd (omega arith)
length-arcs_of (t ∷ tails) (h ∷ heads) [] many long = absurd (omega arith)
length-arcs_of (t ∷ tails) (h ∷ heads) (l ∷ lengths) many long =
    let rest = length-arcs_of tails heads lengths (omega arith) (omega arith) in
    omega arith

pub arcs_of_rows : (rows : List ArcRow) → arcs_of (map (λ (r : ArcRow). r.tail) rows) (map (λ (r : ArcRow). r.head) rows) (map (λ (r : ArcRow). r.length) rows) ≡ rows
arcs_of_rows [] = refl
arcs_of_rows (r ∷ rows) = ap (λ (l : List ArcRow). r ∷ l) (arcs_of_rows rows)

-- the arcs turned round are those of the ends exchanged
pub map-turned_arcs : (tails heads lengths : List ℕ) → length heads ≡ length tails → length lengths ≡ length tails → arcs_of heads tails lengths ≡ map turned (arcs_of tails heads lengths)
map-turned_arcs [] [] lengths many long = refl
map-turned_arcs [] (h ∷ heads) lengths many long = absurd (omega arith)
map-turned_arcs (t ∷ tails) [] lengths many long = absurd (omega arith)
map-turned_arcs (t ∷ tails) (h ∷ heads) [] many long = absurd (omega arith)
map-turned_arcs (t ∷ tails) (h ∷ heads) (l ∷ lengths) many long =
    ap (λ (rows : List ArcRow). record { tail = h; head = t; length = l } ∷ rows) (map-turned_arcs tails heads lengths (omega arith) (omega arith))

pub slice_get-arcs_of : (tails heads lengths : List ℕ) (j : ℕ) → length heads ≡ length tails → length lengths ≡ length tails → j < length tails → slice_get (arcs_of tails heads lengths) j ≡ Some (record { tail = get_or tails j 0; head = get_or heads j 0; length = get_or lengths j 0 })
slice_get-arcs_of [] heads lengths j many long inside = absurd (omega arith)
slice_get-arcs_of (t ∷ tails) [] lengths j many long inside = absurd (omega arith)
slice_get-arcs_of (t ∷ tails) (h ∷ heads) [] j many long inside = absurd (omega arith)
slice_get-arcs_of (t ∷ tails) (h ∷ heads) (l ∷ lengths) zero many long inside = refl
slice_get-arcs_of (t ∷ tails) (h ∷ heads) (l ∷ lengths) (suc j) many long inside = slice_get-arcs_of tails heads lengths j (omega arith) (omega arith) (omega arith)

pub set-arcs_of : (tails heads lengths : List ℕ) (j l : ℕ) → length heads ≡ length tails → length lengths ≡ length tails → j < length tails → set (arcs_of tails heads lengths) j (record { tail = get_or tails j 0; head = get_or heads j 0; length = l }) ≡ arcs_of tails heads (set lengths j l)
set-arcs_of [] heads lengths j x many long inside = absurd (omega arith)
set-arcs_of (t ∷ tails) [] lengths j x many long inside = absurd (omega arith)
set-arcs_of (t ∷ tails) (h ∷ heads) [] j x many long inside = absurd (omega arith)
set-arcs_of (t ∷ tails) (h ∷ heads) (l ∷ lengths) zero x many long inside = refl
set-arcs_of (t ∷ tails) (h ∷ heads) (l ∷ lengths) (suc j) x many long inside =
    ap (λ (rows : List ArcRow). record { tail = t; head = h; length = l } ∷ rows) (set-arcs_of tails heads lengths j x (omega arith) (omega arith) (omega arith))

-- an arc's new length in the list of arcs
pub with_row-arcs_of : (n : ℕ) (tails heads lengths : List ℕ) (a l : ℕ) → length heads ≡ length tails → length lengths ≡ length tails → 1 ≤ a → a ≤ length tails → with_row (record { vertices = n; arcs = arcs_of tails heads lengths }) a l (arc_at (record { vertices = n; arcs = arcs_of tails heads lengths }) a) ≡ record { vertices = n; arcs = arcs_of tails heads (set lengths (a - 1) l) }
with_row-arcs_of n tails heads lengths zero l many long first last = absurd (omega arith)
with_row-arcs_of n tails heads lengths (suc k) l many long first last =
    let g : Graph = record { vertices = n; arcs = arcs_of tails heads lengths } in
    let one : suc k - 1 ≡ k = omega arith in
    let inside : k < length tails = omega arith in
    let set_here : set (arcs_of tails heads lengths) k (record { tail = get_or tails k 0; head = get_or heads k 0; length = l }) ≡ arcs_of tails heads (set lengths k l) = set-arcs_of tails heads lengths k l many long inside in
    ap (λ (o : Option ArcRow). with_row g (suc k) l o) (slice_get-arcs_of tails heads lengths k many long inside)
    ∙ ap (λ (i : ℕ). record { vertices = n; arcs = set (arcs_of tails heads lengths) i (record { tail = get_or tails k 0; head = get_or heads k 0; length = l }) }) one
    ∙ ap (λ (rows : List ArcRow). record { vertices = n; arcs = rows }) set_here
    ∙ ap (λ (i : ℕ). record { vertices = n; arcs = arcs_of tails heads (set lengths i l) }) (sym one)

pub IsMeasured-set : (ends lengths laid : List ℕ) (j l : ℕ) → length lengths ≡ length ends → j < length ends → IsMeasured ends lengths laid → IsMeasured ends (set lengths j l) (set laid (place_at ends j) l)
IsMeasured-set ends lengths laid j l long inside m =
    record {
      long = length-set laid (place_at ends j) l ∙ m.long;
      measured = (λ i hi. ⊎_elim
          (λ (here : j ≡ i).
          let P : ℕ → Type 0 = λ k. get_or (set laid (place_at ends j) l) (place_at ends k) 0 ≡ get_or (set lengths j l) k 0 in
          let within = place_at-inside ends j inside in
          subst P here (get_or-set_same laid (place_at ends j) l 0 (omega (arith, m.long)) ∙ sym (get_or-set_same lengths j l 0 (omega arith))))
          (λ (other : j ≢ i).
          let apart : place_at ends i ≢ place_at ends j = place_at-apart ends i j hi inside (λ e. other (sym e)) in
          get_or-set_other laid (place_at ends j) (place_at ends i) l 0 apart
          ∙ m.measured i hi
          ∙ sym (get_or-set_other lengths j i l 0 (λ e. other (sym e))))
          (cases_eq j i));
    }

pub IsWithinLimits-set : (n : ℕ) (tails heads lengths : List ℕ) (j l : ℕ) → length heads ≡ length tails → length lengths ≡ length tails → j < length tails → 1 ≤ l → l < 4294967296 → IsWithinLimits (record { vertices = n; arcs = arcs_of tails heads lengths }) → IsWithinLimits (record { vertices = n; arcs = arcs_of tails heads (set lengths j l) })
IsWithinLimits-set n tails heads lengths j l many long inside positive short h =
    let rows : List ArcRow = arcs_of tails heads lengths in
    let r : ArcRow = record { tail = get_or tails j 0; head = get_or heads j 0; length = get_or lengths j 0 } in
    let new : ArcRow = record { tail = get_or tails j 0; head = get_or heads j 0; length = l } in
    let count : length rows ≡ length tails = length-arcs_of tails heads lengths many long in
    let read : get_or rows j r ≡ r = get_or_from_slice_get rows j r r (slice_get-arcs_of tails heads lengths j many long inside) in
    let was : IsArc n r = subst (λ (x : ArcRow). IsArc n x) read (h.is_graph j r (omega arith)) in
    let is : IsArc n new = record { tail = was.tail; head = was.head; positive = positive } in
    let all : All (IsArc n) (set rows j new) = All-set (IsArc n) rows j new is h.is_graph in
    let short_all : All (λ (x : ArcRow). x.length < 4294967296) (set rows j new) = All-set (λ (x : ArcRow). x.length < 4294967296) rows j new short h.short in
    let same : set rows j new ≡ arcs_of tails heads (set lengths j l) = set-arcs_of tails heads lengths j l many long inside in
    let few : length (set rows j new) ≤ 67108864 = omega (arith, length-set rows j new, h.few_arcs) in
    subst (λ (x : List ArcRow). IsWithinLimits (record { vertices = n; arcs = x })) same
    (record { few_vertices = h.few_vertices; few_arcs = few; is_graph = all; short = short_all })

-- the ends of the arcs of a graph are among its vertices
pub tails_inside : (n : ℕ) (tails heads lengths : List ℕ) → length heads ≡ length tails → length lengths ≡ length tails → All (IsArc n) (arcs_of tails heads lengths) → All (λ (v : ℕ). v ≤ n) tails
tails_inside n tails heads lengths many long sound k d inside =
    let rows : List ArcRow = arcs_of tails heads lengths in
    let r : ArcRow = record { tail = get_or tails k 0; head = get_or heads k 0; length = get_or lengths k 0 } in
    let count : length rows ≡ length tails = length-arcs_of tails heads lengths many long in
    let read : get_or rows k r ≡ r = get_or_from_slice_get rows k r r (slice_get-arcs_of tails heads lengths k many long inside) in
    let was : IsArc n r = subst (λ (x : ArcRow). IsArc n x) read (sound k r (omega arith)) in
    let same : get_or tails k d ≡ get_or tails k 0 = get_or_default tails k d 0 inside in
    omega (arith, was.tail.last)

pub heads_inside : (n : ℕ) (tails heads lengths : List ℕ) → length heads ≡ length tails → length lengths ≡ length tails → All (IsArc n) (arcs_of tails heads lengths) → All (λ (v : ℕ). v ≤ n) heads
heads_inside n tails heads lengths many long sound k d inside =
    let rows : List ArcRow = arcs_of tails heads lengths in
    let r : ArcRow = record { tail = get_or tails k 0; head = get_or heads k 0; length = get_or lengths k 0 } in
    let count : length rows ≡ length tails = length-arcs_of tails heads lengths many long in
    let read : get_or rows k r ≡ r = get_or_from_slice_get rows k r r (slice_get-arcs_of tails heads lengths k many long (omega arith)) in
    let was : IsArc n r = subst (λ (x : ArcRow). IsArc n x) read (sound k r (omega arith)) in
    let same : get_or heads k d ≡ get_or heads k 0 = get_or_default heads k d 0 inside in
    omega (arith, was.head.last)
