-- The links of one direction as a graph: the arcs out of a vertex stand in one run.
use Rattle.std.proofs.Common.{◌≡◌, ◌+◌, ◌-◌, ◌<◌, ◌≤◌, ℕ, zero, suc, Bool, true, false, cond, eqb, List, [], ◌∷◌, Some, None, length, slice_index, slice_get, get_or, refl, sym, ap, ◌∙◌, subst, arith, eq-eqb, ⊎_elim, length-append}
use Rattle.std.specs.List.{All, Contains, flat_map, range_with_len}
use Rattle.std.proofs.lemmas.Bool.{cases_lt, cases_Bool, eqb-true}
use Rattle.std.proofs.lemmas.List.{get_or_append_left, get_or-append_right, get_or-map, length-map}
use Rattle.std.proofs.lemmas.List.Elements.{Contains-append_left, Contains-append_right}
use Rattle.std.proofs.lemmas.List.FromFn.{length-map-range_with_len, get_or-map-range_with_len}
use Rattle.std.proofs.lemmas.Option.{slice_get-get_or, slice_get_past, slice_get_within}
use Rattle.road_model.specs.declared.rows.ArcRow.{ArcRow}
use Rattle.road_model.specs.declared.network.Step.{Step}
use Rattle.road_model.specs.Graph.{rows_of, arc_at, step_at, step_of, steps_from, turned, reversed, IsVertex, IsArc, IsGraph}
use Rattle.hierarchy_build.specs.declared.links.Links.{Links}
use Rattle.hierarchy_build.specs.declared.shape.Shape.{Shape}
use Rattle.hierarchy_build.specs.Parts.{Parts}
use Rattle.hierarchy_build.specs.Runs.{InSpan}
use Rattle.hierarchy_build.specs.Links.{AreLinks}
use Rattle.hierarchy_build.specs.Own.{link_row, run_rows, link_rows, links_graph, rising_graph, falling_graph, own_graph, IsOwn, AreAlong, Rises}
use Rattle.hierarchy_build.proofs.Named.{named}
use Rattle.hierarchy_build.proofs.Own.{rows_of_runs}

-- the run that a place stands in
record HasRun (n : ℕ) (first : List ℕ) (k : ℕ) : Type 0 where
  rank : ℕ
  inside : rank < n
  span : InSpan first rank k

run_of : (n : ℕ) (first : List ℕ) (k : ℕ) → slice_index first 0 ≤ k → k < slice_index first n → HasRun n first k
run_of zero first k low high = absurd (omega arith)
run_of (suc n) first k low high =
    ⊎_elim
    (λ (early : k < slice_index first n).
    let r : HasRun n first k = run_of n first k low early in
    let under = r.inside in
    let wider : HasRun (suc n) first k = record { rank = r.rank; inside = omega arith; span = r.span } in wider)
    (λ (late : slice_index first n ≤ k).
    let one : suc n ≡ n + 1 = omega arith in
    let last : HasRun (suc n) first k = record { rank = n; inside = omega arith; span = record { low = late; high = subst (λ (x : ℕ). k < slice_index first x) one high } } in last)
    (cases_lt k (slice_index first n))

-- how many arcs the runs have, and the arc at each place
length-runs : (n : ℕ) (order : List ℕ) (l : Links) (many from : ℕ) → ((v w : ℕ) → v ≤ w → w ≤ n → slice_index l.first v ≤ slice_index l.first w) → from + many ≤ n → slice_index l.first from + length (flat_map (run_rows order l) (range_with_len from many)) ≡ slice_index l.first (from + many)
length-runs n order l zero from rising low =
    let end : slice_index l.first (from + 0) ≡ slice_index l.first from = ap (λ (x : ℕ). slice_index l.first x) (let e : from + 0 ≡ from = omega arith in e) in
    omega arith
length-runs n order l (suc many) from rising low =
    let rest = length-runs n order l many (from + 1) rising (omega arith) in
    let both = length-append (run_rows order l from) (flat_map (run_rows order l) (range_with_len (from + 1) many)) in
    let here = length-map-range_with_len (link_row order l from) (slice_index l.first from) (slice_index l.first (from + 1) - slice_index l.first from) in
    let up = rising from (from + 1) (omega arith) (omega arith) in
    let end : slice_index l.first (from + 1 + many) ≡ slice_index l.first (from + suc many) = ap (λ (x : ℕ). slice_index l.first x) (let e : from + 1 + many ≡ from + suc many = omega arith in e) in
    omega arith

row_in_run : (order : List ℕ) (l : Links) (a k : ℕ) (d : ArcRow) → InSpan l.first a k → get_or (run_rows order l a) (k - slice_index l.first a) d ≡ link_row order l a k
row_in_run order l a k d span =
    let low = span.low in
    let high = span.high in
    get_or-map-range_with_len (link_row order l a) (slice_index l.first a) (slice_index l.first (a + 1) - slice_index l.first a) (k - slice_index l.first a) k d (omega arith) (omega arith)

row_in_runs : (n : ℕ) (order : List ℕ) (l : Links) (many from a k : ℕ) (d : ArcRow) → ((v w : ℕ) → v ≤ w → w ≤ n → slice_index l.first v ≤ slice_index l.first w) → from + many ≤ n → from ≤ a → a < from + many → InSpan l.first a k → get_or (flat_map (run_rows order l) (range_with_len from many)) (k - slice_index l.first from) d ≡ link_row order l a k
row_in_runs n order l zero from a k d rising low late early span = absurd (omega arith)
row_in_runs n order l (suc many) from a k d rising low late early span =
    let here = length-map-range_with_len (link_row order l from) (slice_index l.first from) (slice_index l.first (from + 1) - slice_index l.first from) in
    let up = rising from (from + 1) (omega arith) (omega arith) in
    let s_low = span.low in
    let s_high = span.high in
    ⊎_elim
    (λ (later : from < a).
    let over = rising (from + 1) a (omega arith) (omega arith) in
    let left : k - slice_index l.first from - (slice_index l.first (from + 1) - slice_index l.first from) ≡ k - slice_index l.first (from + 1) = omega arith in
    get_or-append_right (run_rows order l from) (flat_map (run_rows order l) (range_with_len (from + 1) many)) (slice_index l.first (from + 1) - slice_index l.first from) (k - slice_index l.first from) d here (omega arith)
    ∙ ap (λ (i : ℕ). get_or (flat_map (run_rows order l) (range_with_len (from + 1) many)) i d) left
    ∙ row_in_runs n order l many (from + 1) a k d rising (omega arith) (omega arith) (omega arith) span)
    (λ (first : a ≤ from).
    let same : a ≡ from = omega arith in
    let at : InSpan l.first from k = subst (λ (x : ℕ). InSpan l.first x k) same span in
    let at_low = at.low in
    let at_high = at.high in
    get_or_append_left (run_rows order l from) (flat_map (run_rows order l) (range_with_len (from + 1) many)) d (k - slice_index l.first from) (omega arith)
    ∙ row_in_run order l from k d at
    ∙ ap (λ (x : ℕ). link_row order l x k) (sym same))
    (cases_lt from a)

length-link_rows : (n : ℕ) (order first head : List ℕ) (l : Links) → length order ≡ n → AreLinks n first head l → length (link_rows order l) ≡ length l.head
length-link_rows n order first head l size links =
    let all = length-runs (length order) order l (length order) 0 (λ v w le low. links.rising v w le (omega arith)) (omega arith) in
    let begin = links.begin in
    let end : slice_index l.first (length order) ≡ length l.head = ap (λ (x : ℕ). slice_index l.first x) size ∙ links.end in
    let whole : slice_index l.first (0 + length order) ≡ slice_index l.first (length order) = ap (λ (x : ℕ). slice_index l.first x) (let e : 0 + length order ≡ length order = omega arith in e) in
    omega arith

pub row_at_place : (n : ℕ) (order first head : List ℕ) (l : Links) (a k : ℕ) → length order ≡ n → AreLinks n first head l → a < n → InSpan l.first a k → slice_get (link_rows order l) k ≡ Some (link_row order l a k)
row_at_place n order first head l a k size links inside span =
    let begin = links.begin in
    let high = span.high in
    let end = links.end in
    let last = links.rising (a + 1) n (omega arith) (omega arith) in
    let long = length-link_rows n order first head l size links in
    let read = row_in_runs (length order) order l (length order) 0 a k (link_row order l a k) (λ v w le low. links.rising v w le (omega arith)) (omega arith) (omega arith) (omega arith) span in
    let place : k - slice_index l.first 0 ≡ k = omega arith in
    let there : k < length (link_rows order l) = omega arith in
    slice_get-get_or (link_rows order l) k (link_row order l a k) there
    ∙ ap (λ (r : ArcRow). Some r) (ap (λ (i : ℕ). get_or (link_rows order l) i (link_row order l a k)) (sym place) ∙ read)

-- which rank's link a row is
record IsRowOf (n : ℕ) (order : List ℕ) (l : Links) (k : ℕ) (r : ArcRow) : Type 0 where
  rank : ℕ
  inside : rank < n
  span : InSpan l.first rank k
  is : r ≡ link_row order l rank k

some_is : (r s : ArcRow) → Some r ≡ Some s → r ≡ s
some_is r s e = let o : Some r ≡ Some s = e in cc

row_of_rank : (n : ℕ) (order first head : List ℕ) (l : Links) (k : ℕ) (r : ArcRow) → length order ≡ n → AreLinks n first head l → slice_get (link_rows order l) k ≡ Some r → IsRowOf n order l k r
row_of_rank n order first head l k r size links is =
    let there = slice_get_within (link_rows order l) k r is in
    let long = length-link_rows n order first head l size links in
    let begin = links.begin in
    let end = links.end in
    let run : HasRun n l.first k = run_of n l.first k (omega arith) (omega arith) in
    let at = row_at_place n order first head l run.rank k size links run.inside run.span in
    record { rank = run.rank; inside = run.inside; span = run.span; is = some_is r (link_row order l run.rank k) (sym is ∙ at) }

-- the arcs out of v stand at the places from b to e
record IsRunOf (rows : List ArcRow) (v b e : ℕ) : Type 0 where
  late : (k : ℕ) (r : ArcRow) → slice_get rows k ≡ Some r → r.tail ≡ v → b ≤ k
  early : (k : ℕ) (r : ArcRow) → slice_get rows k ≡ Some r → r.tail ≡ v → k < e
  all : (k : ℕ) (r : ArcRow) → slice_get rows k ≡ Some r → b ≤ k → k < e → r.tail ≡ v

IsRunOf-rest : (x : ArcRow) (rows : List ArcRow) (v b e : ℕ) → IsRunOf (x ∷ rows) v b e → IsRunOf rows v (b - 1) (e - 1)
IsRunOf-rest x rows v b e h =
    record {
      late = (λ k r is tail. let low = h.late (suc k) r is tail in omega arith);
      early = (λ k r is tail. let low = h.early (suc k) r is tail in omega arith);
      all = (λ k r is low high. h.all (suc k) r is (omega arith) (omega arith));
    }

steps_at : (x : ArcRow) (rows : List ArcRow) (v c i : ℕ) (b : Bool) → eqb x.tail v ≡ b → slice_get (steps_from v c (x ∷ rows)) i ≡ slice_get (cond b (step_of c x ∷ steps_from v (c + 1) rows) (steps_from v (c + 1) rows)) i
steps_at x rows v c i b is = ap (λ (t : Bool). slice_get (cond t (step_of c x ∷ steps_from v (c + 1) rows) (steps_from v (c + 1) rows)) i) is

at_start : (x : ArcRow) (rows : List ArcRow) (v b e : ℕ) → IsRunOf (x ∷ rows) v b e → eqb x.tail v ≡ true → (b ≡ 0) × (0 < e)
at_start x rows v b e h is =
    let tail : x.tail ≡ v = eqb-true x.tail v is in
    let late = h.late 0 x refl tail in
    let early = h.early 0 x refl tail in
    (omega arith, early)

not_at_start : (x : ArcRow) (rows : List ArcRow) (v b e : ℕ) → IsRunOf (x ∷ rows) v b e → eqb x.tail v ≡ false → b < e → 1 ≤ b
not_at_start x rows v b e h other some =
    ⊎_elim
    (λ (begin : b < 1).
    let tail : x.tail ≡ v = h.all 0 x refl (omega arith) (omega arith) in
    let is : eqb x.tail v ≡ true = eq-eqb x.tail v tail in
    let r : 1 ≤ b = absurd (let e : false ≡ true = sym other ∙ is in cc) in r)
    (λ (later : 1 ≤ b). later)
    (cases_lt b 1)

-- where the first arc leads out of v, it is the first such, and the others are those of the rest
first_found : (x r : ArcRow) (rows : List ArcRow) (steps : List Step) (c b i : ℕ) → b ≡ 0 → slice_get (x ∷ rows) (b + i) ≡ Some r → ((j : ℕ) → i ≡ suc j → slice_get steps j ≡ Some (step_of (c + (b + i)) r)) → slice_get (step_of c x ∷ steps) i ≡ Some (step_of (c + (b + i)) r)
first_found x r rows steps c b zero start is rest =
    let place : b + 0 ≡ 0 = omega arith in
    let same : x ≡ r = some_is x r (subst (λ (j : ℕ). slice_get (x ∷ rows) j ≡ Some r) place is) in
    let number : c ≡ c + (b + 0) = omega arith in
    ap (λ (y : ArcRow). Some (step_of c y)) same ∙ ap (λ (j : ℕ). Some (step_of j r)) number
first_found x r rows steps c b (suc i) start is rest = rest i refl

first_past : (s : Step) (steps : List Step) (i : ℕ) → 0 < i → ((j : ℕ) → i ≡ suc j → slice_get steps j ≡ None) → slice_get (s ∷ steps) i ≡ None
first_past s steps zero some rest = absurd (omega arith)
first_past s steps (suc i) some rest = rest i refl

-- the i-th arc out of v is that at the i-th place from b on
step_found : (rows : List ArcRow) (v c b e i : ℕ) (r : ArcRow) → IsRunOf rows v b e → slice_get rows (b + i) ≡ Some r → b + i < e → slice_get (steps_from v c rows) i ≡ Some (step_of (c + (b + i)) r)
step_found [] v c b e i r h is inside = absurd (let low : b + i < 0 = slice_get_within [] (b + i) r is in omega arith)
step_found (x ∷ rows) v c b e i r h is inside =
    ⊎_elim
    (λ (yes : eqb x.tail v ≡ true).
    let start = (at_start x rows v b e h yes).0 in
    steps_at x rows v c i true yes
    ∙ first_found x r rows (steps_from v (c + 1) rows) c b i start is
    (λ j next.
    let place : b + i ≡ suc (b - 1 + j) = omega arith in
    let number : c + 1 + (b - 1 + j) ≡ c + (b + i) = omega arith in
    step_found rows v (c + 1) (b - 1) (e - 1) j r (IsRunOf-rest x rows v b e h) (subst (λ (k : ℕ). slice_get (x ∷ rows) k ≡ Some r) place is) (omega arith)
    ∙ ap (λ (k : ℕ). Some (step_of k r)) number))
    (λ (no : eqb x.tail v ≡ false).
    let later : 1 ≤ b = not_at_start x rows v b e h no (omega arith) in
    let place : b + i ≡ suc (b - 1 + i) = omega arith in
    let number : c + 1 + (b - 1 + i) ≡ c + (b + i) = omega arith in
    steps_at x rows v c i false no
    ∙ step_found rows v (c + 1) (b - 1) (e - 1) i r (IsRunOf-rest x rows v b e h) (subst (λ (k : ℕ). slice_get (x ∷ rows) k ≡ Some r) place is) (omega arith)
    ∙ ap (λ (k : ℕ). Some (step_of k r)) number)
    (cases_Bool (eqb x.tail v))

-- and there is none after the last
step_past : (rows : List ArcRow) (v c b e i : ℕ) → IsRunOf rows v b e → e ≤ b + i → slice_get (steps_from v c rows) i ≡ None
step_past [] v c b e i h past = slice_get_past [] i (omega arith)
step_past (x ∷ rows) v c b e i h past =
    ⊎_elim
    (λ (yes : eqb x.tail v ≡ true).
    let start = at_start x rows v b e h yes in
    let begin = start.0 in
    let some = start.1 in
    steps_at x rows v c i true yes
    ∙ first_past (step_of c x) (steps_from v (c + 1) rows) i (omega arith)
    (λ j next. step_past rows v (c + 1) (b - 1) (e - 1) j (IsRunOf-rest x rows v b e h) (omega arith)))
    (λ (no : eqb x.tail v ≡ false).
    steps_at x rows v c i false no ∙ step_past rows v (c + 1) (b - 1) (e - 1) i (IsRunOf-rest x rows v b e h) (omega arith))
    (cases_Bool (eqb x.tail v))

-- the run of a vertex is that of its rank
IsRunOf-links : (s : Shape) (l : Links) (v : ℕ) → AreAlong s l → IsVertex (length s.order) v → IsRunOf (link_rows s.order l) v (slice_index l.first (slice_index s.rank v)) (slice_index l.first (slice_index s.rank v + 1))
IsRunOf-links s l v along is_v =
    let at : (k : ℕ) (r : ArcRow) → slice_get (link_rows s.order l) k ≡ Some r → r.tail ≡ v → InSpan l.first (slice_index s.rank v) k =
    λ k r is tail.
    (let row : IsRowOf (length s.order) s.order l k r = row_of_rank (length s.order) s.order s.first s.head l k r refl along.links is in
    let name : slice_index s.order row.rank ≡ v = sym (ap (λ (x : ArcRow). x.tail) row.is) ∙ tail in
    let rank : row.rank ≡ slice_index s.rank v = sym (named (length s.order) s.order s.rank row.rank along.ranked row.inside).back ∙ ap (λ (x : ℕ). slice_index s.rank x) name in
    subst (λ (x : ℕ). InSpan l.first x k) rank row.span) in
    record {
      late = (λ k r is tail. (at k r is tail).low);
      early = (λ k r is tail. (at k r is tail).high);
      all = (λ k r is low high.
          let span : InSpan l.first (slice_index s.rank v) k = record { low = low; high = high } in
          let here = row_at_place (length s.order) s.order s.first s.head l (slice_index s.rank v) k refl along.links (along.ranked.inside v is_v) span in
          let same : r ≡ link_row s.order l (slice_index s.rank v) k = some_is r (link_row s.order l (slice_index s.rank v) k) (sym is ∙ here) in
          ap (λ (x : ArcRow). x.tail) same ∙ along.ranked.back v is_v);
    }

pub step_of_link : (s : Shape) (l : Links) (v i p : ℕ) → AreAlong s l → IsVertex (length s.order) v → p ≡ slice_index l.first (slice_index s.rank v) + i → p < slice_index l.first (slice_index s.rank v + 1) → step_at (links_graph s.order l) v i ≡ Some (record { arc = p + 1; head = slice_index s.order (slice_index l.head p); length = slice_index l.length p })
step_of_link s l v i p along is_v is_p inside =
    let run = IsRunOf-links s l v along is_v in
    let span : InSpan l.first (slice_index s.rank v) p = record { low = omega arith; high = inside } in
    let row = row_at_place (length s.order) s.order s.first s.head l (slice_index s.rank v) p refl along.links (along.ranked.inside v is_v) span in
    let number : 1 + (slice_index l.first (slice_index s.rank v) + i) ≡ p + 1 = omega arith in
    step_found (link_rows s.order l) v 1 (slice_index l.first (slice_index s.rank v)) (slice_index l.first (slice_index s.rank v + 1)) i (link_row s.order l (slice_index s.rank v) p) run
    (subst (λ (j : ℕ). slice_get (link_rows s.order l) j ≡ Some (link_row s.order l (slice_index s.rank v) p)) is_p row)
    (omega arith)
    ∙ ap (λ (j : ℕ). Some (step_of j (link_row s.order l (slice_index s.rank v) p))) number

pub no_step_past : (s : Shape) (l : Links) (v i : ℕ) → AreAlong s l → IsVertex (length s.order) v → slice_index l.first (slice_index s.rank v + 1) ≤ slice_index l.first (slice_index s.rank v) + i → step_at (links_graph s.order l) v i ≡ None
no_step_past s l v i along is_v past =
    step_past (link_rows s.order l) v 1 (slice_index l.first (slice_index s.rank v)) (slice_index l.first (slice_index s.rank v + 1)) i (IsRunOf-links s l v along is_v) past

-- nothing leads from what is no vertex
pub no_step_outside : (s : Shape) (l : Links) (v i : ℕ) → AreAlong s l → (IsVertex (length s.order) v → ⊥) → step_at (links_graph s.order l) v i ≡ None
no_step_outside s l v i along outside =
    let never : (k : ℕ) (r : ArcRow) → slice_get (link_rows s.order l) k ≡ Some r → r.tail ≡ v → ⊥ =
    λ k r is tail.
    (let row : IsRowOf (length s.order) s.order l k r = row_of_rank (length s.order) s.order s.first s.head l k r refl along.links is in
    let name : slice_index s.order row.rank ≡ v = sym (ap (λ (x : ArcRow). x.tail) row.is) ∙ tail in
    outside (subst (λ (x : ℕ). IsVertex (length s.order) x) name (named (length s.order) s.order s.rank row.rank along.ranked row.inside).vertex)) in
    let run : IsRunOf (link_rows s.order l) v 0 0 = record {
      late = (λ k r is tail. absurd (never k r is tail));
      early = (λ k r is tail. absurd (never k r is tail));
      all = (λ k r is low high. absurd (omega arith));
    } in
    step_past (link_rows s.order l) v 1 0 0 i run (omega arith)

-- the arc of a number
pub arc_of_link : (s : Shape) (l : Links) (a k rank : ℕ) → AreAlong s l → a ≡ k + 1 → rank < length s.order → InSpan l.first rank k → arc_at (links_graph s.order l) a ≡ Some (link_row s.order l rank k)
arc_of_link s l a k rank along is inside span =
    let next : a ≡ suc k = omega arith in
    subst (λ (x : ℕ). arc_at (links_graph s.order l) x ≡ Some (link_row s.order l rank k)) (sym next)
    (row_at_place (length s.order) s.order s.first s.head l rank k refl along.links inside span)

pub no_arc_zero : (s : Shape) (l : Links) (a : ℕ) → a ≡ 0 → arc_at (links_graph s.order l) a ≡ None
no_arc_zero s l a is = ap (λ (x : ℕ). arc_at (links_graph s.order l) x) is

pub no_arc_past : (s : Shape) (l : Links) (a : ℕ) → AreAlong s l → length l.head < a → arc_at (links_graph s.order l) a ≡ None
no_arc_past s l zero along past = refl
no_arc_past s l (suc k) along past =
    let long = length-link_rows (length s.order) s.order s.first s.head l refl along.links in
    slice_get_past (link_rows s.order l) k (omega arith)

-- what holds of the own graph holds of its two parts
pub IsGraph-rising : (h : Parts) → IsGraph (own_graph h) → IsGraph (rising_graph h)
IsGraph-rising h sound = λ k d inside.
    let long = length-append (rows_of (rising_graph h)) (rows_of (reversed (falling_graph h))) in
    let read = get_or_append_left (rows_of (rising_graph h)) (rows_of (reversed (falling_graph h))) d k inside in
    subst (λ (r : ArcRow). IsArc (length h.shape.order) r) read (sound k d (omega arith))

pub IsGraph-falling : (h : Parts) → IsGraph (own_graph h) → IsGraph (falling_graph h)
IsGraph-falling h sound = λ k d inside.
    let rows = rows_of (falling_graph h) in
    let long = length-append (rows_of (rising_graph h)) (rows_of (reversed (falling_graph h))) in
    let same = length-map (rows_of (falling_graph h)) turned in
    let start : length (rows_of (rising_graph h)) + k - length (rows_of (rising_graph h)) ≡ k = omega arith in
    let read : get_or (rows_of (own_graph h)) (length (rows_of (rising_graph h)) + k) (turned d) ≡ turned (get_or (rows_of (falling_graph h)) k d) =
    get_or-append_right (rows_of (rising_graph h)) (rows_of (reversed (falling_graph h))) (length (rows_of (rising_graph h))) (length (rows_of (rising_graph h)) + k) (turned d) refl (omega arith)
    ∙ ap (λ (i : ℕ). get_or (rows_of (reversed (falling_graph h))) i (turned d)) start
    ∙ get_or-map turned (rows_of (falling_graph h)) k d (turned d) inside in
    let down : IsArc (length h.shape.order) (turned (get_or (rows_of (falling_graph h)) k d)) = subst (λ (r : ArcRow). IsArc (length h.shape.order) r) read (sound (length (rows_of (rising_graph h)) + k) (turned d) (omega arith)) in
    record { tail = down.head; head = down.tail; positive = down.positive }

-- each arc of the rising graph is one of the own graph
pub own_has_rising : (h : Parts) (r : ArcRow) → Contains (rows_of (rising_graph h)) r → Contains (rows_of (own_graph h)) r
own_has_rising h r there = Contains-append_left (rows_of (rising_graph h)) (rows_of (reversed (falling_graph h))) r there

-- and so is each of the falling graph, turned
pub own_has_falling : (h : Parts) (r : ArcRow) → Contains (rows_of (falling_graph h)) r → Contains (rows_of (own_graph h)) (turned r)
own_has_falling h r there =
    Contains-append_right (rows_of (rising_graph h)) (rows_of (reversed (falling_graph h))) (turned r)
    (let inside = there.1 in (there.0, omega (arith, length-map (rows_of (falling_graph h)) turned), get_or-map turned (rows_of (falling_graph h)) there.0 r (turned r) there.1 ∙ ap turned there.2))

pub AreAlong-up : (h : Parts) → IsOwn h → AreAlong h.shape h.up
AreAlong-up h own = record { ranked = own.hierarchy.shape.ranked; shape = own.hierarchy.shape.shape; links = own.hierarchy.up }

pub AreAlong-down : (h : Parts) → IsOwn h → AreAlong h.shape h.down
AreAlong-down h own = record { ranked = own.hierarchy.shape.ranked; shape = own.hierarchy.shape.shape; links = own.hierarchy.down }

-- each link leads to a higher rank
pub record LeadsUp (s : Shape) (a b : ℕ) : Type 0 where
  pub above : a < b
  pub inside : b < length s.order

pub leads_up : (s : Shape) (l : Links) (a k : ℕ) → AreAlong s l → a < length s.order → InSpan l.first a k → LeadsUp s a (slice_index l.head k)
leads_up s l a k along inside span =
    let up = along.links.under a k inside span in
    let is = up.is in
    let above = along.shape.above a up.place inside up.span in
    let high = up.span.high in
    let end = along.shape.end in
    let last = along.shape.rising (a + 1) (length s.order) (omega arith) (omega arith) in
    let low = along.shape.within up.place (omega arith) in
    record { above = omega arith; inside = omega arith }

-- and so does each arc
pub all_rise : (s : Shape) (l : Links) → AreAlong s l → All (Rises s.rank) (rows_of (links_graph s.order l))
all_rise s l along =
    rows_of_runs (Rises s.rank) s.order l (length s.order) 0
    (λ a k late early span.
    let up : LeadsUp s a (slice_index l.head k) = leads_up s l a k along (omega arith) span in
    let above = up.above in
    let at_a = (named (length s.order) s.order s.rank a along.ranked (omega arith)).back in
    let at_b = (named (length s.order) s.order s.rank (slice_index l.head k) along.ranked up.inside).back in
    omega arith)

-- by what the code read
pub record IsRead (s : Shape) (l : Links) (v : ℕ) (rank first : List ℕ) (number : ℕ) : Type 0 where
  pub vertex : IsVertex (length s.order) v
  pub begin : slice_index first (slice_index rank number) ≡ slice_index l.first (slice_index s.rank v)
  pub end : slice_index first (slice_index rank number + 1) ≡ slice_index l.first (slice_index s.rank v + 1)

pub is_read : (s : Shape) (l : Links) (v : ℕ) (rank first : List ℕ) (number : ℕ) → AreAlong s l → rank ≡ s.rank → first ≡ l.first → number ≡ v → (number ≡ 0 → ⊥) → number < length rank → IsRead s l v rank first number
is_read s l v rank first number along is_rank is_first is_v some inside =
    let size = along.ranked.rank_size in
    let long = ap (λ (xs : List ℕ). length xs) is_rank in
    let at : slice_index rank number ≡ slice_index s.rank v = ap (λ (xs : List ℕ). slice_index xs number) is_rank ∙ ap (λ (x : ℕ). slice_index s.rank x) is_v in
    record {
      vertex = record { first = omega (arith, some); last = omega arith };
      begin = ap (λ (xs : List ℕ). slice_index xs (slice_index rank number)) is_first ∙ ap (λ (x : ℕ). slice_index l.first x) at;
      end = ap (λ (xs : List ℕ). slice_index xs (slice_index rank number + 1)) is_first ∙ ap (λ (x : ℕ). slice_index l.first (x + 1)) at;
    }

pub step_read : (s : Shape) (l : Links) (v i p to long : ℕ) → AreAlong s l → IsVertex (length s.order) v → p ≡ slice_index l.first (slice_index s.rank v) + i → p < slice_index l.first (slice_index s.rank v + 1) → to ≡ slice_index s.order (slice_index l.head p) → long ≡ slice_index l.length p → Some (record { arc = p + 1; head = to; length = long }) ≡ step_at (links_graph s.order l) v i
step_read s l v i p to long along is_v is_p inside is_to is_long =
    let step : ℕ → ℕ → Step = λ y z. record { arc = p + 1; head = y; length = z } in
    ap (λ (y : ℕ). Some (step y long)) is_to ∙ ap (λ (z : ℕ). Some (step (slice_index s.order (slice_index l.head p)) z)) is_long ∙ sym (step_of_link s l v i p along is_v is_p inside)

pub row_read : (s : Shape) (l : Links) (a k rank from to long : ℕ) → AreAlong s l → a ≡ k + 1 → rank < length s.order → InSpan l.first rank k → from ≡ slice_index s.order rank → to ≡ slice_index s.order (slice_index l.head k) → long ≡ slice_index l.length k → Some (record { tail = from; head = to; length = long }) ≡ arc_at (links_graph s.order l) a
row_read s l a k rank from to long along is inside span is_from is_to is_long =
    let row : ℕ → ℕ → ℕ → ArcRow = λ x y z. record { tail = x; head = y; length = z } in
    ap (λ (x : ℕ). Some (row x to long)) is_from
    ∙ ap (λ (y : ℕ). Some (row (slice_index s.order rank) y long)) is_to
    ∙ ap (λ (z : ℕ). Some (row (slice_index s.order rank) (slice_index s.order (slice_index l.head k)) z)) is_long
    ∙ sym (arc_of_link s l a k rank along is inside span)
