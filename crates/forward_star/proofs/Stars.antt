-- What a star reads of its topology and lengths, and what a change of a length makes of it.
use Rattle.std.proofs.Common.{◌≡◌, ◌-◌, ◌<◌, ◌≤◌, ℕ, List, length, map, get_or, set, Some, None, slice_get, All, sym, ap, ◌∙◌, subst, arith}
use Rattle.std.proofs.lemmas.List.{get_or_default, length-set, length-map}
use Rattle.std.proofs.lemmas.List.Elements.{All-map, All-weaker}
use Rattle.road_model.specs.declared.rows.ArcRow.{ArcRow}
use Rattle.road_model.specs.declared.change.Change.{Change}
use Rattle.road_model.specs.Graph.{Graph, arc_count, rows_of, reversed, step_at, steps_from, IsArc, IsGraph}
use Rattle.road_model.specs.Changes.{changed, fault_of}
use Rattle.road_model.specs.File.{IsWithinLimits}
use Rattle.forward_star.specs.declared.lengths.Lengths.{Lengths}
use Rattle.forward_star.specs.declared.side.Record.{Record}
use Rattle.forward_star.specs.declared.topology.Topology.{Topology}
use Rattle.forward_star.specs.Layout.{place_at, IsLaid, IsMeasured, run_at, arcs_of, graph_of, IsStar}
use Rattle.forward_star.proofs.Arcs.{length-arcs_of, arcs_of_rows, map-turned_arcs, slice_get-arcs_of, with_row-arcs_of, IsMeasured-set, IsWithinLimits-set, tails_inside, heads_inside}
use Rattle.forward_star.proofs.Changed.{IsSound, sound_change}
use Rattle.forward_star.proofs.Runs.{run_at-laid}

pub count_of_star : (t : Topology) (l : Lengths) → IsStar t l → arc_count (graph_of t l) ≡ length t.tails.items
count_of_star t l star = length-arcs_of t.tails.items t.heads.items l.by_number.items star.heads star.numbers

pub step_out_of_star : (t u : Topology) (l : Lengths) (laid : List ℕ) (v i : ℕ) → IsStar t l → u ≡ t → laid ≡ l.by_tail.items → run_at u.forward.places.items u.forward.records.items laid v i ≡ step_at (graph_of t l) v i
step_out_of_star t u l laid v i star same measured =
    let lengths = l.by_number.items in
    let inside = tails_inside t.vertices t.tails.items t.heads.items lengths star.heads star.numbers star.limits.is_graph in
    ap (λ (w : Topology). run_at w.forward.places.items w.forward.records.items laid v i) same
    ∙ ap (λ (m : List ℕ). run_at t.forward.places.items t.forward.records.items m v i) measured
    ∙ run_at-laid t.vertices t.tails.items t.heads.items lengths t.forward.places.items t.forward.records.items l.by_tail.items v i star.heads star.numbers inside star.by_tail star.out

pub step_into_star : (t u : Topology) (l : Lengths) (laid : List ℕ) (v i : ℕ) → IsStar t l → u ≡ t → laid ≡ l.by_head.items → run_at u.backward.places.items u.backward.records.items laid v i ≡ step_at (reversed (graph_of t l)) v i
step_into_star t u l laid v i star same measured =
    let lengths = l.by_number.items in
    let inside = heads_inside t.vertices t.tails.items t.heads.items lengths star.heads star.numbers star.limits.is_graph in
    let many : length t.tails.items ≡ length t.heads.items = sym star.heads in
    let long : length lengths ≡ length t.heads.items = star.numbers ∙ many in
    ap (λ (w : Topology). run_at w.backward.places.items w.backward.records.items laid v i) same
    ∙ ap (λ (m : List ℕ). run_at t.backward.places.items t.backward.records.items m v i) measured
    ∙ run_at-laid t.vertices t.heads.items t.tails.items lengths t.backward.places.items t.backward.records.items l.by_head.items v i many long inside star.by_head star.into
    ∙ ap (λ (rows : List ArcRow). slice_get (steps_from v 1 rows) i) (map-turned_arcs t.tails.items t.heads.items lengths star.heads star.numbers)

pub row_of_star : (t u w : Topology) (l : Lengths) (j tail head long : ℕ) → IsStar t l → u ≡ t → w ≡ t → j < length t.tails.items → tail ≡ get_or u.tails.items j tail → head ≡ get_or w.heads.items j head → long ≡ get_or l.by_number.items j long → slice_get (rows_of (graph_of t l)) j ≡ Some (record { tail = tail; head = head; length = long })
row_of_star t u w l j tail head long star same again inside is_tail is_head is_long =
    let from : tail ≡ get_or t.tails.items j 0 = is_tail ∙ ap (λ (x : Topology). get_or x.tails.items j tail) same ∙ get_or_default t.tails.items j tail 0 inside in
    let to : head ≡ get_or t.heads.items j 0 = is_head ∙ ap (λ (x : Topology). get_or x.heads.items j head) again ∙ get_or_default t.heads.items j head 0 (omega (arith, star.heads)) in
    let length_here : long ≡ get_or l.by_number.items j 0 = is_long ∙ get_or_default l.by_number.items j long 0 (omega (arith, star.numbers)) in
    slice_get-arcs_of t.tails.items t.heads.items l.by_number.items j star.heads star.numbers inside
    ∙ ap (λ (x : ℕ). Some (record { tail = x; head = get_or t.heads.items j 0; length = get_or l.by_number.items j 0 })) (sym from)
    ∙ ap (λ (x : ℕ). Some (record { tail = tail; head = x; length = get_or l.by_number.items j 0 })) (sym to)
    ∙ ap (λ (x : ℕ). Some (record { tail = tail; head = head; length = x })) (sym length_here)

-- a star after a change of a length, and its graph
pub IsStar-set : (t : Topology) (l m : Lengths) (c : Change) → IsStar t l → fault_of (graph_of t l) c ≡ None → m.by_number.items ≡ set l.by_number.items (c.arc - 1) c.length → m.by_tail.items ≡ set l.by_tail.items (place_at t.tails.items (c.arc - 1)) c.length → m.by_head.items ≡ set l.by_head.items (place_at t.heads.items (c.arc - 1)) c.length → IsStar t m
IsStar-set t l m c star none number out into =
    let sound : IsSound (arc_count (graph_of t l)) c.arc c.length = sound_change (graph_of t l) c none in
    let count : arc_count (graph_of t l) ≡ length t.tails.items = count_of_star t l star in
    let j : ℕ = c.arc - 1 in
    let first = sound.first in
    let last = sound.last in
    let inside : j < length t.tails.items = omega (arith, count) in
    let there : j < length t.heads.items = omega (arith, star.heads) in
    let long : length l.by_number.items ≡ length t.heads.items = star.numbers ∙ sym star.heads in
    let limits = IsWithinLimits-set t.vertices t.tails.items t.heads.items l.by_number.items j c.length star.heads star.numbers inside sound.positive sound.short star.limits in
    let measured_out : IsMeasured t.tails.items (set l.by_number.items j c.length) (set l.by_tail.items (place_at t.tails.items j) c.length) = IsMeasured-set t.tails.items l.by_number.items l.by_tail.items j c.length star.numbers inside star.out in
    let measured_into : IsMeasured t.heads.items (set l.by_number.items j c.length) (set l.by_head.items (place_at t.heads.items j) c.length) = IsMeasured-set t.heads.items l.by_number.items l.by_head.items j c.length long there star.into in
    record {
      limits = subst (λ (x : List ℕ). IsWithinLimits (record { vertices = t.vertices; arcs = arcs_of t.tails.items t.heads.items x })) (sym number) limits;
      heads = star.heads;
      numbers = ap (λ (x : List ℕ). length x) number ∙ length-set l.by_number.items j c.length ∙ star.numbers;
      by_tail = star.by_tail;
      by_head = star.by_head;
      out = subst (λ (x : List ℕ). IsMeasured t.tails.items x m.by_tail.items) (sym number) (subst (λ (x : List ℕ). IsMeasured t.tails.items (set l.by_number.items j c.length) x) (sym out) measured_out);
      into = subst (λ (x : List ℕ). IsMeasured t.heads.items x m.by_head.items) (sym number) (subst (λ (x : List ℕ). IsMeasured t.heads.items (set l.by_number.items j c.length) x) (sym into) measured_into);
    }

pub graph_of-set : (t : Topology) (l : Lengths) (c : Change) (numbers : List ℕ) → IsStar t l → fault_of (graph_of t l) c ≡ None → numbers ≡ set l.by_number.items (c.arc - 1) c.length → record { vertices = t.vertices; arcs = arcs_of t.tails.items t.heads.items numbers } ≡ changed (graph_of t l) c
graph_of-set t l c numbers star none number =
    let sound : IsSound (arc_count (graph_of t l)) c.arc c.length = sound_change (graph_of t l) c none in
    let last : c.arc ≤ length t.tails.items = omega (arith, sound.last, count_of_star t l star) in
    ap (λ (x : List ℕ). record { vertices = t.vertices; arcs = arcs_of t.tails.items t.heads.items x }) number
    ∙ sym (with_row-arcs_of t.vertices t.tails.items t.heads.items l.by_number.items c.arc c.length star.heads star.numbers sound.first last)

-- the number of a change without a fault
pub record IsAmong (t : Topology) (a : ℕ) : Type 0 where
  pub first : 1 ≤ a
  pub last : a ≤ length t.tails.items

pub among_arcs : (t : Topology) (l : Lengths) (c : Change) → IsStar t l → fault_of (graph_of t l) c ≡ None → IsAmong t c.arc
among_arcs t l c star none =
    let sound : IsSound (arc_count (graph_of t l)) c.arc c.length = sound_change (graph_of t l) c none in
    record { first = sound.first; last = omega (arith, sound.last, count_of_star t l star) }

-- a star as it is built
IsLaid-moved : (n : ℕ) (a b c d places : List ℕ) (records : List Record) → a ≡ c → b ≡ d → IsLaid n a b places records → IsLaid n c d places records
IsLaid-moved n a b c d places records first second h =
    subst (λ (x : List ℕ). IsLaid n x d places records) first (subst (λ (x : List ℕ). IsLaid n a x places records) second h)

IsMeasured-moved : (a b c d laid : List ℕ) → a ≡ c → b ≡ d → IsMeasured a b laid → IsMeasured c d laid
IsMeasured-moved a b c d laid first second h =
    subst (λ (x : List ℕ). IsMeasured x d laid) first (subst (λ (x : List ℕ). IsMeasured a x laid) second h)

-- the ends of the arcs of a graph
pub tails_of_graph : (g : Graph) → IsGraph g → All (λ (v : ℕ). v ≤ g.vertices) (map (λ (r : ArcRow). r.tail) g.arcs)
tails_of_graph g h =
    All-map (λ (v : ℕ). v ≤ g.vertices) (λ (r : ArcRow). r.tail) g.arcs
    (All-weaker (IsArc g.vertices) (λ (r : ArcRow). r.tail ≤ g.vertices) (λ r a. a.tail.last) g.arcs h)

pub heads_of_graph : (g : Graph) → IsGraph g → All (λ (v : ℕ). v ≤ g.vertices) (map (λ (r : ArcRow). r.head) g.arcs)
heads_of_graph g h =
    All-map (λ (v : ℕ). v ≤ g.vertices) (λ (r : ArcRow). r.head) g.arcs
    (All-weaker (IsArc g.vertices) (λ (r : ArcRow). r.head ≤ g.vertices) (λ r a. a.head.last) g.arcs h)

-- what is laid out of a graph
pub record IsBuilt (g : Graph) (t : Topology) (l : Lengths) : Type 0 where
  pub vertices : t.vertices ≡ g.vertices
  pub tails : t.tails.items ≡ map (λ (r : ArcRow). r.tail) g.arcs
  pub heads : t.heads.items ≡ map (λ (r : ArcRow). r.head) g.arcs
  pub numbers : l.by_number.items ≡ map (λ (r : ArcRow). r.length) g.arcs

pub graph_of-built : (g : Graph) (t : Topology) (l : Lengths) → IsBuilt g t l → graph_of t l ≡ g
graph_of-built g t l h =
    ap (λ (n : ℕ). record { vertices = n; arcs = arcs_of t.tails.items t.heads.items l.by_number.items }) h.vertices
    ∙ ap (λ (x : List ℕ). record { vertices = g.vertices; arcs = arcs_of x t.heads.items l.by_number.items }) h.tails
    ∙ ap (λ (x : List ℕ). record { vertices = g.vertices; arcs = arcs_of (map (λ (r : ArcRow). r.tail) g.arcs) x l.by_number.items }) h.heads
    ∙ ap (λ (x : List ℕ). record { vertices = g.vertices; arcs = arcs_of (map (λ (r : ArcRow). r.tail) g.arcs) (map (λ (r : ArcRow). r.head) g.arcs) x }) h.numbers
    ∙ ap (λ (rows : List ArcRow). record { vertices = g.vertices; arcs = rows }) (arcs_of_rows g.arcs)

pub IsStar-built : (g : Graph) (t : Topology) (l : Lengths) (tails heads again_heads again_tails numbers again : List ℕ) → IsWithinLimits g → IsBuilt g t l → tails ≡ t.tails.items → heads ≡ t.heads.items → again_heads ≡ t.heads.items → again_tails ≡ t.tails.items → numbers ≡ l.by_number.items → again ≡ l.by_number.items → IsLaid t.vertices tails heads t.forward.places.items t.forward.records.items → IsMeasured tails numbers l.by_tail.items → IsLaid t.vertices again_heads again_tails t.backward.places.items t.backward.records.items → IsMeasured again_heads again l.by_head.items → IsStar t l
IsStar-built g t l tails heads again_heads again_tails numbers again limits h e₁ e₂ e₃ e₄ e₅ e₆ out out_measured into into_measured =
    record {
      limits = subst (λ (x : Graph). IsWithinLimits x) (sym (graph_of-built g t l h)) limits;
      heads = ap (λ (x : List ℕ). length x) h.heads ∙ length-map g.arcs (λ (r : ArcRow). r.head) ∙ sym (ap (λ (x : List ℕ). length x) h.tails ∙ length-map g.arcs (λ (r : ArcRow). r.tail));
      numbers = ap (λ (x : List ℕ). length x) h.numbers ∙ length-map g.arcs (λ (r : ArcRow). r.length) ∙ sym (ap (λ (x : List ℕ). length x) h.tails ∙ length-map g.arcs (λ (r : ArcRow). r.tail));
      by_tail = IsLaid-moved t.vertices tails heads t.tails.items t.heads.items t.forward.places.items t.forward.records.items e₁ e₂ out;
      by_head = IsLaid-moved t.vertices again_heads again_tails t.heads.items t.tails.items t.backward.places.items t.backward.records.items e₃ e₄ into;
      out = IsMeasured-moved tails numbers t.tails.items l.by_number.items l.by_tail.items e₁ e₅ out_measured;
      into = IsMeasured-moved again_heads again t.heads.items l.by_number.items l.by_head.items e₃ e₆ into_measured;
    }
