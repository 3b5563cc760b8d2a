-- The graph that a hierarchy's links form has the distances of the graph that it was built of.
use Rattle.std.proofs.Common.{◌≡◌, ◌+◌, ◌-◌, ◌^◌, ◌<◌, ◌≤◌, ◌⊎◌, ℕ, zero, suc, List, [], ◌∷◌, Option, Some, None, length, map, slice_index, refl, sym, ap, ◌∙◌, subst, arith, inl, inr, ⊎_elim}
use Rattle.std.specs.List.{All, Contains, flat_map, range_with_len}
use Rattle.std.proofs.lemmas.Bool.{cases_lt}
use Rattle.std.proofs.lemmas.List.{get_or-map, length-map}
use Rattle.std.proofs.lemmas.List.Elements.{All-nil, All-append, All-map, Contains-append_left, Contains-append_right}
use Rattle.std.proofs.lemmas.List.FromFn.{length-range_with_len, get_or-range_with_len, length-map-range_with_len, get_or-map-range_with_len}
use Rattle.std.proofs.lemmas.Option.{slice_get-get_or}
use Rattle.road_model.specs.declared.rows.ArcRow.{ArcRow}
use Rattle.road_model.specs.Graph.{Graph, rows_of, length_at, row_length, turned, IsVertex, IsArc, IsGraph}
use Rattle.road_model.specs.Walk.{IsWalk, walk_length}
use Rattle.road_model.specs.Dist.{HasWalk, IsDist, DistsBelow, NoneShorter, HaveSameDist}
use Rattle.road_model.proofs.Walks.{IsArc-at, IsWalk-inside, walk_length-positive}
use Rattle.hierarchy_build.specs.declared.links.Links.{Links}
use Rattle.hierarchy_build.specs.Parts.{Parts}
use Rattle.hierarchy_build.specs.Hills.{HillWithin, IsSound, AreShortest, HasHills, HasHillDists}
use Rattle.hierarchy_build.specs.Runs.{InSpan, IsUp, IsShape, IsRanked, IsPlaced}
use Rattle.hierarchy_build.specs.Lengths.{no_link}
use Rattle.hierarchy_build.specs.Links.{links_of, AreLinks}
use Rattle.hierarchy_build.specs.Hierarchy.{IsShapeOf, IsHierarchy}
use Rattle.hierarchy_build.specs.Own.{link_row, run_rows, link_rows, own_graph, IsOwn}
use Rattle.hierarchy_build.proofs.Hills.{HasWalk-joined, walk_of_hill, hills_have_dists}
use Rattle.hierarchy_build.proofs.Arcs.{HasWalk-arc}
use Rattle.hierarchy_build.proofs.Whole.{IsBuilt, row_at}
use Rattle.hierarchy_build.proofs.Named.{named}

-- what holds of the rows at each place of a run holds of all rows
rows_of_run : (P : ArcRow → Type 0) (order : List ℕ) (l : Links) (a : ℕ) → ((k : ℕ) → InSpan l.first a k → P (link_row order l a k)) → All P (run_rows order l a)
rows_of_run P order l a each =
    All-map P (link_row order l a) (range_with_len (slice_index l.first a) (slice_index l.first (a + 1) - slice_index l.first a))
    (λ i d inside.
    let size = length-range_with_len (slice_index l.first a) (slice_index l.first (a + 1) - slice_index l.first a) in
    let low : i < slice_index l.first (a + 1) - slice_index l.first a = omega arith in
    let at = get_or-range_with_len (slice_index l.first a) (slice_index l.first (a + 1) - slice_index l.first a) i d low in
    subst (λ (k : ℕ). P (link_row order l a k)) (sym at) (each (slice_index l.first a + i) (record { low = omega arith; high = omega arith })))

pub rows_of_runs : (P : ArcRow → Type 0) (order : List ℕ) (l : Links) (many from : ℕ) → ((a k : ℕ) → from ≤ a → a < from + many → InSpan l.first a k → P (link_row order l a k)) → All P (flat_map (run_rows order l) (range_with_len from many))
rows_of_runs P order l zero from each = All-nil P
rows_of_runs P order l (suc many) from each =
    All-append P (run_rows order l from) (flat_map (run_rows order l) (range_with_len (from + 1) many))
    (rows_of_run P order l from (λ k span. each from k (omega arith) (omega arith) span))
    (rows_of_runs P order l many (from + 1) (λ a k late early span. each a k (omega arith) (omega arith) span))

-- and the row at each place is among them
run_has : (order : List ℕ) (l : Links) (a k : ℕ) → InSpan l.first a k → Contains (run_rows order l a) (link_row order l a k)
run_has order l a k span =
    let low = span.low in
    let high = span.high in (
      k - slice_index l.first a,
      omega (arith, length-map-range_with_len (link_row order l a) (slice_index l.first a) (slice_index l.first (a + 1) - slice_index l.first a)),
      get_or-map-range_with_len (link_row order l a) (slice_index l.first a) (slice_index l.first (a + 1) - slice_index l.first a) (k - slice_index l.first a) k (link_row order l a k) (omega arith) (omega arith),
    )

runs_have : (order : List ℕ) (l : Links) (many from a k : ℕ) → from ≤ a → a < from + many → InSpan l.first a k → Contains (flat_map (run_rows order l) (range_with_len from many)) (link_row order l a k)
runs_have order l zero from a k late early span = absurd (omega arith)
runs_have order l (suc many) from a k late early span =
    ⊎_elim
    (λ (later : from < a).
    Contains-append_right (run_rows order l from) (flat_map (run_rows order l) (range_with_len (from + 1) many)) (link_row order l a k)
    (runs_have order l many (from + 1) a k (omega arith) (omega arith) span))
    (λ (here : a ≤ from).
    let same : a ≡ from = omega arith in
    Contains-append_left (run_rows order l from) (flat_map (run_rows order l) (range_with_len (from + 1) many)) (link_row order l a k)
    (subst (λ (x : ℕ). Contains (run_rows order l x) (link_row order l a k)) same (run_has order l a k span)))
    (cases_lt from a)

Contains-turned : (rows : List ArcRow) (r : ArcRow) → Contains rows r → Contains (map turned rows) (turned r)
Contains-turned rows r there =
    let inside = there.1 in
    (there.0, omega (arith, length-map rows turned), get_or-map turned rows there.0 r (turned r) there.1 ∙ ap turned there.2)

-- a row is the arc of some number
HasWalk-row : (g : Graph) (r : ArcRow) → Contains (rows_of g) r → HasWalk g r.tail r.head r.length
HasWalk-row g r there =
    HasWalk-arc g (suc there.0) r r.tail r.head (slice_get-get_or g.arcs there.0 r there.1 ∙ ap (λ (x : ArcRow). Some x) there.2) refl refl

-- each link is a walk of the hierarchy's own graph
own_sound : (h : Parts) → IsSound (own_graph h) (slice_index h.shape.order) (links_of (length h.shape.order) h.up) (links_of (length h.shape.order) h.down)
own_sound h =
    record {
      up = (λ a b x link.
          let walk : HasWalk (own_graph h) (slice_index h.shape.order a) (slice_index h.shape.order (slice_index h.up.head link.place)) (slice_index h.up.length link.place) =
          HasWalk-row (own_graph h) (link_row h.shape.order h.up a link.place)
          (Contains-append_left (link_rows h.shape.order h.up) (map turned (link_rows h.shape.order h.down)) (link_row h.shape.order h.up a link.place)
          (runs_have h.shape.order h.up (length h.shape.order) 0 a link.place (omega arith) (let i = link.inside in omega arith) link.span)) in
          subst (λ (k : ℕ). HasWalk (own_graph h) (slice_index h.shape.order a) (slice_index h.shape.order b) k) link.long
          (subst (λ (z : ℕ). HasWalk (own_graph h) (slice_index h.shape.order a) (slice_index h.shape.order z) (slice_index h.up.length link.place)) link.leads walk));
      down = (λ a b x link.
          let walk : HasWalk (own_graph h) (slice_index h.shape.order (slice_index h.down.head link.place)) (slice_index h.shape.order a) (slice_index h.down.length link.place) =
          HasWalk-row (own_graph h) (turned (link_row h.shape.order h.down a link.place))
          (Contains-append_right (link_rows h.shape.order h.up) (map turned (link_rows h.shape.order h.down)) (turned (link_row h.shape.order h.down a link.place))
          (Contains-turned (link_rows h.shape.order h.down) (link_row h.shape.order h.down a link.place)
          (runs_have h.shape.order h.down (length h.shape.order) 0 a link.place (omega arith) (let i = link.inside in omega arith) link.span))) in
          subst (λ (k : ℕ). HasWalk (own_graph h) (slice_index h.shape.order b) (slice_index h.shape.order a) k) link.long
          (subst (λ (z : ℕ). HasWalk (own_graph h) (slice_index h.shape.order z) (slice_index h.shape.order a) (slice_index h.down.length link.place)) link.leads walk));
    }

-- a link as an arc
abbrev row_between : List ℕ → ℕ → ℕ → ℕ → ArcRow
row_between order a b x = record { tail = slice_index order a; head = slice_index order b; length = x }

-- what holds of each link holds of each arc of that graph
own_rows : (h : Parts) (P : ArcRow → Type 0) → ((k : ℕ) → slice_index h.up.length k < no_link) → ((k : ℕ) → slice_index h.down.length k < no_link) → ((a b x : ℕ) → links_of (length h.shape.order) h.up a b x → P (row_between h.shape.order a b x)) → ((a b x : ℕ) → links_of (length h.shape.order) h.down a b x → P (row_between h.shape.order b a x)) → All P (rows_of (own_graph h))
own_rows h P short_up short_down up down =
    All-append P (link_rows h.shape.order h.up) (map turned (link_rows h.shape.order h.down))
    (rows_of_runs P h.shape.order h.up (length h.shape.order) 0
    (λ a k late early span. up a (slice_index h.up.head k) (slice_index h.up.length k) (record { place = k; inside = omega arith; span = span; leads = refl; long = refl; real = short_up k })))
    (All-map P turned (link_rows h.shape.order h.down)
    (rows_of_runs (λ (r : ArcRow). P (turned r)) h.shape.order h.down (length h.shape.order) 0
    (λ a k late early span. down a (slice_index h.down.head k) (slice_index h.down.length k) (record { place = k; inside = omega arith; span = span; leads = refl; long = refl; real = short_down k }))))

-- a walk over arcs that are walks of g is one of g
walk_of_walks : (g o : Graph) → All (λ (r : ArcRow). HasWalk g r.tail r.head r.length) (rows_of o) → (p : List ℕ) (u v : ℕ) → IsWalk o u p v → HasWalk g u v (walk_length o p)
walk_of_walks g o all [] u v walk = record { path = []; walk = walk; long = refl }
walk_of_walks g o all (a ∷ p) u v walk =
    let here : HasWalk g walk.0.tail walk.0.head walk.0.length = row_at o (λ (r : ArcRow). HasWalk g r.tail r.head r.length) a walk.0 all walk.1 in
    let from : HasWalk g u walk.0.head walk.0.length = subst (λ (x : ℕ). HasWalk g x walk.0.head walk.0.length) walk.2 here in
    let joined : HasWalk g u v (walk.0.length + walk_length o p) = HasWalk-joined g u walk.0.head v walk.0.length (walk_length o p) from (walk_of_walks g o all p walk.0.head v walk.3) in
    let is : length_at o a ≡ walk.0.length = ap row_length walk.1 in
    let long : walk.0.length + walk_length o p ≡ length_at o a + walk_length o p = omega arith in
    subst (λ (k : ℕ). HasWalk g u v k) long joined

-- a graph o whose arcs are walks of g and whose walks are as short
record Copies (g o : Graph) (name rank : ℕ → ℕ) (U D : ℕ → ℕ → ℕ → Type 0) : Type 0 where
  vertices : o.vertices ≡ g.vertices
  sound : IsGraph g
  own_sound : IsGraph o
  back : (v : ℕ) → IsVertex g.vertices v → name (rank v) ≡ v
  hills : HasHills no_link g rank U D
  dists : HasHillDists no_link g rank U D
  below : DistsBelow g no_link
  links : IsSound o name U D
  walks : (p : List ℕ) (u v : ℕ) → IsWalk o u p v → HasWalk g u v (walk_length o p)

vertex_of : (g o : Graph) (v : ℕ) → o.vertices ≡ g.vertices → IsVertex o.vertices v → IsVertex g.vertices v
vertex_of g o v same is = subst (λ (n : ℕ). IsVertex n v) same is

HasHills-copied : (g o : Graph) (name rank : ℕ → ℕ) (U D : ℕ → ℕ → ℕ → Type 0) → Copies g o name rank U D → HasHills no_link o rank U D
HasHills-copied g o name rank U D c u v p is_u is_v walk low =
    let w : HasWalk g u v (walk_length o p) = c.walks p u v walk in
    let long = w.long in
    let found : HillWithin U D (rank u) (rank v) (walk_length g w.path) = c.hills u v w.path (vertex_of g o u c.vertices is_u) (vertex_of g o v c.vertices is_v) w.walk (omega arith) in
    subst (λ (k : ℕ). HillWithin U D (rank u) (rank v) k) w.long found

none_shorter : (g o : Graph) (name rank : ℕ → ℕ) (U D : ℕ → ℕ → ℕ → Type 0) (u v : ℕ) → Copies g o name rank U D → IsVertex g.vertices u → IsVertex g.vertices v → NoneShorter o u v no_link → NoneShorter g u v no_link
none_shorter g o name rank U D u v c is_u is_v none q walk =
    ⊎_elim
    (λ (low : walk_length g q < no_link).
    let found : HillWithin U D (rank u) (rank v) (walk_length g q) = c.hills u v q is_u is_v walk low in
    let within = found.within in
    let named_walk = walk_of_hill o name U D c.links (rank u) (rank v) found.hill in
    let own = subst (λ (x : ℕ). IsWalk o x named_walk.path v) (c.back u is_u) (subst (λ (x : ℕ). IsWalk o (name (rank u)) named_walk.path x) (c.back v is_v) named_walk.walk) in
    let long = named_walk.long in
    let high : no_link ≤ walk_length o named_walk.path = none named_walk.path own in
    let r : no_link ≤ walk_length g q = absurd (omega arith) in r)
    (λ (high : no_link ≤ walk_length g q). high)
    (cases_lt (walk_length g q) no_link)

DistsBelow-copied : (g o : Graph) (name rank : ℕ → ℕ) (U D : ℕ → ℕ → ℕ → Type 0) → Copies g o name rank U D → DistsBelow o no_link
DistsBelow-copied g o name rank U D c u v [] walk none = let high : no_link ≤ 0 = none [] walk in omega arith
DistsBelow-copied g o name rank U D c u v (a ∷ p) walk none =
    let is_u : IsVertex o.vertices u = subst (λ (x : ℕ). IsVertex o.vertices x) walk.2 (IsArc-at o a walk.0 c.own_sound walk.1).tail in
    let is_v : IsVertex o.vertices v = IsWalk-inside o (a ∷ p) u v c.own_sound is_u walk in
    let w : HasWalk g u v (walk_length o (a ∷ p)) = c.walks (a ∷ p) u v walk in
    c.below u v w.path w.walk (none_shorter g o name rank U D u v c (vertex_of g o u c.vertices is_u) (vertex_of g o v c.vertices is_v) none)

HasHillDists-copied : (g o : Graph) (name rank : ℕ → ℕ) (U D : ℕ → ℕ → ℕ → Type 0) → Copies g o name rank U D → HasHillDists no_link o rank U D
HasHillDists-copied g o name rank U D c =
    hills_have_dists no_link o name rank U D (λ v is_v. c.back v (vertex_of g o v c.vertices is_v)) (HasHills-copied g o name rank U D c) c.links (DistsBelow-copied g o name rank U D c)

-- two vertices, or not
record BothVertices (n u v : ℕ) : Type 0 where
  from : IsVertex n u
  to : IsVertex n v

is_vertex : (n v : ℕ) → IsVertex n v ⊎ (IsVertex n v → ⊥)
is_vertex n v =
    ⊎_elim
    (λ (low : v < 1). let r : IsVertex n v ⊎ (IsVertex n v → ⊥) = inr (λ is. absurd (let f = is.first in omega arith)) in r)
    (λ (first : 1 ≤ v).
    ⊎_elim
    (λ (high : n < v). let r : IsVertex n v ⊎ (IsVertex n v → ⊥) = inr (λ is. absurd (let l = is.last in omega arith)) in r)
    (λ (last : v ≤ n). let r : IsVertex n v ⊎ (IsVertex n v → ⊥) = inl (record { first = first; last = last }) in r)
    (cases_lt n v))
    (cases_lt v 1)

both_vertices : (n u v : ℕ) → BothVertices n u v ⊎ (BothVertices n u v → ⊥)
both_vertices n u v =
    ⊎_elim
    (λ (is_u : IsVertex n u).
    ⊎_elim
    (λ (is_v : IsVertex n v). let r : BothVertices n u v ⊎ (BothVertices n u v → ⊥) = inl (record { from = is_u; to = is_v }) in r)
    (λ (no : IsVertex n v → ⊥). let r : BothVertices n u v ⊎ (BothVertices n u v → ⊥) = inr (λ both. no both.to) in r)
    (is_vertex n v))
    (λ (no : IsVertex n u → ⊥). let r : BothVertices n u v ⊎ (BothVertices n u v → ⊥) = inr (λ both. no both.from) in r)
    (is_vertex n u)

-- where no vertex is an end, a walk has no arc, and so is one of any graph
walk_of_none : (g o : Graph) (p : List ℕ) (u v : ℕ) → IsGraph g → (BothVertices g.vertices u v → ⊥) → IsWalk g u p v → HasWalk o u v (walk_length g p)
walk_of_none g o [] u v sound outside walk = record { path = []; walk = walk; long = refl }
walk_of_none g o (a ∷ p) u v sound outside walk =
    let is_u : IsVertex g.vertices u = subst (λ (x : ℕ). IsVertex g.vertices x) walk.2 (IsArc-at g a walk.0 sound walk.1).tail in
    absurd (outside (record { from = is_u; to = IsWalk-inside g (a ∷ p) u v sound is_u walk }))

-- graphs with the same walks between two vertices
IsDist-by_walks : (g o : Graph) (u v : ℕ) (d : Option ℕ) → ((p : List ℕ) → IsWalk g u p v → HasWalk o u v (walk_length g p)) → ((p : List ℕ) → IsWalk o u p v → HasWalk g u v (walk_length o p)) → IsDist g u v d → IsDist o u v d
IsDist-by_walks g o u v None to from h = λ p walk. h ((from p walk).path) ((from p walk).walk)
IsDist-by_walks g o u v (Some k) to from h =
    let w : HasWalk o u v (walk_length g h.0.path) = to h.0.path h.0.walk in (
      subst (λ (x : ℕ). HasWalk o u v x) h.0.long w,
      λ p walk. (let back : HasWalk g u v (walk_length o p) = from p walk in let long = back.long in let low : k ≤ walk_length g back.path = h.1 back.path back.walk in omega arith),
    )

HaveSameDist-copied : (g o : Graph) (name rank : ℕ → ℕ) (U D : ℕ → ℕ → ℕ → Type 0) → Copies g o name rank U D → HaveSameDist g o
HaveSameDist-copied g o name rank U D c =
    record {
      vertices = sym c.vertices;
      dist = (λ u v d. (
        (λ h.
            ⊎_elim
            (λ (both : BothVertices o.vertices u v).
            let hill = (c.dists u v d (vertex_of g o u c.vertices both.from) (vertex_of g o v c.vertices both.to)).0 h in
            (HasHillDists-copied g o name rank U D c u v d both.from both.to).1 hill)
            (λ (outside : BothVertices o.vertices u v → ⊥).
            let none : BothVertices g.vertices u v → ⊥ = subst (λ (n : ℕ). BothVertices n u v → ⊥) c.vertices outside in
            IsDist-by_walks g o u v d (λ p walk. walk_of_none g o p u v c.sound none walk) (λ p walk. walk_of_none o g p u v c.own_sound outside walk) h)
            (both_vertices o.vertices u v)),
        (λ h.
            ⊎_elim
            (λ (both : BothVertices o.vertices u v).
            let hill = (HasHillDists-copied g o name rank U D c u v d both.from both.to).0 h in
            (c.dists u v d (vertex_of g o u c.vertices both.from) (vertex_of g o v c.vertices both.to)).1 hill)
            (λ (outside : BothVertices o.vertices u v → ⊥).
            let none : BothVertices g.vertices u v → ⊥ = subst (λ (n : ℕ). BothVertices n u v → ⊥) c.vertices outside in
            IsDist-by_walks o g u v d (λ p walk. walk_of_none o g p u v c.own_sound outside walk) (λ p walk. walk_of_none g o p u v c.sound none walk) h)
            (both_vertices o.vertices u v)),
      ));
    }

AreShortest-copied : (g o : Graph) (name rank : ℕ → ℕ) (U D : ℕ → ℕ → ℕ → Type 0) → Copies g o name rank U D → AreShortest g rank U D → AreShortest o rank U D
AreShortest-copied g o name rank U D c shortest =
    let same : HaveSameDist g o = HaveSameDist-copied g o name rank U D c in
    record {
      up = (λ u v x is_u is_v link. (same.dist u v (Some x)).0 (shortest.up u v x (vertex_of g o u c.vertices is_u) (vertex_of g o v c.vertices is_v) link));
      down = (λ u v x is_u is_v link. (same.dist v u (Some x)).0 (shortest.down u v x (vertex_of g o u c.vertices is_u) (vertex_of g o v c.vertices is_v) link));
    }

-- the facts of a hierarchy by the number of its ranks
record Facts (g : Graph) (h : Parts) (n : ℕ) : Type 0 where
  is : n ≡ g.vertices
  ranked : IsRanked n h.shape.order h.shape.rank
  shape : IsShape n h.shape.first h.shape.head
  up : AreLinks n h.shape.first h.shape.head h.up
  down : AreLinks n h.shape.first h.shape.head h.down
  sound : IsSound g (slice_index h.shape.order) (links_of n h.up) (links_of n h.down)
  hills : HasHills no_link g (slice_index h.shape.rank) (links_of n h.up) (links_of n h.down)
  shortest : AreShortest g (slice_index h.shape.rank) (links_of n h.up) (links_of n h.down)
  dists : HasHillDists no_link g (slice_index h.shape.rank) (links_of n h.up) (links_of n h.down)

facts_of : (g : Graph) (h : Parts) → IsBuilt g h → Facts g h (length h.shape.order)
facts_of g h b =
    let whole : IsHierarchy g h = b.hierarchy in
    let all : Facts g h g.vertices = record {
      is = refl;
      ranked = whole.shape.ranked;
      shape = whole.shape.shape;
      up = whole.up;
      down = whole.down;
      sound = b.sound;
      hills = b.hills;
      shortest = whole.shortest;
      dists = whole.dists;
    } in
    subst (λ (n : ℕ). Facts g h n) (sym whole.shape.ranked.order_size) all

-- the two ranks of a link
record IsOver (n : ℕ) (first head : List ℕ) (a b : ℕ) : Type 0 where
  rises : a < b
  inside : b < n
  under : IsUp first head a b

is_over : (n : ℕ) (first head : List ℕ) (l : Links) (a b x : ℕ) → IsShape n first head → AreLinks n first head l → links_of n l a b x → IsOver n first head a b
is_over n first head l a b x s links link =
    let up : IsUp first head a b = subst (λ (z : ℕ). IsUp first head a z) link.leads (links.under a link.place link.inside link.span) in
    let over : a < slice_index head up.place = s.above a up.place link.inside up.span in
    let is = up.is in
    let end = s.end in
    let last : slice_index first (a + 1) ≤ slice_index first n = s.rising (a + 1) n (let i = link.inside in omega arith) (omega arith) in
    let high = up.span.high in
    let low : slice_index head up.place < n = s.within up.place (omega arith) in
    record { rises = omega arith; inside = omega arith; under = up }

-- a walk between two vertices has an arc, and so a length
walk_long : (g : Graph) (p : List ℕ) (u v : ℕ) → IsGraph g → IsWalk g u p v → (u ≡ v → ⊥) → 1 ≤ walk_length g p
walk_long g [] u v sound walk other = absurd (other walk)
walk_long g (a ∷ p) u v sound walk other = walk_length-positive g a p u v sound walk

apart : (n : ℕ) (order rank : List ℕ) (a b : ℕ) → IsRanked n order rank → a < b → b < n → slice_index order a ≡ slice_index order b → ⊥
apart n order rank a b ranked lt inside same =
    let at_a : slice_index rank (slice_index order a) ≡ a = (named n order rank a ranked (omega arith)).back in
    let at_b : slice_index rank (slice_index order b) ≡ b = (named n order rank b ranked inside).back in
    let e : a ≡ b = sym at_a ∙ ap (λ (x : ℕ). slice_index rank x) same ∙ at_b in
    omega arith

IsGraph-own : (g : Graph) (h : Parts) → IsGraph g → Facts g h (length h.shape.order) → IsGraph (own_graph h)
IsGraph-own g h sound c =
    own_rows h (IsArc (length h.shape.order)) c.up.short c.down.short
    (λ a b x link.
    let over = is_over (length h.shape.order) h.shape.first h.shape.head h.up a b x c.shape c.up link in
    let walk : HasWalk g (slice_index h.shape.order a) (slice_index h.shape.order b) x = c.sound.up a b x link in
    let long = walk.long in
    let some : 1 ≤ walk_length g walk.path = walk_long g walk.path (slice_index h.shape.order a) (slice_index h.shape.order b) sound walk.walk (apart (length h.shape.order) h.shape.order h.shape.rank a b c.ranked over.rises over.inside) in
    record {
      tail = (named (length h.shape.order) h.shape.order h.shape.rank a c.ranked link.inside).vertex;
      head = (named (length h.shape.order) h.shape.order h.shape.rank b c.ranked over.inside).vertex;
      positive = omega arith;
    })
    (λ a b x link.
    let over = is_over (length h.shape.order) h.shape.first h.shape.head h.down a b x c.shape c.down link in
    let walk : HasWalk g (slice_index h.shape.order b) (slice_index h.shape.order a) x = c.sound.down a b x link in
    let long = walk.long in
    let some : 1 ≤ walk_length g walk.path = walk_long g walk.path (slice_index h.shape.order b) (slice_index h.shape.order a) sound walk.walk (λ e. apart (length h.shape.order) h.shape.order h.shape.rank a b c.ranked over.rises over.inside (sym e)) in
    record {
      tail = (named (length h.shape.order) h.shape.order h.shape.rank b c.ranked over.inside).vertex;
      head = (named (length h.shape.order) h.shape.order h.shape.rank a c.ranked link.inside).vertex;
      positive = omega arith;
    })

-- the ends of each arc stand in one run
placed_up : (n : ℕ) (order rank first head : List ℕ) (a b x : ℕ) → IsRanked n order rank → a < n → IsOver n first head a b → IsPlaced rank first head (row_between order a b x)
placed_up n order rank first head a b x ranked inside over =
    let at_a : slice_index rank (slice_index order a) ≡ a = (named n order rank a ranked inside).back in
    let at_b : slice_index rank (slice_index order b) ≡ b = (named n order rank b ranked over.inside).back in
    let rises = over.rises in
    record {
      rise = (λ low. subst (λ (y : ℕ). IsUp first head y (slice_index rank (slice_index order b))) (sym at_a) (subst (λ (y : ℕ). IsUp first head a y) (sym at_b) over.under));
      fall = (λ low. absurd (omega arith));
    }

placed_down : (n : ℕ) (order rank first head : List ℕ) (a b x : ℕ) → IsRanked n order rank → a < n → IsOver n first head a b → IsPlaced rank first head (row_between order b a x)
placed_down n order rank first head a b x ranked inside over =
    let at_a : slice_index rank (slice_index order a) ≡ a = (named n order rank a ranked inside).back in
    let at_b : slice_index rank (slice_index order b) ≡ b = (named n order rank b ranked over.inside).back in
    let rises = over.rises in
    record {
      rise = (λ low. absurd (omega arith));
      fall = (λ low. subst (λ (y : ℕ). IsUp first head y (slice_index rank (slice_index order b))) (sym at_a) (subst (λ (y : ℕ). IsUp first head a y) (sym at_b) over.under));
    }

IsShapeOf-own : (g : Graph) (h : Parts) → Facts g h (length h.shape.order) → IsShapeOf (own_graph h) h.shape
IsShapeOf-own g h c =
    record {
      ranked = c.ranked;
      shape = c.shape;
      placed =
          own_rows h (IsPlaced h.shape.rank h.shape.first h.shape.head) c.up.short c.down.short
          (λ a b x link. placed_up (length h.shape.order) h.shape.order h.shape.rank h.shape.first h.shape.head a b x c.ranked link.inside
          (is_over (length h.shape.order) h.shape.first h.shape.head h.up a b x c.shape c.up link))
          (λ a b x link. placed_down (length h.shape.order) h.shape.order h.shape.rank h.shape.first h.shape.head a b x c.ranked link.inside
          (is_over (length h.shape.order) h.shape.first h.shape.head h.down a b x c.shape c.down link));
    }

Copies-own : (g : Graph) (h : Parts) → IsGraph g → DistsBelow g no_link → Facts g h (length h.shape.order) → Copies g (own_graph h) (slice_index h.shape.order) (slice_index h.shape.rank) (links_of (length h.shape.order) h.up) (links_of (length h.shape.order) h.down)
Copies-own g h sound below c =
    record {
      vertices = c.is;
      sound = sound;
      own_sound = IsGraph-own g h sound c;
      back = (λ v is_v. c.ranked.back v (subst (λ (n : ℕ). IsVertex n v) (sym c.is) is_v));
      hills = c.hills;
      dists = c.dists;
      below = below;
      links = own_sound h;
      walks = walk_of_walks g (own_graph h) (own_rows h (λ (r : ArcRow). HasWalk g r.tail r.head r.length) c.up.short c.down.short c.sound.up c.sound.down);
    }

pub HaveSameDist-own : (g : Graph) (h : Parts) → IsGraph g → IsBuilt g h → HaveSameDist g (own_graph h)
HaveSameDist-own g h sound b =
    HaveSameDist-copied g (own_graph h) (slice_index h.shape.order) (slice_index h.shape.rank) (links_of (length h.shape.order) h.up) (links_of (length h.shape.order) h.down)
    (Copies-own g h sound b.below (facts_of g h b))

IsHierarchy-own : (g : Graph) (h : Parts) → IsGraph g → IsBuilt g h → IsHierarchy (own_graph h) h
IsHierarchy-own g h sound b =
    let facts : Facts g h (length h.shape.order) = facts_of g h b in
    let copies = Copies-own g h sound b.below facts in
    record {
      shape = IsShapeOf-own g h facts;
      up = facts.up;
      down = facts.down;
      shortest = AreShortest-copied g (own_graph h) (slice_index h.shape.order) (slice_index h.shape.rank) (links_of (length h.shape.order) h.up) (links_of (length h.shape.order) h.down) copies facts.shortest;
      dists = HasHillDists-copied g (own_graph h) (slice_index h.shape.order) (slice_index h.shape.rank) (links_of (length h.shape.order) h.up) (links_of (length h.shape.order) h.down) copies;
    }

pub IsOwn-built : (g : Graph) (h : Parts) → IsGraph g → g.vertices < 2 ^ 32 → IsBuilt g h → IsOwn h
IsOwn-built g h sound few b =
    let facts : Facts g h (length h.shape.order) = facts_of g h b in
    let size = b.hierarchy.shape.ranked.order_size in
    record {
      few = omega arith;
      graph = IsGraph-own g h sound facts;
      short = own_rows h (λ (r : ArcRow). r.length < no_link) facts.up.short facts.down.short (λ a b x link. link.real) (λ a b x link. link.real);
      near = DistsBelow-copied g (own_graph h) (slice_index h.shape.order) (slice_index h.shape.rank) (links_of (length h.shape.order) h.up) (links_of (length h.shape.order) h.down) (Copies-own g h sound b.below facts);
      hierarchy = IsHierarchy-own g h sound b;
    }
