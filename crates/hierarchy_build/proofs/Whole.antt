-- From the arrays of a hierarchy to the distances of its graph.
use Rattle.std.proofs.Common.{◌≡◌, ◌+◌, ◌<◌, ◌≤◌, ℕ, zero, suc, List, [], Some, length, slice_index, get_or, replicate, refl, sym, ap, ◌∙◌, subst, arith}
use Rattle.std.specs.List.{All}
use Rattle.std.proofs.lemmas.List.Elements.{All-weaker}
use Rattle.std.proofs.lemmas.Option.{slice_get_within, get_or_from_slice_get}
use Rattle.road_model.specs.declared.rows.ArcRow.{ArcRow}
use Rattle.road_model.specs.Graph.{Graph, rows_of, arc_at, IsArc}
use Rattle.road_model.specs.Dist.{HasWalk, DistsBelow}
use Rattle.road_model.specs.File.{IsWithinLimits}
use Rattle.forward_star.proofs.Bound.{dists_below}
use Rattle.hierarchy_build.specs.declared.shape.Shape.{Shape}
use Rattle.hierarchy_build.specs.Parts.{Parts}
use Rattle.hierarchy_build.specs.Hills.{Within, HasTriangles, IsSound, Covers, HasHills}
use Rattle.hierarchy_build.specs.Runs.{InSpan, IsUp, IsShape, IsAcross, IsRanked}
use Rattle.hierarchy_build.specs.Lengths.{no_link, LinkAt, CanPush, AreWalks, IsWithin, AreSpelled, IsCovered, KeepsArcs, IsTight, AreTight, Keeps, AreBeaten}
use Rattle.hierarchy_build.specs.Links.{links_of, AreKept}
use Rattle.hierarchy_build.specs.Waits.{Waits, IsDue, ShapeSoFar}
use Rattle.hierarchy_build.specs.Hierarchy.{IsShapeOf, HasLengths, IsHierarchy}
use Rattle.hierarchy_build.proofs.Hills.{hills_of_walks, hills_have_dists}
use Rattle.hierarchy_build.proofs.Runs.{place_inside, head_inside, places_rise}
use Rattle.hierarchy_build.proofs.Waits.{IsShape-all, IsPlaced-all}
use Rattle.hierarchy_build.proofs.Arcs.{CanPush-arcs}
use Rattle.hierarchy_build.proofs.Least.{AreShortest-left}
use Rattle.hierarchy_build.proofs.Thinning.{Thins-kept, HasHills-thinned, IsSound-thinned}

link_rises : (n : ℕ) (first head lengths : List ℕ) → IsShape n first head → (a b x : ℕ) → LinkAt n first head lengths a b x → a < b
link_rises n first head lengths s a b x h =
    let up = s.above a h.place h.inside h.span in
    let is = h.leads in
    omega arith

triangles_up : (n : ℕ) (first head up down : List ℕ) → CanPush n first head up down → AreTight n first head up down n → (a b c x y : ℕ) → LinkAt n first head down b a x → LinkAt n first head up b c y → a < c → x + y < no_link → Within (LinkAt n first head up) a c (x + y)
triangles_up n first head up down can tight a b c x y h k lt low =
    let is_h = h.leads in
    let is_k = k.leads in
    let rise : h.place < k.place = places_rise n first head b h.place k.place can.shape h.inside h.span k.span (omega arith) in
    let there : IsUp first head (slice_index head h.place) (slice_index head k.place) = can.shape.chordal b h.place k.place h.inside h.span k.span rise in
    let across : IsAcross first head h.place k.place there.place = record { span = there.span; is = there.is } in
    let t : IsTight up down h.place k.place there.place = tight b h.place k.place there.place h.inside h.span k.span rise across in
    let less = t.rise in
    let long_h = h.long in
    let long_k = k.long in
    record {
      long = slice_index up there.place;
      link = record {
        place = there.place;
        inside = (let i = head_inside n first head b h.place can.shape h.inside h.span in omega arith);
        span = subst (λ (z : ℕ). InSpan first z there.place) h.leads there.span;
        leads = there.is ∙ k.leads;
        long = refl;
        real = omega arith;
      };
      within = omega arith;
    }

triangles_down : (n : ℕ) (first head up down : List ℕ) → CanPush n first head up down → AreTight n first head up down n → (a b c x y : ℕ) → LinkAt n first head down b a x → LinkAt n first head up b c y → c < a → x + y < no_link → Within (LinkAt n first head down) c a (x + y)
triangles_down n first head up down can tight a b c x y h k lt low =
    let is_h = h.leads in
    let is_k = k.leads in
    let rise : k.place < h.place = places_rise n first head b k.place h.place can.shape h.inside k.span h.span (omega arith) in
    let there : IsUp first head (slice_index head k.place) (slice_index head h.place) = can.shape.chordal b k.place h.place h.inside k.span h.span rise in
    let across : IsAcross first head k.place h.place there.place = record { span = there.span; is = there.is } in
    let t : IsTight up down k.place h.place there.place = tight b k.place h.place there.place h.inside k.span h.span rise across in
    let less = t.fall in
    let long_h = h.long in
    let long_k = k.long in
    record {
      long = slice_index down there.place;
      link = record {
        place = there.place;
        inside = (let i = head_inside n first head b k.place can.shape h.inside k.span in omega arith);
        span = subst (λ (z : ℕ). InSpan first z there.place) k.leads there.span;
        leads = there.is ∙ h.leads;
        long = refl;
        real = omega arith;
      };
      within = omega arith;
    }

pub triangles : (n : ℕ) (first head up down : List ℕ) → CanPush n first head up down → AreTight n first head up down n → HasTriangles no_link (LinkAt n first head up) (LinkAt n first head down)
triangles n first head up down can tight =
    record {
      up_rises = link_rises n first head up can.shape;
      down_rises = link_rises n first head down can.shape;
      up = triangles_up n first head up down can tight;
      down = triangles_down n first head up down can tight;
    }

pub sound : (g : Graph) (order : List ℕ) (n : ℕ) (first head up down : List ℕ) → AreWalks g order n first head up down → IsSound g (slice_index order) (LinkAt n first head up) (LinkAt n first head down)
sound g order n first head up down w =
    record {
      up = (λ a b x h.
          let long = h.long in
          let real = h.real in
          subst (λ (k : ℕ). HasWalk g (slice_index order a) (slice_index order b) k) h.long
          (subst (λ (z : ℕ). HasWalk g (slice_index order a) (slice_index order z) (slice_index up h.place)) h.leads (w.rise a h.place h.inside h.span (omega arith))));
      down = (λ a b x h.
          let long = h.long in
          let real = h.real in
          subst (λ (k : ℕ). HasWalk g (slice_index order b) (slice_index order a) k) h.long
          (subst (λ (z : ℕ). HasWalk g (slice_index order z) (slice_index order a) (slice_index down h.place)) h.leads (w.fall a h.place h.inside h.span (omega arith))));
    }

-- an arc of a graph is one of its list
pub row_at : (g : Graph) (P : ArcRow → Type 0) (k : ℕ) (r : ArcRow) → All P (rows_of g) → arc_at g k ≡ Some r → P r
row_at g P zero r all is = absurd (let e : arc_at g zero ≡ Some r = is in cc)
row_at g P (suc k) r all is =
    let inside : k < length g.arcs = slice_get_within g.arcs k r is in
    subst P (get_or_from_slice_get g.arcs k r r is) (all k r inside)

pub spelled : (g : Graph) (order rank : List ℕ) → IsRanked g.vertices order rank → All (IsArc g.vertices) (rows_of g) → All (AreSpelled order rank) (rows_of g)
spelled g order rank h arcs =
    All-weaker (λ r. IsArc g.vertices r) (λ r. AreSpelled order rank r) (λ r a. record { tail = h.back r.tail a.tail; head = h.back r.head a.head }) (rows_of g) arcs

pub within : (g : Graph) (order rank : List ℕ) → IsRanked g.vertices order rank → IsWithinLimits g → All (IsWithin g.vertices rank) (rows_of g)
within g order rank h limits = λ k d inside.
    let r : ArcRow = get_or g.arcs k d in
    let a : IsArc g.vertices (get_or g.arcs k d) = limits.is_graph k d inside in
    let low_tail = a.tail.last in
    let low_head = a.head.last in
    let size = h.rank_size in
    let short : (get_or g.arcs k d).length < 4294967296 = limits.short k d inside in
    record {
      tail_named = omega arith;
      head_named = omega arith;
      tail = h.inside (get_or g.arcs k d).tail a.tail;
      head = h.inside (get_or g.arcs k d).head a.head;
      short = omega arith;
    }

pub covers : (g : Graph) (order rank first head up down : List ℕ) → IsRanked g.vertices order rank → All (IsArc g.vertices) (rows_of g) → All (IsCovered g.vertices first head rank up down) (rows_of g) → Covers g (slice_index rank) (LinkAt g.vertices first head up) (LinkAt g.vertices first head down)
covers g order rank first head up down h arcs covered = λ k r is other.
    let a : IsArc g.vertices r = row_at g (IsArc g.vertices) k r arcs is in
    row_at g (IsCovered g.vertices first head rank up down) k r covered is
    (λ same. other (sym (h.back r.tail a.tail) ∙ ap (λ (x : ℕ). slice_index order x) same ∙ h.back r.head a.head))

-- lengths before any arc is read
fresh_low : (m x k : ℕ) → slice_index (replicate m x) k ≤ x
fresh_low zero x k = omega arith
fresh_low (suc m) x zero = omega arith
fresh_low (suc m) x (suc k) = fresh_low m x k

fresh_at : (m x k : ℕ) → k < m → slice_index (replicate m x) k ≡ x
fresh_at zero x k inside = absurd (omega arith)
fresh_at (suc m) x zero inside = refl
fresh_at (suc m) x (suc k) inside = fresh_at m x k (omega arith)

fresh_long : (m x : ℕ) → length (replicate m x) ≡ m
fresh_long zero x = refl
fresh_long (suc m) x = omega (arith, fresh_long m x)

pub CanPush-fresh : (n : ℕ) (first head : List ℕ) → IsShape n first head → CanPush n first head (replicate (length head) no_link) (replicate (length head) no_link)
CanPush-fresh n first head s =
    record {
      shape = s;
      lengths = record {
        up_size = fresh_long (length head) no_link;
        down_size = fresh_long (length head) no_link;
        up_low = fresh_low (length head) no_link;
        down_low = fresh_low (length head) no_link;
      };
    }

AreWalks-fresh : (g : Graph) (order : List ℕ) (n : ℕ) (first head : List ℕ) → IsShape n first head → AreWalks g order n first head (replicate (length head) no_link) (replicate (length head) no_link)
AreWalks-fresh g order n first head s =
    record {
      rise = (λ v k is_v span real. absurd (let is = fresh_at (length head) no_link k (place_inside n first head v k s is_v span) in omega arith));
      fall = (λ v k is_v span real. absurd (let is = fresh_at (length head) no_link k (place_inside n first head v k s is_v span) in omega arith));
    }

pub HasLengths-customised : (g : Graph) (s : Shape) (rows : List ArcRow) (up down : List ℕ) → IsShapeOf g s → IsWithinLimits g → rows ≡ rows_of g → KeepsArcs g.vertices s.rank s.first s.head rows (replicate (length s.head) no_link) (replicate (length s.head) no_link) up down → AreTight g.vertices s.first s.head up down g.vertices → HasLengths g s up down
HasLengths-customised g s rows up down is limits read k tight =
    let can : CanPush g.vertices s.first s.head up down = CanPush-arcs g.vertices s.first s.head (replicate (length s.head) no_link) (replicate (length s.head) no_link) up down (CanPush-fresh g.vertices s.first s.head is.shape) k.rise k.fall in
    let names : All (AreSpelled s.order s.rank) (rows_of g) = spelled g s.order s.rank is.ranked limits.is_graph in
    let walks : AreWalks g s.order g.vertices s.first s.head up down = k.walks g s.order (sym read) (subst (λ (l : List ArcRow). All (AreSpelled s.order s.rank) l) (sym read) names) (AreWalks-fresh g s.order g.vertices s.first s.head is.shape) in
    let covered : All (IsCovered g.vertices s.first s.head s.rank up down) (rows_of g) = subst (λ (l : List ArcRow). All (IsCovered g.vertices s.first s.head s.rank up down) l) read k.covered in
    record {
      lengths = can.lengths;
      walks = walks;
      below = dists_below g limits;
      hills =
          hills_of_walks no_link g (slice_index s.rank) (LinkAt g.vertices s.first s.head up) (LinkAt g.vertices s.first s.head down)
          (triangles g.vertices s.first s.head up down can tight)
          (covers g s.order s.rank s.first s.head up down is.ranked limits.is_graph covered);
    }

-- by what the code read
pub HasLengths-read : (g : Graph) (s : Shape) (n : ℕ) (rank first head : List ℕ) (rows : List ArcRow) (u d up down : List ℕ) → n ≡ g.vertices → rank ≡ s.rank → first ≡ s.first → head ≡ s.head → rows ≡ rows_of g → u ≡ replicate (length s.head) no_link → d ≡ replicate (length s.head) no_link → IsShapeOf g s → IsWithinLimits g → KeepsArcs n rank first head rows u d up down → AreTight n first head up down n → HasLengths g s up down
HasLengths-read g s n rank first head rows u d up down is_n is_rank is_first is_head is_rows is_u is_d shape limits k tight =
    let k₁ : KeepsArcs g.vertices rank first head rows u d up down = subst (λ (x : ℕ). KeepsArcs x rank first head rows u d up down) is_n k in
    let k₂ : KeepsArcs g.vertices s.rank first head rows u d up down = subst (λ (x : List ℕ). KeepsArcs g.vertices x first head rows u d up down) is_rank k₁ in
    let k₃ : KeepsArcs g.vertices s.rank s.first head rows u d up down = subst (λ (x : List ℕ). KeepsArcs g.vertices s.rank x head rows u d up down) is_first k₂ in
    let k₄ : KeepsArcs g.vertices s.rank s.first s.head rows u d up down = subst (λ (x : List ℕ). KeepsArcs g.vertices s.rank s.first x rows u d up down) is_head k₃ in
    let k₅ : KeepsArcs g.vertices s.rank s.first s.head rows (replicate (length s.head) no_link) d up down = subst (λ (x : List ℕ). KeepsArcs g.vertices s.rank s.first s.head rows x d up down) is_u k₄ in
    let k₆ : KeepsArcs g.vertices s.rank s.first s.head rows (replicate (length s.head) no_link) (replicate (length s.head) no_link) up down = subst (λ (x : List ℕ). KeepsArcs g.vertices s.rank s.first s.head rows (replicate (length s.head) no_link) x up down) is_d k₅ in
    let t₁ : AreTight g.vertices first head up down g.vertices = subst (λ (x : ℕ). AreTight x first head up down x) is_n tight in
    let t₂ : AreTight g.vertices s.first head up down g.vertices = subst (λ (x : List ℕ). AreTight g.vertices x head up down g.vertices) is_first t₁ in
    let t₃ : AreTight g.vertices s.first s.head up down g.vertices = subst (λ (x : List ℕ). AreTight g.vertices s.first x up down g.vertices) is_head t₂ in
    HasLengths-customised g s rows up down shape limits is_rows k₆ t₃

pub CanPush-read : (g : Graph) (s : Shape) (n : ℕ) (first head u d : List ℕ) → n ≡ g.vertices → first ≡ s.first → head ≡ s.head → u ≡ replicate (length s.head) no_link → d ≡ replicate (length s.head) no_link → IsShapeOf g s → CanPush n first head u d
CanPush-read g s n first head u d is_n is_first is_head is_u is_d shape =
    subst (λ (x : ℕ). CanPush x first head u d) (sym is_n)
    (subst (λ (x : List ℕ). CanPush g.vertices x head u d) (sym is_first)
    (subst (λ (x : List ℕ). CanPush g.vertices s.first x u d) (sym is_head)
    (subst (λ (x : List ℕ). CanPush g.vertices s.first s.head x d) (sym is_u)
    (subst (λ (x : List ℕ). CanPush g.vertices s.first s.head (replicate (length s.head) no_link) x) (sym is_d) (CanPush-fresh g.vertices s.first s.head shape.shape)))))

-- what was shown of a hierarchy while it was built
pub record IsBuilt (g : Graph) (h : Parts) : Type 0 where
  pub hierarchy : IsHierarchy g h
  pub sound : IsSound g (slice_index h.shape.order) (links_of g.vertices h.up) (links_of g.vertices h.down)
  pub hills : HasHills no_link g (slice_index h.shape.rank) (links_of g.vertices h.up) (links_of g.vertices h.down)
  pub below : DistsBelow g no_link

-- the links that are kept of these
pub IsBuilt-kept : (g : Graph) (h : Parts) (up down best_up best_down : List ℕ) → IsShapeOf g h.shape → HasLengths g h.shape up down → Keeps g.vertices h.shape.first h.shape.head 0 up down best_up best_down → AreBeaten g.vertices h.shape.first h.shape.head 0 up down best_up best_down → AreKept g.vertices h.shape.first h.shape.head up best_up h.up → AreKept g.vertices h.shape.first h.shape.head down best_down h.down → IsBuilt g h
IsBuilt-kept g h up down best_up best_down is lengths best beaten kept_up kept_down =
    let s : Shape = h.shape in
    let name : ℕ → ℕ = slice_index h.shape.order in
    let rank : ℕ → ℕ = slice_index h.shape.rank in
    let U : ℕ → ℕ → ℕ → Type 0 = LinkAt g.vertices h.shape.first h.shape.head up in
    let D : ℕ → ℕ → ℕ → Type 0 = LinkAt g.vertices h.shape.first h.shape.head down in
    let full : IsSound g (slice_index h.shape.order) (LinkAt g.vertices h.shape.first h.shape.head up) (LinkAt g.vertices h.shape.first h.shape.head down) = sound g s.order g.vertices s.first s.head up down lengths.walks in
    let thins = Thins-kept g s.order g.vertices s.first s.head up down best_up best_down h.up h.down best.rise best.fall (best.walks g s.order lengths.walks) kept_up kept_down in
    let kept : IsSound g (slice_index h.shape.order) (links_of g.vertices h.up) (links_of g.vertices h.down) = IsSound-thinned g name U D (links_of g.vertices h.up) (links_of g.vertices h.down) full thins in
    let hills : HasHills no_link g (slice_index h.shape.rank) (links_of g.vertices h.up) (links_of g.vertices h.down) = HasHills-thinned no_link g name rank U D (links_of g.vertices h.up) (links_of g.vertices h.down) is.ranked.back lengths.hills full thins in
    let whole : IsHierarchy g h = record {
      shape = is;
      up = kept_up.links;
      down = kept_down.links;
      shortest = AreShortest-left g name rank g.vertices s.first s.head up down best_up best_down (links_of g.vertices h.up) (links_of g.vertices h.down) is.ranked.back is.shape best.rise best.fall beaten lengths.hills kept kept_up.only kept_down.only;
      dists = hills_have_dists no_link g name rank (links_of g.vertices h.up) (links_of g.vertices h.down) is.ranked.back hills kept lengths.below;
    } in
    record { hierarchy = whole; sound = kept; hills = hills; below = lengths.below }

-- by what the code read
pub IsBuilt-read : (g : Graph) (h : Parts) (a b c d : Shape) (up down best_up best_down : List ℕ) → a ≡ h.shape → b ≡ h.shape → c ≡ h.shape → d ≡ h.shape → IsShapeOf g h.shape → HasLengths g a up down → Keeps (length b.order) b.first b.head 0 up down best_up best_down → AreBeaten (length b.order) b.first b.head 0 up down best_up best_down → AreKept (length c.order) c.first c.head up best_up h.up → AreKept (length d.order) d.first d.head down best_down h.down → IsBuilt g h
IsBuilt-read g h a b c d up down best_up best_down is_a is_b is_c is_d is lengths best beaten kept_up kept_down =
    IsBuilt-kept g h up down best_up best_down is
    (subst (λ (s : Shape). HasLengths g s up down) is_a lengths)
    (subst (λ (n : ℕ). Keeps n h.shape.first h.shape.head 0 up down best_up best_down) is.ranked.order_size
    (subst (λ (s : Shape). Keeps (length s.order) s.first s.head 0 up down best_up best_down) is_b best))
    (subst (λ (n : ℕ). AreBeaten n h.shape.first h.shape.head 0 up down best_up best_down) is.ranked.order_size
    (subst (λ (s : Shape). AreBeaten (length s.order) s.first s.head 0 up down best_up best_down) is_b beaten))
    (subst (λ (n : ℕ). AreKept n h.shape.first h.shape.head up best_up h.up) is.ranked.order_size
    (subst (λ (s : Shape). AreKept (length s.order) s.first s.head up best_up h.up) is_c kept_up))
    (subst (λ (n : ℕ). AreKept n h.shape.first h.shape.head down best_down h.down) is.ranked.order_size
    (subst (λ (s : Shape). AreKept (length s.order) s.first s.head down best_down h.down) is_d kept_down))

-- the shape that was laid out
pub IsShapeOf-laid : (g : Graph) (order rank first head : List ℕ) (n : ℕ) (p q : List (List ℕ)) → n ≡ g.vertices → IsRanked g.vertices order rank → All (IsArc g.vertices) (rows_of g) → ShapeSoFar n n first head q → All (IsDue 0 rank [] [] p) (rows_of g) → ((a b : ℕ) → Waits 0 [] [] p a b → Waits n first head q a b) → IsShapeOf g (record { order = order; rank = rank; first = first; head = head })
IsShapeOf-laid g order rank first head n p q is_n ranked arcs so_far due waits =
    let s : ShapeSoFar g.vertices g.vertices first head q = subst (λ (x : ℕ). ShapeSoFar x x first head q) is_n so_far in
    let w : (a b : ℕ) → Waits 0 [] [] p a b → Waits g.vertices first head q a b = subst (λ (x : ℕ). (a b : ℕ) → Waits 0 [] [] p a b → Waits x first head q a b) is_n waits in
    record {
      ranked = ranked;
      shape = IsShape-all g.vertices first head q s;
      placed = (λ k d inside.
          let a : IsArc g.vertices (get_or g.arcs k d) = arcs k d inside in
          IsPlaced-all g.vertices rank first head p q (get_or g.arcs k d) (ranked.inside (get_or g.arcs k d).tail a.tail) (ranked.inside (get_or g.arcs k d).head a.head) w (due k d inside));
    }
