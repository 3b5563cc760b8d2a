-- A shape of one version of a graph is one of every other.
use Rattle.std.proofs.Common.{◌≡◌, ◌≢◌, ◌-◌, ◌<◌, ℕ, zero, suc, List, [], ◌∷◌, Option, Some, None, length, slice_index, get_or, set, refl, sym, ap, ◌∙◌, subst, arith, ⊎_elim, get_or-set_same, get_or-set_other}
use Rattle.std.proofs.Math.ListN.{length-set}
use Rattle.std.proofs.lemmas.Option.{slice_get_within, get_or_from_slice_get}
use Rattle.road_model.specs.declared.rows.ArcRow.{ArcRow}
use Rattle.road_model.specs.declared.change.Change.{Change}
use Rattle.road_model.specs.Graph.{Graph, rows_of, arc_at}
use Rattle.road_model.specs.Changes.{with_row, changed, after}
use Rattle.road_model.proofs.Basics.{same_or_other}
use Rattle.hierarchy_build.specs.declared.shape.Shape.{Shape}
use Rattle.hierarchy_build.specs.Runs.{IsUp, IsShape, IsRanked, IsPlaced}
use Rattle.hierarchy_build.specs.Hierarchy.{IsShapeOf, HasSameEnds}

pub IsShapeOf-same_ends : (g h : Graph) (s : Shape) → HasSameEnds g h → IsShapeOf g s → IsShapeOf h s
IsShapeOf-same_ends g h s e is =
    record {
      ranked = subst (λ (n : ℕ). IsRanked n s.order s.rank) (sym e.vertices) is.ranked;
      shape = subst (λ (n : ℕ). IsShape n s.first s.head) (sym e.vertices) is.shape;
      placed = (λ k d inside.
          let was : IsPlaced s.rank s.first s.head (get_or (rows_of g) k d) = is.placed k d (let c = e.count in omega arith) in
          let Rises : ℕ → ℕ → Type 0 = λ t u. slice_index s.rank t < slice_index s.rank u → IsUp s.first s.head (slice_index s.rank t) (slice_index s.rank u) in
          record {
            rise = subst (λ (t : ℕ). Rises t (get_or (rows_of h) k d).head) (sym (e.tail k d)) (subst (λ (u : ℕ). Rises (get_or (rows_of g) k d).tail u) (sym (e.head k d)) was.rise);
            fall = subst (λ (u : ℕ). Rises u (get_or (rows_of h) k d).tail) (sym (e.head k d)) (subst (λ (t : ℕ). Rises (get_or (rows_of g) k d).head t) (sym (e.tail k d)) was.fall);
          });
    }

pub HasSameEnds-itself : (g : Graph) → HasSameEnds g g
HasSameEnds-itself g = record { vertices = refl; count = refl; tail = (λ k d. refl); head = (λ k d. refl) }

pub HasSameEnds-joined : (g h i : Graph) → HasSameEnds g h → HasSameEnds h i → HasSameEnds g i
HasSameEnds-joined g h i a b =
    record {
      vertices = b.vertices ∙ a.vertices;
      count = b.count ∙ a.count;
      tail = (λ k d. b.tail k d ∙ a.tail k d);
      head = (λ k d. b.head k d ∙ a.head k d);
    }

same_at : (rows : List ArcRow) (i length' : ℕ) (r : ArcRow) (F : ArcRow → ℕ) → i < length rows → ((d : ArcRow) → get_or rows i d ≡ r) → F (record r { length = length' }) ≡ F r → (k : ℕ) (d : ArcRow) → F (get_or (set rows i (record r { length = length' })) k d) ≡ F (get_or rows k d)
same_at rows i length' r F inside read same k d =
    ⊎_elim
    (λ (here : k ≡ i).
    ap (λ (x : ℕ). F (get_or (set rows i (record r { length = length' })) x d)) here
    ∙ ap F (get_or-set_same rows i (record r { length = length' }) d inside)
    ∙ same ∙ ap F (sym (read d)) ∙ ap (λ (x : ℕ). F (get_or rows x d)) (sym here))
    (λ (other : k ≢ i). ap F (get_or-set_other rows i k (record r { length = length' }) d other))
    (same_or_other k i)

HasSameEnds-row : (g : Graph) (a length' : ℕ) (o : Option ArcRow) → arc_at g a ≡ o → HasSameEnds g (with_row g a length' o)
HasSameEnds-row g a length' None is = HasSameEnds-itself g
HasSameEnds-row g zero length' (Some r) is = absurd (let e : None ≡ Some r = is in cc)
HasSameEnds-row g (suc k) length' (Some r) is =
    let inside : k < length g.arcs = slice_get_within g.arcs k r is in
    let at : k ≡ suc k - 1 = omega arith in
    let read : (d : ArcRow) → get_or g.arcs (suc k - 1) d ≡ r = λ d. ap (λ (x : ℕ). get_or g.arcs x d) (sym at) ∙ get_or_from_slice_get g.arcs k r d is in
    let within : suc k - 1 < length g.arcs = omega arith in
    record {
      vertices = refl;
      count = length-set g.arcs (suc k - 1) (record r { length = length' });
      tail = same_at g.arcs (suc k - 1) length' r (λ x. x.tail) within read refl;
      head = same_at g.arcs (suc k - 1) length' r (λ x. x.head) within read refl;
    }

pub HasSameEnds-changed : (g : Graph) (c : Change) → HasSameEnds g (changed g c)
HasSameEnds-changed g c = HasSameEnds-row g c.arc c.length (arc_at g c.arc) refl

pub HasSameEnds-after : (g : Graph) (batch : List Change) → HasSameEnds g (after g batch)
HasSameEnds-after g [] = HasSameEnds-itself g
HasSameEnds-after g (c ∷ batch) = HasSameEnds-joined g (changed g c) (after (changed g c) batch) (HasSameEnds-changed g c) (HasSameEnds-after (changed g c) batch)
