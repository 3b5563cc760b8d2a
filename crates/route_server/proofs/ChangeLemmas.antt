-- What changes leave of a graph, and their faults.
use Rattle.std.proofs.Common.{◌≡◌, ℕ, ◌-◌, List, [], ◌∷◌, ◌++◌, Option, Some, None, refl, ◌∙◌}
use Rattle.std.specs.Option.{option_or}
use Rattle.std.proofs.lemmas.List.{length-set}
use Rattle.road_model.specs.declared.change.Change.{Change}
use Rattle.road_model.specs.declared.change.ChangeFault.{ChangeFault}
use Rattle.road_model.specs.declared.rows.ArcRow.{ArcRow}
use Rattle.road_model.specs.Graph.{Graph, rows_of, arc_at, arc_count}
use Rattle.road_model.specs.Changes.{with_row, changed, after, after_all, fault_of, change_fault}

-- the same vertices, and as many arcs
pub record SameSize (g h : Graph) : Type 0 where
  pub vertices : h.vertices ≡ g.vertices
  pub arcs : arc_count h ≡ arc_count g

same_size : (g : Graph) → SameSize g g
same_size g = record { vertices = refl; arcs = refl }

joined : (a b c : Graph) → SameSize a b → SameSize b c → SameSize a c
joined a b c p q = record { vertices = q.vertices ∙ p.vertices; arcs = q.arcs ∙ p.arcs }

with_row-size : (g : Graph) (a l : ℕ) (o : Option ArcRow) → SameSize g (with_row g a l o)
with_row-size g a l None = same_size g
with_row-size g a l (Some r) = record { vertices = refl; arcs = length-set (rows_of g) (a - 1) (record r { length = l }) }

after-size : (g : Graph) (batch : List Change) → SameSize g (after g batch)
after-size g [] = same_size g
after-size g (c ∷ batch) =
    joined g (changed g c) (after (changed g c) batch) (with_row-size g c.arc c.length (arc_at g c.arc)) (after-size (changed g c) batch)

pub after_all-size : (g : Graph) (batches : List (List Change)) → SameSize g (after_all g batches)
after_all-size g [] = same_size g
after_all-size g (batch ∷ batches) =
    joined g (after g batch) (after_all (after g batch) batches) (after-size g batch) (after_all-size (after g batch) batches)

-- ---- faults

fault_of-size : (g h : Graph) (c : Change) → SameSize g h → fault_of h c ≡ fault_of g c
fault_of-size g h c same = rw same.arcs refl

pub change_fault-size : (g h : Graph) (batch : List Change) → SameSize g h → change_fault h batch ≡ change_fault g batch
change_fault-size g h [] same = refl
change_fault-size g h (c ∷ batch) same = rw (fault_of-size g h c same, change_fault-size g h batch same) refl

either_none : (a b : Option ChangeFault) → option_or a b ≡ None → (a ≡ None) × (b ≡ None)
either_none None b e = (refl, e)
either_none (Some fault) b e = absurd (let f : ◌≡◌ {A = Option ChangeFault} (Some fault) None = e in cc)

pub change_fault-push : (g : Graph) (batch : List Change) (c : Change) → change_fault g batch ≡ None → fault_of g c ≡ None → change_fault g (batch ++ c ∷ []) ≡ None
change_fault-push g [] c e f = rw f refl
change_fault-push g (d ∷ batch) c e f =
    let both = either_none (fault_of g d) (change_fault g batch) e in
    rw (both.0, change_fault-push g batch c both.1 f) refl
