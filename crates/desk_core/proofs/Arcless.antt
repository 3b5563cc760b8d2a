-- A graph without arcs.
use Rattle.std.proofs.Common.{◌≡◌, ℕ, zero, suc, Bool, true, false, [], ◌∷◌, Option, Some, None, sym, ◌∙◌, eqb, eq-eqb}
use Rattle.road_model.specs.declared.rows.ArcRow.{ArcRow}
use Rattle.road_model.specs.Graph.{Graph, arc_at}
use Rattle.road_model.specs.Dist.{NoWalk}

abbrev pub arcless : ℕ → Graph
arcless n = record { vertices = n; arcs = [] }

pub no_arc : (n a : ℕ) (r : ArcRow) → arc_at (arcless n) a ≡ Some r → ⊥
no_arc n zero r e = let f : ◌≡◌ {A = Option ArcRow} None (Some r) = e in cc
no_arc n (suc k) r e = let f : ◌≡◌ {A = Option ArcRow} None (Some r) = e in cc

-- no walk leads from one vertex to another
pub no_walk : (n u v : ℕ) (b : Bool) → b ≡ eqb u v → b ≡ false → NoWalk (arcless n) u v
no_walk n u v b e other [] h = let f : false ≡ true = sym other ∙ e ∙ eq-eqb u v h in cc
no_walk n u v b e other (a ∷ p) (r, is, tail, rest) = no_arc n a r is
