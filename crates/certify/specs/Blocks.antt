-- The rows of a block as they are made.
--   IsRowFor h root radius v r    r is the row of the vertex v, within the radius
--   AreRows h root radius vs rows   the rows of these vertices, in their order
--   AreRowsFrom, AreRowsTo        those of all vertices inside the ball of a pair of trees, by rising number
use Rattle.std.specs.Prelude.{◌≡◌, ℕ, List, Option, All, map}
use Rattle.road_model.specs.Graph.{Graph, reversed}
use Rattle.tree_search.specs.Ball.{IsWithin}
use Rattle.canonical_trees.specs.Trees.{Trees, IsMembersFrom, IsMembersTo}
use Rattle.certificate_text.specs.declared.certificate.BlockRow.{BlockRow}
use Rattle.certify.specs.Written.{IsOwnRow}

pub record IsRowFor (h : Graph) (root : ℕ) (radius : Option ℕ) (v : ℕ) (r : BlockRow) : Type 0 where
  pub is_vertex : r.vertex ≡ v
  pub own : IsOwnRow h root r
  pub within : IsWithin radius r.label

pub record AreRows (h : Graph) (root : ℕ) (radius : Option ℕ) (vs : List ℕ) (rows : List BlockRow) : Type 0 where
  pub each : All (λ (r : BlockRow). IsRowFor h root radius r.vertex r) rows
  pub vertices : map (λ (r : BlockRow). r.vertex) rows ≡ vs

pub record AreRowsFrom (ts : Trees) (rows : List BlockRow) : Type 0 where
  pub members : List ℕ
  pub inside : IsMembersFrom ts.graph ts.radius ts.source members
  pub are : AreRows (reversed ts.graph) ts.source ts.radius members rows

pub record AreRowsTo (ts : Trees) (rows : List BlockRow) : Type 0 where
  pub members : List ℕ
  pub inside : IsMembersTo ts.graph ts.radius ts.target members
  pub are : AreRows ts.graph ts.target ts.radius members rows
