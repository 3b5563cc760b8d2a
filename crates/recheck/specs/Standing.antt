-- Blocks that passed their checks.
--   IsRising rows       the vertices of the rows rise strictly
--   RowStands h b r     a row of the block is within the radius, is the root's or has the least tight arc
--   Stands h b          each row of the block does, the root has one, the vertices rise, and the rows are closed
--   AllStand g bs       each block of a certificate does, and its root is a vertex
--   LeadsDown h rows root   the rows rise, and each but the root's has an arc that is tight for it; the root's has none
--   IsSound o           what the checks on routes and vias lean on: the rows of the two blocks lead to their roots, the rows
--                       of each block rise, the ratios are in range, and the graph's arcs are few
use Rattle.std.specs.Prelude.{◌≡◌, ◌≢◌, ◌⊎◌, ℕ, List, Contains, Some, map}
use Rattle.std.specs.List.Sorted.{IsStrictlyIncreasing}
use Rattle.road_model.specs.Graph.{Graph, IsVertex, reversed}
use Rattle.road_model.specs.Fraction.{IsRatio}
use Rattle.road_model.specs.File.{IsWithinLimits}
use Rattle.tree_search.specs.Ball.{IsWithin}
use Rattle.certificate_text.specs.declared.certificate.BlockKind.{BlockKind}
use Rattle.certificate_text.specs.declared.certificate.BlockRow.{BlockRow}
use Rattle.certificate_text.specs.declared.certificate.Block.{Block}
use Rattle.recheck.specs.Rows.{toward, row_of, block_of, rows_in, HasRow, IsTightFor, IsLeastFor, IsRootRow, IsClosed}
use Rattle.recheck.specs.Paths.{Ground}

abbrev pub IsRising : List BlockRow → Type 0
IsRising rows = IsStrictlyIncreasing (map (λ (r : BlockRow). r.vertex) rows)

pub record RowStands (h : Graph) (b : Block) (r : BlockRow) : Type 0 where
  pub radius : IsWithin b.radius r.label
  pub root : IsRootRow b.root r
  pub tight : (r.arc ≡ 0) ⊎ IsTightFor h b.rows r r.arc
  pub least : (r.arc ≡ 0) ⊎ IsLeastFor h b.rows r

pub record Stands (h : Graph) (b : Block) : Type 0 where
  pub rows : (r : BlockRow) → Contains b.rows r → RowStands h b r
  pub rising : IsRising b.rows
  pub rooted : HasRow b.rows b.root
  pub closed : IsClosed h b.radius b.rows

pub record AllStand (g : Graph) (bs : List Block) : Type 0 where
  pub roots : (b : Block) → Contains bs b → IsVertex g.vertices b.root
  pub stand : (b : Block) → Contains bs b → Stands (toward b.kind g) b

pub record LeadsDown (h : Graph) (rows : List BlockRow) (root : ℕ) : Type 0 where
  pub rising : IsRising rows
  pub tight : (v : ℕ) (r : BlockRow) → row_of rows v ≡ Some r → v ≢ root → IsTightFor h rows r r.arc
  pub none : (r : BlockRow) → row_of rows root ≡ Some r → r.arc ≡ 0

pub record IsSound (o : Ground) : Type 0 where
  pub limits : IsWithinLimits o.graph
  pub from : LeadsDown (reversed o.graph) o.from_rows o.query.from
  pub to : LeadsDown o.graph o.to_rows o.query.to
  pub rise : (k : BlockKind) (root : ℕ) → IsRising (rows_in (block_of o.blocks k root))
  pub gamma : IsRatio 4 o.query.gamma
  pub alpha : IsRatio 4 o.query.alpha
  pub epsilon : IsRatio 4 o.query.epsilon
