-- What the blocks give for a query: the optimum, the near vertices, and the path through each.
--   Ground             the graph, the query, the blocks, the rows of the block from the source and of the one to the target,
--                      and the optimum's length and arcs as the certificate says them
--   ground_of          that of a certificate
--   Follows h rows root v p   p is what the arcs of the rows give from v to the root
--   IsNear o v         v has a row in both blocks, and its two labels sum to at most 1 + epsilon times the optimum's length
--   IsThrough o v p    p is what the two blocks give: from the source to v, and on to the target
--   trail o p          the places of a path from the source
--   rows_from o v      the rows of the block from a vertex
--   IsBest o           the optimum is what the block from the source gives for the target
--   IsBounded o        both blocks reach as far as an alternative may be long
use Rattle.std.specs.Prelude.{◌≡◌, ◌≢◌, ◌+◌, ◌++◌, ℕ, List, [], ◌∷◌, reverse, Some}
use Rattle.road_model.specs.declared.answer.Query.{Query}
use Rattle.road_model.specs.declared.rows.ArcRow.{ArcRow}
use Rattle.road_model.specs.declared.trail.Trail.{Trail}
use Rattle.road_model.specs.Graph.{Graph, arc_at, reversed}
use Rattle.road_model.specs.Fraction.{Stretches}
use Rattle.road_model.specs.Places.{trail_of}
use Rattle.certificate_text.specs.declared.certificate.BlockKind.TheVariants as kind
use Rattle.certificate_text.specs.declared.certificate.BlockRow.{BlockRow}
use Rattle.certificate_text.specs.declared.certificate.Block.{Block}
use Rattle.recheck.specs.Rows.{row_of, block_of, rows_in, HasBlock, Reaches}

pub record Ground : Type 0 where
  pub graph : Graph
  pub query : Query
  pub blocks : List Block
  pub from_rows : List BlockRow
  pub to_rows : List BlockRow
  pub best : ℕ
  pub optimum : List ℕ

abbrev pub ground_of : Graph → Query → List Block → ℕ → List ℕ → Ground
ground_of g q bs length arcs = record {
  graph = g;
  query = q;
  blocks = bs;
  from_rows = rows_in (block_of bs kind.From q.from);
  to_rows = rows_in (block_of bs kind.To q.to);
  best = length;
  optimum = arcs;
}

abbrev pub Follows : Graph → List BlockRow → ℕ → ℕ → List ℕ → Type 0
Follows h rows root v [] = v ≡ root
Follows h rows root v (a ∷ p) = (r : BlockRow) × (x : ArcRow) × (row_of rows v ≡ Some r) × (r.arc ≡ a) × (v ≢ root) × (arc_at h a ≡ Some x) × Follows h rows root x.head p

pub record IsNear (o : Ground) (v : ℕ) : Type 0 where
  pub near : BlockRow
  pub far : BlockRow
  pub is_near : row_of o.from_rows v ≡ Some near
  pub is_far : row_of o.to_rows v ≡ Some far
  pub low : Stretches o.query.epsilon (near.label + far.label) o.best

pub record IsThrough (o : Ground) (v : ℕ) (p : List ℕ) : Type 0 where
  pub prefix : List ℕ
  pub back : List ℕ
  pub to_source : Follows (reversed o.graph) o.from_rows o.query.from v prefix
  pub to_target : Follows o.graph o.to_rows o.query.to v back
  pub joined : p ≡ reverse prefix ++ back

abbrev pub trail : Ground → List ℕ → Trail
trail o p = trail_of o.graph o.query.from p

abbrev pub rows_from : Ground → ℕ → List BlockRow
rows_from o v = rows_in (block_of o.blocks kind.From v)

pub record IsBest (o : Ground) : Type 0 where
  pub source : HasBlock o.blocks kind.From o.query.from
  pub target : HasBlock o.blocks kind.To o.query.to
  pub row : BlockRow
  pub is : row_of o.from_rows o.query.to ≡ Some row
  pub length : o.best ≡ row.label
  pub path : List ℕ
  pub follows : Follows (reversed o.graph) o.from_rows o.query.from o.query.to path
  pub arcs : o.optimum ≡ reverse path

pub record IsBounded (o : Ground) : Type 0 where
  pub source : Reaches o.blocks kind.From o.query.from (λ n. Stretches o.query.epsilon n o.best)
  pub target : Reaches o.blocks kind.To o.query.to (λ n. Stretches o.query.epsilon n o.best)
