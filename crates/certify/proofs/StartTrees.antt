-- From each vertex of a listed route before its via vertex there is a block that reaches to the route's end.
--   HasStartTree g bs x n   a block from the vertex x is found, the tree of x within a radius of n at least
use Rattle.std.proofs.Common.{◌≡◌, ℕ, ◌<◌, ◌≤◌, ◌++◌, List, [], ◌∷◌, length, reverse, Option, Some, get_or, refl, sym, subst, arith, ⊎_elim}
use Rattle.std.specs.List.{Contains}
use Rattle.std.proofs.lemmas.Bool.{cases_eq}
use Rattle.road_model.specs.declared.answer.Optimum.{Optimum}
use Rattle.road_model.specs.declared.answer.Query.{Query}
use Rattle.road_model.specs.declared.answer.Route.{Route}
use Rattle.road_model.specs.Graph.{Graph, IsGraph, IsVertex, reversed}
use Rattle.road_model.specs.Walk.{IsWalk, walk_length}
use Rattle.road_model.specs.Canonical.{IsFirst}
use Rattle.road_model.specs.Fraction.{Stretches}
use Rattle.road_model.specs.Places.{trail_of, vertex_at, between}
use Rattle.road_model.specs.Answers.{IsRoute}
use Rattle.road_model.proofs.Parts.{Parted, parted, length-sums, sum_after, whole_sum}
use Rattle.forward_star.proofs.Turned.{IsGraph-reversed, IsWalk-reversed, walk_length-reversed}
use Rattle.tree_search.specs.Ball.{IsWithin}
use Rattle.canonical_trees.proofs.CanonicalParts.{within_less}
use Rattle.certificate_text.specs.declared.certificate.BlockKind.TheVariants as kind
use Rattle.certificate_text.specs.declared.certificate.BlockRow.{BlockRow}
use Rattle.certificate_text.specs.declared.certificate.Block.{Block}
use Rattle.recheck.specs.Rows.{row_of, block_of, rows_in, HasRow, HasRowBelow}
use Rattle.recheck.specs.Across.{IsMeasured}
use Rattle.recheck.proofs.RowLookups.{rows_of_block}
use Rattle.recheck.proofs.Splits.{measured_of}
use Rattle.recheck.proofs.NearPaths.{short_of_admissible}
use Rattle.certify.specs.Written.{IsStart, IsStartBlock, HasStart, IsTreeBlock, cert_route}
use Rattle.certify.proofs.TreeBlocks.{IsOwnTree, own_tree, row_below}
use Rattle.certify.proofs.AllBlocks.{place_inside, route_in_listing, walk_of_route, source_found, start_found_after}
use Rattle.certify.proofs.OwnGrounds.{own_ground, IsPosed}

pub record HasStartTree (g : Graph) (bs : List Block) (x n : ℕ) : Type 0 where
  pub block : Block
  pub is : block_of bs kind.From x ≡ Some block
  pub radius : Option ℕ
  pub tree : IsTreeBlock g kind.From x radius block
  pub within : IsWithin radius n

-- a walk from the root within the radius leads to a vertex with a row
pub row_of_walk : (g : Graph) (bs : List Block) (x y n : ℕ) (p : List ℕ) → IsGraph g → IsVertex g.vertices x → HasStartTree g bs x n → IsWalk g x p y → walk_length g p ≤ n → HasRow (rows_in (block_of bs kind.From x)) y
row_of_walk g bs x y n p sound inside t walk low =
    let tree : IsOwnTree (reversed g) t.block.rows x t.radius = own_tree g kind.From x t.radius t.block t.tree in
    let long : walk_length (reversed g) (reverse p) ≡ walk_length g p = walk_length-reversed g p in
    let within : IsWithin t.radius (walk_length (reversed g) (reverse p)) = within_less t.radius (walk_length (reversed g) (reverse p)) n (omega arith) t.within in
    let below : HasRowBelow t.block.rows y (walk_length (reversed g) (reverse p)) =
    row_below (reversed g) t.block.rows x t.radius (IsGraph-reversed g sound) inside tree y (reverse p) (IsWalk-reversed g p x y walk) within in
    record { row = below.row; is = subst (λ (rows : List BlockRow). row_of rows y ≡ Some below.row) (sym (rows_of_block bs kind.From x t.block t.is)) below.is }

-- subpaths of a route's path

sums_rise : (g : Graph) (q : Query) (optimum : Optimum) (source target : Block) (starts : List Block) (r : Route) → IsMeasured (trail_of g q.from r.arcs)
sums_rise g q optimum source target starts r = measured_of (own_ground g q optimum source target starts) (cert_route r) (trail_of g q.from r.arcs) refl

between_whole : (g : Graph) (u : ℕ) (p : List ℕ) (i : ℕ) → between (trail_of g u p) i (length p) ≤ walk_length g p
between_whole g u p i =
    let whole : between (trail_of g u p) 0 (length p) ≡ walk_length g p = whole_sum g u p in
    let first = sum_after g [] p 0 in
    omega arith

module _ (g : Graph) (q : Query) (optimum : Optimum) (others : List Route) (bound : ℕ) (source target : Block) (starts : List Block) (h : IsPosed g q optimum others bound source target starts) where
  pub short_route : (r : Route) → Contains others r → Stretches q.epsilon (walk_length g r.arcs) optimum.length
  short_route r there =
      let is : IsRoute g q optimum.arcs r = route_in_listing g q optimum.arcs others r h.listing there in
      subst (λ (n : ℕ). Stretches q.epsilon (walk_length g r.arcs) n) (sym h.is_length)
      (short_of_admissible g q optimum.arcs r.arcs h.best (walk_of_route g q optimum.arcs r is) is.alternative.admissible)

  pub start_tree : (r : Route) (prefix back : List ℕ) (i : ℕ) → Contains others r → IsFirst g q.from prefix r.via → r.arcs ≡ prefix ++ back → i < length prefix
      → HasStartTree g (source ∷ target ∷ starts) (vertex_at (trail_of g q.from r.arcs) i) (between (trail_of g q.from r.arcs) i (length r.arcs))
  start_tree r prefix back i there first joined before =
      let x : ℕ = vertex_at (trail_of g q.from r.arcs) i in
      let n : ℕ = between (trail_of g q.from r.arcs) i (length r.arcs) in
      ⊎_elim
      (λ (same : x ≡ q.from).
      let low : walk_length g r.arcs ≤ bound = h.greatest (walk_length g r.arcs) (short_route r there) in
      let whole : n ≤ walk_length g r.arcs = between_whole g q.from r.arcs i in
      let t : HasStartTree g (source ∷ target ∷ starts) q.from n = record {
        block = source;
        is = source_found g q (Some bound) source (target ∷ starts) h.blocks.is_source;
        radius = Some bound;
        tree = h.blocks.is_source;
        within = omega arith;
      } in
      subst (λ (v : ℕ). HasStartTree g (source ∷ target ∷ starts) v n) (sym same) t)
      (λ (other : x ≡ q.from → ⊥).
      let start : IsStart g q others x n = record { route = r; listed = there; prefix = prefix; back = back; first = first; joined = joined; place = i; before = before; is = refl; far = refl } in
      let found : HasStart starts x = h.blocks.are_starts.every x n start other in
      let is : IsStartBlock g q others found.block = h.blocks.are_starts.each found.block found.listed in
      let t : HasStartTree g (source ∷ target ∷ starts) found.block.root n = record {
        block = found.block;
        is = start_found_after g q others bound source target starts found.block h.blocks found.listed;
        radius = Some is.radius;
        tree = is.tree;
        within = is.greatest n (subst (λ (v : ℕ). IsStart g q others v n) (sym found.root) start);
      } in
      subst (λ (v : ℕ). HasStartTree g (source ∷ target ∷ starts) v n) found.root t)
      (cases_eq x q.from)

  -- and so it has a row for each later vertex
  pub later_row : (r : Route) (prefix back : List ℕ) (i j : ℕ) → Contains others r → IsFirst g q.from prefix r.via → r.arcs ≡ prefix ++ back → i < length prefix → i ≤ j → j ≤ length r.arcs
      → HasRow (rows_in (block_of (source ∷ target ∷ starts) kind.From (vertex_at (trail_of g q.from r.arcs) i))) (vertex_at (trail_of g q.from r.arcs) j)
  later_row r prefix back i j there first joined before le inside =
      let is : IsRoute g q optimum.arcs r = route_in_listing g q optimum.arcs others r h.listing there in
      let walk : IsWalk g q.from r.arcs q.to = walk_of_route g q optimum.arcs r is in
      let part : Parted g q.from r.arcs i j = parted g q.from q.to r.arcs i j walk le inside in
      let m : IsMeasured (trail_of g q.from r.arcs) = sums_rise g q optimum source target starts r in
      let rise : get_or (trail_of g q.from r.arcs).sums j 0 ≤ get_or (trail_of g q.from r.arcs).sums (length r.arcs) 0 = m.rise j (length r.arcs) inside (omega (arith, length-sums g 0 r.arcs)) in
      row_of_walk g (source ∷ target ∷ starts) (vertex_at (trail_of g q.from r.arcs) i) (vertex_at (trail_of g q.from r.arcs) j) (between (trail_of g q.from r.arcs) i (length r.arcs)) part.part h.limits.is_graph
      (place_inside g r.arcs q.from q.to i h.limits.is_graph h.asks.from walk (omega arith))
      (start_tree r prefix back i there first joined before) part.walk (omega (arith, part.long))
