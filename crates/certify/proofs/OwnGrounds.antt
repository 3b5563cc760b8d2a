-- The blocks that are written give the optimum, the near vertices, and a tree for each start.
--   own_ground g q optimum source target starts   what the blocks and the optimum give for the query
--   IsPosed ..    an optimum, its alternatives, and the blocks that are written for them
use Rattle.std.proofs.Common.{◌≡◌, ℕ, ◌≤◌, List, [], ◌∷◌, reverse, Option, Some, None, sym, subst, arith}
use Rattle.road_model.specs.declared.answer.Optimum.{Optimum}
use Rattle.road_model.specs.declared.answer.Query.{Query}
use Rattle.road_model.specs.declared.answer.Route.{Route}
use Rattle.road_model.specs.Graph.{Graph, reversed}
use Rattle.road_model.specs.File.{IsWithinLimits}
use Rattle.road_model.specs.Walk.{walk_length}
use Rattle.road_model.specs.Dist.{IsDist}
use Rattle.road_model.specs.Canonical.{IsFirst}
use Rattle.road_model.specs.Fraction.{Fraction, Stretches}
use Rattle.road_model.specs.Answers.{IsListing}
use Rattle.road_model.proofs.Dists.{IsDist-same, dist_of_shortest}
use Rattle.road_model.proofs.CanonicalWalks.{IsFirst-unique}
use Rattle.forward_star.proofs.Turned.{IsDist-reversed}
use Rattle.tree_search.specs.Ball.{IsWithin}
use Rattle.certificate_text.specs.declared.certificate.BlockKind.TheVariants as kind
use Rattle.certificate_text.specs.declared.certificate.BlockRow.{BlockRow}
use Rattle.certificate_text.specs.declared.certificate.Block.{Block}
use Rattle.recheck.specs.Rows.{row_of, block_of, rows_in, HasRow}
use Rattle.recheck.specs.Paths.{Ground, ground_of, IsBest, IsBounded}
use Rattle.recheck.specs.Standing.{AllStand}
use Rattle.recheck.specs.Checks.{done, FindsFirst, IsQuery, blocks_checks}
use Rattle.recheck.proofs.RowLookups.{rows_of_block}
use Rattle.recheck.proofs.StandingBlocks.{all_stand}
use Rattle.recheck.proofs.BlockTrees.{IsTree, HasFollowed, tree_in, first_of_followed, dist_from}
use Rattle.recheck.proofs.NearPaths.{IsGrounded, grounded}
use Rattle.certify.proofs.TreeBlocks.{IsOwnTree, own_tree}
use Rattle.certify.proofs.AllBlocks.{AreBlocks, source_found, target_found, all_blocks_pass}

abbrev pub own_ground : Graph → Query → Optimum → Block → Block → List Block → Ground
own_ground g q optimum source target starts = ground_of g q (source ∷ target ∷ starts) optimum.length optimum.arcs

pub record IsPosed (g : Graph) (q : Query) (optimum : Optimum) (others : List Route) (bound : ℕ) (source target : Block) (starts : List Block) : Type 0 where
  pub limits : IsWithinLimits g
  pub asks : IsQuery g q
  pub best : IsFirst g q.from optimum.arcs q.to
  pub is_length : optimum.length ≡ walk_length g optimum.arcs
  pub listing : IsListing g q optimum.arcs others
  pub greatest : (n : ℕ) → Stretches q.epsilon n optimum.length → n ≤ bound
  pub blocks : AreBlocks g q others bound source target starts

pub stretches_itself : (f : Fraction) (n : ℕ) → Stretches f n n
stretches_itself f n = omega arith

module _ (g : Graph) (q : Query) (optimum : Optimum) (others : List Route) (bound : ℕ) (source target : Block) (starts : List Block) (h : IsPosed g q optimum others bound source target starts) where
  pub blocks_pass : (line : ℕ) → FindsFirst (blocks_checks g [] line (source ∷ target ∷ starts) (λ _. done)) None
  blocks_pass line = all_blocks_pass g q optimum.arcs others bound line source target starts h.limits.is_graph h.asks h.listing h.blocks

  blocks_stand : AllStand g (source ∷ target ∷ starts)
  blocks_stand = (all_stand g [] 4 (source ∷ target ∷ starts) (λ _. done) (blocks_pass 4)).0

  found_source : block_of (source ∷ target ∷ starts) kind.From q.from ≡ Some source
  found_source = source_found g q (Some bound) source (target ∷ starts) h.blocks.is_source

  found_target : block_of (source ∷ target ∷ starts) kind.To q.to ≡ Some target
  found_target = target_found g q others bound source target starts h.blocks

  optimum_dist : IsDist g q.from q.to (Some optimum.length)
  optimum_dist = subst (λ (n : ℕ). IsDist g q.from q.to (Some n)) (sym h.is_length) (dist_of_shortest g q.from q.to optimum.arcs h.best.shortest)

  target_row : HasRow source.rows q.to
  target_row =
      let tree : IsOwnTree (reversed g) source.rows q.from (Some bound) = own_tree g kind.From q.from (Some bound) source h.blocks.is_source in
      tree.every q.to optimum.length (IsDist-reversed g q.from q.to (Some optimum.length) optimum_dist) (h.greatest optimum.length (stretches_itself q.epsilon optimum.length))

  pub is_best : IsBest (own_ground g q optimum source target starts)
  is_best =
      let row : HasRow source.rows q.to = target_row in
      let rows : List BlockRow = rows_in (block_of (source ∷ target ∷ starts) kind.From q.from) in
      let same : rows ≡ source.rows = rows_of_block (source ∷ target ∷ starts) kind.From q.from source found_source in
      let is : row_of rows q.to ≡ Some row.row = subst (λ (l : List BlockRow). row_of l q.to ≡ Some row.row) (sym same) row.is in
      let tree : IsTree (reversed g) rows q.from source.radius = tree_in g (source ∷ target ∷ starts) kind.From q.from source h.limits.is_graph blocks_stand found_source in
      let followed : HasFollowed (reversed g) rows q.from q.to = tree.exists q.to row.row is in
      let label : IsDist g q.from q.to (Some row.row.label) = dist_from g q.from q.to (Some row.row.label) (tree.exact q.to row.row is) in
      record {
        source = record { block = source; is = found_source };
        target = record { block = target; is = found_target };
        row = row.row;
        is = is;
        length = IsDist-same g q.from q.to optimum.length row.row.label optimum_dist label;
        path = followed.path;
        follows = followed.follows;
        arcs = IsFirst-unique g q.from q.to optimum.arcs (reverse followed.path) h.best (first_of_followed g rows q.from q.to source.radius followed.path tree followed.follows);
      }

  pub is_bounded : IsBounded (own_ground g q optimum source target starts)
  is_bounded =
      record {
        source = record { block = source; is = found_source; room = (λ n low. subst (λ (r : Option ℕ). IsWithin r n) (sym h.blocks.is_source.is_radius) (h.greatest n low)) };
        target = record { block = target; is = found_target; room = (λ n low. subst (λ (r : Option ℕ). IsWithin r n) (sym h.blocks.is_target.is_radius) (h.greatest n low)) };
      }

  pub is_grounded : IsGrounded (own_ground g q optimum source target starts)
  is_grounded = grounded g q (source ∷ target ∷ starts) optimum.length optimum.arcs h.limits h.asks blocks_stand is_best is_bounded
