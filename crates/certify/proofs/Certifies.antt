-- A certificate that says what is written for a query's answer passes each check.
use Rattle.std.proofs.Common.{◌≡◌, ◌+◌, ℕ, List, [], ◌∷◌, Some, None, map, refl, sym, subst, ⊎_elim}
use Rattle.road_model.specs.declared.answer.Optimum.{Optimum}
use Rattle.road_model.specs.declared.answer.Plan.{Plan}
use Rattle.road_model.specs.declared.answer.Plan.TheVariants as plan
use Rattle.road_model.specs.declared.answer.Query.{Query}
use Rattle.road_model.specs.declared.answer.Route.{Route}
use Rattle.road_model.specs.Graph.{Graph, reversed}
use Rattle.road_model.specs.File.{IsWithinLimits}
use Rattle.road_model.specs.Dist.{IsDist, NoWalk}
use Rattle.road_model.specs.Queries.{query_of}
use Rattle.road_model.specs.Answers.{IsAnswer}
use Rattle.forward_star.proofs.Turned.{IsGraph-reversed}
use Rattle.certificate_text.specs.declared.certificate.BlockKind.TheVariants as kind
use Rattle.certificate_text.specs.declared.certificate.Block.{Block}
use Rattle.certificate_text.specs.declared.certificate.CertRoute.{CertRoute}
use Rattle.certificate_text.specs.declared.certificate.Finding.{Finding}
use Rattle.certificate_text.specs.declared.certificate.Finding.TheVariants as finding
use Rattle.certificate_text.specs.declared.certificate.Certificate.{Certificate}
use Rattle.recheck.specs.Rows.{row_of, HasRow}
use Rattle.recheck.specs.Paths.{Ground}
use Rattle.recheck.specs.Checks.{FindsFirst, IsQuery, IsCutOff, blocks_checks, finding_checks, found_checks, vias_checks, routes_checks, Certifies}
use Rattle.recheck.proofs.Firsts.{line_after, line_after_routes, blocks_split, routes_split}
use Rattle.recheck.proofs.RowLookups.{row_or_none}
use Rattle.recheck.proofs.BlockTrees.{dist_from}
use Rattle.certify.specs.Written.{IsTreeBlock, IsFoundWritten, IsPlanWritten, IsWritten, cert_route}
use Rattle.certify.proofs.TreeBlocks.{tree_block_passes, IsOwnTree, own_tree, row_exact}
use Rattle.certify.proofs.AllBlocks.{source_found}
use Rattle.certify.proofs.OwnGrounds.{own_ground, IsPosed, blocks_pass, is_best, is_bounded}
use Rattle.certify.proofs.RoutesPass.{routes_pass}
use Rattle.certify.proofs.ViasPass.{vias_pass}

-- the checks after those of the graph and the query
abbrev AllPass : Graph → Query → List Block → Finding → Type 0
AllPass g q bs f = FindsFirst (blocks_checks g [] 4 bs (λ line. finding_checks g q bs line f)) None

nothing_passes : (g : Graph) (q : Query) (source : Block) → IsWithinLimits g → IsQuery g q → NoWalk g q.from q.to → IsTreeBlock g kind.From q.from None source → AllPass g q (source ∷ []) finding.Nothing
nothing_passes g q source limits asks none t =
    let tree : IsOwnTree (reversed g) source.rows q.from None = own_tree g kind.From q.from None source t in
    let beyond : row_of source.rows q.to ≡ None =
    ⊎_elim
    (λ (there : HasRow source.rows q.to).
    let dist : IsDist (reversed g) q.to q.from (Some there.row.label) = row_exact (reversed g) source.rows q.from None (IsGraph-reversed g limits.is_graph) asks.from tree q.to there.row there.is in
    let turned : IsDist g q.from q.to (Some there.row.label) = dist_from g q.from q.to (Some there.row.label) dist in
    absurd (none turned.0.path turned.0.walk))
    (λ (no : row_of source.rows q.to ≡ None). no)
    (row_or_none source.rows q.to) in
    let cut : IsCutOff q (source ∷ []) = record {
      source = record { block = source; is = source_found g q None source [] t };
      whole = t.is_radius;
      beyond = beyond;
    } in
    blocks_split g [] 4 (source ∷ []) (λ line. finding_checks g q (source ∷ []) line finding.Nothing) None
    (tree_block_passes g [] 4 kind.From q.from None source limits.is_graph asks.from t refl)
    (cut, tt)

found_passes : (g : Graph) (q : Query) (optimum : Optimum) (others : List Route) (c : Certificate) (w : IsFoundWritten g q optimum others c) → IsPosed g q optimum others w.bound w.source w.target w.starts
    → AllPass g q (w.source ∷ w.target ∷ w.starts) (finding.Found optimum.length optimum.arcs (map cert_route others) w.vias)
found_passes g q optimum others c w h =
    let o : Ground = own_ground g q optimum w.source w.target w.starts in
    let bs : List Block = w.source ∷ w.target ∷ w.starts in
    let line : ℕ = line_after 4 bs in
    let routes : List CertRoute = map cert_route others in
    let reasons = vias_pass g q optimum others w.bound w.source w.target w.starts h (line_after_routes (line + 1) routes) w.vias w.are_vias in
    let listed = routes_pass g q optimum others w.bound w.source w.target w.starts h (line + 1) None others (λ r there. there) h.listing.ascending (λ r there. tt) in
    let both : FindsFirst (routes_checks o (line + 1) None routes (λ next. vias_checks o routes next 0 w.vias)) None =
    routes_split o (line + 1) None routes (λ next. vias_checks o routes next 0 w.vias) None listed reasons in
    let found : FindsFirst (found_checks o line routes w.vias) None =
    (is_best g q optimum others w.bound w.source w.target w.starts h, (is_bounded g q optimum others w.bound w.source w.target w.starts h, both)) in
    blocks_split g [] 4 bs (λ next. finding_checks g q bs next (finding.Found optimum.length optimum.arcs routes w.vias)) None
    (blocks_pass g q optimum others w.bound w.source w.target w.starts h 4) found

all_pass : (g : Graph) (q : Query) (p : Plan) (c : Certificate) → IsWithinLimits g → IsQuery g q → IsAnswer g q p → IsPlanWritten g q p c → AllPass g q c.blocks c.finding
all_pass g q plan.NoPath c limits asks answer w =
    subst (λ (bs : List Block). AllPass g q bs c.finding) (sym w.blocks)
    (subst (λ (f : Finding). AllPass g q (w.source ∷ []) f) (sym w.finding) (nothing_passes g q w.source limits asks answer w.is_source))
all_pass g q (plan.Found optimum others) c limits asks answer w =
    let h : IsPosed g q optimum others w.bound w.source w.target w.starts = record {
      limits = limits;
      asks = asks;
      best = answer.0.0;
      is_length = answer.0.1;
      listing = answer.1;
      greatest = w.greatest;
      blocks = record { is_source = w.is_source; is_target = w.is_target; are_starts = w.are_starts };
    } in
    subst (λ (bs : List Block). AllPass g q bs c.finding) (sym w.blocks)
    (subst (λ (f : Finding). AllPass g q (w.source ∷ w.target ∷ w.starts) f) (sym w.finding) (found_passes g q optimum others c w h))

pub written_certifies : (g : Graph) (q : Query) (p : Plan) (c : Certificate) → IsWithinLimits g → IsQuery g q → IsAnswer g q p → IsWritten g q p c → Certifies g c
written_certifies g q p c limits asks answer w =
    let passes : IsQuery g (query_of c.query) × AllPass g (query_of c.query) c.blocks c.finding =
    subst (λ (x : Query). IsQuery g x × AllPass g x c.blocks c.finding) (sym w.query) (asks, all_pass g q p c limits asks answer w.plan) in
    (record { vertices = w.vertices; arcs = w.arcs }, passes)
