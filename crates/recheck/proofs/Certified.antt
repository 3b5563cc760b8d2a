-- What an accepted certificate proves.
use Rattle.std.proofs.Common.{ℕ, ◌+◌, List, [], Option, None, subst}
use Rattle.road_model.specs.declared.answer.Query.{Query}
use Rattle.road_model.specs.Graph.{Graph, reversed}
use Rattle.road_model.specs.File.{IsWithinLimits}
use Rattle.road_model.specs.Walk.{walk_length}
use Rattle.road_model.specs.Dist.{NoWalk}
use Rattle.road_model.specs.Queries.{query_of}
use Rattle.tree_search.specs.Ball.{IsBeyond}
use Rattle.certificate_text.specs.declared.certificate.BlockKind.TheVariants as kind
use Rattle.certificate_text.specs.declared.certificate.Block.{Block}
use Rattle.certificate_text.specs.declared.certificate.CertRoute.{CertRoute}
use Rattle.certificate_text.specs.declared.certificate.ViaRow.{ViaRow}
use Rattle.certificate_text.specs.declared.certificate.Finding.{Finding}
use Rattle.certificate_text.specs.declared.certificate.Finding.TheVariants as finding
use Rattle.certificate_text.specs.declared.certificate.Certificate.{Certificate}
use Rattle.recheck.specs.declared.whole.Checked.{Checked}
use Rattle.recheck.specs.declared.whole.Checked.TheVariants as checked
use Rattle.recheck.specs.Paths.{Ground, ground_of}
use Rattle.recheck.specs.Standing.{AllStand}
use Rattle.recheck.specs.Checks.{FindsFirst, IsCutOff, IsQuery, finding_checks, found_checks, vias_checks, Certifies, IsChecked}
use Rattle.recheck.specs.Truth.{Proves, TellsTruth}
use Rattle.recheck.proofs.Firsts.{line_after_routes, routes_parts}
use Rattle.recheck.proofs.StandingBlocks.{all_stand}
use Rattle.recheck.proofs.BlockTrees.{IsTree, tree_at, beyond_from}
use Rattle.recheck.proofs.NearPaths.{IsGrounded, grounded}
use Rattle.recheck.proofs.TrueReasons.{true_reason, reasons_stand, others_are_far}
use Rattle.recheck.proofs.TrueRoutes.{listing}

-- a block without a limit has a row for each vertex that a walk leads to
no_path : (g : Graph) (q : Query) (bs : List Block) → IsWithinLimits g → AllStand g bs → IsCutOff q bs → NoWalk g q.from q.to
no_path g q bs limits all cut p walk =
    let block : Block = cut.source.block in
    let tree : IsTree (reversed g) block.rows q.from block.radius = tree_at g bs kind.From q.from block limits.is_graph all cut.source.is in
    subst (λ (radius : Option ℕ). IsBeyond radius (walk_length g p)) cut.whole
    (beyond_from g block.rows q.from q.to block.radius p tree cut.beyond walk)

found : (g : Graph) (q : Query) (bs : List Block) (line long : ℕ) (arcs : List ℕ) (routes : List CertRoute) (vias : List ViaRow) → IsWithinLimits g → IsQuery g q → AllStand g bs → FindsFirst (found_checks (ground_of g q bs long arcs) line routes vias) None → Proves g q (finding.Found long arcs routes vias)
found g q bs line long arcs routes vias limits asks all h =
    let o : Ground = ground_of g q bs long arcs in
    let b : IsGrounded (ground_of g q bs long arcs) = grounded g q bs long arcs limits asks all h.0 h.1.0 in
    let next : ℕ = line_after_routes (line + 1) routes in
    let reasons : FindsFirst (vias_checks o routes (line_after_routes (line + 1) routes) 0 vias) None = (routes_parts o (line + 1) None routes (λ first. vias_checks o routes first 0 vias) h.1.1).1 in (
      ((b.optimum, b.best), listing o (line + 1) next routes vias (λ first. vias_checks o routes first 0 vias) b h.1.1 reasons),
      others_are_far o routes next vias b reasons,
      (λ x there. true_reason o routes x b (reasons_stand o routes next 0 vias reasons x there)),
    )

proved : (g : Graph) (q : Query) (bs : List Block) (line : ℕ) (f : Finding) → IsWithinLimits g → IsQuery g q → AllStand g bs → FindsFirst (finding_checks g q bs line f) None → Proves g q f
proved g q bs line finding.Nothing limits asks all h = no_path g q bs limits all h.0
proved g q bs line (finding.Found long arcs routes vias) limits asks all h = found g q bs line long arcs routes vias limits asks all h

pub certified : (g : Graph) (c : Certificate) → IsWithinLimits g → Certifies g c → Proves g (query_of c.query) c.finding
certified g c limits h =
    let parts = all_stand g [] 4 c.blocks (λ line. finding_checks g (query_of c.query) c.blocks line c.finding) h.1.1 in
    proved g (query_of c.query) c.blocks _ c.finding limits h.1.0 parts.0 parts.1

-- so each answer of the checks is a true one
pub tells_truth : (g : Graph) (c : Certificate) (x : Checked) → IsWithinLimits g → IsChecked g c x → TellsTruth g c x
tells_truth g c (checked.Yes listed) limits h = certified g c limits h.0
tells_truth g c (checked.No fault) limits h = tt
