-- The first failed check of a certificate, from those of its parts.
use Rattle.std.proofs.Common.{◌≡◌, ℕ, ◌+◌, List, [], Option, Some, None, sym, ap, ◌∙◌, subst, inr}
use Rattle.road_model.specs.declared.answer.Query.{Query}
use Rattle.road_model.specs.Graph.{Graph}
use Rattle.road_model.specs.File.{IsWithinLimits}
use Rattle.road_model.specs.Queries.{query_of}
use Rattle.certificate_text.specs.declared.certificate.BlockKind.TheVariants as kind
use Rattle.certificate_text.specs.declared.certificate.Block.{Block}
use Rattle.certificate_text.specs.declared.certificate.BlockRow.{BlockRow}
use Rattle.certificate_text.specs.declared.certificate.CertRoute.{CertRoute}
use Rattle.certificate_text.specs.declared.certificate.ViaRow.{ViaRow}
use Rattle.certificate_text.specs.declared.certificate.Certificate.{Certificate}
use Rattle.certificate_text.specs.declared.fault.CertFault.{CertFault}
use Rattle.recheck.specs.Rows.{block_of, rows_in}
use Rattle.recheck.specs.Paths.{Ground, ground_of, IsBest, IsBounded}
use Rattle.recheck.specs.Standing.{AllStand, IsSound}
use Rattle.recheck.specs.Checks.{done, FindsFirst, HasCounts, IsQuery, blocks_checks, routes_checks, vias_checks, found_checks, finding_checks, checks}
use Rattle.recheck.proofs.Firsts.{line_after, line_after_routes, blocks_some, blocks_split, routes_some, routes_split}
use Rattle.recheck.proofs.StandingBlocks.{all_stand}
use Rattle.recheck.proofs.BlockTrees.{sound_ground}

-- after the optimum, and after the query
abbrev Best : Ground → ℕ → List CertRoute → List ViaRow → Option CertFault → Type 0
Best o line routes vias x = FindsFirst (routes_checks o (line + 1) None routes (λ next. vias_checks o routes next 0 vias)) x

past_best : (o : Ground) (line : ℕ) (routes : List CertRoute) (vias : List ViaRow) (x : Option CertFault) → IsBest o → IsBounded o → Best o line routes vias x → FindsFirst (found_checks o line routes vias) x
past_best o line routes vias None best bounded rest = (best, (bounded, rest))
past_best o line routes vias (Some f) best bounded rest = inr (best, inr (bounded, rest))

pub found_routes : (o : Ground) (line first : ℕ) (routes : List CertRoute) (vias : List ViaRow) (f : CertFault) → IsBest o → IsBounded o → first ≡ line + 1 → FindsFirst (routes_checks o first None routes (λ _. done)) (Some f) → FindsFirst (found_checks o line routes vias) (Some f)
found_routes o line first routes vias f best bounded next here =
    past_best o line routes vias (Some f) best bounded
    (routes_some o (line + 1) None routes (λ n. vias_checks o routes n 0 vias) f (subst (λ (n : ℕ). FindsFirst (routes_checks o n None routes (λ _. done)) (Some f)) next here))

pub found_vias : (o : Ground) (line first later_line : ℕ) (routes : List CertRoute) (vias : List ViaRow) (x : Option CertFault) → IsBest o → IsBounded o → first ≡ line + 1 → later_line ≡ line_after_routes first routes → FindsFirst (routes_checks o first None routes (λ _. done)) None → FindsFirst (vias_checks o routes later_line 0 vias) x → FindsFirst (found_checks o line routes vias) x
found_vias o line first later_line routes vias x best bounded next after here rest =
    let place : later_line ≡ line_after_routes (line + 1) routes = after ∙ ap (λ (n : ℕ). line_after_routes n routes) next in
    past_best o line routes vias x best bounded
    (routes_split o (line + 1) None routes (λ n. vias_checks o routes n 0 vias) x (subst (λ (n : ℕ). FindsFirst (routes_checks o n None routes (λ _. done)) None) next here) (subst (λ (n : ℕ). FindsFirst (vias_checks o routes n 0 vias) x) place rest))

abbrev Blocks : Graph → Certificate → Option CertFault → Type 0
Blocks g c x = FindsFirst (blocks_checks g [] 4 c.blocks (λ line. finding_checks g (query_of c.query) c.blocks line c.finding)) x

past_query : (g : Graph) (c : Certificate) (x : Option CertFault) → HasCounts g c → IsQuery g (query_of c.query) → Blocks g c x → FindsFirst (checks g c) x
past_query g c None counts asks rest = (counts, (asks, rest))
past_query g c (Some f) counts asks rest = inr (counts, inr (asks, rest))

pub first_block : (g : Graph) (c : Certificate) (f : CertFault) → HasCounts g c → IsQuery g (query_of c.query) → FindsFirst (blocks_checks g [] 4 c.blocks (λ _. done)) (Some f) → FindsFirst (checks g c) (Some f)
first_block g c f counts asks here =
    past_query g c (Some f) counts asks (blocks_some g [] 4 c.blocks (λ line. finding_checks g (query_of c.query) c.blocks line c.finding) f here)

pub first_finding : (g : Graph) (c : Certificate) (line : ℕ) (x : Option CertFault) → HasCounts g c → IsQuery g (query_of c.query) → FindsFirst (blocks_checks g [] 4 c.blocks (λ _. done)) None → line ≡ line_after 4 c.blocks → FindsFirst (finding_checks g (query_of c.query) c.blocks line c.finding) x → FindsFirst (checks g c) x
first_finding g c line x counts asks here after rest =
    past_query g c x counts asks
    (blocks_split g [] 4 c.blocks (λ n. finding_checks g (query_of c.query) c.blocks n c.finding) x here (subst (λ (n : ℕ). FindsFirst (finding_checks g (query_of c.query) c.blocks n c.finding) x) after rest))

pub stand_all : (g : Graph) (bs : List Block) (line : ℕ) → FindsFirst (blocks_checks g [] line bs (λ _. done)) None → AllStand g bs
stand_all g bs line here = (all_stand g [] line bs (λ _. done) here).0

-- what the checks of a path lean on
pub ground_is : (g : Graph) (q : Query) (bs : List Block) (best : ℕ) (arcs : List ℕ) (b c : Block) (from_rows to_rows : List BlockRow) → block_of bs kind.From q.from ≡ Some b → from_rows ≡ b.rows → block_of bs kind.To q.to ≡ Some c → to_rows ≡ c.rows →
    ◌≡◌ {A = Ground} (record { graph = g; query = q; blocks = bs; from_rows = from_rows; to_rows = to_rows; best = best; optimum = arcs }) (ground_of g q bs best arcs)
ground_is g q bs best arcs b c from_rows to_rows is_from from is_to to =
    let one : from_rows ≡ rows_in (block_of bs kind.From q.from) = from ∙ sym (ap (λ (o : Option Block). rows_in o) is_from) in
    let two : to_rows ≡ rows_in (block_of bs kind.To q.to) = to ∙ sym (ap (λ (o : Option Block). rows_in o) is_to) in
    ap (λ (l : List BlockRow). record (ground_of g q bs best arcs) { from_rows = l; to_rows = to_rows }) one
    ∙ ap (λ (l : List BlockRow). record (ground_of g q bs best arcs) { to_rows = l }) two

pub sound_basis : (g : Graph) (q : Query) (bs : List Block) (best : ℕ) (arcs : List ℕ) (b c : Block) (from_rows to_rows : List BlockRow) → AllStand g bs → IsWithinLimits g → IsQuery g q → block_of bs kind.From q.from ≡ Some b → from_rows ≡ b.rows → block_of bs kind.To q.to ≡ Some c → to_rows ≡ c.rows →
    IsSound (record { graph = g; query = q; blocks = bs; from_rows = from_rows; to_rows = to_rows; best = best; optimum = arcs })
sound_basis g q bs best arcs b c from_rows to_rows all limits asks is_from from is_to to =
    subst (λ (o : Ground). IsSound o) (sym (ground_is g q bs best arcs b c from_rows to_rows is_from from is_to to))
    (sound_ground g q bs best arcs all limits asks (record { block = b; is = is_from }) (record { block = c; is = is_to }))
