use Rattle.std.proofs.Common.{◌≡◌, List, [], ap, ◌∙◌, subst}
use Rattle.std.specs.Prelude.{Option, Some, None, IfOk}
use Rattle.std.proofs.lemmas.Result.{IfOk-weaker}
use Rattle.road_model.specs.declared.answer.Query.{Query}
use Rattle.road_model.specs.Queries.{query_of}
use Rattle.certificate_text.specs.declared.certificate.Block.{Block}
use Rattle.certificate_text.specs.declared.fault.CertFault.{CertFault}
use Rattle.recheck.specs.Lines.{line_after}
use Rattle.recheck.specs.Checks.{done, FindsFirst, blocks_checks, finding_checks, checks}
use Rattle.recheck.proofs.WholeFaults.{first_block, first_finding, stand_all}
use Rattle.recheck.proofs.whole.first_fault.Goals as goal

pub returns-in-Ok-Some : goal.returns-in-Ok-Some
returns-in-Ok-Some c =
    let table : c.in_ok-table.table ≡ c.args.cert.now.blocks = c.in_ok-table.ensures ∙ c.as_slice-blocks.ensures in
    let found = subst (λ (o : Option CertFault). FindsFirst (blocks_checks c.args.graph.now [] 4 c.in_ok-table.table (λ _. done)) o) c.in-Ok-Some.field-0-is c.in-Ok-Some.ensures in
    let here = subst (λ (bs : List Block). FindsFirst (blocks_checks c.args.graph.now [] 4 bs (λ _. done)) (Some c.in-Ok-Some.fault)) table found in
    first_block c.args.graph.now c.args.cert.now c.in-Ok-Some.fault (c.has_counts.ensures.0 c.if-not-has_counts.false) c.in-Some.ensures.inside here

pub finding_fault-requires-clause-stand : goal.finding_fault-requires-clause-stand
finding_fault-requires-clause-stand c =
    let found = subst (λ (o : Option CertFault). FindsFirst (blocks_checks c.args.graph.now [] 4 c.in_ok-table.table (λ _. done)) o) c.in-Ok-None.field-0-is c.in-Ok-None.ensures in
    stand_all c.args.graph.now c.in_ok-table.table 4 found

pub returns : goal.returns
returns c =
    let table : c.in_ok-table.table ≡ c.args.cert.now.blocks = c.in_ok-table.ensures ∙ c.as_slice-blocks.ensures in
    let found = subst (λ (o : Option CertFault). FindsFirst (blocks_checks c.args.graph.now [] 4 c.in_ok-table.table (λ _. done)) o) c.in-Ok-None.field-0-is c.in-Ok-None.ensures in
    let here = subst (λ (bs : List Block). FindsFirst (blocks_checks c.args.graph.now [] 4 bs (λ _. done)) None) table found in
    let line : c.in_ok-line.line ≡ line_after 4 c.args.cert.now.blocks = c.in_ok-line.ensures ∙ ap (λ (bs : List Block). line_after 4 bs) c.as_slice-blocks.ensures in
    let one = subst (λ (bs : List Block). IfOk c.finding_fault.result (λ o. FindsFirst (finding_checks c.args.graph.now c.in-Some.query bs c.in_ok-line.line c.args.cert.now.finding) o)) table c.finding_fault.ensures in
    let rest = subst (λ (q : Query). IfOk c.finding_fault.result (λ o. FindsFirst (finding_checks c.args.graph.now q c.args.cert.now.blocks c.in_ok-line.line c.args.cert.now.finding) o)) c.in-Some.ensures.value one in
    IfOk-weaker c.finding_fault.result (λ (o : Option CertFault). FindsFirst (finding_checks c.args.graph.now (query_of c.args.cert.now.query) c.args.cert.now.blocks c.in_ok-line.line c.args.cert.now.finding) o) (λ (o : Option CertFault). FindsFirst (checks c.args.graph.now c.args.cert.now) o)
    (λ o more. first_finding c.args.graph.now c.args.cert.now c.in_ok-line.line o (c.has_counts.ensures.0 c.if-not-has_counts.false) c.in-Some.ensures.inside here line more)
    rest
