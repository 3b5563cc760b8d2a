use Rattle.std.proofs.Common.{◌≡◌, sym, ap, ◌∙◌, subst}
use Rattle.std.specs.Prelude.{IfOk}
use Rattle.road_model.specs.Graph.{Graph, reversed}
use Rattle.forward_star.proofs.Turned.{reversed-reversed}
use Rattle.certificate_text.specs.declared.certificate.BlockKind.{BlockKind}
use Rattle.certificate_text.specs.declared.certificate.Block.{Block}
use Rattle.recheck.specs.Rows.{toward}
use Rattle.recheck.specs.RowTests.{IsTreeFault}
use Rattle.recheck.proofs.block.block_fault.Goals as goal

pub tree_fault-requires-clause-turned : goal.tree_fault-requires-clause-turned
tree_fault-requires-clause-turned c = sym (ap (λ (g : Graph). reversed g) c.reversed.ensures ∙ reversed-reversed c.args.star.now)

pub returns-in-From : goal.returns-in-From
returns-in-From c =
    let graph : c.reversed.result ≡ toward c.args.block.now.kind c.args.star.now = c.reversed.ensures ∙ ap (λ (k : BlockKind). toward k c.args.star.now) (sym c.in-From.is) in
    let here = subst (λ (h : Graph). IfOk c.tree_fault.result (λ o. IsTreeFault h c.in_ok-table.table c.args.first o)) graph c.tree_fault.ensures in
    subst (λ (b : Block). IfOk c.tree_fault.result (λ o. IsTreeFault (toward c.args.block.now.kind c.args.star.now) b c.args.first o)) c.in_ok-table.ensures here

pub returns : goal.returns
returns c =
    let graph : c.args.star.now ≡ toward c.args.block.now.kind c.args.star.now = ap (λ (k : BlockKind). toward k c.args.star.now) (sym c.in-To.is) in
    let here = subst (λ (h : Graph). IfOk c.tree_fault-in-To.result (λ o. IsTreeFault h c.in_ok-table.table c.args.first o)) graph c.tree_fault-in-To.ensures in
    subst (λ (b : Block). IfOk c.tree_fault-in-To.result (λ o. IsTreeFault (toward c.args.block.now.kind c.args.star.now) b c.args.first o)) c.in_ok-table.ensures here
