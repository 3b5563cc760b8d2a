use Rattle.std.proofs.Common.{◌≡◌, ◌<◌, ◌≤◌, length, get_or, refl, ap, ◌∙◌, subst, List}
use Rattle.std.specs.List.{All}
use Rattle.std.proofs.lemmas.List.{take_all}
use Rattle.std.proofs.lemmas.List.Elements.{All-more, All-contains}
use Rattle.certificate_text.specs.declared.certificate.BlockRow.{BlockRow}
use Rattle.certificate_text.specs.declared.certificate.Block.{Block}
use Rattle.recheck.specs.RowTests.{IsClosedAt, AreClosed}
use Rattle.recheck.proofs.row_tests.is_closed.Goals as goal

pub loop-row-preserved : goal.loop-row-preserved
loop-row-preserved g c =
    let same : c.as_slice-row-items.result.now ≡ c.args.table.now.rows = c.as_slice-row-items.ensures ∙ ap (λ (b : Block). b.rows) c.block.ensures in
    let inside : c.loop-row.row-index < length c.args.table.now.rows = subst (λ (l : List BlockRow). c.loop-row.row-index < length l) same c.loop-row-test.true in
    let here : IsClosedAt (g.M.Network.graph c.args.away.now) c.args.table.now (get_or c.args.table.now.rows c.loop-row.row-index (record { vertex = 0; label = 0; arc = 0 })) = subst (λ (l : List BlockRow). IsClosedAt (g.M.Network.graph c.args.away.now) c.args.table.now (get_or l c.loop-row.row-index (record { vertex = 0; label = 0; arc = 0 }))) same (c.is_closed_at.ensures.0 c.if-not-is_closed_at.false) in
    All-more (IsClosedAt (g.M.Network.graph c.args.away.now) c.args.table.now) c.args.table.now.rows c.loop-row.row-index (record { vertex = 0; label = 0; arc = 0 }) inside c.loop-row.invariant here

pub returns : goal.returns
returns g c =
    let same : c.as_slice-row-items.result.now ≡ c.args.table.now.rows = c.as_slice-row-items.ensures ∙ ap (λ (b : Block). b.rows) c.block.ensures in
    let past : length c.args.table.now.rows ≤ c.loop-row.row-index = subst (λ (l : List BlockRow). length l ≤ c.loop-row.row-index) same c.loop-row-test.false in
    let all : All (IsClosedAt (g.M.Network.graph c.args.away.now) c.args.table.now) c.args.table.now.rows = subst (λ (l : List BlockRow). All (IsClosedAt (g.M.Network.graph c.args.away.now) c.args.table.now) l) (take_all c.loop-row.row-index c.args.table.now.rows past) c.loop-row.invariant in
    let closed : AreClosed (g.M.Network.graph c.args.away.now) c.args.table.now = λ r there. All-contains (IsClosedAt (g.M.Network.graph c.args.away.now) c.args.table.now) c.args.table.now.rows r all there in
    (λ _. closed, λ _. refl)
