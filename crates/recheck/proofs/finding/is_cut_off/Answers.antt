use Rattle.std.proofs.Common.{◌≡◌, ℕ, List, Option, Some, None, refl, sym, ap, ◌∙◌, subst}
use Rattle.certificate_text.specs.declared.certificate.BlockKind.TheVariants as kind
use Rattle.certificate_text.specs.declared.certificate.BlockRow.{BlockRow}
use Rattle.certificate_text.specs.declared.certificate.Block.{Block}
use Rattle.recheck.specs.Rows.{block_of, rows_in, row_of}
use Rattle.recheck.specs.Standing.{IsRising}
use Rattle.recheck.specs.Checks.{IsCutOff}
use Rattle.recheck.proofs.finding.is_cut_off.Goals as goal

pub find_row-requires : goal.find_row-requires
find_row-requires c =
    let from : block_of c.args.table.now kind.From c.number.result ≡ Some c.in-Some.block.now = sym c.in-Some.ensures in
    let rows : rows_in (block_of c.args.table.now kind.From c.number.result) ≡ c.as_slice.result.now = ap (λ (o : Option Block). rows_in o) from ∙ sym c.as_slice.ensures in
    subst (λ (l : List BlockRow). IsRising l) rows (c.requires c.number.result)

pub returns-in-None-find_row : goal.returns-in-None-find_row
returns-in-None-find_row c =
    let from : block_of c.args.table.now kind.From c.args.query.now.from ≡ Some c.in-Some.block.now = ap (λ (n : ℕ). block_of c.args.table.now kind.From n) (sym c.number.ensures.value) ∙ sym c.in-Some.ensures in
    let beyond : row_of c.in-Some.block.now.rows c.args.query.now.to ≡ None = ap (λ (n : ℕ). row_of c.in-Some.block.now.rows n) (sym c.number-in-None.ensures.value) ∙ ap (λ (l : List BlockRow). row_of l c.number-in-None.result) (sym c.as_slice.ensures) ∙ sym c.in-None-find_row.ensures in
    let cut : IsCutOff c.args.query.now c.args.table.now = record { source = record { block = c.in-Some.block.now; is = from }; whole = c.in-None.is; beyond = beyond } in
    (λ _. cut, λ _. refl)
