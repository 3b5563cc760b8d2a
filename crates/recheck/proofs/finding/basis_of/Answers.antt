use Rattle.std.proofs.Common.{◌≡◌, ℕ, Some, sym, ap, ◌∙◌}
use Rattle.certificate_text.specs.declared.certificate.BlockKind.TheVariants as kind
use Rattle.recheck.specs.Rows.{block_of}
use Rattle.recheck.proofs.WholeFaults.{sound_basis}
use Rattle.recheck.proofs.finding.basis_of.Goals as goal

pub invariant_of-result : goal.invariant_of-result
invariant_of-result c =
    let from : block_of c.args.table.now kind.From c.args.query.from ≡ Some c.in_ok-from.from.now = ap (λ (n : ℕ). block_of c.args.table.now kind.From n) (sym c.number.ensures.value) ∙ sym c.in_ok-from.ensures in
    let to : block_of c.args.table.now kind.To c.args.query.to ≡ Some c.in_ok-to.to.now = ap (λ (n : ℕ). block_of c.args.table.now kind.To n) (sym c.number-2.ensures.value) ∙ sym c.in_ok-to.ensures in
    sound_basis c.args.star.now c.args.query c.args.table.now c.args.best c.args.optimum.now c.in_ok-from.from.now c.in_ok-to.to.now c.as_slice.result.now c.as_slice-2.result.now c.requires.stand c.within_limits.ensures c.requires.asks from c.as_slice.ensures to c.as_slice-2.ensures
