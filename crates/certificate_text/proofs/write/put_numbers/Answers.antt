use Rattle.std.proofs.Common.{ℕ, refl, arith}
use Rattle.certificate_text.specs.Texts.{spaced}
use Rattle.certificate_text.proofs.PutLemmas.{PutsOn_cut, PutsOn_exit, PutsOn_more}
use Rattle.certificate_text.proofs.write.put_numbers.Goals as goal

pub returns-in_err-put_spaced : goal.returns-in_err-put_spaced
returns-in_err-put_spaced g c =
    PutsOn_exit _ c.from_residual.ensures.0
    (PutsOn_cut _ _ (λ (number : ℕ). spaced number) c.args.numbers.now c.loop-number.number-index _ _ _ _ _ _ _ _ (omega arith) refl c.loop-number.invariant c.in_err-put_spaced.ensures)

pub loop-number-preserved : goal.loop-number-preserved
loop-number-preserved g c =
    PutsOn_more _ _ (λ (number : ℕ). spaced number) c.args.numbers.now c.loop-number.number-index _ _ _ _ _ _ _ _ (omega arith) refl c.loop-number.invariant c.in_ok-put_spaced.ensures
