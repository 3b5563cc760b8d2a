use Rattle.std.proofs.Common.{[], ◌∷◌}
use Rattle.certificate_text.proofs.PutLemmas.{PutsOn_both, PutsOn_exit, PutsOn_failed}
use Rattle.certificate_text.proofs.write.put_tail.Goals as goal

pub returns-in_err-put_numbers : goal.returns-in_err-put_numbers
returns-in_err-put_numbers g c = PutsOn_exit _ c.from_residual.ensures.0 (PutsOn_failed (10 ∷ []) c.in_err-put_numbers.ensures)

pub returns : goal.returns
returns g c = PutsOn_both c.in_ok-put_numbers.ensures c.put_word.ensures
