use Rattle.std.proofs.lemmas.Bool.Decides.{Decides-eqb}
use Rattle.std.proofs.lemmas.Slice.Eq.{slice_eq-Decides}
use Rattle.certify.proofs.verdicts.are_same.Goals as goal

pub returns : goal.returns
returns c = slice_eq-Decides (λ a b. Decides-eqb a b) _ _ _ c.eq.ensures
