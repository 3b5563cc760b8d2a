use Rattle.std.proofs.Common.{refl}
use Rattle.certificate_text.proofs.RunLemmas.{not_whole}
use Rattle.certificate_text.proofs.read.sort.Goals as goal

pub returns-in_default : goal.returns-in_default
returns-in_default c = (refl, not_whole c.args.progress c.in_default.not-Whole)
