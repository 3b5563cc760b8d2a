use Rattle.certify.proofs.Certifies.{written_certifies}
use Rattle.certify.proofs.laws.what_is_written_certifies.Goals as goal

pub returns : goal.returns
returns c = written_certifies
