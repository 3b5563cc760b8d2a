use Rattle.certificate_text.proofs.WordLemmas.{closed-some}
use Rattle.certificate_text.proofs.words.ended.Goals as goal

pub returns-in-Some : goal.returns-in-Some
returns-in-Some c = closed-some c.args.separator c.args.rest _ c.in-Some.is
