use Rattle.std.proofs.Common.{sym, ◌∙◌}
use Rattle.certificate_text.proofs.WordLemmas.{parts_at-none, parts_at-some}
use Rattle.certificate_text.proofs.words.cut.Goals as goal

pub returns-in-Some-clause-parts : goal.returns-in-Some-clause-parts
returns-in-Some-clause-parts c = parts_at-some c.args.separator c.args.bytes.now c.in-Some.at (sym c.place.ensures ∙ c.in-Some.is)

pub returns-in-None-clause-parts : goal.returns-in-None-clause-parts
returns-in-None-clause-parts c = parts_at-none c.args.separator c.args.bytes.now (sym c.place.ensures ∙ c.in-None.is)
