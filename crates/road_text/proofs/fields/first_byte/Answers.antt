use Rattle.std.proofs.Common.{sym, ◌∙◌}
use Rattle.road_text.proofs.FieldLemmas.{first_byte-at, first_byte-past}
use Rattle.road_text.proofs.fields.first_byte.Goals as goal

pub returns-then-from-line : goal.returns-then-from-line
returns-then-from-line c =
    let from = c.skip_blanks-from in
    sym (first_byte-at c.args.line.now from.result c.if-from-line.true (from.ensures.stops c.if-from-line.true)) ∙ from.ensures.first

pub returns-else-from-line : goal.returns-else-from-line
returns-else-from-line c =
    let from = c.skip_blanks-from in
    sym (first_byte-past c.args.line.now from.result c.if-from-line.false) ∙ from.ensures.first
