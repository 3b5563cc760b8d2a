use Rattle.std.proofs.Common.{sym, ◌∙◌}
use Rattle.dimacs_reader.proofs.JudgeLemmas.{is_comment-is, Judges-comment, Judges-fields, Judges-cut}
use Rattle.dimacs_reader.proofs.judge.judge.Goals as goal

pub returns-then-begins_comment : goal.returns-then-begins_comment
returns-then-begins_comment c =
    Judges-comment c.args.problem c.args.count c.args.line.now
    (is_comment-is c.args.line.now c.first_byte.result _ c.first_byte.ensures (sym c.begins_comment.ensures ∙ c.if-begins_comment.true))

pub returns-else-begins_comment : goal.returns-else-begins_comment
returns-else-begins_comment c =
    Judges-fields c.args.problem c.args.count c.args.line.now c.judge_fields.result
    (is_comment-is c.args.line.now c.first_byte.result _ c.first_byte.ensures (sym c.begins_comment.ensures ∙ c.if-begins_comment.false))
    c.requires c.judge_fields.ensures

pub returns-in-Some : goal.returns-in-Some
returns-in-Some c =
    let found = c.in-Some.ensures in
    Judges-cut c.args.problem c.args.count c.args.line.now _ c.judge_numbers.result found.shown c.requires found.fields
    (c.judge_numbers.ensures found.first found.second found.third found.tail_is found.head_is found.length_is)
