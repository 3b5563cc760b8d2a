use Rattle.std.proofs.Common.{◌≡◌, true, get_or, rules, ◌∙◌}
use Rattle.road_text.specs.Fields.{is_blank}
use Rattle.road_text.proofs.FieldLemmas.{fields_of-passed, first_byte-passed}
use Rattle.road_text.proofs.fields.skip_blanks.Goals as goal

pub loop-i-preserved : goal.loop-i-preserved
loop-i-preserved c =
    let blank : is_blank (get_or c.args.line.now c.loop-i.i 0) ≡ true = search rules in
    record {
      same = fields_of-passed c.args.line.now c.loop-i.i c.loop-i-test.true blank ∙ c.loop-i.invariant.same;
      first = first_byte-passed c.args.line.now c.loop-i.i c.loop-i-test.true blank ∙ c.loop-i.invariant.first;
    }
