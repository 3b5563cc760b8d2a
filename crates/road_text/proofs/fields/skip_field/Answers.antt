use Rattle.std.proofs.Common.{◌≡◌, false, get_or, rules, arith}
use Rattle.road_text.specs.Fields.{is_blank}
use Rattle.road_text.proofs.FieldLemmas.{Passes-more}
use Rattle.road_text.proofs.fields.skip_field.Goals as goal

pub loop-i-preserved : goal.loop-i-preserved
loop-i-preserved c =
    let inside : is_blank (get_or c.args.line.now c.loop-i.i 0) ≡ false = search rules in
    Passes-more c.args.line.now c.args.at c.loop-i.i (omega arith) c.loop-i-test.true inside c.loop-i.invariant
