use Rattle.std.proofs.Common.{◌≡◌, false}
use Rattle.std.specs.List.{AllByRecursion, between}
use Rattle.road_text.specs.Fields.{is_blank}
use Rattle.road_text.proofs.fields.skip_field.Given as goal

abbrev pub invariant-loop-i : goal.invariant-loop-i
invariant-loop-i l = AllByRecursion (λ b. is_blank b ≡ false) (between l.at l.i l.line)
