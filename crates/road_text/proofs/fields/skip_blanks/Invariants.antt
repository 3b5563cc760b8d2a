use Rattle.std.proofs.Common.{◌≡◌, drop}
use Rattle.road_text.specs.Fields.{fields_of, first_byte}
use Rattle.road_text.proofs.fields.skip_blanks.Given as goal

abbrev pub invariant-loop-i : goal.invariant-loop-i
invariant-loop-i l = record {
  same : fields_of (drop l.i l.line) ≡ fields_of l.line;
  first : first_byte (drop l.i l.line) ≡ first_byte l.line;
}
