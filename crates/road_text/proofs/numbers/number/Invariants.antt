use Rattle.std.proofs.Common.{◌≡◌, drop, take}
use Rattle.std.specs.Str.{all_ascii_digits}
use Rattle.std.specs.Str.Parse.{AllDigits, digits_value}
use Rattle.road_text.proofs.numbers.number.Given as goal

abbrev pub invariant-loop-byte : goal.invariant-loop-byte
invariant-loop-byte l = record {
  value : l.value ≡ digits_value 10 (take l.byte-index l.bytes);
  digits : AllDigits 10 (take l.byte-index l.bytes);
  rest : all_ascii_digits (drop l.byte-index l.bytes) ≡ all_ascii_digits l.bytes;
}
