use Rattle.std.proofs.Common.{◌≡◌, ◌≤◌, length, take, Some}
use Rattle.route_ranking.specs.Cursors.{all_numbers}
use Rattle.route_ranking.proofs.FieldLemmas.{fields_at_dots}
use Rattle.route_ranking.proofs.cursors.read_numbers.Given as goal

abbrev pub invariant-loop-field : goal.invariant-loop-field
invariant-loop-field l =
    (goal.iterator-loop-field).can_next l.field-iterator
    × (goal.iterator-loop-field).is_finite l.field-iterator
    × record {
      count : l.count ≡ length l.yielded;
      size : length l.numbers ≡ 11;
      few : l.count ≤ 11;
      numbers : all_numbers (take l.count (fields_at_dots l.text)) ≡ Some (take l.count l.numbers);
    }
