use Rattle.std.proofs.Common.{◌≡◌, ℕ, ◌+◌, ◌-◌, ◌<◌, List, [], ◌++◌, length}
use Rattle.road_io.specs.Told.{IfTold}
use Rattle.road_text.specs.Lines.{HasNoFeed}
use Rattle.road_text.specs.Fields.{first_byte}
use Rattle.road_text.specs.Reader.{held, HasTaken}
use Rattle.road_text.proofs.line_reader.LineReader.skip.Given as goal

abbrev pub invariant-pieces : goal.invariant-pieces
invariant-pieces g l = (raw : List ℕ) × record {
  no_feed : HasNoFeed raw;
  first : l.first ≡ first_byte raw;
  long : l.self.longest + 1 < length raw;
  empty : held l.self ≡ [];
  taken : HasTaken l.fn.self l.self (length raw);
  told : IfTold (g.S.Source.left l.fn.source) (g.S.Source.left l.source) (λ (rest after : List ℕ). held l.fn.self ++ rest ≡ raw ++ after);
  count : g.S.Source.faults l.source ≡ g.S.Source.faults l.fn.source;
  unpicked : g.S.Source.picked l.source ≡ g.S.Source.picked l.fn.source;
}

abbrev pub decreases-pieces : goal.decreases-pieces
decreases-pieces g l = l.self.most - l.self.taken
