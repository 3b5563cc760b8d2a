use Rattle.std.proofs.Common.{◌≡◌, ℕ, ◌-◌, ◌≤◌, List, ◌++◌, length, take}
use Rattle.road_io.specs.Told.{IfTold}
use Rattle.road_text.specs.Lines.{HasNoFeed}
use Rattle.road_text.specs.Reader.{held}
use Rattle.road_text.specs.Filling.{IsKept}
use Rattle.road_text.proofs.line_reader.LineReader.advance.Given as goal

abbrev pub invariant-pieces : goal.invariant-pieces
invariant-pieces g l = record {
  within : l.seen ≤ length (held l.self);
  no_feed : HasNoFeed (take l.seen (held l.self));
  kept : IsKept l.initial.self l.self;
  told : IfTold (g.S.Source.left l.initial.source) (g.S.Source.left l.source) (λ (rest after : List ℕ). held l.initial.self ++ rest ≡ held l.self ++ after);
  count : g.S.Source.faults l.source ≡ g.S.Source.faults l.initial.source;
  unpicked : g.S.Source.picked l.source ≡ g.S.Source.picked l.initial.source;
}

abbrev pub decreases-pieces : goal.decreases-pieces
decreases-pieces g l = l.self.most - l.self.taken
