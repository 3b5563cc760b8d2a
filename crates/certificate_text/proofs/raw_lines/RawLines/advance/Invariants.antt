use Rattle.std.proofs.Common.{◌≡◌, ℕ, ◌+◌, ◌-◌, List, ◌++◌, length}
use Rattle.road_io.specs.Told.{IfTold}
use Rattle.road_text.specs.Lines.{HasNoFeed}
use Rattle.certificate_text.specs.declared.certificate.TheConstants.{MAX_CERTIFICATE}
use Rattle.certificate_text.specs.RawLines.{held, raw_of, budget}
use Rattle.certificate_text.proofs.raw_lines.RawLines.advance.Given as goal

abbrev pub invariant-pieces : goal.invariant-pieces
invariant-pieces g l = record {
  no_feed : HasNoFeed (raw_of l.self);
  taken : budget l.self + length (raw_of l.self) ≡ budget l.fn.self;
  told : IfTold (g.S.Source.left l.initial.source) (g.S.Source.left l.source) (λ (rest after : List ℕ). held l.fn.self ++ rest ≡ raw_of l.self ++ (held l.self ++ after));
  count : g.S.Source.faults l.source ≡ g.S.Source.faults l.initial.source;
  unpicked : g.S.Source.picked l.source ≡ g.S.Source.picked l.initial.source;
}

abbrev pub decreases-pieces : goal.decreases-pieces
decreases-pieces g l = MAX_CERTIFICATE - l.self.taken
