use Rattle.std.proofs.Common.{◌≡◌, ℕ, ◌+◌, ◌≤◌, List, ◌++◌}
use Rattle.road_io.specs.Told.{IfTold}
use Rattle.certificate_text.specs.declared.certificate.TheConstants.{MAX_CERTIFICATE}
use Rattle.certificate_text.specs.RawLines.{held, budget}
use Rattle.certificate_text.specs.Gathering.{IsOpen, Gathers}
use Rattle.certificate_text.proofs.read.read_certificate.Given as goal

abbrev pub invariant-lines : goal.invariant-lines
invariant-lines g l = record {
  opened : IsOpen l.progress;
  few : l.count + budget l.lines ≤ MAX_CERTIFICATE;
  told : IfTold (g.S.Source.left l.initial.source) (g.S.Source.left l.source) (λ (text rest : List ℕ). Gathers (budget l.lines) text (held l.lines ++ rest) l.progress l.count);
  faults : g.S.Source.faults l.source ≡ g.S.Source.faults l.initial.source;
  unpicked : g.S.Source.picked l.source ≡ g.S.Source.picked l.initial.source;
}

abbrev pub decreases-lines : goal.decreases-lines
decreases-lines g l = budget l.lines
