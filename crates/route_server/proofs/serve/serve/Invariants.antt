use Rattle.std.proofs.Common.{◌≡◌, ◌≤◌}
use Rattle.road_text.specs.Reader.{budget}
use Rattle.route_server.specs.Sessions.{state_of}
use Rattle.route_server.proofs.ReadingLemmas.{ReadsOn}
use Rattle.route_server.proofs.ServingLemmas.{Runs}
use Rattle.route_server.proofs.serve.serve.Given as goal

abbrev pub invariant-lines : goal.invariant-lines
invariant-lines g l =
    (l.reader.longest ≡ 1024)
    × Runs (g.V.Version.base l.fn.version) (state_of l.session) l.reader (g.S.Source.left l.fn.input) (g.S.Source.left l.input) (g.K.Sink.written l.fn.output) (g.K.Sink.written l.output)
    × (g.S.Source.faults l.fn.input ≤ g.S.Source.faults l.input)
    × (g.K.Sink.faults l.fn.output ≤ g.K.Sink.faults l.output)
    × (l.session.base ≡ g.V.Version.base l.fn.version)
    × ReadsOn l.reader (g.S.Source.left l.fn.input) (g.S.Source.left l.input)
    × (g.S.Source.faults l.input ≡ g.S.Source.faults l.fn.input)
    × (g.K.Sink.faults l.output ≡ g.K.Sink.faults l.fn.output)

abbrev pub decreases-lines : goal.decreases-lines
decreases-lines g l = budget l.reader
