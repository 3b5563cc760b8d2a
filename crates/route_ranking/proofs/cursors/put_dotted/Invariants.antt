use Rattle.std.proofs.Common.{◌∷◌, take}
use Rattle.std.specs.Prelude.{decimal}
use Rattle.std.specs.List.{flat_map}
use Rattle.road_io.specs.declared.writing.Put.TheVariants.{Done}
use Rattle.road_text.specs.Pieces.{Appends}
use Rattle.route_ranking.proofs.cursors.put_dotted.Given as goal

abbrev pub invariant-loop-number : goal.invariant-loop-number
invariant-loop-number g l = Appends g.K.Sink.written g.K.Sink.faults (flat_map (λ n. 46 ∷ decimal n) (take l.number-index l.numbers)) l.initial.sink l.sink Done
