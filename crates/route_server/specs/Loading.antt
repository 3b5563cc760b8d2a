-- What reading a graph file answers, by the contents that the shelf has under its name.
--   Loads None r            there is no such file: a read fault
--   Loads (Some bytes) r    the graph that the bytes give, or their first fault; or else a read failed, or
--                           memory was refused
--   KeepsFiles old new      a shelf that told its files before tells the same ones afterwards
--   ends_as e               how a run ends that met this error
use Rattle.std.specs.Prelude.{◌≡◌, ℕ, List, Option, Some, None, Result, Ok, Err}
use Rattle.road_io.specs.Told.{Told}
use Rattle.road_model.specs.Graph.{Graph}
use Rattle.dimacs_reader.specs.declared.fault.GraphError.{GraphError}
use Rattle.dimacs_reader.specs.declared.fault.GraphError.TheVariants.{Refused, ReadFault, NoMemory}
use Rattle.dimacs_reader.specs.Gr.{gr_text}
use Rattle.route_server.specs.declared.status.Status.{Status}
use Rattle.route_server.specs.declared.status.Status.TheVariants as status

abbrev pub Loads : Option (List ℕ) → Result Graph GraphError → Type 0
Loads None (Ok graph) = ⊥
Loads None (Err (Refused fault)) = ⊥
Loads None (Err ReadFault) = Unit {0}
Loads None (Err NoMemory) = ⊥
Loads (Some bytes) (Ok graph) = gr_text bytes ≡ Ok graph
Loads (Some bytes) (Err (Refused fault)) = gr_text bytes ≡ Err fault
Loads (Some bytes) (Err ReadFault) = Unit {0}
Loads (Some bytes) (Err NoMemory) = Unit {0}

abbrev pub KeepsFiles : Option Told → Option Told → Type 0
KeepsFiles None None = Unit {0}
KeepsFiles None (Some b) = ⊥
KeepsFiles (Some a) None = ⊥
KeepsFiles (Some a) (Some b) = b.files ≡ a.files

abbrev pub ends_as : GraphError → Status
ends_as (Refused fault) = status.GraphRefused fault
ends_as ReadFault = status.ReadFault
ends_as NoMemory = status.NoMemory
