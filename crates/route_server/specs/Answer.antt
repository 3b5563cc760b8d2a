-- What a run with `answer GRAPH` does, by the contents that the shelf has under the name.
--   Idle                  nothing was read of the input, and nothing was written
--   AnswersGraph          over a graph file that is refused: its fault, and idle; else the lines of the input are
--                         answered over its graph
--   AnswersFile           where there is no such file, a read fault, and idle
use Rattle.std.specs.Prelude.{◌≡◌, ℕ, List, Option, Some, None, Result, Ok, Err}
use Rattle.road_model.specs.Graph.{Graph}
use Rattle.dimacs_reader.specs.declared.fault.GraphFault.{GraphFault}
use Rattle.dimacs_reader.specs.Gr.{gr_text}
use Rattle.route_server.specs.declared.status.Status.{Status}
use Rattle.route_server.specs.declared.status.Status.TheVariants as the
use Rattle.route_server.specs.Giving.{Refuses}
use Rattle.route_server.specs.Serving.{Stops}

pub record Idle (text rest out now : List ℕ) : Type 0 where
  pub unread : rest ≡ text
  pub unwritten : now ≡ out

abbrev pub AnswersGraph : Result Graph GraphFault → List ℕ → List ℕ → List ℕ → List ℕ → Status → Type 0
AnswersGraph (Ok graph) text rest out now status = Stops graph text rest out now status
AnswersGraph (Err fault) text rest out now status = Refuses fault status × Idle text rest out now

abbrev pub AnswersFile : Option (List ℕ) → List ℕ → List ℕ → List ℕ → List ℕ → Status → Type 0
AnswersFile None text rest out now status = (status ≡ the.ReadFault) × Idle text rest out now
AnswersFile (Some bytes) text rest out now status = AnswersGraph (gr_text bytes) text rest out now status
