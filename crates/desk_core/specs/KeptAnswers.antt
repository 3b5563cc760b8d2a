-- What a desk keeps, in a run of requests.
--   with_desk state desk     the state whose room and keys are those of a desk
--   IsKeptAnswer g state k   its version was published, and its plan is the answer of that version to its query
--   AreAnswers g state desk  each kept plan is one; g is the graph of version 1
use Rattle.std.specs.Prelude.{◌≤◌, All}
use Rattle.road_model.specs.Graph.{Graph}
use Rattle.road_model.specs.Answers.{IsAnswer}
use Rattle.road_model.specs.Queries.{query_of}
use Rattle.desk_core.specs.States.{State, newest, graph_at}
use Rattle.desk_core.specs.Desks.{Kept, DeskState, keys_of}

abbrev pub with_desk : State → DeskState → State
with_desk state desk = record state { room = desk.room; keys = keys_of desk }

pub record IsKeptAnswer (g : Graph) (state : State) (k : Kept) : Type 0 where
  pub is_published : k.key.version ≤ newest state
  pub is_answer : IsAnswer (graph_at g state k.key.version) (query_of k.key.query) k.plan

abbrev pub AreAnswers : Graph → State → DeskState → Type 0
AreAnswers g state desk = All (IsKeptAnswer g state) desk.kept
