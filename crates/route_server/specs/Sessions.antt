-- A session: the versions of a graph that it publishes, and the desk that answers over the newest of them.
--   SessionState    the graph of version 1, the batches that were published, the changes that are staged for the next
--                   one, and what the desk keeps
--   opened g        a session at its start, over a graph as version 1
--   versions_of s   its versions and staged changes, as the state of a run that keeps no plan
--   state_of s      the state of a run that it is in
--   last_plan s     the plan that was used last, which a page is of
--   IsChange r      the request is for a change: a new length of an arc, or a new version
--   IsSoundSession s   each kept plan is the answer of its key, and no staged change has a fault
--   IsChangeMade g state asked reply shown next   a change was made, which is replied; or memory was refused, and the
--                   state stays
--   refusal_of f    what is replied where a new version is refused
use Rattle.std.specs.Prelude.{◌≡◌, ◌⊎◌, List, [], Option, None}
use Rattle.road_model.specs.declared.answer.Plan.{Plan}
use Rattle.road_model.specs.declared.change.Change.{Change}
use Rattle.road_model.specs.declared.change.ChangeFault.{ChangeFault}
use Rattle.road_model.specs.declared.change.ChangeFault.TheVariants as fault
use Rattle.road_model.specs.declared.request.ErrorKind.{ErrorKind}
use Rattle.road_model.specs.declared.request.ErrorKind.TheVariants as error
use Rattle.road_model.specs.declared.request.Reply.{Reply}
use Rattle.road_model.specs.declared.request.Reply.TheVariants as reply
use Rattle.road_model.specs.declared.request.Request.{Request}
use Rattle.road_model.specs.declared.request.Request.TheVariants as the
use Rattle.road_model.specs.Graph.{Graph}
use Rattle.road_model.specs.Changes.{change_fault}
use Rattle.desk_core.specs.declared.refusals.Asked.{Asked}
use Rattle.desk_core.specs.States.{State}
use Rattle.desk_core.specs.Replies.{IsAnswerTo}
use Rattle.desk_core.specs.Desks.{DeskState, empty_desk, first_plan}
use Rattle.desk_core.specs.KeptAnswers.{AreAnswers, with_desk}

pub record SessionState : Type 0 where
  pub base : Graph
  pub batches : List (List Change)
  pub staged : List Change
  pub desk : DeskState

abbrev pub opened : Graph → SessionState
opened g = record { base = g; batches = []; staged = []; desk = empty_desk 8 }

abbrev pub versions_of : SessionState → State
versions_of s = record { batches = s.batches; staged = s.staged; room = 0; keys = [] }

abbrev pub state_of : SessionState → State
state_of s = with_desk (versions_of s) s.desk

abbrev pub last_plan : SessionState → Option Plan
last_plan s = first_plan s.desk

abbrev pub IsChange : Request → Type 0
IsChange (the.Length arc length) = Unit {0}
IsChange the.Publish = Unit {0}
IsChange r = ⊥

pub record IsSoundSession (s : SessionState) : Type 0 where
  pub answers : AreAnswers s.base (versions_of s) s.desk
  pub faultless : change_fault s.base s.staged ≡ None

abbrev pub IsChangeMade : Graph → State → Asked → Reply → Option Plan → State → Type 0
IsChangeMade g state asked r shown next =
    IsAnswerTo g state asked r shown next ⊎ ((r ≡ reply.Error error.Memory) × (next ≡ state))

abbrev pub refusal_of : ChangeFault → ErrorKind
refusal_of fault.ArcRange = error.ArcRange
refusal_of fault.LengthRange = error.LengthRange
refusal_of fault.Full = error.Full
refusal_of fault.NoMemory = error.Memory
