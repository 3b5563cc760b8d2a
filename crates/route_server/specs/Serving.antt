-- What a run over request lines writes.
--   opening                    the state that a run begins with: nothing is published or staged, and no answer is kept;
--                              there is room for eight
--   IsRequestReply ..          the bytes are the lines of a reply to the request, which is a step from the state
--   IsReply g state asked bytes next   the bytes that one line gets, and the state after it: none for a line that says
--                              nothing, else the lines of a reply
--   IsTurnOf request turns later bytes others   the first turn is of this request, and the bytes begin with its reply
--   AreSaid asked turns bytes  the bytes that these lines get, one after another, where the turns are those of the requests
--                              among them
--   IsReplies g state asked bytes last   the same, where the turns are a run from the state to the last
--   Written g lines out now last   the replies to these lines stand after what stood before, from the opening on
--   WrittenPrefix ..            a prefix of these replies stands there
--   Stops g text rest out now status   how a run over the lines of a text may end: rest is what is left to read,
--                              out what stood written before, now what stands written
--     Done        every line has its reply, to the end of the text or to the line that ends the run
--     ReadFault   every line that was read whole has its reply, and none of them ends the run
--     InputLong   the text has more than 4294967296 bytes; every line that ends among these has its reply, and none of
--                 them ends the run
--     WriteFault  a prefix of the replies to some of its first lines, which end among so many bytes
--     NoMemory    the replies to some of its first lines, which end among so many bytes
--   IsDone, IsCut, IsOverlong, IsUnwritten, IsStarved   what that says of Done, ReadFault, InputLong, WriteFault and
--                              NoMemory
use Rattle.std.specs.Prelude.{◌≡◌, ◌<◌, ◌≤◌, ◌⊎◌, ℕ, List, [], ◌∷◌, ◌++◌, Option, None, length, take}
use Rattle.road_model.specs.declared.answer.Plan.{Plan}
use Rattle.road_model.specs.declared.request.Reply.{Reply}
use Rattle.road_model.specs.declared.request.Reply.TheVariants as reply
use Rattle.road_model.specs.declared.request.Request.{Request}
use Rattle.road_model.specs.Graph.{Graph}
use Rattle.road_text.specs.Lines.{whole_lines}
use Rattle.line_front.specs.declared.requests.Parsed.{Parsed}
use Rattle.line_front.specs.declared.requests.Parsed.TheVariants as parsed
use Rattle.line_front.specs.Replies.{reply_text}
use Rattle.desk_core.specs.States.{State, at_start}
use Rattle.desk_core.specs.Replies.{IsStep}
use Rattle.desk_core.specs.Runs.{Turn, IsRun}
use Rattle.route_server.specs.declared.status.Status.{Status}
use Rattle.route_server.specs.declared.status.Status.TheVariants.{Done, CheckedNo, Usage, GraphRefused, ReadFault, WriteFault, NoMemory, InputLong, QueryRefused}
use Rattle.route_server.specs.Asking.{asked_in, lines_within, most_input, NoQuit}

abbrev pub opening : State
opening = at_start 8

pub record IsRequestReply (g : Graph) (state : State) (request : Request) (bytes : List ℕ) (next : State) : Type 0 where
  pub reply : Reply
  pub shown : Option Plan
  pub is_step : IsStep g state request reply shown next
  pub is : bytes ≡ reply_text reply shown

abbrev pub IsReply : Graph → State → Parsed → List ℕ → State → Type 0
IsReply g state parsed.Empty bytes next = (bytes ≡ []) × (next ≡ state)
IsReply g state (parsed.Request request) bytes next = IsRequestReply g state request bytes next
IsReply g state (parsed.Error kind) bytes next = (bytes ≡ reply_text (reply.Error kind) None) × (next ≡ state)

pub record IsTurnOf (request : Request) (turns later : List Turn) (bytes others : List ℕ) : Type 0 where
  pub turn : Turn
  pub asks : turn.request ≡ request
  pub first : turns ≡ turn ∷ later
  pub text : bytes ≡ reply_text turn.reply turn.shown ++ others

abbrev pub AreSaid : List Parsed → List Turn → List ℕ → Type 0
AreSaid [] turns bytes = (turns ≡ []) × (bytes ≡ [])
AreSaid (parsed.Empty ∷ more) turns bytes = AreSaid more turns bytes
AreSaid (parsed.Request request ∷ more) turns bytes =
    (later : List Turn) × (others : List ℕ) × IsTurnOf request turns later bytes others × AreSaid more later others
AreSaid (parsed.Error kind ∷ more) turns bytes =
    (others : List ℕ) × (bytes ≡ reply_text (reply.Error kind) None ++ others) × AreSaid more turns others

pub record IsReplies (g : Graph) (state : State) (asked : List Parsed) (bytes : List ℕ) (last : State) : Type 0 where
  pub turns : List Turn
  pub run : IsRun g state turns last
  pub said : AreSaid asked turns bytes

pub record Written (g : Graph) (lines : List (List ℕ)) (out now : List ℕ) (last : State) : Type 0 where
  pub bytes : List ℕ
  pub replies : IsReplies g opening (asked_in lines) bytes last
  pub is : now ≡ out ++ bytes

-- a prefix of them
pub record WrittenPrefix (g : Graph) (lines : List (List ℕ)) (out now : List ℕ) (last : State) : Type 0 where
  pub bytes : List ℕ
  pub replies : IsReplies g opening (asked_in lines) bytes last
  pub prefix : List ℕ
  pub beyond : List ℕ
  pub parts : bytes ≡ prefix ++ beyond
  pub is : now ≡ out ++ prefix

pub record IsDone (g : Graph) (text rest out now : List ℕ) : Type 0 where
  pub last : State
  pub written : Written g (lines_within text) out now last
  pub ended : (length text ≤ most_input) ⊎ (NoQuit (lines_within text) → ⊥)

pub record IsCut (g : Graph) (text rest out now : List ℕ) : Type 0 where
  pub last : State
  pub taken : List ℕ
  pub is : text ≡ taken ++ rest
  pub written : Written g (whole_lines taken) out now last
  pub unquit : NoQuit (whole_lines taken)

pub record IsOverlong (g : Graph) (text rest out now : List ℕ) : Type 0 where
  pub last : State
  pub long : most_input < length text
  pub written : Written g (whole_lines (take most_input text)) out now last
  pub unquit : NoQuit (whole_lines (take most_input text))

pub record IsUnwritten (g : Graph) (text rest out now : List ℕ) : Type 0 where
  pub last : State
  pub some : List (List ℕ)
  pub others : List (List ℕ)
  pub parts : lines_within text ≡ some ++ others
  pub written : WrittenPrefix g some out now last

pub record IsStarved (g : Graph) (text rest out now : List ℕ) : Type 0 where
  pub last : State
  pub some : List (List ℕ)
  pub others : List (List ℕ)
  pub parts : lines_within text ≡ some ++ others
  pub written : Written g some out now last

abbrev pub Stops : Graph → List ℕ → List ℕ → List ℕ → List ℕ → Status → Type 0
Stops g text rest out now Done = IsDone g text rest out now
Stops g text rest out now (CheckedNo fault) = ⊥
Stops g text rest out now Usage = ⊥
Stops g text rest out now (GraphRefused fault) = ⊥
Stops g text rest out now ReadFault = IsCut g text rest out now
Stops g text rest out now WriteFault = IsUnwritten g text rest out now
Stops g text rest out now NoMemory = IsStarved g text rest out now
Stops g text rest out now InputLong = IsOverlong g text rest out now
Stops g text rest out now QueryRefused = ⊥
