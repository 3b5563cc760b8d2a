-- How the reply to one line ends, where out stood written before and now stands afterwards, and the state goes on to
-- the next.
--   IsServed       the line doesn't end the run, and its reply stands after what stood before
--   IsServedPrefix  the line doesn't end the run, and a prefix of its reply stands there
--   IsQuit         the line ends the run, and nothing was written
--   Serves         Written: its reply stands there; Quit: it ends the run; WriteFault: a prefix of its reply stands
--                  there; NoMemory: nothing was written
--   SendsReply     the same of the write of a reply, which ends no run
use Rattle.std.specs.Prelude.{◌≡◌, ℕ, true, false, List, ◌++◌, Option}
use Rattle.road_model.specs.declared.answer.Plan.{Plan}
use Rattle.road_model.specs.declared.request.Reply.{Reply}
use Rattle.road_model.specs.Graph.{Graph}
use Rattle.desk_core.specs.States.{State}
use Rattle.line_front.specs.declared.requests.Parsed.{Parsed}
use Rattle.route_server.specs.declared.serve.Served.{Served}
use Rattle.route_server.specs.declared.serve.Served.TheVariants as the
use Rattle.line_front.specs.Replies.{reply_text}
use Rattle.road_io.specs.Sink.{WritesPrefix}
use Rattle.route_server.specs.Asking.{is_quit}
use Rattle.route_server.specs.Serving.{IsReply}

pub record IsServed (g : Graph) (state : State) (asked : Parsed) (out now : List ℕ) (next : State) : Type 0 where
  pub unquit : is_quit asked ≡ false
  pub bytes : List ℕ
  pub reply : IsReply g state asked bytes next
  pub is : now ≡ out ++ bytes

pub record IsServedPrefix (g : Graph) (state : State) (asked : Parsed) (out now : List ℕ) : Type 0 where
  pub next : State
  pub unquit : is_quit asked ≡ false
  pub bytes : List ℕ
  pub reply : IsReply g state asked bytes next
  pub prefix : List ℕ
  pub beyond : List ℕ
  pub parts : bytes ≡ prefix ++ beyond
  pub is : now ≡ out ++ prefix

pub record IsQuit (asked : Parsed) (out now : List ℕ) : Type 0 where
  pub quit : is_quit asked ≡ true
  pub is : now ≡ out

abbrev pub Serves : Graph → State → Parsed → List ℕ → List ℕ → State → Served → Type 0
Serves g state asked out now next the.Written = IsServed g state asked out now next
Serves g state asked out now next the.Quit = IsQuit asked out now
Serves g state asked out now next the.WriteFault = IsServedPrefix g state asked out now
Serves g state asked out now next the.NoMemory = now ≡ out

-- how the write of a reply ends
abbrev pub SendsReply : Reply → Option Plan → List ℕ → List ℕ → Served → Type 0
SendsReply reply shown out now the.Written = now ≡ out ++ reply_text reply shown
SendsReply reply shown out now the.Quit = ⊥
SendsReply reply shown out now the.WriteFault = WritesPrefix (reply_text reply shown) out now
SendsReply reply shown out now the.NoMemory = now ≡ out
