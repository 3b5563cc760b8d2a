-- What is said to a line, and the state after it.
--   IsSaid g state asked said shown next   a reply stands beside the plan that it shows a page of
use Rattle.std.specs.Prelude.{◌≡◌, true, false, Option}
use Rattle.road_model.specs.declared.answer.Plan.{Plan}
use Rattle.road_model.specs.Graph.{Graph}
use Rattle.desk_core.specs.States.{State}
use Rattle.line_front.specs.declared.requests.Parsed.{Parsed}
use Rattle.line_front.specs.declared.requests.Parsed.TheVariants as parsed
use Rattle.line_front.specs.Replies.{HasItems, reply_text}
use Rattle.route_server.specs.declared.answering.Said.{Said}
use Rattle.route_server.specs.declared.answering.Said.TheVariants as said
use Rattle.route_server.specs.Asking.{is_quit}
use Rattle.route_server.specs.Serving.{IsReply}

abbrev pub IsSaid : Graph → State → Parsed → Said → Option Plan → State → Type 0
IsSaid g state asked said.Nothing shown next = (asked ≡ parsed.Empty) × (next ≡ state)
IsSaid g state asked said.Quit shown next = is_quit asked ≡ true
IsSaid g state asked (said.Answered reply) shown next =
    (is_quit asked ≡ false) × IsReply g state asked (reply_text reply shown) next × HasItems reply shown
