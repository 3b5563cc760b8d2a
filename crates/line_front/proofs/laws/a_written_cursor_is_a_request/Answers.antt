use Rattle.line_front.proofs.RequestLemmas.{parsed_of-next}
use Rattle.line_front.proofs.laws.a_written_cursor_is_a_request.Goals as goal

pub returns : goal.returns
returns c = parsed_of-next
