use Rattle.route_ranking.proofs.CursorLemmas.{cursor_of-cursor_text}
use Rattle.route_ranking.proofs.laws.a_written_cursor_is_read_again.Goals as goal

pub returns : goal.returns
returns c = cursor_of-cursor_text
