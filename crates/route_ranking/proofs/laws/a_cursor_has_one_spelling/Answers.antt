use Rattle.route_ranking.proofs.CursorLemmas.{IsTextOf-from_read}
use Rattle.route_ranking.proofs.laws.a_cursor_has_one_spelling.Goals as goal

pub returns-clause-spelling : goal.returns-clause-spelling
returns-clause-spelling c = λ text cursor e. (IsTextOf-from_read text cursor e).spelling

pub returns-clause-small : goal.returns-clause-small
returns-clause-small c = λ text cursor e. (IsTextOf-from_read text cursor e).small
