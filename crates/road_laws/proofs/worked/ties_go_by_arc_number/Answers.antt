use Rattle.road_laws.proofs.Walked.{shortest_3, shortest_16, first_3, not_first_16}
use Rattle.road_laws.proofs.worked.ties_go_by_arc_number.Goals as goal

pub returns-clause-both : goal.returns-clause-both
returns-clause-both c = (shortest_3, shortest_16)

pub returns-clause-first : goal.returns-clause-first
returns-clause-first c = first_3

pub returns-clause-other : goal.returns-clause-other
returns-clause-other c = not_first_16
