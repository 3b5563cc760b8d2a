use Rattle.road_laws.proofs.Walked.{via_3}
use Rattle.road_laws.proofs.Tried.{admissible_a, not_via_2}
use Rattle.road_laws.proofs.worked.the_long_way_of_a_is_admissible.Goals as goal

pub returns-clause-through : goal.returns-clause-through
returns-clause-through c = via_3

pub returns-clause-not_through : goal.returns-clause-not_through
returns-clause-not_through c = not_via_2

pub returns-clause-admissible : goal.returns-clause-admissible
returns-clause-admissible c = admissible_a
