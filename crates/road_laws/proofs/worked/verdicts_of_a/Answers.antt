use Rattle.road_laws.proofs.Answered.{via_2}
use Rattle.road_laws.proofs.Judged.{listed_4, not_listed_by_itself, not_long}
use Rattle.road_laws.proofs.worked.verdicts_of_a.Goals as goal

pub returns-clause-listed : goal.returns-clause-listed
returns-clause-listed c = listed_4

pub returns-clause-not_by_itself : goal.returns-clause-not_by_itself
returns-clause-not_by_itself c = not_listed_by_itself

pub returns-clause-not_long : goal.returns-clause-not_long
returns-clause-not_long c = not_long

pub returns-clause-optimum : goal.returns-clause-optimum
returns-clause-optimum c = via_2
