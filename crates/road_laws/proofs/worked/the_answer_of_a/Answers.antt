use Rattle.road_laws.proofs.Answered.{answer_a, name_a, plateau_a, not_optimum_alone, not_twice}
use Rattle.road_laws.proofs.worked.the_answer_of_a.Goals as goal

pub returns-clause-answer : goal.returns-clause-answer
returns-clause-answer c = answer_a

pub returns-clause-name : goal.returns-clause-name
returns-clause-name c = name_a

pub returns-clause-plateau : goal.returns-clause-plateau
returns-clause-plateau c = plateau_a

pub returns-clause-less : goal.returns-clause-less
returns-clause-less c = not_optimum_alone

pub returns-clause-more : goal.returns-clause-more
returns-clause-more c = not_twice
