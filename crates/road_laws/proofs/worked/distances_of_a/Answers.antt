use Rattle.std.proofs.Common.{[], ◌∷◌}
use Rattle.road_laws.proofs.Walked.{walk_345, walk_12, dist_1_6}
use Rattle.road_laws.proofs.Tried.{no_walk_6_1, no_walk_35, not_22}
use Rattle.road_laws.proofs.worked.distances_of_a.Goals as goal

pub returns-clause-walk : goal.returns-clause-walk
returns-clause-walk c = walk_345

pub returns-clause-no_walk : goal.returns-clause-no_walk
returns-clause-no_walk c = no_walk_35

pub returns-clause-distance : goal.returns-clause-distance
returns-clause-distance c = dist_1_6

pub returns-clause-longer : goal.returns-clause-longer
returns-clause-longer c = not_22

pub returns-clause-none : goal.returns-clause-none
returns-clause-none c = no_walk_6_1

pub returns-clause-some : goal.returns-clause-some
returns-clause-some c = λ h. h (1 ∷ 2 ∷ []) walk_12
