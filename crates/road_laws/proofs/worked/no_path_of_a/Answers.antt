use Rattle.std.proofs.Common.{[], ◌∷◌}
use Rattle.road_laws.proofs.Walked.{walk_12, via_3}
use Rattle.road_laws.proofs.Tried.{no_walk_6_1, no_via_5}
use Rattle.road_laws.proofs.worked.no_path_of_a.Goals as goal

pub returns-clause-none : goal.returns-clause-none
returns-clause-none c = no_walk_6_1

pub returns-clause-some : goal.returns-clause-some
returns-clause-some c = λ h. h (1 ∷ 2 ∷ []) walk_12

pub returns-clause-unreached : goal.returns-clause-unreached
returns-clause-unreached c = no_via_5

pub returns-clause-reached : goal.returns-clause-reached
returns-clause-reached c = λ h. h via_3.prefix via_3.back via_3.first.shortest.walk via_3.last.shortest.walk
