use Rattle.road_laws.proofs.OneVerdict.{SamePlaces, least_local}
use Rattle.road_laws.proofs.answers.least_local_failure_is_one.Goals as goal

pub returns : goal.returns
returns c = λ g alpha l t i j d a b c' h k. let s : SamePlaces i j d a b c' = least_local g alpha l t i j d a b c' h k in (s.first, s.last, s.distance)
