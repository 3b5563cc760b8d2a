use Rattle.road_laws.proofs.Tried.{least_s, closed_s}
use Rattle.road_laws.proofs.worked.closed_subpaths_fail.Goals as goal

pub returns-clause-least : goal.returns-clause-least
returns-clause-least c = least_s

pub returns-clause-closed : goal.returns-clause-closed
returns-clause-closed c = closed_s
