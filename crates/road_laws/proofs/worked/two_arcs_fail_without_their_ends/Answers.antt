use Rattle.road_laws.proofs.Tried.{fails_b, least_b, refused_b}
use Rattle.road_laws.proofs.worked.two_arcs_fail_without_their_ends.Goals as goal

pub returns-clause-fails : goal.returns-clause-fails
returns-clause-fails c = fails_b

pub returns-clause-least : goal.returns-clause-least
returns-clause-least c = least_b

pub returns-clause-refused : goal.returns-clause-refused
returns-clause-refused c = refused_b
