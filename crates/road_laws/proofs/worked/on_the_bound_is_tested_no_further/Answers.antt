use Rattle.road_laws.proofs.Tried.{none_local_a, untested_on_bound, least_below_bound}
use Rattle.road_model.specs.Queries.{ratio}
use Rattle.road_laws.proofs.worked.on_the_bound_is_tested_no_further.Goals as goal

pub returns-clause-on_it : goal.returns-clause-on_it
returns-clause-on_it c = none_local_a (ratio 3 10) untested_on_bound

pub returns-clause-below_it : goal.returns-clause-below_it
returns-clause-below_it c = least_below_bound
