use Rattle.road_model.proofs.Walks.{Cut, cut}
use Rattle.road_laws.proofs.paths.parts_of_walk.Goals as goal

pub returns : goal.returns
returns c = λ g p q u w h. let x : Cut g u p q w = cut g p q u w h in (x.middle, x.prefix, x.back)
