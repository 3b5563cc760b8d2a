use Rattle.road_model.proofs.Walks.{Cut, cut}
use Rattle.road_model.proofs.Dists.{prefix_of_shortest, back_of_shortest}
use Rattle.road_laws.proofs.paths.parts_of_shortest.Goals as goal

pub returns : goal.returns
returns c = λ g p q u w h. let x : Cut g u p q w = cut g p q u w h.walk in (x.middle, prefix_of_shortest g p q u x.middle w h x.prefix x.back, back_of_shortest g p q u x.middle w h x.prefix x.back)
