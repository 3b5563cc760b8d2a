use Rattle.std.proofs.Common.{◌≡◌, take}
use Rattle.road_model.specs.Tests.{shared}
use Rattle.path_tests.proofs.sharing.shared.Given as goal

abbrev pub invariant-loop-a : goal.invariant-loop-a
invariant-loop-a g l = l.sum ≡ shared (g.N.Network.graph l.net) (take l.a-index l.optimum) l.arcs
