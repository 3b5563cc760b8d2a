use Rattle.std.proofs.Common.{◌≡◌, take}
use Rattle.via_search.specs.Settings.{trees_of}
use Rattle.via_search.specs.Sifting.{AreSifted}
use Rattle.via_search.proofs.sifting.sift_all.Given as goal

abbrev pub invariant-loop-plateau : goal.invariant-loop-plateau
invariant-loop-plateau l = record {
  sifted : AreSifted l.setting (take l.plateau-index l.plateaus) l.left.items;
  sums : l.sums ≡ record { trees = trees_of l.setting; optimum = l.setting.optimum.arcs };
  ways : l.ways ≡ trees_of l.setting;
}
