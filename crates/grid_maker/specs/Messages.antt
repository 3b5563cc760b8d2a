-- What a fault says.
--   fault_text fault   why no grid was made
use Rattle.std.specs.Prelude.{ℕ, List, codes}
use Rattle.grid_maker.specs.declared.MakeFault.{MakeFault}
use Rattle.grid_maker.specs.declared.MakeFault.TheVariants.{Size, NoMemory}

abbrev pub fault_text : MakeFault → List ℕ
fault_text Size = codes "a side is outside 1 to 4096"
fault_text NoMemory = codes "out of memory"
