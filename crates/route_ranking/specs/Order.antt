-- The order of the alternatives.
--   IsInOrder rs    of two routes, the later one is not before the earlier one: not of a lower rank, nor of the
--                   same rank and a lower via
-- Routes of one rank and one via, which a plan has not, may stand either way round.
use Rattle.std.specs.Prelude.{List, AllPairs}
use Rattle.road_model.specs.declared.answer.Route.{Route}
use Rattle.road_model.specs.Answers.{IsBefore}

abbrev pub IsInOrder : List Route → Type 0
IsInOrder rs = AllPairs (λ earlier later. IsBefore later earlier → ⊥) rs
