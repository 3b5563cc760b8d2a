-- A grid that was made has a vertex.
use Rattle.std.proofs.Common.{ℕ, ◌*◌, ◌<◌, ◌≤◌, ⊎_elim, arith}
use Rattle.std.proofs.lemmas.Bool.{cases_lt}
use Rattle.std.proofs.lemmas.Nat.{mul-le}
use Rattle.grid_maker.specs.Grid.{IsSide, grid}

pub some_vertex : (seed width height : ℕ) → ((IsSide width × IsSide height → ⊥) → ⊥) → 1 ≤ (grid seed width height).vertices
unfolding grid
some_vertex seed width height sides =
    ⊎_elim
    (λ (empty : width * height < 1). absurd (sides (λ (both : IsSide width × IsSide height). omega (arith, mul-le 1 1 width height both.0.first both.1.first))))
    (λ (some : 1 ≤ width * height). some)
    (cases_lt (width * height) 1)
