use Rattle.std.proofs.Common.{◌≡◌, ◌<◌, ℕ, Some, slice_get}
use Rattle.plateau_finder.specs.declared.plateau.Plateau.{Plateau}
use Rattle.plateau_finder.proofs.finding.named.Given as goal

abbrev pub invariant-loop-plateau : goal.invariant-loop-plateau
invariant-loop-plateau l = (k : ℕ) (y : Plateau) → k < l.plateau-index → slice_get l.list k ≡ Some y → y.least ≡ l.least → ⊥
