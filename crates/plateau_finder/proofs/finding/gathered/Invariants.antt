use Rattle.plateau_finder.proofs.Gathered.{IsGathering}
use Rattle.plateau_finder.proofs.finding.gathered.Given as goal

abbrev pub invariant-loop-v : goal.invariant-loop-v
invariant-loop-v l = IsGathering l.pair l.bound l.v-items l.v-index l.found.items
