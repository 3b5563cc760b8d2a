use Rattle.std.proofs.Common.{◌≡◌, ℕ, ◌++◌, List, IsSome}
use Rattle.std.specs.Prelude.{unwrap_or}
use Rattle.road_model.specs.Canonical.{IsLast}
use Rattle.tree_search.specs.Ball.{label_at}
use Rattle.canonical_trees.proofs.descent.follow.Given as goal

-- the arcs so far, with any canonical walk on from here, are a canonical walk
abbrev pub invariant-loop-step : goal.invariant-loop-step
invariant-loop-step g l = record {
  labelled : IsSome (label_at l.labels l.at);
  walked : (walk : List ℕ) × (l.arcs.items ≡ l.initial.arcs.items ++ walk) × ((rest : List ℕ) → IsLast (g.N.Network.graph l.net) l.at rest l.root → IsLast (g.N.Network.graph l.net) l.fn.v (walk ++ rest) l.root);
}

abbrev pub decreases-loop-step : goal.decreases-loop-step
decreases-loop-step g l = unwrap_or (label_at l.labels l.at) 0
