-- The graph of a pair is that of its star.
use Rattle.std.proofs.Common.{◌≡◌, ℕ, subst}
use Rattle.road_model.specs.Graph.{Graph, IsVertex}

pub vertex_of : (g : Graph) (s v : ℕ) → v ≡ s → IsVertex g.vertices v → IsVertex g.vertices s
vertex_of g s v same h = subst (λ (x : ℕ). IsVertex g.vertices x) same h
