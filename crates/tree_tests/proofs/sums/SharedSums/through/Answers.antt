use Rattle.std.proofs.Common.{◌≡◌, ◌+◌, ℕ, List, subst}
use Rattle.road_model.specs.Alternatives.{IsVia}
use Rattle.tree_tests.specs.Sums.{Shares, carried}
use Rattle.tree_tests.proofs.Halves.{through_sum}
use Rattle.tree_tests.proofs.sums.SharedSums.through.Goals as goal

pub returns-clause-sum : goal.returns-clause-sum
returns-clause-sum c =
    subst (λ (s : Shares). (p : List ℕ) → IsVia s.trees.graph s.trees.source s.trees.target c.args.v p → c.sum_at-from.result + c.sum_at-to.result ≡ carried s.trees.graph s.optimum p) c.self.view_is
    (through_sum c.self.inside.pair.now c.self.inside.optimum.now c.self.inside.ascending.items c.as_slice.result.now c.as_slice-2.result.now c.args.v c.sum_at-from.result c.sum_at-to.result
    c.self.invariant.same c.as_slice.ensures.value c.as_slice-2.ensures.value c.sum_at-from.ensures.sum c.sum_at-to.ensures.sum)
