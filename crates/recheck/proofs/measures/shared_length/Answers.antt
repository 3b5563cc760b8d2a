use Rattle.std.proofs.Common.{ap, ◌∙◌, List, ℕ}
use Rattle.road_model.specs.Tests.{shared}
use Rattle.recheck.proofs.SharedSums.{shared_permuted}
use Rattle.recheck.proofs.measures.shared_length.Goals as goal

pub returns-clause-value : goal.returns-clause-value
returns-clause-value c =
    c.shared_with.ensures.value
    ∙ ap (λ (l : List ℕ). shared c.args.star.now c.args.optimum.now l) c.deref.ensures.value
    ∙ shared_permuted c.args.star.now c.args.optimum.now c.args.path.now c.in_ok-ascending.ascending.items c.in_ok-ascending.ensures.permutation
