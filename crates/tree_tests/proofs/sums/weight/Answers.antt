use Rattle.std.proofs.Common.{◌≡◌, false, ◌==◌, ℕ, Err, sym, subst}
use Rattle.std.specs.List.{list_any}
use Rattle.std.proofs.lemmas.Bool.{cond-false}
use Rattle.std.proofs.lemmas.List.Sorted.{searched}
use Rattle.tree_tests.proofs.Climbs.{on_missing}
use Rattle.tree_tests.proofs.sums.weight.Goals as goal

pub returns-in-Err : goal.returns-in-Err
returns-in-Err c =
    let found = searched c.args.ascending.now c.number.result (Err c.in-Err._place) c.in-Err.ensures.position (λ i j le lt. c.requires i j 0 le lt) in
    sym (cond-false (list_any (λ b. b == c.args.step.now.arc) c.args.ascending.now) c.args.step.now.length 0
    (subst (λ (n : ℕ). list_any (λ b. b == n) c.args.ascending.now ≡ false) c.number.ensures.value
    (on_missing c.args.ascending.now c.in-Err._place c.number.result found.1 found.2)))
