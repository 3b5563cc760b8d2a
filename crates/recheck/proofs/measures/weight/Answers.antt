use Rattle.std.proofs.Common.{◌==◌, Err, sym}
use Rattle.std.specs.List.{list_any}
use Rattle.std.proofs.lemmas.Bool.{cond-false}
use Rattle.std.proofs.lemmas.List.Sorted.{searched}
use Rattle.road_model.specs.Graph.{length_at}
use Rattle.recheck.proofs.SharedSums.{on_missing}
use Rattle.recheck.proofs.measures.weight.Goals as goal

pub returns-in-Err-clause-value : goal.returns-in-Err-clause-value
returns-in-Err-clause-value c =
    let found = searched c.args.ascending.now c.args.arc (Err c.in-Err._place) c.in-Err.ensures.position (λ i j le lt. c.requires i j 0 le lt) in
    sym (cond-false (list_any (λ b. b == c.args.arc) c.args.ascending.now) (length_at c.args.star.now c.args.arc) 0
    (on_missing c.args.ascending.now c.in-Err._place c.args.arc found.1 found.2))
