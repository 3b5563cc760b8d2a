use Rattle.std.proofs.Common.{◌∙◌, sym, arith}
use Rattle.tree_tests.proofs.sums.sum_at.Goals as goal

pub returns-in-Some-clause-short : goal.returns-in-Some-clause-short
returns-in-Some-clause-short c =
    omega (arith, (c.requires.sums c.args.v c.in-Some.sum (sym c.known.ensures ∙ c.in-Some.is)).low c.distance-distance.result c.distance-distance.ensures.is, c.distance-distance.ensures.short)
