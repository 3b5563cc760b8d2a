use Rattle.via_search.proofs.PathsThrough.{path_through}
use Rattle.via_search.proofs.verdicts.length_through.Goals as goal

pub returns-clause-length : goal.returns-clause-length
returns-clause-length g c =
    path_through c.args.star.now c.args.query.now.from c.args.query.now.to c.args.via c.in-Some.near c.in-Some-2.left c.in_ok-near.field-0 c.in_ok-left.field-0
    c.within_limits.ensures c.requires.through c.in_ok-near.ensures.answer c.in-Some.is c.in_ok-left.ensures.answer c.in-Some-2.is
