use Rattle.std.proofs.Common.{subst}
use Rattle.road_model.specs.declared.answer.Plan.{Plan}
use Rattle.road_model.specs.Answers.{IsAnswer}
use Rattle.certify.proofs.MadeLines.{posed_of}
use Rattle.certify.proofs.making.certificate_of.Goals as goal

pub found-requires-clause-posed : goal.found-requires-clause-posed
found-requires-clause-posed g c =
    let answer = subst (λ (p : Plan). IsAnswer c.args.star.now c.args.query.now p) c.in-Found.is c.requires.answer in
    posed_of c.args.star.now c.args.query.now c.in-Found.optimum c.within_limits.ensures c.requires.source c.requires.target answer.0
