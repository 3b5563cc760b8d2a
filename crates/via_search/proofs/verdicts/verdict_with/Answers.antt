use Rattle.std.proofs.Common.{subst}
use Rattle.road_model.specs.Verdicts.{IsVerdict}
use Rattle.via_search.specs.Settings.{Givens}
use Rattle.via_search.proofs.Posed.{posed_of}
use Rattle.via_search.proofs.Judgements.{long_of_length, not_stretched}
use Rattle.via_search.proofs.PathsThrough.{through_some}
use Rattle.via_search.proofs.verdicts.verdict_with.Goals as goal

pub returns-then-not-stretches-clause-verdict : goal.returns-then-not-stretches-clause-verdict
returns-then-not-stretches-clause-verdict g c =
    let net = c.args.star.now in
    let q = c.args.query.now in
    let posed = posed_of net q c.args.optimum c.in-Some.optimum c.within_limits.ensures c.requires.source c.in-Some.is c.requires.optimum c.requires.short in
    let through = through_some net q.from q.to c.args.via c.in-Some-2.length c.in_ok-length.field-0 c.in_ok-length.ensures.length c.in-Some-2.is in
    record {
      optimum = c.in-Some.optimum.arcs;
      is_optimum = posed.best.0;
      is_verdict = long_of_length net q c.in-Some.optimum c.args.via c.in-Some-2.length posed through (not_stretched q.epsilon c.in-Some-2.length c.in-Some.optimum.length c.stretches.result c.stretches.ensures c.if-not-stretches.true);
    }

pub returns-clause-verdict : goal.returns-clause-verdict
returns-clause-verdict g c =
    let posed = posed_of c.args.star.now c.args.query.now c.args.optimum c.in-Some.optimum c.within_limits.ensures c.requires.source c.in-Some.is c.requires.optimum c.requires.short in
    record {
      optimum = c.in-Some.optimum.arcs;
      is_optimum = posed.best.0;
      is_verdict = subst (λ (y : Givens). IsVerdict y.graph y.query y.optimum.arcs c.args.via c.in_ok-found.found) c.of-setting.ensures c.in_ok-found.ensures.verdict;
    }
