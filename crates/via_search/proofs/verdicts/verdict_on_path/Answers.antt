use Rattle.std.proofs.Common.{subst}
use Rattle.std.proofs.lemmas.Bool.{iff_false}
use Rattle.via_search.specs.Candidates.{IsPosed}
use Rattle.via_search.specs.Settings.{Givens}
use Rattle.via_search.proofs.PathsThrough.{found_some, not_through, inside_through, named_through}
use Rattle.via_search.proofs.Judgements.{is_other, listed_of}
use Rattle.via_search.proofs.verdicts.verdict_on_path.Goals as goal

pub name_of-requires : goal.name_of-requires
name_of-requires g c =
    let x = c.args.setting.now in
    inside_through x.graph x.query.from x.query.to c.args.via x.reach c.requires.through

pub unreachable-requires : goal.unreachable-requires
unreachable-requires g c =
    let x = c.args.setting.now in
    not_through x.graph x.query.from x.query.to c.args.via x.reach c.in_ok-candidate.field-0 c.in_ok-candidate.ensures c.in_default.is c.requires.through

pub returns-clause-verdict : goal.returns-clause-verdict
returns-clause-verdict g c =
    let x = c.args.setting.now in
    let own = c.in-Some.candidate in
    let posed = subst (λ (y : Givens). IsPosed y.graph y.query y.optimum) c.setting.view_is c.setting.invariant.posed in
    let found = found_some x.graph x.query.from x.query.to x.reach c.args.via c.in_ok-candidate.field-0 own c.in_ok-candidate.ensures c.in-Some.is in
    listed_of x.graph x.query x.optimum.arcs own.arcs c.args.via c.in-Passed.field-0 c.name_of.result c.in_ok-judge.field-0 posed.best.0
    (is_other x.graph x.query x.optimum.arcs c.args.via own found.0 found.1 (iff_false c.is_optimum.ensures c.if-is_optimum.false))
    c.in_ok-judge.ensures.judged c.in-Passed.is (named_through x.graph x.query.from x.query.to c.args.via x.reach c.name_of.result own found.0 found.1 found.2 c.name_of.ensures)
