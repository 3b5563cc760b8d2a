use Rattle.std.proofs.Common.{◌≡◌, Some, IsTrue, ◌↔◌, reverse, rules, subst}
use Rattle.road_model.specs.Graph.{reversed}
use Rattle.certificate_text.specs.declared.certificate.BlockKind.TheVariants as kind
use Rattle.recheck.specs.Rows.{row_of, HasBlock}
use Rattle.recheck.specs.Paths.{Ground, Follows, IsBest}
use Rattle.recheck.proofs.BestLemmas.{best_is}
use Rattle.recheck.proofs.best.is_best.Goals as goal

pub returns : goal.returns
returns c =
    let o : Ground = record {
      graph = c.basis.inside.star.now;
      query = c.basis.inside.query;
      blocks = c.basis.inside.blocks.now;
      from_rows = c.basis.inside.from_rows.now;
      to_rows = c.basis.inside.to_rows.now;
      best = c.basis.inside.best;
      optimum = c.basis.inside.optimum.now;
    } in
    let source : HasBlock o.blocks kind.From o.query.from = search rules in
    let target : HasBlock o.blocks kind.To o.query.to = search rules in
    let is : row_of o.from_rows o.query.to ≡ Some c.in-Some.row = search rules in
    let turned : c.in_ok-walk.walk.items ≡ reverse o.optimum = c.in_ok-walk.ensures in
    let test : IsTrue c.follows-is.result ↔ Follows (reversed o.graph) o.from_rows o.query.from o.query.to c.in_ok-walk.walk.items = search rules in
    subst (λ (x : Ground). IsTrue c.follows-is.result ↔ IsBest x) c.basis.view_is
    (best_is o c.in-Some.row c.in_ok-walk.walk.items c.follows-is.result source target is c.if-basis-row.false turned test)
