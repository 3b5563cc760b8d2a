use Rattle.std.proofs.Common.{◌∙◌, ◌+◌, refl, sym, subst, arith}
use Rattle.road_model.specs.Graph.{Graph}
use Rattle.road_model.specs.Dist.{HaveSameDist}
use Rattle.via_search.specs.declared.sifting.Sifted.{Sifted}
use Rattle.via_search.specs.Sifting.{IsSifted, IsPut, ArePut}
use Rattle.std.proofs.Common.{take, List}
use Rattle.std.proofs.lemmas.List.{take_all}
use Rattle.via_search.proofs.ViaTrails.{counted_both}
use Rattle.via_search.proofs.AskedSums.{asks_start, asks_more, asks_of_part}
use Rattle.via_search.proofs.Gathering.{gathers_none, gathers_some}
use Rattle.via_search.proofs.routes.put_all.Goals as goal
use Rattle.via_search.proofs.routes.put_all.Goals.{in-Some+in_ok-push, in_default}

pub loop-one-init : goal.loop-one-init
loop-one-init g c =
    record {
      same = refl;
      counted = (λ lt. (omega arith, omega arith));
      asks = asks_start c.args.setting.now (take 0 c.args.sifted.now) (g.O.Oracle.asked c.args.oracle.now);
      put = c.new-routes.ensures;
    }

pub put-requires : goal.put-requires
put-requires g c =
    record {
      same = subst (λ (x : Graph). HaveSameDist c.args.setting.now.graph x) (sym c.loop-one.invariant.same) c.requires.same;
      bound = c.requires.bound;
      sifted = subst (λ (x : Sifted). IsSifted c.args.setting.now x) (sym c.one-item.is) (c.requires.sifted c.loop-one.one-index c.one-item.result c.loop-one-test.true);
    }

pub loop-one-preserved : goal.loop-one-preserved
loop-one-preserved g c =
    let s = c.args.setting.now in
    let old = g.O.Oracle.asked c.args.oracle.now in
    let now = g.O.Oracle.asked c.loop-one.oracle in
    let new = g.O.Oracle.asked c.put.new.oracle in
    let more = asks_more s c.args.sifted.now c.loop-one.one-index old now new c.one-item.result c.loop-one-test.true c.one-item.is c.loop-one.invariant.asks c.put.ensures.asks in
    record {
      same = c.put.ensures.same ∙ c.loop-one.invariant.same;
      counted = counted_both old now new c.loop-one.invariant.counted c.put.ensures.counted;
      asks = more;
      put = elim c.match-branch-2.branch [
        | in-Some+in_ok-push w ↦
            gathers_some (IsPut s) c.args.sifted.now c.loop-one.one-index c.one-item.result c.loop-one.routes c.match-branch-2.routes c.in_ok-route.field-0 w.in-Some.route c.loop-one-test.true c.one-item.is c.loop-one.invariant.put c.in_ok-route.ensures.route w.in-Some.is (w.routes-is ∙ w.in_ok-push.ensures.ok)
        | in_default w ↦
            gathers_none (IsPut s) c.args.sifted.now c.loop-one.one-index c.one-item.result c.loop-one.routes c.match-branch-2.routes c.in_ok-route.field-0 c.loop-one-test.true c.one-item.is c.loop-one.invariant.put c.in_ok-route.ensures.route w.in_default.is w.routes-is
      ];
    }

pub returns-in_err-route-clause-asks : goal.returns-in_err-route-clause-asks
returns-in_err-route-clause-asks g c =
    let s = c.args.setting.now in
    let old = g.O.Oracle.asked c.args.oracle.now in
    let now = g.O.Oracle.asked c.loop-one.oracle in
    let new = g.O.Oracle.asked c.put.new.oracle in
    let more = asks_more s c.args.sifted.now c.loop-one.one-index old now new c.one-item.result c.loop-one-test.true c.one-item.is c.loop-one.invariant.asks c.put.ensures.asks in
    asks_of_part s c.args.sifted.now (c.loop-one.one-index + 1) old new more

pub returns-in_err-push-clause-asks : goal.returns-in_err-push-clause-asks
returns-in_err-push-clause-asks g c =
    let s = c.args.setting.now in
    let old = g.O.Oracle.asked c.args.oracle.now in
    let now = g.O.Oracle.asked c.loop-one.oracle in
    let new = g.O.Oracle.asked c.put.new.oracle in
    let more = asks_more s c.args.sifted.now c.loop-one.one-index old now new c.one-item.result c.loop-one-test.true c.one-item.is c.loop-one.invariant.asks c.put.ensures.asks in
    asks_of_part s c.args.sifted.now (c.loop-one.one-index + 1) old new more

pub returns : goal.returns
returns g c =
    record {
      routes = subst (λ (l : List Sifted). ArePut c.args.setting.now l c.loop-one.routes) (take_all c.loop-one.one-index c.args.sifted.now (omega arith)) c.loop-one.invariant.put;
      same = c.loop-one.invariant.same;
      counted = c.loop-one.invariant.counted;
      asks = asks_of_part c.args.setting.now c.args.sifted.now c.loop-one.one-index (g.O.Oracle.asked c.args.oracle.now) (g.O.Oracle.asked c.loop-one.oracle) c.loop-one.invariant.asks;
    }
