use Rattle.std.proofs.Common.{List, sym, subst, arith}
use Rattle.std.specs.List.{sum_by}
use Rattle.via_search.specs.declared.sifting.Sifted.{Sifted}
use Rattle.via_search.specs.Sifting.{AreSifted}
use Rattle.via_search.proofs.ListedRoutes.{all_sifted, listing_of, asks_at_most}
use Rattle.via_search.proofs.ForkedTests.{stay_same}
use Rattle.via_search.proofs.forked.forked_routes.Goals as goal

pub returns-in_err-sifted-clause-counted : goal.returns-in_err-sifted-clause-counted
returns-in_err-sifted-clause-counted g c =
    stay_same (λ o. g.O.Oracle.asked o) c.args.oracles.now

pub put_pieces-requires-after_bounds : goal.put_pieces-requires-after_bounds
put_pieces-requires-after_bounds g c κs bounds =
    let s = c.args.setting.now in
    let cs = c.args.plateaus.now in
    let kept : AreSifted s cs c.as_slice.result.now = subst (λ (l : List Sifted). AreSifted s cs l) (sym c.as_slice.ensures.value) c.in_ok-sifted.ensures in
    record {
      some = c.requires.some;
      few = omega (arith, c.requires.few);
      same = c.requires.same;
      bound = c.requires.bound;
      sifted = all_sifted s cs c.as_slice.result.now kept;
    }

pub returns-in_err-routes-clause-asks : goal.returns-in_err-routes-clause-asks
returns-in_err-routes-clause-asks g c =
    let s = c.args.setting.now in
    let cs = c.args.plateaus.now in
    let kept : AreSifted s cs c.as_slice.result.now = subst (λ (l : List Sifted). AreSifted s cs l) (sym c.as_slice.ensures.value) c.in_ok-sifted.ensures in
    asks_at_most s cs c.as_slice.result.now (sum_by (λ o. g.O.Oracle.asked o) c.args.oracles.now) (sum_by (λ o. g.O.Oracle.asked o) c.put_pieces.new.oracles) c.requires.plateaus kept c.put_pieces.ensures.tested.asks

pub returns-in_err-routes-2-clause-asks : goal.returns-in_err-routes-2-clause-asks
returns-in_err-routes-2-clause-asks g c =
    let s = c.args.setting.now in
    let cs = c.args.plateaus.now in
    let kept : AreSifted s cs c.as_slice.result.now = subst (λ (l : List Sifted). AreSifted s cs l) (sym c.as_slice.ensures.value) c.in_ok-sifted.ensures in
    asks_at_most s cs c.as_slice.result.now (sum_by (λ o. g.O.Oracle.asked o) c.args.oracles.now) (sum_by (λ o. g.O.Oracle.asked o) c.put_pieces.new.oracles) c.requires.plateaus kept c.put_pieces.ensures.tested.asks

pub returns-clause-listing : goal.returns-clause-listing
returns-clause-listing g c =
    let s = c.args.setting.now in
    let cs = c.args.plateaus.now in
    let kept : AreSifted s cs c.as_slice.result.now = subst (λ (l : List Sifted). AreSifted s cs l) (sym c.as_slice.ensures.value) c.in_ok-sifted.ensures in
    listing_of s cs c.as_slice.result.now c.in_ok-routes.routes c.in_ok-routes-2.routes c.is_posed.ensures c.requires.bound c.requires.plateaus kept c.in_ok-routes.ensures.routes c.in_ok-routes-2.ensures.permutation c.in_ok-routes-2.ensures.order

pub returns-clause-asks : goal.returns-clause-asks
returns-clause-asks g c =
    let s = c.args.setting.now in
    let cs = c.args.plateaus.now in
    let kept : AreSifted s cs c.as_slice.result.now = subst (λ (l : List Sifted). AreSifted s cs l) (sym c.as_slice.ensures.value) c.in_ok-sifted.ensures in
    asks_at_most s cs c.as_slice.result.now (sum_by (λ o. g.O.Oracle.asked o) c.args.oracles.now) (sum_by (λ o. g.O.Oracle.asked o) c.put_pieces.new.oracles) c.requires.plateaus kept c.put_pieces.ensures.tested.asks
