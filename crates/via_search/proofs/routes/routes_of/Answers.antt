use Rattle.std.proofs.Common.{List, sym, subst}
use Rattle.via_search.specs.declared.sifting.Sifted.{Sifted}
use Rattle.via_search.specs.Sifting.{AreSifted}
use Rattle.via_search.proofs.ListedRoutes.{all_sifted, listing_of, asks_at_most}
use Rattle.via_search.proofs.routes.routes_of.Goals as goal

pub put_all-requires-clause-sifted : goal.put_all-requires-clause-sifted
put_all-requires-clause-sifted g c =
    let s = c.args.setting.now in
    let cs = c.args.plateaus.now in
    let kept : AreSifted s cs c.as_slice.result.now = subst (λ (l : List Sifted). AreSifted s cs l) (sym c.as_slice.ensures.value) c.in_ok-sifted.ensures in
    all_sifted s cs c.as_slice.result.now kept

pub returns-in_err-routes-clause-asks : goal.returns-in_err-routes-clause-asks
returns-in_err-routes-clause-asks g c =
    let s = c.args.setting.now in
    let cs = c.args.plateaus.now in
    let kept : AreSifted s cs c.as_slice.result.now = subst (λ (l : List Sifted). AreSifted s cs l) (sym c.as_slice.ensures.value) c.in_ok-sifted.ensures in
    asks_at_most s cs c.as_slice.result.now (g.O.Oracle.asked c.args.oracle.now) (g.O.Oracle.asked c.put_all.new.oracle) c.requires.plateaus kept c.put_all.ensures.asks

pub returns-in_err-routes-2-clause-asks : goal.returns-in_err-routes-2-clause-asks
returns-in_err-routes-2-clause-asks g c =
    let s = c.args.setting.now in
    let cs = c.args.plateaus.now in
    let kept : AreSifted s cs c.as_slice.result.now = subst (λ (l : List Sifted). AreSifted s cs l) (sym c.as_slice.ensures.value) c.in_ok-sifted.ensures in
    asks_at_most s cs c.as_slice.result.now (g.O.Oracle.asked c.args.oracle.now) (g.O.Oracle.asked c.put_all.new.oracle) c.requires.plateaus kept c.put_all.ensures.asks

pub returns-clause-asks : goal.returns-clause-asks
returns-clause-asks g c =
    let s = c.args.setting.now in
    let cs = c.args.plateaus.now in
    let kept : AreSifted s cs c.as_slice.result.now = subst (λ (l : List Sifted). AreSifted s cs l) (sym c.as_slice.ensures.value) c.in_ok-sifted.ensures in
    asks_at_most s cs c.as_slice.result.now (g.O.Oracle.asked c.args.oracle.now) (g.O.Oracle.asked c.put_all.new.oracle) c.requires.plateaus kept c.put_all.ensures.asks

pub returns-clause-listing : goal.returns-clause-listing
returns-clause-listing g c =
    let s = c.args.setting.now in
    let cs = c.args.plateaus.now in
    let kept : AreSifted s cs c.as_slice.result.now = subst (λ (l : List Sifted). AreSifted s cs l) (sym c.as_slice.ensures.value) c.in_ok-sifted.ensures in
    listing_of s cs c.as_slice.result.now c.in_ok-routes.routes c.in_ok-routes-2.routes c.is_posed.ensures c.requires.bound c.requires.plateaus kept c.in_ok-routes.ensures.routes c.in_ok-routes-2.ensures.permutation c.in_ok-routes-2.ensures.order
