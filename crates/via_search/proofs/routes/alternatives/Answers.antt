use Rattle.std.proofs.Common.{Some, List, sym, subst}
use Rattle.canonical_trees.specs.Trees.{Trees}
use Rattle.plateau_finder.specs.declared.plateau.Plateau.{Plateau}
use Rattle.plateau_finder.specs.Plateaus.{ArePlateaus}
use Rattle.via_search.specs.Candidates.{IsBoundOf, pair_of}
use Rattle.via_search.specs.Settings.{Givens, trees_of}
use Rattle.via_search.specs.Asks.{AsksAtMost}
use Rattle.via_search.proofs.AskedSums.{asks_for_plan}
use Rattle.via_search.proofs.routes.alternatives.Goals as goal

pub routes_of-requires-clause-bound : goal.routes_of-requires-clause-bound
routes_of-requires-clause-bound g c =
    subst (λ (y : Givens). IsBoundOf y.query y.optimum.length y.reach) (sym c.of-setting.ensures)
    (record { within = c.bound-bound.ensures.within; greatest = c.bound-bound.ensures.greatest })

pub routes_of-requires-clause-plateaus : goal.routes_of-requires-clause-plateaus
routes_of-requires-clause-plateaus g c =
    let reach = c.bound-bound.result in
    subst (λ (y : Givens). ArePlateaus (trees_of y) (Some y.reach) c.as_slice.result.now) (sym c.of-setting.ensures)
    (subst (λ (l : List Plateau). ArePlateaus (pair_of c.args.star.now c.args.query.now reach) (Some reach) l) (sym c.as_slice.ensures)
    (subst (λ (ts : Trees). ArePlateaus ts (Some reach) c.in_ok-plateaus.plateaus) c.in_ok-pair.ensures c.in_ok-plateaus.ensures))

pub returns-in_err-routes-clause-asks : goal.returns-in_err-routes-clause-asks
returns-in_err-routes-clause-asks g c =
    let old = g.O.Oracle.asked c.args.oracle.now in
    let new = g.O.Oracle.asked c.routes_of.new.oracle in
    asks_for_plan c.args.star.now c.args.query.now c.args.optimum.now c.bound-bound.result old new c.requires.posed
    (record { within = c.bound-bound.ensures.within; greatest = c.bound-bound.ensures.greatest })
    (subst (λ (y : Givens). AsksAtMost y.graph y.query.from y.query.to y.reach y.optimum.arcs old new) c.of-setting.ensures c.routes_of.ensures.asks)

pub returns-clause-asks : goal.returns-clause-asks
returns-clause-asks g c =
    let old = g.O.Oracle.asked c.args.oracle.now in
    let new = g.O.Oracle.asked c.routes_of.new.oracle in
    asks_for_plan c.args.star.now c.args.query.now c.args.optimum.now c.bound-bound.result old new c.requires.posed
    (record { within = c.bound-bound.ensures.within; greatest = c.bound-bound.ensures.greatest })
    (subst (λ (y : Givens). AsksAtMost y.graph y.query.from y.query.to y.reach y.optimum.arcs old new) c.of-setting.ensures c.routes_of.ensures.asks)
