use Rattle.std.proofs.Common.{◌∙◌, subst}
use Rattle.road_model.specs.Graph.{Graph}
use Rattle.road_model.specs.Tests.{FailsStretch}
use Rattle.path_tests.specs.Rectangle.{FindsIn}
use Rattle.path_tests.proofs.Halving.{IsRectangle-half, rectangle_told, outer_longer, find_before, find_in_halves, askable, asks_of_question, asks_of_halves}
use Rattle.path_tests.proofs.rectangles.+least_in.Goals as goal

pub clears-requires : goal.clears-requires
clears-requires g t c =
    outer_longer (g.O.Oracle.graph c.args.oracle.now) c.args.trail.now c.args.via_at c.args.area c.args.distance c.length_between-outer.result c.requires.joined c.requires.area c.requires.outer c.length_between-outer.ensures

pub returns-then-clears-clause-found : goal.returns-then-clears-clause-found
returns-then-clears-clause-found g t c =
    rectangle_told (g.O.Oracle.graph c.args.oracle.now) c.args.epsilon.now c.args.trail.now c.args.via_at c.args.area c.args.distance c.length_between-outer.result c.length_between-inner.result c.requires.joined c.requires.area c.requires.outer c.length_between-outer.ensures c.length_between-inner.ensures c.if-clears.ensures.low c.if-clears.ensures.cleared

pub distance_between-requires : goal.distance_between-requires
distance_between-requires g t c =
    let area = IsRectangle-half c.args.trail.now c.args.via_at c.args.area c.halved-halves.result.inner c.requires.area c.halved-halves.ensures.inner in
    let ask = askable (g.O.Oracle.graph c.args.oracle.now) (g.O.Oracle.graph c.least_in.new.oracle) c.args.trail.now c.args.via_at c.halved-halves.result.inner c.least_in.ensures.same c.requires.joined area in
    record { start = ask.start; inside = ask.inside; from = ask.from; to = ask.to; reached = ask.reached }

pub returns-in_err-next-clause-asks : goal.returns-in_err-next-clause-asks
returns-in_err-next-clause-asks g t c =
    asks_of_question c.args.area c.halved-halves.result (g.O.Oracle.asked c.args.oracle.now) (g.O.Oracle.asked c.least_in.new.oracle) (g.O.Oracle.asked c.distance_between.new.oracle) c.halved-halves.ensures c.least_in.ensures.asks c.distance_between.ensures.asks

pub returns-in_err-other-clause-asks : goal.returns-in_err-other-clause-asks
returns-in_err-other-clause-asks g t c =
    asks_of_halves c.args.area c.halved-halves.result (g.O.Oracle.asked c.args.oracle.now) (g.O.Oracle.asked c.least_in.new.oracle) (g.O.Oracle.asked c.distance_between.new.oracle) (g.O.Oracle.asked c.least_in-2.new.oracle) c.halved-halves.ensures c.least_in.ensures.asks c.distance_between.ensures.asks c.least_in-2.ensures.asks

pub returns-clause-asks : goal.returns-clause-asks
returns-clause-asks g t c =
    asks_of_halves c.args.area c.halved-halves.result (g.O.Oracle.asked c.args.oracle.now) (g.O.Oracle.asked c.least_in.new.oracle) (g.O.Oracle.asked c.distance_between.new.oracle) (g.O.Oracle.asked c.least_in-2.new.oracle) c.halved-halves.ensures c.least_in.ensures.asks c.distance_between.ensures.asks c.least_in-2.ensures.asks

pub returns-then-begins_before-clause-found : goal.returns-then-begins_before-clause-found
returns-then-begins_before-clause-found g t c =
    find_before (FailsStretch (g.O.Oracle.graph c.args.oracle.now) c.args.epsilon.now c.args.trail.now) c.args.area c.halved-halves.result c.in_ok-found.found c.halved-halves.ensures c.in_ok-found.ensures.found c.if-begins_before.ensures

pub returns-clause-found : goal.returns-clause-found
returns-clause-found g t c =
    find_in_halves (FailsStretch (g.O.Oracle.graph c.args.oracle.now) c.args.epsilon.now c.args.trail.now) c.args.area c.halved-halves.result c.in_ok-found.found c.in_ok-other.other c.lesser.result c.halved-halves.ensures c.in_ok-found.ensures.found
    (subst (λ (x : Graph). FindsIn (FailsStretch x c.args.epsilon.now c.args.trail.now) c.halved-halves.result.inner c.in_ok-other.other) (c.distance_between.ensures.same ∙ c.least_in.ensures.same) c.in_ok-other.ensures.found)
    c.lesser.ensures
