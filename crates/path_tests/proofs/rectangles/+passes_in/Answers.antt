use Rattle.std.proofs.Common.{◌∙◌, subst}
use Rattle.road_model.specs.Graph.{Graph}
use Rattle.road_model.specs.Tests.{FailsStretch}
use Rattle.path_tests.specs.Rectangle.{TellsPassingIn}
use Rattle.path_tests.proofs.Halving.{IsRectangle-half, rectangle_told, outer_longer, tell_in_halves, askable, asks_of_question, asks_of_halves}
use Rattle.path_tests.proofs.rectangles.+passes_in.Goals as goal

pub clears-requires : goal.clears-requires
clears-requires g t c =
    outer_longer (g.O.Oracle.graph c.args.oracle.now) c.args.trail.now c.args.via_at c.args.area c.args.distance c.length_between-outer.result c.requires.joined c.requires.area c.requires.outer c.length_between-outer.ensures

pub returns-then-clears-clause-passes : goal.returns-then-clears-clause-passes
returns-then-clears-clause-passes g t c =
    rectangle_told (g.O.Oracle.graph c.args.oracle.now) c.args.epsilon.now c.args.trail.now c.args.via_at c.args.area c.args.distance c.length_between-outer.result c.length_between-inner.result c.requires.joined c.requires.area c.requires.outer c.length_between-outer.ensures c.length_between-inner.ensures c.if-clears.ensures.low c.if-clears.ensures.cleared

pub distance_between-requires : goal.distance_between-requires
distance_between-requires g t c =
    let area = IsRectangle-half c.args.trail.now c.args.via_at c.args.area c.halved-halves.result.inner c.requires.area c.halved-halves.ensures.inner in
    let ask = askable (g.O.Oracle.graph c.args.oracle.now) (g.O.Oracle.graph c.passes_in.new.oracle) c.args.trail.now c.args.via_at c.halved-halves.result.inner c.passes_in.ensures.same c.requires.joined area in
    record { start = ask.start; inside = ask.inside; from = ask.from; to = ask.to; reached = ask.reached }

pub returns-in_err-next-clause-asks : goal.returns-in_err-next-clause-asks
returns-in_err-next-clause-asks g t c =
    asks_of_question c.args.area c.halved-halves.result (g.O.Oracle.asked c.args.oracle.now) (g.O.Oracle.asked c.passes_in.new.oracle) (g.O.Oracle.asked c.distance_between.new.oracle) c.halved-halves.ensures c.passes_in.ensures.asks c.distance_between.ensures.asks

pub returns-in_err-passes-2-clause-asks : goal.returns-in_err-passes-2-clause-asks
returns-in_err-passes-2-clause-asks g t c =
    asks_of_halves c.args.area c.halved-halves.result (g.O.Oracle.asked c.args.oracle.now) (g.O.Oracle.asked c.passes_in.new.oracle) (g.O.Oracle.asked c.distance_between.new.oracle) (g.O.Oracle.asked c.passes_in-2.new.oracle) c.halved-halves.ensures c.passes_in.ensures.asks c.distance_between.ensures.asks c.passes_in-2.ensures.asks

pub returns-clause-asks : goal.returns-clause-asks
returns-clause-asks g t c =
    asks_of_halves c.args.area c.halved-halves.result (g.O.Oracle.asked c.args.oracle.now) (g.O.Oracle.asked c.passes_in.new.oracle) (g.O.Oracle.asked c.distance_between.new.oracle) (g.O.Oracle.asked c.passes_in-2.new.oracle) c.halved-halves.ensures c.passes_in.ensures.asks c.distance_between.ensures.asks c.passes_in-2.ensures.asks

pub returns-clause-passes : goal.returns-clause-passes
returns-clause-passes g t c =
    tell_in_halves (FailsStretch (g.O.Oracle.graph c.args.oracle.now) c.args.epsilon.now c.args.trail.now) c.args.area c.halved-halves.result c.in_ok-passes.passes c.in_ok-passes-2.passes c.halved-halves.ensures c.in_ok-passes.ensures.passes c.if-not-passes.false
    (subst (λ (x : Graph). TellsPassingIn (FailsStretch x c.args.epsilon.now c.args.trail.now) c.halved-halves.result.inner c.in_ok-passes-2.passes) (c.distance_between.ensures.same ∙ c.passes_in.ensures.same) c.in_ok-passes-2.ensures.passes)
