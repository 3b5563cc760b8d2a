use Rattle.std.proofs.Common.{◌∙◌, ◌+◌, ◌-◌, ap, refl, ℕ, subst, arith}
use Rattle.road_model.specs.Graph.{Graph, arc_count}
use Rattle.road_model.specs.File.{IsWithinLimits}
use Rattle.route_engine.specs.Lineage.{graph_of}
use Rattle.grid_survey.specs.Summary.{step}
use Rattle.grid_survey.proofs.Progress.{has_room, next_query, progress_end, progress_more, progress_start}
use Rattle.grid_survey.proofs.queries.answer_all.Goals as goal

pub loop-query-init : goal.loop-query-init
loop-query-init g c =
    let graph = graph_of c.args.version.now in
    progress_start graph c.args.words.now c.args.queries _ _ (omega arith)
    (c.vertices-vertices.ensures.count ∙ ap (λ (x : Graph). x.vertices) c.star-star.ensures) (c.arc_count.ensures ∙ ap (λ (x : Graph). arc_count x) c.star-star.ensures) refl refl refl refl

pub count-requires : goal.count-requires
count-requires g c =
    let graph = graph_of c.args.version.now in
    has_room graph c.args.words.now c.args.queries c.loop-query.words (c.args.queries - c.loop-query._query) c.loop-query.summary c.usual.result c.in_ok-answer.answer
    (subst (λ (x : Graph). IsWithinLimits x) c.star-star.ensures c.vertices-vertices.ensures.limits) c.requires.few (omega arith) c.loop-query.invariant c.in_ok-answer.ensures

pub loop-query-preserved : goal.loop-query-preserved
loop-query-preserved g c =
    let graph = graph_of c.args.version.now in
    let query = next_query graph c.vertices-vertices.result c.loop-query.words c.drawn-from.new.words c.drawn-from.result c.drawn-to.result c.usual.result (c.vertices-vertices.ensures.count ∙ ap (λ (x : Graph). x.vertices) c.star-star.ensures) c.drawn-from.ensures.value c.drawn-from.ensures.beyond c.drawn-to.ensures.value c.usual.ensures in
    progress_more graph c.args.words.now c.args.queries c.loop-query.words c.drawn-to.new.words (c.args.queries - c.loop-query._query) (c.args.queries - (c.loop-query._query + 1)) c.loop-query.summary c.count.new.self c.usual.result c.in_ok-answer.answer (omega arith)
    (c.drawn-to.ensures.beyond ∙ ap (λ (x : ℕ). step x) c.drawn-from.ensures.beyond)
    query c.loop-query.invariant c.in_ok-answer.ensures c.count.ensures

pub returns : goal.returns
returns g c = progress_end (graph_of c.args.version.now) c.args.words.now c.args.queries c.loop-query.words (c.args.queries - c.loop-query._query) c.loop-query.summary (omega arith) c.loop-query.invariant
