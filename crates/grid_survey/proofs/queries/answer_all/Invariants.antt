use Rattle.std.proofs.Common.{◌-◌}
use Rattle.route_engine.specs.Lineage.{graph_of}
use Rattle.grid_survey.proofs.Progress.{IsProgress}
use Rattle.grid_survey.proofs.queries.answer_all.Given as goal

abbrev pub invariant-loop-query : goal.invariant-loop-query
invariant-loop-query g l = IsProgress (graph_of l.version) l.fn.words l.queries l.words (l.queries - l._query) l.summary
