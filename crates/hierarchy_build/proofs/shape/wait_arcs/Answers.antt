use Rattle.std.proofs.Common.{[], ℕ, List, arith, subst}
use Rattle.std.specs.List.{All}
use Rattle.std.proofs.lemmas.List.{take_all}
use Rattle.road_model.specs.declared.rows.ArcRow.{ArcRow}
use Rattle.road_model.specs.Graph.{rows_of}
use Rattle.hierarchy_build.specs.Waits.{IsInside, IsDue}
use Rattle.hierarchy_build.proofs.Waits.{due_more}
use Rattle.hierarchy_build.proofs.shape.wait_arcs.Goals as goal

pub loop-place-preserved : goal.loop-place-preserved
loop-place-preserved c =
    record {
      inside = subst (λ (n : ℕ). IsInside n c.wait_arc.new.pending) c.loop-place.invariant.inside.size c.in_ok-wait_arc.ensures.inside;
      due = due_more c.args.rank.now (rows_of c.args.star.now) c.loop-place.place c.row-arc.result c.loop-place.pending c.wait_arc.new.pending (omega arith) c.row-arc.ensures c.in_ok-wait_arc.ensures.kept c.loop-place.invariant.due c.in_ok-wait_arc.ensures.due;
    }

pub returns-clause-due : goal.returns-clause-due
returns-clause-due c = subst (λ (l : List ArcRow). All (IsDue 0 c.args.rank.now [] [] c.loop-place.pending) l) (take_all c.loop-place.place (rows_of c.args.star.now) (omega arith)) c.loop-place.invariant.due
