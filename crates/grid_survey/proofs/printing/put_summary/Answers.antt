use Rattle.std.proofs.Common.{codes}
use Rattle.road_text.proofs.PieceLemmas.{Appends_both, Appends_failed, Appends_exit}
use Rattle.grid_survey.specs.declared.Summary.{Summary}
use Rattle.grid_survey.specs.Summary.{queries_line, routes_line, summary_line}
use Rattle.grid_survey.proofs.printing.put_summary.Goals as goal

pub returns-in_err-put_line : goal.returns-in_err-put_line
returns-in_err-put_line g c =
    let s : Summary = c.args.summary.now in
    let graph = rw (c.from.ensures, c.from-2.ensures) at c.in_err-put_line.ensures in
    Appends_exit _ c.from_residual.ensures.0 (Appends_failed (summary_line (codes "end")) (Appends_failed (routes_line s) (Appends_failed (queries_line s) graph)))

pub returns-in_err-put_line-2 : goal.returns-in_err-put_line-2
returns-in_err-put_line-2 g c =
    let s : Summary = c.args.summary.now in
    let graph = rw (c.from.ensures, c.from-2.ensures) at c.in_ok-put_line.ensures in
    let queries = rw (c.from-3.ensures, c.from-4.ensures) at c.in_err-put_line-2.ensures in
    Appends_exit _ c.from_residual-in_err-put_line-2.ensures.0 (Appends_failed (summary_line (codes "end")) (Appends_failed (routes_line s) (Appends_both graph queries)))

pub returns-in_err-put_line-3 : goal.returns-in_err-put_line-3
returns-in_err-put_line-3 g c =
    let graph = rw (c.from.ensures, c.from-2.ensures) at c.in_ok-put_line.ensures in
    let queries = rw (c.from-3.ensures, c.from-4.ensures) at c.in_ok-put_line-2.ensures in
    Appends_exit _ c.from_residual-in_err-put_line-3.ensures.0 (Appends_failed (summary_line (codes "end")) (Appends_both (Appends_both graph queries) c.in_err-put_line-3.ensures))

pub returns : goal.returns
returns g c =
    let graph = rw (c.from.ensures, c.from-2.ensures) at c.in_ok-put_line.ensures in
    let queries = rw (c.from-3.ensures, c.from-4.ensures) at c.in_ok-put_line-2.ensures in
    Appends_both (Appends_both (Appends_both graph queries) c.in_ok-put_line-3.ensures) c.put.ensures
