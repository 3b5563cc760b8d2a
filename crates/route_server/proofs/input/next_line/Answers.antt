use Rattle.std.proofs.Common.{◌∙◌, ap}
use Rattle.road_io.proofs.ToldLemmas.{IfTold_then}
use Rattle.route_server.specs.Asking.{asked_by}
use Rattle.route_server.proofs.InputLemmas.{go_whole, go_last, go_long_told, go_long_last_told, go_end, go_over, go_failed}
use Rattle.route_server.proofs.input.next_line.Goals as goal

pub returns-in-Whole-clause-goes : goal.returns-in-Whole-clause-goes
returns-in-Whole-clause-goes g c =
    IfTold_then _ _ _ _ (go_whole c.args.reader.now _ _ (c.read_request.ensures ∙ ap asked_by c.line.ensures)) c.in-Whole.ensures.steps

pub returns-in-Last-clause-goes : goal.returns-in-Last-clause-goes
returns-in-Last-clause-goes g c =
    IfTold_then _ _ _ _ (go_last c.args.reader.now c.advance.new.self _ (c.read_request-in-Last.ensures ∙ ap asked_by c.line-in-Last.ensures)) c.in-Last.ensures.steps

pub returns-in-Long-true-default-clause-goes : goal.returns-in-Long-true-default-clause-goes
returns-in-Long-true-default-clause-goes g c =
    IfTold_then _ _ _ _ (go_long_told c.args.reader.now c.advance.new.self c.in-Long-true-default.whole c.in-Long-true-default.first c.in-Long-true-default.whole-test c.requires) c.in-Long-true-default.ensures.steps

pub returns-in-Long-false-default-clause-goes : goal.returns-in-Long-false-default-clause-goes
returns-in-Long-false-default-clause-goes g c =
    IfTold_then _ _ _ _ (go_long_last_told c.args.reader.now c.advance.new.self c.in-Long-false-default.whole c.in-Long-false-default.first c.in-Long-false-default.whole-test c.requires) c.in-Long-false-default.ensures.steps

pub returns-in-End-clause-goes : goal.returns-in-End-clause-goes
returns-in-End-clause-goes g c = IfTold_then _ _ _ _ (go_end c.args.reader.now c.advance.new.self) c.in-End.ensures.steps

pub returns-in-Spent-clause-goes : goal.returns-in-Spent-clause-goes
returns-in-Spent-clause-goes g c = IfTold_then _ _ _ _ (go_over c.args.reader.now c.advance.new.self) c.in-Spent.ensures.steps

pub returns-in-Failed-clause-goes : goal.returns-in-Failed-clause-goes
returns-in-Failed-clause-goes g c = IfTold_then _ _ _ _ (go_failed c.args.reader.now c.advance.new.self) c.in-Failed.ensures.steps
