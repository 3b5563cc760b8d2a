use Rattle.std.proofs.Common.{IfSome, ap, subst, sym}
use Rattle.road_io.specs.Count.{HasRisen}
use Rattle.road_io.specs.Told.{IfTold}
use Rattle.route_server.specs.declared.status.Status.{Status}
use Rattle.route_server.specs.Answer.{AnswersFile}
use Rattle.route_engine.specs.Lineage.{Lineage}
use Rattle.route_server.proofs.AnsweringLemmas.{answers_loaded, answers_no_version, answers_not_loaded, fault_accepted}
use Rattle.route_server.proofs.answer.answer.Goals as goal

pub returns-in-Err-clause-answers : goal.returns-in-Err-clause-answers
returns-in-Err-clause-answers g c =
    subst (λ (how : Status). IfSome (g.F.Source.left c.args.shelf.now) (λ told.
    IfTold (g.S.Source.left c.args.input.now) (g.S.Source.left c.args.input.now) (λ text rest.
    IfTold (g.K.Sink.written c.args.output.now) (g.K.Sink.written c.args.output.now) (λ out now.
    AnswersFile (told.files c.args.name.now) text rest out now how))))
    (sym c.ends_as.ensures)
    (answers_not_loaded _ _ _ c.args.name.now c.in-Err.error c.in-Err.ensures.loads)

pub returns-in-Ok-from_file-clause-answers : goal.returns-in-Ok-from_file-clause-answers
returns-in-Ok-from_file-clause-answers g c =
    answers_loaded _ _ _ _ _ c.args.name.now c.in-Ok.graph c.in-Ok-from_file.version.base c.serve.result (ap (λ (v : Lineage). v.base) c.in-Ok-from_file.ensures) c.in-Ok.ensures.loads c.serve.ensures.stops

pub returns-in-Err-from_file-clause-answers : goal.returns-in-Err-from_file-clause-answers
returns-in-Err-from_file-clause-answers g c = answers_no_version _ _ _ c.args.name.now c.in-Ok.graph c.in-Ok.ensures.loads

pub returns-in-Ok-from_file-clause-first_fault : goal.returns-in-Ok-from_file-clause-first_fault
returns-in-Ok-from_file-clause-first_fault g c read =
    fault_accepted (g.F.Source.left c.args.shelf.now) (g.F.Source.left c.read_named.new.shelf) c.args.name.now c.in-Ok.graph
    (HasRisen (g.S.Source.faults c.args.input.now) (g.S.Source.faults c.serve.new.input)) c.in-Ok.ensures.loads (c.serve.ensures.read_cause read)
