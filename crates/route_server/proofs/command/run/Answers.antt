use Rattle.route_server.specs.declared.words.Command.TheVariants.{Check, Print, Answer, Certify}
use Rattle.route_server.proofs.CauseLemmas.{accepted_as, ready_as, first_fault_as}
use Rattle.route_server.proofs.CertifyingLemmas.{inside_as, outside_as, same_ends}
use Rattle.route_server.proofs.command.run.Goals as goal

pub returns-in-Answer-clause-first_fault : goal.returns-in-Answer-clause-first_fault
returns-in-Answer-clause-first_fault g c e =
    first_fault_as _ _ _ c.graph_name-name.result.now _ _ c.graph_name-name.ensures (c.answer.ensures.first_fault e)

pub returns-in-Answer-clause-complete : goal.returns-in-Answer-clause-complete
returns-in-Answer-clause-complete g c ready shelf input output =
    c.answer.ensures.complete (accepted_as _ _ c.graph_name-name.result.now c.graph_name-name.ensures (ready_as Answer _ c.read_command.result c.in-Some.command _ _ c.read_command.ensures.command c.in-Some.is c.in-Answer.is ready)) shelf input output

pub returns-in-Check-clause-complete : goal.returns-in-Check-clause-complete
returns-in-Check-clause-complete g c ready shelf input output =
    c.check.ensures.complete (accepted_as _ _ c.graph_name-name.result.now c.graph_name-name.ensures (ready_as Check _ c.read_command.result c.in-Some.command _ _ c.read_command.ensures.command c.in-Some.is c.in-Check.is ready)) shelf output

pub returns-in-Print-clause-complete : goal.returns-in-Print-clause-complete
returns-in-Print-clause-complete g c ready shelf input output =
    c.print.ensures.complete (accepted_as _ _ c.graph_name-name.result.now c.graph_name-name.ensures (ready_as Print _ c.read_command.result c.in-Some.command _ _ c.read_command.ensures.command c.in-Some.is c.in-Print.is ready)) shelf output

pub returns-in-Certify-clause-complete : goal.returns-in-Certify-clause-complete
returns-in-Certify-clause-complete g c ready shelf input output =
    c.certify_named.ensures.complete (inside_as _ _ c.graph_name-name.result.now c.in-Certify.ends c.graph_name-name.ensures (ready_as (Certify c.in-Certify.ends) _ c.read_command.result c.in-Some.command _ _ c.read_command.ensures.command c.in-Some.is c.in-Certify.is ready)) shelf output

pub returns-in-Certify-clause-complete_outside : goal.returns-in-Certify-clause-complete_outside
returns-in-Certify-clause-complete_outside g c ends asked outside shelf =
    c.certify_named.ensures.complete_outside (outside_as _ _ c.graph_name-name.result.now ends c.in-Certify.ends c.graph_name-name.ensures (same_ends _ c.read_command.result c.in-Some.command ends c.in-Certify.ends c.read_command.ensures.command c.in-Some.is c.in-Certify.is asked) outside) shelf
