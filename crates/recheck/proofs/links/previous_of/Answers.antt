use Rattle.std.proofs.Common.{sym, ◌∙◌, subst}
use Rattle.recheck.specs.Paths.{Ground}
use Rattle.recheck.specs.Runs.{IsLinked}
use Rattle.recheck.proofs.LinkLemmas.{linked_to}
use Rattle.recheck.proofs.links.previous_of.Goals as goal

pub returns-clause-step : goal.returns-clause-step
returns-clause-step c =
    subst (λ (o : Ground). IsLinked o c.number-previous.result c.args.v) c.basis.view_is
    (linked_to _ c.args.v c.number-previous.result c.in_ok-onward.onward c.in_ok-row.row c.in_ok-arc.arc c.basis.invariant
    (sym c.find_row.ensures ∙ c.in_ok-row.was)
    (sym c.find_arc.ensures ∙ c.in_ok-arc.was)
    c.number-previous.ensures.value
    (sym c.find_row-2.ensures ∙ c.in_ok-onward.was)
    c.if-onward-row.false)
