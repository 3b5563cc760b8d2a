use Rattle.std.proofs.Common.{sym, ◌∙◌, subst}
use Rattle.recheck.specs.Paths.{Ground}
use Rattle.recheck.specs.Runs.{IsLinked}
use Rattle.recheck.proofs.LinkLemmas.{linked_from}
use Rattle.recheck.proofs.links.next_of.Goals as goal

pub returns-clause-step : goal.returns-clause-step
returns-clause-step c =
    subst (λ (o : Ground). IsLinked o c.args.u c.number-next.result) c.basis.view_is
    (linked_from _ c.args.u c.number-next.result c.in_ok-row.row c.in_ok-beyond.beyond c.in_ok-arc.arc c.basis.invariant
    (sym c.find_row.ensures ∙ c.in_ok-row.was)
    (sym c.find_arc.ensures ∙ c.in_ok-arc.was)
    c.number-next.ensures.value
    (sym c.find_row-2.ensures ∙ c.in_ok-beyond.was)
    c.if-beyond-row.false)
