use Rattle.std.proofs.Common.{◌≡◌, inr, ⊎_elim, eq-eqb, eqb-true}
use Rattle.recheck.specs.Rows.{IsTightFor}
use Rattle.recheck.proofs.RowSteps.{same_sum, tight_of_sum}
use Rattle.recheck.proofs.row_tests.is_tight.Goals as goal

pub returns-in-Some : goal.returns-in-Some
returns-in-Some g c =
    let on = c.in-Some.ensures in (
      λ yes. inr (tight_of_sum (g.N.Network.graph c.args.toward.now) c.args.table.now.rows c.args.row c.args.row.arc c.in-Some.sum on.0 on.1 (eqb-true c.in-Some.sum c.args.row.label yes)),
      λ either. ⊎_elim
          (λ (none : c.args.row.arc ≡ 0). absurd (c.if-row-eq0.false none))
          (λ (tight : IsTightFor (g.N.Network.graph c.args.toward.now) c.args.table.now.rows c.args.row c.args.row.arc). eq-eqb c.in-Some.sum c.args.row.label (same_sum (g.N.Network.graph c.args.toward.now) c.args.table.now.rows c.args.row c.args.row.arc c.in-Some.sum on.0 on.1 tight))
          either,
    )
