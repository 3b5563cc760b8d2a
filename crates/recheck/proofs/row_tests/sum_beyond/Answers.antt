use Rattle.std.proofs.Common.{ℕ, sym, ap, ◌∙◌, refl}
use Rattle.recheck.specs.Rows.{row_of}
use Rattle.recheck.proofs.row_tests.sum_beyond.Goals as goal

pub returns : goal.returns
returns g c = (
  record {
    arc = c.in_ok-arc.arc;
    is = sym c.find_arc.ensures ∙ c.in_ok-arc.was;
    tail = sym c.number.ensures.value ∙ c.if-number-row.false;
    next = c.in_ok-next.next;
    beyond = ap (λ (v : ℕ). row_of c.args.table.now.rows v) (sym c.number-2.ensures.value) ∙ sym c.row.ensures ∙ c.in_ok-next.was;
  },
  refl,
)
