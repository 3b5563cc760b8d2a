use Rattle.std.proofs.Common.{sym, ◌∙◌}
use Rattle.recheck.proofs.FollowLemmas.{through_same}
use Rattle.recheck.proofs.walks.is_through.Goals as goal

pub returns : goal.returns
returns c =
    let same = through_same c.args.basis.now c.args.v c.in_ok-path.path.items c.args.arcs.now c.in_ok-path.ensures in (
      (λ test. same.0 (sym c.deref.ensures.value ∙ c.same_numbers.ensures.0 test)),
      (λ h. c.same_numbers.ensures.1 (c.deref.ensures.value ∙ same.1 h)),
    )
