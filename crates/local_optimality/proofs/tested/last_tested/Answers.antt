use Rattle.std.proofs.Common.{◌≡◌, true, false, sym, ◌∙◌, arith}
use Rattle.local_optimality.proofs.TestedParts.{IsTested-earlier}
use Rattle.local_optimality.proofs.tested.last_tested.Goals as goal

pub returns-then-not-is_tested-clause-last : goal.returns-then-not-is_tested-clause-last
returns-then-not-is_tested-clause-last c = λ j beyond inside tested.
    let here = IsTested-earlier c.args.alpha.now c.args.opt_len c.args.trail.now c.args.first c.loop-last.last j c.requires.rising (omega arith) (omega arith) inside tested in
    let clash : false ≡ true = sym c.if-not-is_tested.true ∙ c.is_tested.ensures.1 here in
    cc
