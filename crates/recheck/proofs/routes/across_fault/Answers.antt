use Rattle.std.proofs.Common.{inl, inr}
use Rattle.std.proofs.lemmas.Bool.{iff_false}
use Rattle.recheck.proofs.routes.across_fault.Goals as goal

pub returns-then-not-is_unstretched : goal.returns-then-not-is_unstretched
returns-then-not-is_unstretched c =
    inr (
      c.is_covered.ensures.0 c.if-not-is_covered.false,
      inr (
        c.is_local.ensures.0 c.if-not-is_local.false,
        inl (iff_false c.is_unstretched.ensures c.if-not-is_unstretched.true, c.fault-then-not-is_unstretched.ensures),
      ),
    )
