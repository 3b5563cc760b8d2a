use Rattle.std.proofs.Common.{inl, inr}
use Rattle.std.proofs.lemmas.Bool.{iff_false}
use Rattle.recheck.proofs.RouteLines.{path_passed}
use Rattle.recheck.proofs.routes.path_fault.Goals as goal

pub returns-then-not-branch : goal.returns-then-not-branch
returns-then-not-branch c =
    inr (c.is_least_name.ensures.0 c.if-not-is_least_name.false, inl (iff_false c.in_ok-are_numbers.ensures c.if-not-branch.true, c.fault-then-not-branch.ensures))

pub returns-then-not-is_share_allowed : goal.returns-then-not-is_share_allowed
returns-then-not-is_share_allowed c =
    inr (
      c.is_least_name.ensures.0 c.if-not-is_least_name.false,
      inr (
        c.in_ok-are_numbers.ensures.0 c.if-not-branch.false,
        inl (iff_false c.is_share_allowed.ensures c.if-not-is_share_allowed.true, c.fault-then-not-is_share_allowed.ensures),
      ),
    )

pub returns : goal.returns
returns c =
    path_passed c.args.basis.now c.args.line c.args.r.now c.in_ok-found.found (c.is_least_name.ensures.0 c.if-not-is_least_name.false) (c.in_ok-are_numbers.ensures.0 c.if-not-branch.false)
    (c.is_share_allowed.ensures.0 c.if-not-is_share_allowed.false) c.in_ok-found.ensures
