use Rattle.tree_tests.specs.Ancestors.{opposite}
use Rattle.tree_tests.proofs.OnPaths.{lifted_both, ahead_some, on_of_via}
use Rattle.tree_tests.proofs.refusals.has_detour.Goals as goal

pub returns-then-branch-clause-never : goal.returns-then-branch-clause-never
returns-then-branch-clause-never c = λ t o p best via.
    let ts = c.args.pair.now in
    let further = ahead_some ts (opposite c.args.side) c.loop-steps.x c.ahead.result c.in-Some.next (c.ahead.ensures ts (opposite c.args.side) c.loop-steps.invariant.1) c.in-Some.is in
    c.in_ok-tried.ensures.never c.if-branch.true
    (lifted_both ts (opposite c.args.side) c.args.w c.loop-steps.x c.in-Some.next c.loop-steps.invariant.2 further c.args.w (on_of_via ts (opposite c.args.side) c.args.w p via)) o p best via

pub loop-steps-preserved : goal.loop-steps-preserved
loop-steps-preserved c =
    let ts = c.args.pair.now in
    let further = ahead_some ts (opposite c.args.side) c.loop-steps.x c.ahead.result c.in-Some.next (c.ahead.ensures ts (opposite c.args.side) c.loop-steps.invariant.1) c.in-Some.is in
    (c.tried.ensures.ways, c.loop-steps.invariant.1, lifted_both ts (opposite c.args.side) c.args.w c.loop-steps.x c.in-Some.next c.loop-steps.invariant.2 further)
