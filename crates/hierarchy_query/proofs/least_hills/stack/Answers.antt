use Rattle.std.proofs.Common.{◌+◌, ◌<◌, ◌≤◌, List, ℕ, length, slice_index, sym, subst, arith}
use Rattle.hierarchy_query.specs.KnownHills.{IsStacked}
use Rattle.hierarchy_query.proofs.KnownHills.{Stacking, Stacking-more, IsStacked-known, IsStacked-top}
use Rattle.hierarchy_query.proofs.least_hills.stack.Goals as goal

pub returns-then-run-first-clause-stacked : goal.returns-then-run-first-clause-stacked
returns-then-run-first-clause-stacked c =
    let top : slice_index c.args.first.now (c.up.y + 1) ≤ slice_index c.args.first.now c.up.y = omega (arith, c.if-run-first.true) in
    subst (λ (xs : List ℕ). IsStacked c.args.first.now c.args.head.now c.args.least.now c.args.x (length c.args.found.now.items) xs) (sym c.in_ok-push.ensures.items)
    (IsStacked-top (length c.args.least.now) c.args.first.now c.args.head.now c.args.least.now c.args.x c.args.found.now.items c.up.found.items c.up.y top c.up.invariant)

pub up-preserved : goal.up-preserved
up-preserved c =
    let rise = c.requires.shape.rising c.up.y (c.up.y + 1) (omega arith) (let inside = c.up.invariant.inside in omega arith) in
    let some : slice_index c.args.first.now c.up.y < slice_index c.args.first.now (c.up.y + 1) = omega (arith, c.if-run-first.false) in
    subst (λ (xs : List ℕ). Stacking (length c.args.least.now) c.args.first.now c.args.head.now c.args.x c.args.found.now.items xs (slice_index c.args.head.now (slice_index c.args.first.now c.up.y))) (sym c.in_ok-push.ensures.items)
    (Stacking-more (length c.args.least.now) c.args.first.now c.args.head.now c.args.x c.args.found.now.items c.up.found.items c.up.y c.requires.shape some c.up.invariant)

pub returns-clause-stacked : goal.returns-clause-stacked
returns-clause-stacked c =
    IsStacked-known (length c.args.least.now) c.args.first.now c.args.head.now c.args.least.now c.args.x c.args.found.now.items c.up.found.items c.up.y c.requires.closed (omega (arith, c.up-test.false)) c.up.invariant
