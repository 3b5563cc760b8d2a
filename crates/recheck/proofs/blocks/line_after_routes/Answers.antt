use Rattle.std.proofs.Common.{◌≡◌, ℕ, subst}
use Rattle.std.specs.Prelude.{IfOk}
use Rattle.recheck.proofs.BlockFaults.{routes_after}
use Rattle.recheck.proofs.blocks.line_after_routes.Goals as goal

pub returns : goal.returns
returns c =
    subst (λ (m : ℕ). IfOk c.later_line.result (λ n. n ≡ m)) (routes_after c.args.first c.args.routes.now) c.later_line.ensures
