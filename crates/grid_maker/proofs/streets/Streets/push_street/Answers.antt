use Rattle.std.proofs.Common.{◌∷◌, []}
use Rattle.grid_maker.proofs.Rows.{adds_then}
use Rattle.grid_maker.proofs.streets.Streets.push_street.Goals as goal

pub returns : goal.returns
returns c =
    adds_then c.args.self.now c.push_arc.new.self _ ((c.args.from, c.args.to) ∷ []) ((c.args.to, c.args.from) ∷ []) c.in_ok-push_arc.ensures c.in_ok-push_arc-2.ensures
