use Rattle.std.proofs.Common.{◌≡◌, Some, None, sym, ◌∙◌}
use Rattle.recheck.proofs.FollowLemmas.{step_is}
use Rattle.recheck.proofs.walks.step_down.Goals as goal

pub unreachable-requires-in_default-find_arc : goal.unreachable-requires-in_default-find_arc
unreachable-requires-in_default-find_arc g c =
    let is = sym c.find_row.ensures ∙ c.in-Some.is in
    let tight = c.requires.down.tight c.args.at c.in-Some.row is c.requires.other in
    let e : None ≡ Some tight.leads.arc = sym c.in_default-find_arc.is ∙ (c.find_arc.ensures ∙ tight.leads.is) in
    cc

pub returns : goal.returns
returns g c =
    let is = sym c.find_row.ensures ∙ c.in-Some.is in
    step_is (g.N.Network.graph c.args.net.now) c.args.rows.now c.args.at c.in-Some.row c.in-Some-find_arc.arc is
    (c.requires.down.tight c.args.at c.in-Some.row is c.requires.other)
    (sym c.find_arc.ensures ∙ c.in-Some-find_arc.is)
