use Rattle.std.proofs.Common.{arith}
use Rattle.recheck.proofs.DetourLemmas.{sum_inside}
use Rattle.recheck.proofs.detours.is_shorter.Goals as goal

pub is_tested-requires-clause-inside : goal.is_tested-requires-clause-inside
is_tested-requires-clause-inside c =
    let leads = c.is_detour.ensures.0 c.if-not-is_detour.false in
    sum_inside c.args.basis.now c.args.path.now c.args.places.now c.args.last c.requires (omega (arith, leads.inside))

pub between-requires-clause-first : goal.between-requires-clause-first
between-requires-clause-first c =
    let leads = c.is_detour.ensures.0 c.if-not-is_detour.false in
    sum_inside c.args.basis.now c.args.path.now c.args.places.now c.args.first c.requires (omega (arith, leads.rise, leads.inside))

pub between-requires-clause-last : goal.between-requires-clause-last
between-requires-clause-last c =
    let leads = c.is_detour.ensures.0 c.if-not-is_detour.false in
    sum_inside c.args.basis.now c.args.path.now c.args.places.now c.args.last c.requires (omega (arith, leads.inside))
