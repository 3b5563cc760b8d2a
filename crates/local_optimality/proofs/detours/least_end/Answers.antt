use Rattle.std.proofs.Common.{◌-◌, ◌+◌, ◌/◌, ℕ, refl, sym, subst, arith}
use Rattle.road_model.specs.Graph.{Graph}
use Rattle.path_tests.specs.JoinedTrail.{IsJoinedTrail}
use Rattle.local_optimality.proofs.Halvings.{end_found}
use Rattle.local_optimality.proofs.detours.least_end.Goals as goal

pub distance_between-requires-clause-reached : goal.distance_between-requires-clause-reached
distance_between-requires-clause-reached g c =
    let e = c.halves.invariant in
    let middle : ℕ = c.halves.clear + (c.halves.last - c.halves.clear) / 2 in
    let joined : IsJoinedTrail (g.O.Oracle.graph c.halves.oracle) c.args.trail.now c.args.via_at = subst (λ (x : Graph). IsJoinedTrail x c.args.trail.now c.args.via_at) (sym e.same) c.requires.joined in
    joined.reached c.args.first middle (omega (arith, c.requires.before, e.from)) (omega (arith, c.requires.inside, e.apart, e.within))

pub returns-clause-found : goal.returns-clause-found
returns-clause-found g c =
    end_found _ _ c.args.trail.now _ _ c.args.via_at c.args.first c.args.reach c.halves.clear c.halves.last c.halves.distance _ c.requires.joined c.requires.before c.requires.inside c.halves.invariant (omega (arith, c.halves-test.false)) refl
