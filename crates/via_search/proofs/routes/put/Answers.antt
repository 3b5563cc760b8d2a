use Rattle.std.proofs.Common.{◌≡◌, ℕ, refl, subst}
use Rattle.road_model.specs.Alternatives.{IsVia}
use Rattle.tree_tests.specs.Sums.{carried}
use Rattle.via_search.proofs.PathsThrough.{found_some}
use Rattle.via_search.proofs.PlateauPaths.{fails_a_test, has_candidate, passes, named_of, short_of, other_of, plateau_fits, sum_fits, none_fails, route_made}
use Rattle.via_search.proofs.AskedSums.{asks_named}
use Rattle.via_search.proofs.routes.put.Goals as goal

pub unreachable-requires : goal.unreachable-requires
unreachable-requires g c =
    let s = c.args.setting.now in
    has_candidate s.graph s.query s.reach c.args.sifted.now.plateau c.in_ok-candidate.field-0 c.requires.sifted.listed c.in_ok-candidate.ensures c.in_default.is

pub returns-in_err-passes_oracle-clause-asks : goal.returns-in_err-passes_oracle-clause-asks
returns-in_err-passes_oracle-clause-asks g c =
    let s = c.args.setting.now in
    let plateau = c.args.sifted.now.plateau in
    let x = c.in-Some.candidate in
    let found = found_some s.graph s.query.from s.query.to s.reach plateau.least c.in_ok-candidate.field-0 x c.in_ok-candidate.ensures c.in-Some.is in
    let own = passes s.graph s.query s.optimum s.reach plateau x c.is_posed.ensures c.requires.sifted.listed found.0 found.1 c.requires.sifted.other in
    asks_named s.graph s.query.from s.query.to s.reach s.optimum.arcs x.arcs plateau.least x.via (g.O.Oracle.asked c.args.oracle.now) (g.O.Oracle.asked c.passes_oracle.new.oracle)
    (named_of s.graph s.query s.optimum s.reach plateau x own) (short_of s.graph s.query s.optimum s.reach plateau x own) (other_of s.graph s.query s.optimum s.reach plateau x own) own.via c.passes_oracle.ensures.asks

pub returns-then-not-branch-clause-route : goal.returns-then-not-branch-clause-route
returns-then-not-branch-clause-route g c =
    let s = c.args.setting.now in
    let plateau = c.args.sifted.now.plateau in
    let x = c.in-Some.candidate in
    let found = found_some s.graph s.query.from s.query.to s.reach plateau.least c.in_ok-candidate.field-0 x c.in_ok-candidate.ensures c.in-Some.is in
    fails_a_test s.graph s.query s.optimum s.reach plateau x c.in_ok-passes_oracle.field-0 found.0 found.1 c.if-not-branch.true c.in_ok-passes_oracle.ensures.passing

pub returns-then-not-branch-clause-asks : goal.returns-then-not-branch-clause-asks
returns-then-not-branch-clause-asks g c =
    let s = c.args.setting.now in
    let plateau = c.args.sifted.now.plateau in
    let x = c.in-Some.candidate in
    let found = found_some s.graph s.query.from s.query.to s.reach plateau.least c.in_ok-candidate.field-0 x c.in_ok-candidate.ensures c.in-Some.is in
    let own = passes s.graph s.query s.optimum s.reach plateau x c.is_posed.ensures c.requires.sifted.listed found.0 found.1 c.requires.sifted.other in
    asks_named s.graph s.query.from s.query.to s.reach s.optimum.arcs x.arcs plateau.least x.via (g.O.Oracle.asked c.args.oracle.now) (g.O.Oracle.asked c.passes_oracle.new.oracle)
    (named_of s.graph s.query s.optimum s.reach plateau x own) (short_of s.graph s.query s.optimum s.reach plateau x own) (other_of s.graph s.query s.optimum s.reach plateau x own) own.via c.passes_oracle.ensures.asks

pub rank-requires : goal.rank-requires
rank-requires g c =
    let s = c.args.setting.now in
    let plateau = c.args.sifted.now.plateau in
    let x = c.in-Some.candidate in
    let found = found_some s.graph s.query.from s.query.to s.reach plateau.least c.in_ok-candidate.field-0 x c.in_ok-candidate.ensures c.in-Some.is in
    let own = passes s.graph s.query s.optimum s.reach plateau x c.is_posed.ensures c.requires.sifted.listed found.0 found.1 c.requires.sifted.other in
    let sum : c.args.sifted.now.shared ≡ carried s.graph s.optimum.arcs x.arcs = c.requires.sifted.is_shared x.arcs (subst (λ (v : ℕ). IsVia s.graph s.query.from s.query.to v x.arcs) own.via own.own.through) in
    record {
      short = found.1.short;
      part = sum_fits s.graph s.query s.optimum s.reach c.args.sifted.now.shared plateau x own sum;
      inside = plateau_fits s.graph s.query s.optimum s.reach plateau x own;
    }

pub returns-clause-route : goal.returns-clause-route
returns-clause-route g c =
    let s = c.args.setting.now in
    let plateau = c.args.sifted.now.plateau in
    let x = c.in-Some.candidate in
    let found = found_some s.graph s.query.from s.query.to s.reach plateau.least c.in_ok-candidate.field-0 x c.in_ok-candidate.ensures c.in-Some.is in
    let own = passes s.graph s.query s.optimum s.reach plateau x c.is_posed.ensures c.requires.sifted.listed found.0 found.1 c.requires.sifted.other in
    let sum : c.args.sifted.now.shared ≡ carried s.graph s.optimum.arcs x.arcs = c.requires.sifted.is_shared x.arcs (subst (λ (v : ℕ). IsVia s.graph s.query.from s.query.to v x.arcs) own.via own.own.through) in
    route_made s.graph s.query s.optimum s.reach c.args.sifted.now.shared plateau x _ c.is_posed.ensures c.requires.bound own
    (none_fails s.graph s.query s.optimum.arcs x.arcs c.in_ok-passes_oracle.field-0 c.if-not-branch.false c.in_ok-passes_oracle.ensures.passing) sum c.requires.sifted.allowed
    refl refl refl refl c.rank.ensures refl

pub returns-clause-asks : goal.returns-clause-asks
returns-clause-asks g c =
    let s = c.args.setting.now in
    let plateau = c.args.sifted.now.plateau in
    let x = c.in-Some.candidate in
    let found = found_some s.graph s.query.from s.query.to s.reach plateau.least c.in_ok-candidate.field-0 x c.in_ok-candidate.ensures c.in-Some.is in
    let own = passes s.graph s.query s.optimum s.reach plateau x c.is_posed.ensures c.requires.sifted.listed found.0 found.1 c.requires.sifted.other in
    asks_named s.graph s.query.from s.query.to s.reach s.optimum.arcs x.arcs plateau.least x.via (g.O.Oracle.asked c.args.oracle.now) (g.O.Oracle.asked c.passes_oracle.new.oracle)
    (named_of s.graph s.query s.optimum s.reach plateau x own) (short_of s.graph s.query s.optimum s.reach plateau x own) (other_of s.graph s.query s.optimum s.reach plateau x own) own.via c.passes_oracle.ensures.asks
