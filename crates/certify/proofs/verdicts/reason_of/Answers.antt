use Rattle.certify.proofs.NamedPaths.{named_path, found_path}
use Rattle.certify.proofs.verdicts.reason_of.Goals as goal

pub tested_reason-requires-clause-named : goal.tested_reason-requires-clause-named
tested_reason-requires-clause-named g c =
    let ground = c.args.ground.now in
    named_path ground.pair.now ground.star.now ground.query.now ground.pair.now.radius c.args.plateau.now c.in_ok-arcs.field-0 c.in-Some.arcs c.requires.trees c.requires.listed c.in_ok-arcs.ensures c.in-Some.is

pub unreachable-requires : goal.unreachable-requires
unreachable-requires g c =
    let ts = c.args.ground.now.pair.now in
    found_path ts ts.radius c.args.plateau.now c.in_ok-arcs.field-0 c.requires.listed c.in_ok-arcs.ensures c.in_default.is
