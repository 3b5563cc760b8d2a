use Rattle.std.proofs.lemmas.Bool.{iff_false}
use Rattle.road_model.proofs.Walks.{sound_of}
use Rattle.plateau_finder.proofs.Sound.{vertex_of}
use Rattle.plateau_finder.proofs.WholeChains.{not_within, starts, inside_both}
use Rattle.plateau_finder.proofs.chains.plateau_at.Goals as goal

pub returns-then-not-is_within : goal.returns-then-not-is_within
returns-then-not-is_within c =
    not_within c.args.pair.now c.args.bound c.args.v c.in-Some.near c.in-Some-to_label.left c.in-Some.ensures.label.0 c.in-Some-to_label.ensures.label.0
    (iff_false c.is_within.ensures c.if-not-is_within.true)

pub returns : goal.returns
returns c =
    starts c.args.pair.now c.args.bound c.args.v c.in-Some.near c.in-Some-to_label.left c.plateau_from.result
    (sound_of c.args.pair.now.graph c.star.result.now c.star.ensures c.within_limits.ensures)
    (vertex_of c.args.pair.now.graph c.args.pair.now.source c.source-source.result c.source-source.ensures.source c.source-source.ensures.inside)
    (inside_both c.args.pair.now c.args.v c.in-Some.near c.in-Some-to_label.left c.in-Some.ensures.label c.in-Some-to_label.ensures.label)
    c.in-Some.ensures.label.0 c.in-Some-to_label.ensures.label.0
    (c.is_within.ensures.0 c.if-not-is_within.false) c.plateau_from.ensures.first c.plateau_from.ensures.chain
