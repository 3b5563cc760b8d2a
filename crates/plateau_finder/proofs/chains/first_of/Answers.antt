use Rattle.plateau_finder.proofs.WholeChains.{link_farther, back_more}
use Rattle.road_model.proofs.Walks.{sound_of}
use Rattle.plateau_finder.proofs.chains.first_of.Goals as goal

pub loop-previous-init : goal.loop-previous-init
loop-previous-init c = record { inside = c.requires; near_is = c.near_of-near.ensures.is; through = (λ p via. via) }

pub loop-previous-smaller : goal.loop-previous-smaller
loop-previous-smaller c =
    link_farther c.args.pair.now c.in-Some.previous c.loop-previous.first c.near_of-near-in-Some.result c.loop-previous.near
    (sound_of c.args.pair.now.graph c.star.result.now c.star.ensures c.within_limits.ensures) c.in-Some.ensures.link c.near_of-near-in-Some.ensures.is c.loop-previous.invariant.near_is

pub loop-previous-preserved : goal.loop-previous-preserved
loop-previous-preserved c =
    back_more c.args.pair.now c.args.v c.loop-previous.first c.in-Some.previous c.loop-previous.near c.near_of-near-in-Some.result
    (sound_of c.args.pair.now.graph c.star.result.now c.star.ensures c.within_limits.ensures) c.in-Some.ensures c.near_of-near-in-Some.ensures.is c.loop-previous.invariant

pub returns : goal.returns
returns c = record { inside = c.loop-previous.invariant.inside; begins = c.in_default.ensures; through = c.loop-previous.invariant.through }
