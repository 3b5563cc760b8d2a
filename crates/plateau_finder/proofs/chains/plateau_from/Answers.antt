use Rattle.std.proofs.Common.{◌≤◌, arith}
use Rattle.road_model.proofs.Walks.{sound_of}
use Rattle.plateau_finder.proofs.WholeChains.{link_nearer, chain_start, chain_more, chain_whole}
use Rattle.plateau_finder.proofs.chains.plateau_from.Goals as goal

pub loop-next-init : goal.loop-next-init
loop-next-init c =
    chain_start c.args.pair.now c.args.first c.left_of-left.result
    (sound_of c.args.pair.now.graph c.star.result.now c.star.ensures c.within_limits.ensures) c.requires.inside c.requires.begins c.left_of-left.ensures

pub loop-next-smaller : goal.loop-next-smaller
loop-next-smaller c =
    link_nearer c.args.pair.now c.loop-next.last c.in-Some.next c.loop-next.left c.left_of-left-in-Some.result
    (sound_of c.args.pair.now.graph c.star.result.now c.star.ensures c.within_limits.ensures) c.in-Some.ensures.link c.loop-next.invariant.left_is c.left_of-left-in-Some.ensures

pub loop-next-preserved : goal.loop-next-preserved
loop-next-preserved c =
    chain_more c.args.pair.now c.args.first c.loop-next.last c.in-Some.next c.loop-next.least c.lesser-least.result c.loop-next.left c.left_of-left-in-Some.result
    (sound_of c.args.pair.now.graph c.star.result.now c.star.ensures c.within_limits.ensures) c.in-Some.ensures
    (record { first = c.lesser-least.ensures.first; second = c.lesser-least.ensures.second; one = c.lesser-least.ensures.one })
    c.left_of-left-in-Some.ensures c.loop-next.invariant

pub overflow_sub-result : goal.overflow_sub-result
overflow_sub-result c = c.loop-next.invariant.rise c.near_of-2.result c.near_of.result c.near_of-2.ensures.is c.near_of.ensures.is

pub returns-clause-chain : goal.returns-clause-chain
returns-clause-chain c =
    let rise : c.near_of-2.result ≤ c.near_of.result = c.loop-next.invariant.rise c.near_of-2.result c.near_of.result c.near_of-2.ensures.is c.near_of.ensures.is in
    chain_whole c.args.pair.now _ c.loop-next.left c.near_of-2.result c.near_of.result
    (sound_of c.args.pair.now.graph c.star.result.now c.star.ensures c.within_limits.ensures) c.requires.inside c.requires.begins c.in_default.ensures c.loop-next.invariant
    c.near_of-2.ensures.is c.near_of.ensures.is (omega arith)
