use Rattle.std.proofs.Common.{Some, None, refl, ap, arith}
use Rattle.canonical_trees.specs.Trees.{Trees}
use Rattle.canonical_trees.proofs.ThroughVertex.{via_length}
use Rattle.via_search.proofs.ViaPaths.{beyond_from, beyond_to, via_found, candidate_made}
use Rattle.via_search.proofs.PathsThrough.{found_in}
use Rattle.via_search.proofs.candidates.candidate_of.Goals as goal

pub returns-in_default : goal.returns-in_default
returns-in_default c =
    let ts = c.setting.inside.pair.now in
    let reach = c.setting.inside.reach in
    let radius = ap (λ (x : Trees). x.radius) c.setting.invariant.trees in
    found_in ts _ c.args.setting.now c.args.v None c.setting.invariant.trees c.setting.view_is
    (λ p via. beyond_from ts.graph ts.source ts.target c.args.v reach ts.radius p radius c.in_default.ensures.label via)

pub returns-in_default-to_label : goal.returns-in_default-to_label
returns-in_default-to_label c =
    let ts = c.setting.inside.pair.now in
    let reach = c.setting.inside.reach in
    let radius = ap (λ (x : Trees). x.radius) c.setting.invariant.trees in
    found_in ts _ c.args.setting.now c.args.v None c.setting.invariant.trees c.setting.view_is
    (λ p via. beyond_to ts.graph ts.source ts.target c.args.v reach ts.radius p radius c.in_default-to_label.ensures.label via)

pub returns-then-length-setting : goal.returns-then-length-setting
returns-then-length-setting c =
    let ts = c.setting.inside.pair.now in
    found_in ts _ c.args.setting.now c.args.v None c.setting.invariant.trees c.setting.view_is
    (λ p via.
    let long = via_length ts.graph ts.source ts.target c.args.v c.in-Some.near c.in-Some-to_label.left p via c.in-Some.ensures.label.0 c.in-Some-to_label.ensures.label.0 in
    omega (arith, long, c.if-length-setting.true))

pub returns : goal.returns
returns c =
    let ts = c.setting.inside.pair.now in
    let via = via_found ts c.args.v c.in_ok-arcs.field-0 c.in-Some-2.arcs c.in_ok-arcs.ensures c.in-Some-2.is in
    let near = c.in-Some.ensures.label.0 in
    let left = c.in-Some-to_label.ensures.label.0 in
    let long = via_length ts.graph ts.source ts.target c.args.v c.in-Some.near c.in-Some-to_label.left c.in-Some-2.arcs via near left in
    found_in ts _ c.args.setting.now c.args.v (Some _) c.setting.invariant.trees c.setting.view_is
    (refl, candidate_made ts.graph ts.source ts.target c.args.v c.in-Some.near c.in-Some-to_label.left c.in-Some-2.arcs via near left c.in-Some.ensures.short c.in-Some-to_label.ensures.short, omega (arith, long, c.if-length-setting.false))
