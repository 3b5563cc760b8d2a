use Rattle.std.proofs.lemmas.Bool.{leb-true, le-leb}
use Rattle.certify.proofs.ClassLemmas.{near_in, near_out}
use Rattle.road_model.proofs.Walks.{sound_of}
use Rattle.std.proofs.Common.{subst, ℕ}
use Rattle.road_model.specs.Graph.{IsVertex}
use Rattle.certify.proofs.vias.is_near.Goals as goal

pub returns : goal.returns
returns c =
    let ts = c.args.pair.now in
    let sound = sound_of ts.graph c.star.result.now c.star.ensures c.within_limits.ensures in
    let source = subst (λ (n : ℕ). IsVertex ts.graph.vertices n) c.source-source.ensures.source c.source-source.ensures.inside in (
      (λ low. near_in ts c.args.v c.in-Some.near c.in-Some-to_label.left c.args.bound c.in-Some.ensures.label c.in-Some-to_label.ensures.label (leb-true _ _ low)),
      (λ near. le-leb _ _ (near_out ts c.args.v c.in-Some.near c.in-Some-to_label.left c.args.bound sound source c.in-Some.ensures.label c.in-Some-to_label.ensures.label near)),
    )
