use Rattle.std.proofs.Common.{ℕ, ◌++◌, ◌∷◌, [], List, ◌∙◌, ap, append_assoc}
use Rattle.canonical_trees.proofs.StepsDown.{some_at, walked_on, adds}
use Rattle.canonical_trees.proofs.descent.follow.Goals as goal

pub loop-step-preserved : goal.loop-step-preserved
loop-step-preserved g c = record {
  labelled = some_at _ c.in-Some.ensures.near c.in-Some.ensures.beyond;
  walked =
      let before = c.loop-step.invariant.walked in
      let s = c.in-Some.step in (
        before.0 ++ s.arc ∷ [],
        c.in_ok-push.ensures.items ∙ ap (λ (l : List ℕ). l ++ s.arc ∷ []) before.1 ∙ append_assoc c.args.arcs.now.items before.0 (s.arc ∷ []),
        walked_on (g.N.Network.graph c.args.net.now) c.args.root c.args.v c.loop-step.at c.args.labels.now s before.0 c.requires.rooted c.in-Some.ensures before.2,
      );
}

pub returns : goal.returns
returns g c =
    let before = c.loop-step.invariant.walked in
    adds (g.N.Network.graph c.args.net.now) c.args.root c.args.v c.loop-step.at c.args.labels.now c.args.arcs.now.items c.loop-step.arcs.items before.0 c.in_default.ensures c.loop-step.invariant.labelled before.1 before.2
