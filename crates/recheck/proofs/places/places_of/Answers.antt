use Rattle.std.proofs.Common.{arith, refl, ap, ◌∙◌, List, ℕ}
use Rattle.road_model.specs.declared.trail.Trail.{Trail}
use Rattle.road_model.specs.Places.{places}
use Rattle.recheck.proofs.TrailSteps.{TakesTo-more, TakesTo-end}
use Rattle.recheck.proofs.places.places_of.Goals as goal

pub loop-a-preserved : goal.loop-a-preserved
loop-a-preserved c =
    TakesTo-more c.args.star.now c.args.from c.args.arcs.now c.loop-a.a-index c.loop-a.vertices.items c.loop-a.sums.items _ _ c.loop-a.at c.loop-a.sum c.head_of-at.result c.length_of.result _
    c.loop-a.invariant c.loop-a-test.true (omega arith) refl c.in_ok-push.ensures.items c.in_ok-push-2.ensures.items c.head_of-at.ensures c.length_of.ensures.value c.length_of.ensures.short

pub returns : goal.returns
returns c =
    let e = TakesTo-end c.args.star.now c.args.from c.args.arcs.now c.loop-a.a-index c.loop-a.vertices.items c.loop-a.sums.items c.push-2.new.self.items c.push-3.new.self.items c.loop-a.at c.loop-a.sum
    c.loop-a.invariant c.loop-a-test.false c.in_ok-push-3.ensures.items c.in_ok-push-4.ensures.items in
    let trail : List ℕ → List ℕ → Trail = λ vs ss. record { vertices = vs; sums = ss } in
    ap (λ (l : List ℕ). trail l c.push-3.new.self.items) e.0 ∙ ap (λ (l : List ℕ). trail (places c.args.star.now c.args.from c.args.arcs.now) l) e.1
