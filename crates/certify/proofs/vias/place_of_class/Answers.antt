use Rattle.std.proofs.Common.{◌≡◌, ◌≢◌, ◌<◌, ℕ, ◌+◌, ◌-◌, ◌/◌, length, get_or, arith, sym, ◌∙◌}
use Rattle.certify.proofs.ClassLemmas.{bracket_above, bracket_below}
use Rattle.certify.proofs.vias.place_of_class.Goals as goal

pub loop-low-preserved-then-number-2 : goal.loop-low-preserved-then-number-2
loop-low-preserved-then-number-2 c =
    let middle : ℕ = c.loop-low.low + (c.loop-low.high - c.loop-low.low) / 2 in
    let inside : middle < length c.args.classes.now = omega arith in
    let d = c.index-classes-middle.result in
    let own : ℕ = (get_or c.args.classes.now middle d).least in
    let less : own < c.args.least = omega (arith, c.if-number-2.true, c.number-in-loop-low-2.ensures.value, c.number-in-loop-low-3.ensures.value) in
    record {
      order = omega arith;
      inside = c.loop-low.invariant.inside;
      bracket = bracket_above c.args.classes.now c.args.least c.loop-low.low c.loop-low.high middle d c.requires.rising inside less c.loop-low.invariant.bracket;
    }

pub loop-low-preserved : goal.loop-low-preserved
loop-low-preserved c =
    let middle : ℕ = c.loop-low.low + (c.loop-low.high - c.loop-low.low) / 2 in
    let inside : middle < length c.args.classes.now = omega arith in
    let d = c.index-classes-middle.result in
    let own : ℕ = (get_or c.args.classes.now middle d).least in
    let other : own ≢ c.args.least = λ (e : own ≡ c.args.least). c.if-number.false (c.number.ensures.value ∙ (e ∙ sym c.number-in-loop-low.ensures.value)) in
    let more : c.args.least < own = omega (arith, other, c.if-number-2.false, c.number-in-loop-low-2.ensures.value, c.number-in-loop-low-3.ensures.value) in
    record {
      order = omega arith;
      inside = omega arith;
      bracket = bracket_below c.args.classes.now c.args.least c.loop-low.low c.loop-low.high middle d c.requires.rising inside more c.loop-low.invariant.bracket;
    }
