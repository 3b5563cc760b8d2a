use Rattle.std.proofs.Common.{◌≡◌, ℕ, ◌+◌, ◌-◌, ◌/◌, ◌<◌, length, arith, sym}
use Rattle.recheck.proofs.Halves.{row_in_place, none_after, none_before, none_both}
use Rattle.recheck.proofs.rows.find_row.Goals as goal

pub returns-then-row-vertex : goal.returns-then-row-vertex
returns-then-row-vertex c =
    let middle : ℕ = c.loop-low.low + (c.loop-low.high - c.loop-low.low) / 2 in
    let inside : middle < length c.args.rows.now = omega arith in
    sym (row_in_place c.args.rows.now middle c.args.vertex (record { vertex = 0; label = 0; arc = 0 }) c.requires inside c.if-row-vertex.true)

pub loop-low-preserved-then-row-vertex-2 : goal.loop-low-preserved-then-row-vertex-2
loop-low-preserved-then-row-vertex-2 c =
    let middle : ℕ = c.loop-low.low + (c.loop-low.high - c.loop-low.low) / 2 in
    let inside : middle < length c.args.rows.now = omega arith in
    record {
      order = omega arith;
      inside = c.loop-low.invariant.inside;
      before = none_after c.args.rows.now middle c.args.vertex (record { vertex = 0; label = 0; arc = 0 }) c.requires inside c.if-row-vertex-2.true;
      later_line = c.loop-low.invariant.later_line;
    }

pub loop-low-preserved : goal.loop-low-preserved
loop-low-preserved c =
    let middle : ℕ = c.loop-low.low + (c.loop-low.high - c.loop-low.low) / 2 in
    let inside : middle < length c.args.rows.now = omega arith in
    let other = c.if-row-vertex.false in
    record {
      order = omega arith;
      inside = omega arith;
      before = c.loop-low.invariant.before;
      later_line = none_before c.args.rows.now middle c.args.vertex (record { vertex = 0; label = 0; arc = 0 }) c.requires inside c.if-row-vertex.false c.if-row-vertex-2.false;
    }

pub returns : goal.returns
returns c =
    let same : c.loop-low.high ≡ c.loop-low.low = omega arith in
    none_both c.args.rows.now c.loop-low.low c.loop-low.high c.args.vertex same c.loop-low.invariant.before c.loop-low.invariant.later_line
