use Rattle.std.proofs.Common.{◌≡◌}
use Rattle.recheck.specs.Standing.{IsRising}
use Rattle.recheck.proofs.Halves.{rising_more, not_rising}
use Rattle.recheck.proofs.row_table.is_rising.Goals as goal

pub returns-then-rows-i : goal.returns-then-rows-i
returns-then-rows-i c =
    (λ no. absurd (let e : _ ≡ _ = no in cc), λ (h : IsRising c.args.rows.now). absurd (not_rising c.args.rows.now c.loop-i.i (record { vertex = 0; label = 0; arc = 0 }) c.loop-i.auto.i c.loop-i-test.true c.if-rows-i.true h))

pub loop-i-preserved : goal.loop-i-preserved
loop-i-preserved c =
    rising_more c.args.rows.now c.loop-i.i (record { vertex = 0; label = 0; arc = 0 }) c.loop-i.auto.i c.loop-i-test.true c.if-rows-i.false c.loop-i.invariant
