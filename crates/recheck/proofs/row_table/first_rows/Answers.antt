use Rattle.std.specs.Ordering.{nat_cmp}
use Rattle.std.specs.BTreeMap.{get}
use Rattle.recheck.proofs.Halves.{first_row_more}
use Rattle.recheck.proofs.row_table.first_rows.Goals as goal

pub loop-i-preserved : goal.loop-i-preserved
loop-i-preserved c =
    λ v.
    first_row_more c.args.rows.now c.loop-i.i v (record { vertex = 0; label = 0; arc = 0 }) (get nat_cmp c.loop-i.firsts v) (get nat_cmp c.insert.new.self v) c.loop-i-test.true c.loop-i.auto.i (c.in_ok-insert.ensures.updates.0 v) (c.loop-i.invariant v)
