use Rattle.road_model.specs.Graph.{reversed}
use Rattle.certify.proofs.TreeRows.{rows_more}
use Rattle.certify.proofs.blocks.from_rows.Goals as goal

pub loop-v-preserved : goal.loop-v-preserved
loop-v-preserved c =
    let ts = c.args.pair.now in
    rows_more (reversed ts.graph) ts.source ts.radius c.as_slice-v-items.result.now c.loop-v.v-index c.v-item.result c.loop-v.rows.items c.push.new.self.items c.from_row.result
    c.loop-v-test.true c.v-item.is c.in_ok-push.ensures.items c.loop-v.invariant c.from_row.ensures
