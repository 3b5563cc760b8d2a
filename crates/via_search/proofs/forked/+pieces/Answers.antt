use Rattle.std.proofs.Common.{rules}
use Rattle.via_search.specs.Sifting.{ArePut}
use Rattle.via_search.proofs.ForkedTests.{put_both, tested_halves}
use Rattle.via_search.proofs.forked.+pieces.Goals as goal

pub put_halves-returns-clause-routes : goal.put_halves-returns-clause-routes
put_halves-returns-clause-routes g t c =
    let s = c.args.setting.now in
    let near : ArePut s c.args.near.now c.in_ok-first.field-0 = search rules in
    let far : ArePut s c.args.far.now c.in_ok-second.field-0 = search rules in
    put_both s c.args.near.now c.args.far.now c.in_ok-first.field-0 c.in_ok-second.field-0 c.joined.result near far c.joined.ensures

pub put_pieces-returns-clause-tested : goal.put_pieces-returns-clause-tested
put_pieces-returns-clause-tested g t c =
    tested_halves (λ o. g.O.Oracle.graph o) (λ o. g.O.Oracle.asked o) c.args.setting.now c.args.sifted.now c.split_at.result.0.now c.split_at.result.1.now c.first_share-cut.result
    c.args.oracles.now c.split_at_mut-left.result.0.now c.split_at_mut-left.result.1.now c.put_halves.new.left c.put_halves.new.right
    c.split_at.ensures.front c.split_at.ensures.back c.split_at_mut-left.ensures.value c.put_halves.ensures.left c.put_halves.ensures.right
