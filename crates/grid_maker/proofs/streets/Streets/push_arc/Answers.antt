use Rattle.grid_maker.proofs.Rows.{adds_one}
use Rattle.grid_maker.proofs.streets.Streets.push_arc.Goals as goal

pub returns : goal.returns
returns c = adds_one c.args.self.now _ (c.args.tail, c.args.head) c.next_word-word.result c.next_word-word.ensures c.in_ok-push.ensures.items
