use Rattle.std.proofs.Common.{◌+◌, ◌-◌, ◌*◌, length}
use Rattle.via_search.proofs.forked.+pieces.Given as goal

abbrev pub decreases-put_pieces : goal.decreases-put_pieces
decreases-put_pieces g l = 4 * length l.oracles.now

abbrev pub decreases-put_halves : goal.decreases-put_halves
decreases-put_halves g l = 4 * (length l.left.now + length l.right.now) - 1

abbrev pub decreases-put_halves-front : goal.decreases-put_halves-front
decreases-put_halves-front g l = 4 * length l.left.now + 1

abbrev pub decreases-put_halves-back : goal.decreases-put_halves-back
decreases-put_halves-back g l = 4 * length l.right.now + 1
