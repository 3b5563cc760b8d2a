use Rattle.std.proofs.Common.{◌≡◌, ◌<◌, ℕ, length, get_or, ap, arith}
use Rattle.hierarchy_build.proofs.Waits.{IsInside-put}
use Rattle.hierarchy_build.proofs.shape.wait_arc.Goals as goal

pub returns-then-tail-head-clause-inside : goal.returns-then-tail-head-clause-inside
returns-then-tail-head-clause-inside c =
    let head : get_or c.args.rank.now c.number-2.result 0 ≡ get_or c.args.rank.now c.args.arc.head 0 = ap (λ (x : ℕ). get_or c.args.rank.now x 0) c.number-2.ensures.value in
    let inside : get_or c.args.rank.now c.number-2.result 0 < length c.args.pending.now = (let r = c.requires.head in omega arith) in
    IsInside-put (length c.args.pending.now) (get_or c.args.rank.now c.number.result 0) (get_or c.args.rank.now c.number-2.result 0) c.args.pending.now c.put.new.self c.requires.inside c.in_ok-put.ensures c.if-tail-head.true inside

pub returns-in_ok-put-2-clause-inside : goal.returns-in_ok-put-2-clause-inside
returns-in_ok-put-2-clause-inside c =
    let tail : get_or c.args.rank.now c.number.result 0 ≡ get_or c.args.rank.now c.args.arc.tail 0 = ap (λ (x : ℕ). get_or c.args.rank.now x 0) c.number.ensures.value in
    let inside : get_or c.args.rank.now c.number.result 0 < length c.args.pending.now = (let r = c.requires.tail in omega arith) in
    IsInside-put (length c.args.pending.now) (get_or c.args.rank.now c.number-2.result 0) (get_or c.args.rank.now c.number.result 0) c.args.pending.now c.put-then-head-tail.new.self c.requires.inside c.in_ok-put-2.ensures c.if-head-tail.true inside
