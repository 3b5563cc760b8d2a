use Rattle.std.proofs.Common.{sym, ap, length, arith}
use Rattle.std.proofs.lemmas.List.{get_or_read}
use Rattle.via_search.proofs.judging.place_of.Goals as goal

pub unreachable-requires : goal.unreachable-requires
unreachable-requires c =
    let has = c.requires.has in
    c.loop-place.invariant has.0 (omega (arith, has.1, ap length c.as_slice-sum-items.ensures)) (sym (get_or_read c.args.trail.now.sums has.0 c.args.near has.1 (sym has.2) 0))
