use Rattle.std.proofs.Common.{sym, ap, length, arith}
use Rattle.std.proofs.lemmas.List.{get_or_read}
use Rattle.certify.proofs.places.place_of.Goals as goal

pub unreachable-requires : goal.unreachable-requires
unreachable-requires c =
    let has = c.requires in
    c.loop-place.invariant has.0 (omega (arith, has.1, ap length c.as_slice-vertex-items.ensures)) (sym (get_or_read c.args.trail.now.vertices has.0 c.args.v has.1 (sym has.2) 0))
