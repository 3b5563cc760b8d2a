use Rattle.std.proofs.Common.{get_or, sym, subst}
use Rattle.std.proofs.lemmas.List.{get_or_default}
use Rattle.certificate_text.specs.declared.certificate.Reason.{Reason}
use Rattle.certify.specs.Reasons.{HasReason}
use Rattle.certify.proofs.ClassLemmas.{rising_classes, has_class, reason_here}
use Rattle.certify.proofs.ViaLines.{sound_pair}
use Rattle.certify.proofs.vias.row_of.Goals as goal

pub place_of_class-place-requires-clause-rising : goal.place_of_class-place-requires-clause-rising
place_of_class-place-requires-clause-rising c =
    let ground = c.args.ground.now in
    rising_classes ground.star.now ground.query.now ground.best.now.arcs ground.pair.now c.args.bound c.args.classes.now c.requires.classes

pub place_of_class-place-requires-clause-has : goal.place_of_class-place-requires-clause-has
place_of_class-place-requires-clause-has c =
    let ground = c.args.ground.now in
    let sound = sound_pair ground.pair.now ground.star.now ground.query.now ground.best.now _ c.requires.posed c.requires.trees in
    has_class ground.star.now ground.query.now ground.best.now.arcs ground.pair.now c.args.bound c.args.classes.now c.args.v c.plateau_through.result c.in-Some.plateau sound.sound sound.source c.requires.classes c.requires.near c.plateau_through.ensures c.in-Some.is

pub returns : goal.returns
returns c =
    let ground = c.args.ground.now in
    let sound = sound_pair ground.pair.now ground.star.now ground.query.now ground.best.now _ c.requires.posed c.requires.trees in
    let d = c.index-classes-place.result in
    let k = get_or c.args.classes.now c.place_of_class-place.result d in
    record {
      is_vertex = c.number.ensures.value;
      own = subst (λ (r : Reason). HasReason ground.star.now ground.query.now ground.best.now.arcs c.args.v r) (sym c.in_ok-copy_of.ensures)
          (reason_here ground.star.now ground.query.now ground.best.now.arcs ground.pair.now c.args.bound c.args.classes.now c.args.v c.plateau_through.result c.in-Some.plateau k c.place_of_class-place.result sound.sound sound.source c.requires.trees c.requires.classes c.requires.near
          c.plateau_through.ensures c.in-Some.is c.place_of_class-place.ensures.inside (get_or_default c.args.classes.now c.place_of_class-place.result d k c.place_of_class-place.ensures.inside) (c.place_of_class-place.ensures.is k));
    }
