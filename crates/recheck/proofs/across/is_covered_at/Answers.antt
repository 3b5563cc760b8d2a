use Rattle.std.proofs.Common.{refl}
use Rattle.std.proofs.lemmas.Bool.{leb-true, le-leb}
use Rattle.recheck.proofs.Splits.{reaches_limit, reaches_all}
use Rattle.recheck.proofs.across.is_covered_at.Goals as goal

pub returns-in-Some-radius : goal.returns-in-Some-radius
returns-in-Some-radius c =
    let both = reaches_limit c.args.basis.now c.args.places.now c.args.first c.vertex.result c.count.result c.between-length.result c.in-Some-radius.radius c.in-Some.block.now
    c.in-Some.ensures.block c.in-Some-radius.is c.vertex.ensures c.count.ensures c.between-length.ensures.value in
    ((λ yes. both.0 (leb-true _ _ yes)), (λ covered. le-leb _ _ (both.1 covered)))

pub returns-in-None-radius : goal.returns-in-None-radius
returns-in-None-radius c = (
  (λ _. reaches_all c.args.basis.now c.args.places.now c.args.first c.vertex.result c.in-Some.block.now c.in-Some.ensures.block c.in-None-radius.is c.vertex.ensures),
  (λ _. refl),
)
