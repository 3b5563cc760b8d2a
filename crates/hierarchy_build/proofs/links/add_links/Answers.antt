use Rattle.std.proofs.Common.{◌≡◌, ◌<◌, ℕ, slice_index, refl, subst, arith}
use Rattle.std.proofs.lemmas.Bool.{false≢true}
use Rattle.hierarchy_build.specs.Lengths.{no_link}
use Rattle.hierarchy_build.specs.Links.{IsAdded}
use Rattle.hierarchy_build.proofs.Kept.{IsAdded-skipped, IsAdded-more}
use Rattle.hierarchy_build.proofs.links.add_links.Goals as goal

pub loop-k-preserved-then-not-stays : goal.loop-k-preserved-then-not-stays
loop-k-preserved-then-not-stays c =
    IsAdded-skipped c.args.head.now c.args.lengths.now c.args.thinned.now c.args.from c.loop-k.k c.args.links.now c.loop-k.links
    (λ real same. false≢true (c.if-not-stays.ensures.1 (real, same)))
    c.loop-k.invariant

pub loop-k-preserved : goal.loop-k-preserved
loop-k-preserved c =
    let new = c.loop-k.links in
    let is : (slice_index c.args.lengths.now c.loop-k.k < no_link) × (slice_index c.args.thinned.now c.loop-k.k ≡ slice_index c.args.lengths.now c.loop-k.k) = c.if-not-stays.ensures.0 refl in
    IsAdded-more c.args.head.now c.args.lengths.now c.args.thinned.now c.args.from c.loop-k.k c.args.links.now new (record { first = new.first; head = c.push.new.self; length = c.push-in-loop-k.new.self })
    (omega arith) is.0 is.1 refl c.in_ok-push.ensures.ok c.in_ok-push-2.ensures.ok c.loop-k.invariant

pub returns : goal.returns
returns c =
    let end : c.loop-k.k ≡ c.args.to = omega arith in
    subst (λ (k : ℕ). IsAdded c.args.head.now c.args.lengths.now c.args.thinned.now c.args.from k c.args.links.now c.loop-k.links) end c.loop-k.invariant
