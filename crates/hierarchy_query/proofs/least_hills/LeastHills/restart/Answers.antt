use Rattle.std.proofs.Common.{◌≡◌, ℕ, List, length, sym, ap, ◌∙◌, subst, arith}
use Rattle.std.specs.Vec.{with_items}
use Rattle.std.proofs.lemmas.List.{with_items_is}
use Rattle.hierarchy_build.specs.declared.links.Links.{Links}
use Rattle.hierarchy_query.specs.Climbs.{IsClimbed}
use Rattle.hierarchy_query.proofs.KnownHills.{AreLeast-forgotten}
use Rattle.hierarchy_query.proofs.least_hills.LeastHills.restart.Goals as goal

pub returns-clause-hills : goal.returns-clause-hills
returns-clause-hills c =
    let h = c.args.hierarchy.now in
    let forgotten = c.take_back.ensures in
    let size = forgotten.no_rise.size in
    let climbed_long = c.climb.ensures.size in
    let long : length c.deref_mut.result.now ≡ length h.shape.order = ap (λ (xs : List ℕ). length xs) c.deref_mut.ensures.value ∙ size in
    let rising : (with_items c.take_back.new.self.rising c.climb.new.labels).items ≡ c.climb.new.labels = with_items_is c.take_back.new.self.rising c.climb.new.labels (omega (arith, c.take_back.new.self.rising.ok.0)) in
    let climbed : IsClimbed (length h.shape.order) h.up c.args.from c.climb.new.labels = subst (λ (n : ℕ). IsClimbed n c.args.hierarchy.now.up c.args.from c.climb.new.labels) long
    (subst (λ (l : Links). IsClimbed (length c.deref_mut.result.now) l c.args.from c.climb.new.labels) c.up_links.ensures c.climb.ensures) in
    record {
      from = c.requires.rank;
      climbed = subst (λ (xs : List ℕ). IsClimbed (length c.args.hierarchy.now.shape.order) c.args.hierarchy.now.up c.args.from xs) (sym rising) climbed;
      least = AreLeast-forgotten (length h.shape.order) h c.args.from c.take_back.new.self.rising.items c.take_back.new.self.least.items c.take_back.new.self.found.items forgotten;
    }
