use Rattle.std.proofs.Common.{◌≡◌, ℕ, List, length, ap, sym, ◌∙◌, subst, arith}
use Rattle.std.specs.Vec.{with_items}
use Rattle.std.proofs.lemmas.List.{with_items_is}
use Rattle.hierarchy_build.specs.declared.links.Links.{Links}
use Rattle.hierarchy_query.specs.Climbs.{IsClimbed}
use Rattle.hierarchy_query.specs.KnownHills.{AreForgotten}
use Rattle.hierarchy_query.proofs.KnownHills.{AreLeast-forgotten}
use Rattle.hierarchy_query.proofs.least_hills.LeastHills.in_memory.Goals as goal

pub returns-clause-hills : goal.returns-clause-hills
returns-clause-hills c =
    let h = c.args.hierarchy.now in
    let ranks : length c.memory.inside.rising.items ≡ length h.shape.order = c.memory.view_is ∙ c.requires.ranks in
    let forgotten : AreForgotten (length h.shape.order) c.memory.inside.rising.items c.memory.inside.least.items c.memory.inside.found.items = subst (λ (n : ℕ). AreForgotten n c.memory.inside.rising.items c.memory.inside.least.items c.memory.inside.found.items) ranks c.memory.invariant in
    let climbed_long = c.climb.ensures.size in
    let long : length c.deref_mut.result.now ≡ length h.shape.order = ap (λ (xs : List ℕ). length xs) c.deref_mut.ensures.value ∙ ranks in
    let rising : (with_items c.memory.inside.rising c.climb.new.labels).items ≡ c.climb.new.labels = with_items_is c.memory.inside.rising c.climb.new.labels (omega (arith, c.memory.inside.rising.ok.0)) in
    let climbed : IsClimbed (length h.shape.order) h.up c.args.from c.climb.new.labels = subst (λ (n : ℕ). IsClimbed n c.args.hierarchy.now.up c.args.from c.climb.new.labels) long
    (subst (λ (l : Links). IsClimbed (length c.deref_mut.result.now) l c.args.from c.climb.new.labels) c.up_links.ensures c.climb.ensures) in
    record {
      from = c.requires.rank;
      climbed = subst (λ (xs : List ℕ). IsClimbed (length c.args.hierarchy.now.shape.order) c.args.hierarchy.now.up c.args.from xs) (sym rising) climbed;
      least = AreLeast-forgotten (length h.shape.order) h c.args.from c.memory.inside.rising.items c.memory.inside.least.items c.memory.inside.found.items forgotten;
    }
