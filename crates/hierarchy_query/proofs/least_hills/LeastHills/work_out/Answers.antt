use Rattle.std.proofs.Common.{◌≡◌, ◌<◌, ◌≤◌, ◌+◌, ◌-◌, ℕ, List, length, slice_index, refl, sym, ap, ◌∙◌, subst, arith}
use Rattle.std.proofs.lemmas.List.{get_or_read}
use Rattle.hierarchy_build.specs.declared.links.Links.{Links}
use Rattle.hierarchy_build.specs.Runs.{InSpan}
use Rattle.hierarchy_query.specs.Climbs.{CanRelax}
use Rattle.hierarchy_query.specs.KnownHills.{IsKnown, IsLeastOver}
use Rattle.hierarchy_query.proofs.Asks.{CanClimb-down}
use Rattle.hierarchy_query.proofs.Climbs.{CanRelax-climb}
use Rattle.hierarchy_query.proofs.KnownHills.{AreLeast-more, WorkingOut-start, WorkingOut-more, ready_before}
use Rattle.hierarchy_query.proofs.least_hills.LeastHills.work_out.Goals as goal

pub back-init : goal.back-init
back-init c =
    let size = c.args.self.now.found.ok.0 in
    let h = c.args.hierarchy.now.shape in
    record {
      hills = record { from = c.requires.hills.from; climbed = c.requires.hills.climbed; least = c.requires.hills.least };
      working = WorkingOut-start h.first h.head c.args.self.now.least.items c.args.x c.args.from c.args.self.now.found.items c.len-place.result c.requires.inside (omega (arith, c.args.self.now.found.ok.0)) c.requires.stacked;
      same = refl;
    }

pub least_over-best-requires-clause-can : goal.least_over-best-requires-clause-can
least_over-best-requires-clause-can c =
    let h = c.args.hierarchy.now in
    let inside = c.back.invariant.working.inside in
    let at : c.back.place - 1 < length c.back.self.found.items = omega (arith, c.back-test.true) in
    let y : c.index.result.now ≡ slice_index c.back.self.found.items (c.back.place - 1) = get_or_read c.back.self.found.items (c.back.place - 1) c.index.result.now at c.index.ensures 0 in
    let low = c.back.invariant.hills.least.ranks (c.back.place - 1) at in
    let size = c.back.invariant.hills.least.size in
    let long : length h.shape.order ≡ length c.deref.result.now = sym size ∙ ap (λ (xs : List ℕ). length xs) (sym c.deref.ensures.value) in
    subst (λ (l : Links). CanRelax (length c.deref.result.now) l c.index.result.now) (sym c.down_links-down.ensures)
    (subst (λ (n : ℕ). CanRelax n c.args.hierarchy.now.down c.index.result.now) long
    (CanRelax-climb (length h.shape.order) h.shape.first h.shape.head h.down c.index.result.now (CanClimb-down h (length h.shape.order) refl c.shape.ensures.own) (omega arith)))

pub least_over-best-requires-clause-known : goal.least_over-best-requires-clause-known
least_over-best-requires-clause-known c = λ k span.
    let h = c.args.hierarchy.now in
    let inside = c.back.invariant.working.inside in
    let at : c.back.place - 1 < length c.back.self.found.items = omega (arith, c.back-test.true) in
    let y : c.index.result.now ≡ slice_index c.back.self.found.items (c.back.place - 1) = get_or_read c.back.self.found.items (c.back.place - 1) c.index.result.now at c.index.ensures 0 in
    let low = c.back.invariant.hills.least.ranks (c.back.place - 1) at in
    let up = (CanClimb-down h (length h.shape.order) refl c.shape.ensures.own).links.under c.index.result.now k (omega arith) (subst (λ (l : Links). InSpan l.first c.index.result.now k) c.down_links-down.ensures span) in
    subst (λ (l : Links). IsKnown c.deref.result.now (slice_index l.head k)) (sym c.down_links-down.ensures)
    (subst (λ (xs : List ℕ). IsKnown xs (slice_index h.down.head k)) (sym c.deref.ensures.value)
    (ready_before h.shape.first h.shape.head c.back.self.least.items c.args.x c.args.from c.back.self.found.items c.back.place (c.back.place - 1) c.index.result.now (slice_index h.down.head k) (omega (arith, c.back-test.true)) (omega (arith, c.back-test.true)) (sym y) c.back.invariant.working up))

pub back-preserved : goal.back-preserved
back-preserved c =
    let h = c.args.hierarchy.now in
    let inside = c.back.invariant.working.inside in
    let at : c.back.place - 1 < length c.back.self.found.items = omega (arith, c.back-test.true) in
    let y : c.index.result.now ≡ slice_index c.back.self.found.items (c.back.place - 1) = get_or_read c.back.self.found.items (c.back.place - 1) c.index.result.now at c.index.ensures 0 in
    let low = c.back.invariant.hills.least.ranks (c.back.place - 1) at in
    let size = c.back.invariant.hills.least.size in
    let size_rising = c.back.invariant.hills.climbed.size in
    let rise : c.index-in-back.result.now ≡ slice_index c.back.self.rising.items c.index.result.now = get_or_read c.back.self.rising.items c.index.result.now c.index-in-back.result.now (omega arith) c.index-in-back.ensures 0 in
    let over : IsLeastOver h.down c.index.result.now (slice_index c.back.self.rising.items c.index.result.now) c.back.self.least.items c.least_over-best.result =
    subst (λ (r : ℕ). IsLeastOver c.args.hierarchy.now.down c.index.result.now r c.back.self.least.items c.least_over-best.result) rise
    (subst (λ (xs : List ℕ). IsLeastOver c.args.hierarchy.now.down c.index.result.now c.index-in-back.result.now xs c.least_over-best.result) c.deref.ensures.value
    (subst (λ (l : Links). IsLeastOver l c.index.result.now c.index-in-back.result.now c.deref.result.now c.least_over-best.result) c.down_links-down.ensures c.least_over-best.ensures)) in
    let low_best = over.low in
    let short = c.back.invariant.hills.climbed.low c.index.result.now in
    let before : c.back.place - 1 + 1 ≡ c.back.place = omega (arith, c.back-test.true) in
    let late : c.args.from ≤ c.back.place - 1 = omega (arith, c.back-test.true) in
    record {
      hills = record {
        from = c.back.invariant.hills.from;
        climbed = c.back.invariant.hills.climbed;
        least = AreLeast-more (length h.shape.order) h c.back.self.from c.index.result.now (c.back.place - 1) c.least_over-best.result c.back.self.rising.items c.back.self.least.items c.back.self.found.items (CanClimb-down h (length h.shape.order) refl c.shape.ensures.own) c.back.invariant.hills.climbed at (sym y)
            (λ z up. ready_before h.shape.first h.shape.head c.back.self.least.items c.args.x c.args.from c.back.self.found.items c.back.place (c.back.place - 1) c.index.result.now z before late (sym y) c.back.invariant.working up) over c.back.invariant.hills.least;
      };
      working = WorkingOut-more h.shape.first h.shape.head c.back.self.least.items c.args.x c.args.from c.back.self.found.items c.back.place (c.back.place - 1) c.index.result.now c.least_over-best.result before late (sym y) (omega arith) (omega arith) c.back.invariant.working;
      same = c.back.invariant.same;
    }
