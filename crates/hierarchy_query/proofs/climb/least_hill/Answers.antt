use Rattle.std.proofs.Common.{◌≡◌, ℕ, length, sym, subst, arith, rules}
use Rattle.hierarchy_build.specs.declared.links.Links.{Links}
use Rattle.hierarchy_build.specs.Runs.{IsShape}
use Rattle.hierarchy_query.specs.Climbs.{CanClimb, IsClimbed}
use Rattle.hierarchy_query.proofs.Asks.{CanClimb-up, CanClimb-down}
use Rattle.hierarchy_query.proofs.Meets.{CanClimb-read, above_of_climbed, blank_or_above, IsLeastHill-met}
use Rattle.hierarchy_query.proofs.climb.least_hill.Goals as goal

pub meet-best-requires : goal.meet-best-requires
meet-best-requires c =
    let h = c.args.hierarchy.now in
    let firsts : c.as_slice-first.result.now ≡ c.args.hierarchy.now.shape.first = search rules in
    let heads : c.as_slice-head.result.now ≡ c.args.hierarchy.now.shape.head = search rules in
    let can : CanClimb (length c.args.forward.now) c.as_slice-first.result.now c.as_slice-head.result.now c.args.hierarchy.now.up =
    CanClimb-read (length c.args.forward.now) h.shape.first h.shape.head c.as_slice-first.result.now c.as_slice-head.result.now h.up firsts heads (CanClimb-up h (length c.args.forward.now) c.requires.size c.shape-shape.ensures.own) in
    let f : IsClimbed (length c.args.forward.now) c.args.hierarchy.now.up c.args.s c.climb-rising.new.labels = subst (λ (l : Links). IsClimbed (length c.args.forward.now) l c.args.s c.climb-rising.new.labels) c.up_links.ensures c.climb-rising.ensures in
    let b = c.climb-falling.ensures in
    let size_f = f.size in
    let size_b = b.size in
    let is_s = c.requires.from in
    let is_b = c.requires.backward.size in
    record {
      shape = subst (λ (n : ℕ). IsShape n c.as_slice-first.result.now c.as_slice-head.result.now) (sym size_f) can.shape;
      size = omega arith;
      rank = omega arith;
      forward_low = f.low;
      backward_low = b.low;
      above = (λ y inside real. above_of_climbed (length c.args.forward.now) c.as_slice-first.result.now c.as_slice-head.result.now h.up c.args.s c.climb-rising.new.labels can is_s f y (omega arith) real);
    }

pub clear-requires-clause-above : goal.clear-requires-clause-above
clear-requires-clause-above c = λ y inside.
    let h = c.args.hierarchy.now in
    let size_f = c.climb-rising.ensures.size in
    let firsts : c.as_slice-first.result.now ≡ c.args.hierarchy.now.shape.first = search rules in
    let heads : c.as_slice-head.result.now ≡ c.args.hierarchy.now.shape.head = search rules in
    let can = CanClimb-read (length c.args.forward.now) h.shape.first h.shape.head c.as_slice-first.result.now c.as_slice-head.result.now h.up firsts heads (CanClimb-up h (length c.args.forward.now) c.requires.size c.shape-shape.ensures.own) in
    blank_or_above (length c.args.forward.now) c.as_slice-first.result.now c.as_slice-head.result.now h.up c.args.s c.climb-rising.new.labels can c.requires.from (subst (λ (l : Links). IsClimbed (length c.args.forward.now) l c.args.s c.climb-rising.new.labels) c.up_links.ensures c.climb-rising.ensures) y (omega arith)

pub clear-requires-2-clause-above : goal.clear-requires-2-clause-above
clear-requires-2-clause-above c = λ y inside.
    let h = c.args.hierarchy.now in
    let size_b = c.climb-falling.ensures.size in
    let size = c.requires.backward.size in
    let firsts : c.as_slice-first.result.now ≡ c.args.hierarchy.now.shape.first = search rules in
    let heads : c.as_slice-head.result.now ≡ c.args.hierarchy.now.shape.head = search rules in
    let can = CanClimb-read (length c.args.forward.now) h.shape.first h.shape.head c.as_slice-first.result.now c.as_slice-head.result.now h.down firsts heads (CanClimb-down h (length c.args.forward.now) c.requires.size c.shape-shape.ensures.own) in
    let b : IsClimbed (length c.args.forward.now) c.args.hierarchy.now.down c.args.t c.climb-falling.new.labels = subst (λ (n : ℕ). IsClimbed n c.args.hierarchy.now.down c.args.t c.climb-falling.new.labels) size (subst (λ (l : Links). IsClimbed (length c.args.backward.now) l c.args.t c.climb-falling.new.labels) c.down_links.ensures c.climb-falling.ensures) in
    blank_or_above (length c.args.forward.now) c.as_slice-first.result.now c.as_slice-head.result.now h.down c.args.t c.climb-falling.new.labels can c.requires.to b y (omega arith)

pub returns-clause-least : goal.returns-clause-least
returns-clause-least c =
    let h = c.args.hierarchy.now in
    let same : length c.args.backward.now ≡ length c.args.forward.now = c.requires.backward.size in
    let b : IsClimbed (length c.args.forward.now) c.args.hierarchy.now.down c.args.t c.climb-falling.new.labels = subst (λ (n : ℕ). IsClimbed n c.args.hierarchy.now.down c.args.t c.climb-falling.new.labels) same (subst (λ (l : Links). IsClimbed (length c.args.backward.now) l c.args.t c.climb-falling.new.labels) c.down_links.ensures c.climb-falling.ensures) in
    IsLeastHill-met (length c.args.forward.now) h.shape.first h.shape.head h.up h.down c.args.s c.args.t c.climb-rising.new.labels c.climb-falling.new.labels c.meet-best.result (CanClimb-up h (length c.args.forward.now) c.requires.size c.shape-shape.ensures.own) c.requires.from (subst (λ (l : Links). IsClimbed (length c.args.forward.now) l c.args.s c.climb-rising.new.labels) c.up_links.ensures c.climb-rising.ensures) b c.meet-best.ensures
