use Rattle.std.proofs.Common.{◌≡◌, ℕ, List, length, refl, sym, ap, ◌∙◌, subst, arith, rules}
use Rattle.std.specs.Vec.{with_items}
use Rattle.std.proofs.lemmas.List.{with_items_is}
use Rattle.hierarchy_query.specs.Climbs.{IsBlank, IsClimbed}
use Rattle.hierarchy_query.specs.KnownHills.{AreUnknown}
use Rattle.hierarchy_query.proofs.Asks.{CanClimb-up}
use Rattle.hierarchy_query.proofs.Meets.{CanClimb-read, blank_or_above}
use Rattle.hierarchy_query.proofs.least_hills.LeastHills.take_back.Goals as goal

pub clear-requires-2-clause-above : goal.clear-requires-2-clause-above
clear-requires-2-clause-above c = λ y inside.
    let h = c.args.hierarchy.now in
    let firsts : c.as_slice-first.result.now ≡ c.args.hierarchy.now.shape.first = search rules in
    let heads : c.as_slice-head.result.now ≡ c.args.hierarchy.now.shape.head = search rules in
    let can = CanClimb-read (length h.shape.order) h.shape.first h.shape.head c.as_slice-first.result.now c.as_slice-head.result.now h.up firsts heads (CanClimb-up h (length h.shape.order) refl c.shape-shape.ensures.own) in
    let size = c.requires.climbed.size in
    let read : c.deref_mut-2.result.now ≡ c.args.self.now.rising.items = c.deref_mut-2.ensures.value in
    let long : length c.deref_mut-2.result.now ≡ length c.args.self.now.rising.items = ap (λ (xs : List ℕ). length xs) read in
    let climbed : IsClimbed (length h.shape.order) h.up c.args.self.now.from c.deref_mut-2.result.now = subst (λ (xs : List ℕ). IsClimbed (length h.shape.order) h.up c.args.self.now.from xs) (sym read) c.requires.climbed in
    blank_or_above (length h.shape.order) c.as_slice-first.result.now c.as_slice-head.result.now h.up c.args.self.now.from c.deref_mut-2.result.now can c.requires.from climbed y (omega arith)

pub returns : goal.returns
returns c =
    let h = c.args.hierarchy.now in
    let size_least = c.requires.least.size in
    let size_rising = c.requires.climbed.size in
    let least_read : length c.deref_mut.result.now ≡ length h.shape.order = ap (λ (xs : List ℕ). length xs) c.deref_mut.ensures.value ∙ size_least in
    let rising_read : length c.deref_mut-2.result.now ≡ length h.shape.order = ap (λ (xs : List ℕ). length xs) c.deref_mut-2.ensures.value ∙ size_rising in
    let unknown : AreUnknown (length h.shape.order) c.forget.new.least = subst (λ (n : ℕ). AreUnknown n c.forget.new.least) least_read c.forget.ensures in
    let blank : IsBlank (length h.shape.order) c.clear-2.new.labels = subst (λ (n : ℕ). IsBlank n c.clear-2.new.labels) rising_read c.clear-2.ensures in
    let size_unknown = unknown.size in
    let size_blank = blank.size in
    let least : (with_items c.args.self.now.least c.forget.new.least).items ≡ c.forget.new.least = with_items_is c.args.self.now.least c.forget.new.least (omega (arith, c.args.self.now.least.ok.0)) in
    let rising : (with_items c.args.self.now.rising c.clear-2.new.labels).items ≡ c.clear-2.new.labels = with_items_is c.args.self.now.rising c.clear-2.new.labels (omega (arith, c.args.self.now.rising.ok.0)) in
    record {
      no_rise = subst (λ (xs : List ℕ). IsBlank (length h.shape.order) xs) (sym rising) blank;
      none_known = subst (λ (xs : List ℕ). AreUnknown (length h.shape.order) xs) (sym least) unknown;
      none_listed = c.clear.ensures.items;
    }
