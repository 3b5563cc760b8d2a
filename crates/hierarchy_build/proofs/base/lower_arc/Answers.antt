use Rattle.std.proofs.Common.{◌≡◌, ◌<◌, ◌≤◌, ℕ, List, slice_index, sym, ap, ◌∙◌, subst, arith}
use Rattle.hierarchy_build.specs.Runs.{IsUp}
use Rattle.hierarchy_build.specs.Lengths.{KeepsArc}
use Rattle.hierarchy_build.proofs.Arcs.{up_found, KeepsArc-rise, KeepsArc-fall}
use Rattle.hierarchy_build.proofs.base.lower_arc.Goals as goal

pub returns-then-from-to : goal.returns-then-from-to
returns-then-from-to c =
    let rank = c.args.rank.now in
    let first = c.args.first.now in
    let head = c.args.head.now in
    let r = c.args.arc in
    let k = c.place_of-k.result in
    let from : slice_index c.args.rank.now c.number.result ≡ slice_index c.args.rank.now c.args.arc.tail = ap (λ (x : ℕ). slice_index c.args.rank.now x) c.number.ensures.value in
    let to : slice_index c.args.rank.now c.number-2.result ≡ slice_index c.args.rank.now c.args.arc.head = ap (λ (x : ℕ). slice_index c.args.rank.now x) c.number-2.ensures.value in
    let less : slice_index c.args.rank.now c.args.arc.tail < slice_index c.args.rank.now c.args.arc.head = omega (arith, c.if-from-to.true) in
    let up : IsUp c.args.first.now c.args.head.now (slice_index c.args.rank.now c.args.arc.tail) (slice_index c.args.rank.now c.args.arc.head) = c.requires.placed.rise less in
    let late : slice_index c.args.first.now (slice_index c.args.rank.now c.args.arc.tail) ≤ c.place_of-k.result = subst (λ (x : ℕ). slice_index c.args.first.now x ≤ c.place_of-k.result) from c.place_of-k.ensures.late in
    let earliest : (i : ℕ) → slice_index c.args.first.now (slice_index c.args.rank.now c.args.arc.tail) ≤ i → slice_index c.args.head.now i ≡ slice_index c.args.rank.now c.args.arc.head → c.place_of-k.result ≤ i =
    λ i low is. c.place_of-k.ensures.earliest i (subst (λ (x : ℕ). slice_index c.args.first.now x ≤ i) (sym from) low) (is ∙ sym to) in
    let span = up_found first head (slice_index rank r.tail) (slice_index rank r.head) k up late earliest in
    let whole = KeepsArc-rise c.args.ranks rank first head c.args.up.now c.args.down.now r k c.requires.can c.requires.within span (c.place_of-k.ensures.found ∙ to) in
    subst (λ (xs : List ℕ). KeepsArc c.args.ranks c.args.rank.now c.args.first.now c.args.head.now c.args.arc c.args.up.now c.args.down.now xs c.args.down.now) (sym c.lower.ensures) whole

pub returns-then-to-from : goal.returns-then-to-from
returns-then-to-from c =
    let rank = c.args.rank.now in
    let first = c.args.first.now in
    let head = c.args.head.now in
    let r = c.args.arc in
    let k = c.place_of-k-then-to-from.result in
    let from : slice_index c.args.rank.now c.number.result ≡ slice_index c.args.rank.now c.args.arc.tail = ap (λ (x : ℕ). slice_index c.args.rank.now x) c.number.ensures.value in
    let to : slice_index c.args.rank.now c.number-2.result ≡ slice_index c.args.rank.now c.args.arc.head = ap (λ (x : ℕ). slice_index c.args.rank.now x) c.number-2.ensures.value in
    let less : slice_index c.args.rank.now c.args.arc.head < slice_index c.args.rank.now c.args.arc.tail = omega (arith, c.if-to-from.true) in
    let up : IsUp c.args.first.now c.args.head.now (slice_index c.args.rank.now c.args.arc.head) (slice_index c.args.rank.now c.args.arc.tail) = c.requires.placed.fall less in
    let late : slice_index c.args.first.now (slice_index c.args.rank.now c.args.arc.head) ≤ c.place_of-k-then-to-from.result = subst (λ (x : ℕ). slice_index c.args.first.now x ≤ c.place_of-k-then-to-from.result) to c.place_of-k-then-to-from.ensures.late in
    let earliest : (i : ℕ) → slice_index c.args.first.now (slice_index c.args.rank.now c.args.arc.head) ≤ i → slice_index c.args.head.now i ≡ slice_index c.args.rank.now c.args.arc.tail → c.place_of-k-then-to-from.result ≤ i =
    λ i low is. c.place_of-k-then-to-from.ensures.earliest i (subst (λ (x : ℕ). slice_index c.args.first.now x ≤ i) (sym to) low) (is ∙ sym from) in
    let span = up_found first head (slice_index rank r.head) (slice_index rank r.tail) k up late earliest in
    let whole = KeepsArc-fall c.args.ranks rank first head c.args.up.now c.args.down.now r k c.requires.can c.requires.within span (c.place_of-k-then-to-from.ensures.found ∙ from) in
    subst (λ (xs : List ℕ). KeepsArc c.args.ranks c.args.rank.now c.args.first.now c.args.head.now c.args.arc c.args.up.now c.args.down.now c.args.up.now xs) (sym c.lower-then-to-from.ensures) whole
