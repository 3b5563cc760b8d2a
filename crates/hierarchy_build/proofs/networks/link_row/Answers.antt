use Rattle.std.proofs.Common.{◌≡◌, ◌-◌, ℕ, List, length, slice_index, sym, ap, ◌∙◌, subst, arith, ⊎_elim}
use Rattle.std.proofs.lemmas.List.{get_or_read}
use Rattle.hierarchy_build.specs.Runs.{InSpan}
use Rattle.hierarchy_build.proofs.RisingArcs.{no_arc_past, no_arc_zero, row_read, leads_up}
use Rattle.hierarchy_build.proofs.networks.link_row.Goals as goal

pub returns-then-number-eq0 : goal.returns-then-number-eq0
returns-then-number-eq0 c =
    let long = ap (λ (xs : List ℕ). length xs) c.as_slice-head.ensures in
    let number = c.number-number.ensures.value in
    sym (⊎_elim
    (λ none. no_arc_zero c.args.shape.now c.args.links.now c.args.a (omega (arith, none)))
    (λ past. let high = past.1 in no_arc_past c.args.shape.now c.args.links.now c.args.a c.requires (omega (arith, high)))
    c.then-number-eq0.either)

pub bounds-order-head : goal.bounds-order-head
bounds-order-head c =
    let order = ap (λ (xs : List ℕ). length xs) c.as_slice-order.ensures in
    let first = ap (λ (xs : List ℕ). length xs) c.as_slice.ensures in
    let size = c.requires.links.size in
    let low = c.rank_at-from.ensures.inside in
    let span : InSpan c.args.links.now.first c.rank_at-from.result (c.number-number.result - 1) = subst (λ (xs : List ℕ). InSpan xs c.rank_at-from.result (c.number-number.result - 1)) c.as_slice.ensures c.rank_at-from.ensures.span in
    let up = (leads_up c.args.shape.now c.args.links.now c.rank_at-from.result (c.number-number.result - 1) c.requires (omega arith) span).inside in
    let head = ap (λ (xs : List ℕ). slice_index xs (c.number-number.result - 1)) c.as_slice-head.ensures in
    omega arith

pub returns : goal.returns
returns c =
    let order = ap (λ (xs : List ℕ). length xs) c.as_slice-order.ensures in
    let first = ap (λ (xs : List ℕ). length xs) c.as_slice.ensures in
    let size = c.requires.links.size in
    let low = c.rank_at-from.ensures.inside in
    let number = c.number-number.ensures.value in
    let span : InSpan c.args.links.now.first c.rank_at-from.result (c.number-number.result - 1) = subst (λ (xs : List ℕ). InSpan xs c.rank_at-from.result (c.number-number.result - 1)) c.as_slice.ensures c.rank_at-from.ensures.span in
    let up = (leads_up c.args.shape.now c.args.links.now c.rank_at-from.result (c.number-number.result - 1) c.requires (omega arith) span).inside in
    let head : slice_index c.as_slice-head.result.now (c.number-number.result - 1) ≡ slice_index c.args.links.now.head (c.number-number.result - 1) = ap (λ (xs : List ℕ). slice_index xs (c.number-number.result - 1)) c.as_slice-head.ensures in
    let from : c.index-order-from.result ≡ slice_index c.args.shape.now.order c.rank_at-from.result =
    get_or_read c.as_slice-order.result.now c.rank_at-from.result c.index-order-from.result (omega arith) c.index-order-from.is 0
    ∙ ap (λ (xs : List ℕ). slice_index xs c.rank_at-from.result) c.as_slice-order.ensures in
    let to : c.index-order-head.result ≡ slice_index c.args.shape.now.order (slice_index c.args.links.now.head (c.number-number.result - 1)) =
    get_or_read c.as_slice-order.result.now (slice_index c.as_slice-head.result.now (c.number-number.result - 1)) c.index-order-head.result (omega arith) c.index-order-head.is 0
    ∙ ap (λ (xs : List ℕ). slice_index xs (slice_index c.as_slice-head.result.now (c.number-number.result - 1))) c.as_slice-order.ensures
    ∙ ap (λ (x : ℕ). slice_index c.args.shape.now.order x) head in
    row_read c.args.shape.now c.args.links.now c.args.a (c.number-number.result - 1) c.rank_at-from.result c.index-order-from.result c.index-order-head.result (slice_index c.as_slice-2.result.now (c.number-number.result - 1)) c.requires (omega (arith, c.if-number-eq0.false)) (omega arith) span from to
    (ap (λ (xs : List ℕ). slice_index xs (c.number-number.result - 1)) c.as_slice-2.ensures)
