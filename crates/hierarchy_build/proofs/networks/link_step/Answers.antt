use Rattle.std.proofs.Common.{◌≡◌, ◌+◌, ℕ, List, length, slice_index, sym, ap, ◌∙◌, arith, ⊎_elim}
use Rattle.std.proofs.lemmas.List.{get_or_read}
use Rattle.hierarchy_build.specs.Runs.{InSpan}
use Rattle.hierarchy_build.proofs.RisingArcs.{no_step_outside, no_step_past, is_read, step_read, leads_up}
use Rattle.hierarchy_build.proofs.networks.link_step.Goals as goal

pub returns-then-v-eq0 : goal.returns-then-v-eq0
returns-then-v-eq0 c =
    let size = c.requires.ranked.rank_size in
    let long = ap (λ (xs : List ℕ). length xs) c.as_slice-rank.ensures in
    let number = c.number-v.ensures.value in
    sym (no_step_outside c.args.shape.now c.args.links.now c.args.v c.args.i c.requires
    (λ is. (let first = is.first in let last = is.last in
    ⊎_elim
    (λ none. absurd (omega (arith, none)))
    (λ past. let high = past.1 in absurd (omega (arith, high)))
    c.then-v-eq0.either)))

pub returns-then-place-first : goal.returns-then-place-first
returns-then-place-first c =
    let s = c.args.shape.now in
    let l = c.args.links.now in
    let read = is_read s l c.args.v c.as_slice-rank.result.now c.as_slice-first.result.now c.number-v.result c.requires c.as_slice-rank.ensures c.as_slice-first.ensures c.number-v.ensures.value c.if-v-eq0.false c.if-v-rank.false in
    let begin = read.begin in
    let end = read.end in
    let past = c.if-place-first.true in
    sym (no_step_past s l c.args.v c.args.i c.requires read.vertex (omega arith))

pub bounds-as_slice-to : goal.bounds-as_slice-to
bounds-as_slice-to c =
    let s = c.args.shape.now in
    let l = c.args.links.now in
    let read = is_read s l c.args.v c.as_slice-rank.result.now c.as_slice-first.result.now c.number-v.result c.requires c.as_slice-rank.ensures c.as_slice-first.ensures c.number-v.ensures.value c.if-v-eq0.false c.if-v-rank.false in
    let begin = read.begin in
    let end = read.end in
    let early = c.if-place-first.false in
    let p : ℕ = slice_index c.as_slice-first.result.now (slice_index c.as_slice-rank.result.now c.number-v.result) + c.args.i in
    let span : InSpan c.args.links.now.first (slice_index c.args.shape.now.rank c.args.v) (slice_index c.as_slice-first.result.now (slice_index c.as_slice-rank.result.now c.number-v.result) + c.args.i) = record { low = omega arith; high = omega arith } in
    let up = (leads_up s l (slice_index c.args.shape.now.rank c.args.v) p c.requires (c.requires.ranked.inside c.args.v read.vertex) span).inside in
    let head = ap (λ (xs : List ℕ). slice_index xs p) c.as_slice.ensures in
    let order = ap (λ (xs : List ℕ). length xs) c.as_slice-2.ensures in
    omega arith

pub returns : goal.returns
returns c =
    let s = c.args.shape.now in
    let l = c.args.links.now in
    let read = is_read s l c.args.v c.as_slice-rank.result.now c.as_slice-first.result.now c.number-v.result c.requires c.as_slice-rank.ensures c.as_slice-first.ensures c.number-v.ensures.value c.if-v-eq0.false c.if-v-rank.false in
    let begin = read.begin in
    let end = read.end in
    let early = c.if-place-first.false in
    let p : ℕ = slice_index c.as_slice-first.result.now (slice_index c.as_slice-rank.result.now c.number-v.result) + c.args.i in
    let span : InSpan c.args.links.now.first (slice_index c.args.shape.now.rank c.args.v) (slice_index c.as_slice-first.result.now (slice_index c.as_slice-rank.result.now c.number-v.result) + c.args.i) = record { low = omega arith; high = omega arith } in
    let up = (leads_up s l (slice_index c.args.shape.now.rank c.args.v) p c.requires (c.requires.ranked.inside c.args.v read.vertex) span).inside in
    let head : slice_index c.as_slice.result.now p ≡ slice_index c.args.links.now.head p = ap (λ (xs : List ℕ). slice_index xs p) c.as_slice.ensures in
    let order = ap (λ (xs : List ℕ). length xs) c.as_slice-2.ensures in
    let to : c.index-as_slice-to.result ≡ slice_index c.args.shape.now.order (slice_index c.args.links.now.head p) =
    get_or_read c.as_slice-2.result.now (slice_index c.as_slice.result.now p) c.index-as_slice-to.result (omega arith) c.index-as_slice-to.is 0
    ∙ ap (λ (xs : List ℕ). slice_index xs (slice_index c.as_slice.result.now p)) c.as_slice-2.ensures
    ∙ ap (λ (x : ℕ). slice_index c.args.shape.now.order x) head in
    step_read s l c.args.v c.args.i p c.index-as_slice-to.result (slice_index c.as_slice-3.result.now p) c.requires read.vertex (omega arith) (omega arith) to
    (ap (λ (xs : List ℕ). slice_index xs p) c.as_slice-3.ensures)
