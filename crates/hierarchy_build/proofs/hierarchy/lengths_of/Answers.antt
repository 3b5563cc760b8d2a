use Rattle.std.proofs.Common.{◌≡◌, ◌^◌, ℕ, List, length, replicate, refl, sym, ap, ◌∙◌, subst, arith, rules}
use Rattle.std.proofs.lemmas.List.{with_items_is}
use Rattle.road_model.specs.Graph.{rows_of}
use Rattle.hierarchy_build.specs.Hierarchy.{HasLengths}
use Rattle.hierarchy_build.proofs.Whole.{HasLengths-read}
use Rattle.hierarchy_build.proofs.hierarchy.lengths_of.Goals as goal

pub returns : goal.returns
returns c =
    let g = c.args.star.now in
    let s = c.args.shape.now in
    let ranks : c.len.result ≡ c.args.star.now.vertices = c.len.ensures ∙ c.requires.ranked.order_size in
    let limits = c.within_limits.ensures in
    let links_up : c.in_ok-up.up.items ≡ replicate c.len-links.result 144115188075855872 = search rules in
    let links_down : c.in_ok-down.down.items ≡ replicate c.len-links.result 144115188075855872 = search rules in
    let fresh_up : c.deref_mut.result.now ≡ replicate (length c.args.shape.now.head) (2 ^ 57) = c.deref_mut.ensures.value ∙ links_up ∙ ap (λ (n : ℕ). replicate n (2 ^ 57)) c.len-links.ensures in
    let fresh_down : c.deref_mut-2.result.now ≡ replicate (length c.args.shape.now.head) (2 ^ 57) = c.deref_mut-2.ensures.value ∙ links_down ∙ ap (λ (n : ℕ). replicate n (2 ^ 57)) c.len-links.ensures in
    let whole = HasLengths-read c.args.star.now c.args.shape.now c.len.result c.as_slice.result.now c.as_slice-2.result.now c.as_slice-3.result.now (rows_of c.args.star.now) c.deref_mut.result.now c.deref_mut-2.result.now c.lower_all.new.up c.lower_all.new.down ranks c.as_slice.ensures c.as_slice-2.ensures c.as_slice-3.ensures refl fresh_up fresh_down c.requires limits c.lower_all.ensures.arcs c.lower_all.ensures.tight in
    let long_up : length c.lower_all.new.up ≡ length c.in_ok-up.up.items = c.lower_all.auto.up ∙ ap (λ (l : List ℕ). length l) c.deref_mut.ensures.value in
    let long_down : length c.lower_all.new.down ≡ length c.in_ok-down.down.items = c.lower_all.auto.down ∙ ap (λ (l : List ℕ). length l) c.deref_mut-2.ensures.value in
    let up : c.from_vec.result ≡ c.lower_all.new.up = c.from_vec.ensures ∙ with_items_is c.in_ok-up.up c.lower_all.new.up (omega (arith, c.in_ok-up.up.ok.0)) in
    let down : c.from_vec-2.result ≡ c.lower_all.new.down = c.from_vec-2.ensures ∙ with_items_is c.in_ok-down.down c.lower_all.new.down (omega (arith, c.in_ok-down.down.ok.0)) in
    subst (λ (l : List ℕ). HasLengths c.args.star.now c.args.shape.now l c.from_vec-2.result) (sym up)
    (subst (λ (l : List ℕ). HasLengths c.args.star.now c.args.shape.now c.lower_all.new.up l) (sym down) whole)
