use Rattle.std.proofs.Common.{◌≡◌, ℕ, List, length, sym, ap, ◌∙◌, arith}
use Rattle.std.proofs.lemmas.List.{with_items_is}
use Rattle.hierarchy_build.proofs.Pulls.{AreBeaten-read}
use Rattle.hierarchy_build.proofs.hierarchy.thinned.Goals as goal

pub returns-clause-beaten : goal.returns-clause-beaten
returns-clause-beaten c =
    let s = c.args.shape.now in
    let full = c.args.lengths.now in
    let up : c.deref_mut.result.now ≡ c.args.lengths.now.up = c.deref_mut.ensures.value ∙ c.in_ok-up.ensures.items ∙ c.as_slice.ensures in
    let down : c.deref_mut-2.result.now ≡ c.args.lengths.now.down = c.deref_mut-2.ensures.value ∙ c.in_ok-down.ensures.items ∙ c.as_slice-2.ensures in
    let long_up : length c.pull_triangles.new.up ≡ length c.in_ok-up.up.items = c.pull_triangles.auto.up ∙ ap (λ (l : List ℕ). length l) c.deref_mut.ensures.value in
    let long_down : length c.pull_triangles.new.down ≡ length c.in_ok-down.down.items = c.pull_triangles.auto.down ∙ ap (λ (l : List ℕ). length l) c.deref_mut-2.ensures.value in
    let best_up : c.from_vec.result ≡ c.pull_triangles.new.up = c.from_vec.ensures ∙ with_items_is c.in_ok-up.up c.pull_triangles.new.up (omega (arith, c.in_ok-up.up.ok.0)) in
    let best_down : c.from_vec-2.result ≡ c.pull_triangles.new.down = c.from_vec-2.ensures ∙ with_items_is c.in_ok-down.down c.pull_triangles.new.down (omega (arith, c.in_ok-down.down.ok.0)) in
    AreBeaten-read c.len.result (length s.order) c.as_slice-3.result.now s.first c.as_slice-4.result.now s.head c.deref_mut.result.now full.up c.deref_mut-2.result.now full.down c.pull_triangles.new.up c.from_vec.result c.pull_triangles.new.down c.from_vec-2.result c.len.ensures c.as_slice-3.ensures c.as_slice-4.ensures up down (sym best_up) (sym best_down) c.pull_triangles.ensures.beaten
