use Rattle.std.proofs.Common.{◌≡◌, ◌<◌, ◌≤◌, ◌+◌, ◌-◌, ◌^◌, ℕ, Some, length, get_or, arith, ap, sym, ◌∙◌}
use Rattle.std.proofs.lemmas.Option.{slice_get_within}
use Rattle.road_model.specs.Graph.{IsVertex, step_at, steps_from}
use Rattle.label_setting.proofs.Steps.{arc_of_step, head_inside, step_below}
use Rattle.label_setting.proofs.Searches.{IsSearch-step, label-step, IsSearch-relaxed}
use Rattle.label_setting.proofs.memory.SearchMemory.relax.Goals as goal

pub overflow_add-from : goal.overflow_add-from
overflow_add-from g c =
    let graph = g.N.Network.graph c.args.net.now in
    let s = c.in-Some.step in
    let step : step_at graph c.args.from.vertex c.steps.i ≡ Some s = sym c.in-Some.ensures in
    let low : s.length < 2 ^ 58 = step_below graph (2 ^ 58) c.args.from.vertex c.steps.i s c.requires.short step in
    let near = c.requires.near in
    omega arith

pub reach-requires-clause-inside : goal.reach-requires-clause-inside
reach-requires-clause-inside g c =
    let graph = g.N.Network.graph c.args.net.now in
    let s = c.in-Some.step in
    let step : step_at graph c.args.from.vertex c.steps.i ≡ Some s = sym c.in-Some.ensures in
    let vertex : IsVertex graph.vertices s.head = head_inside graph c.args.from.vertex c.steps.i s c.requires.sound step in
    let high = vertex.last in
    let size = c.steps.invariant.search.size in
    omega arith

pub reach-requires-clause-within : goal.reach-requires-clause-within
reach-requires-clause-within g c = c.steps.invariant.search.within

pub overflow_add-i : goal.overflow_add-i
overflow_add-i g c =
    let graph = g.N.Network.graph c.args.net.now in
    let s = c.in-Some.step in
    let step : step_at graph c.args.from.vertex c.steps.i ≡ Some s = sym c.in-Some.ensures in
    let late = (arc_of_step graph c.args.from.vertex c.steps.i s step).late in
    let is = c.number-number.ensures.value in
    let fits = c.number-number.ensures.fits in
    omega arith

pub steps-smaller : goal.steps-smaller
steps-smaller g c =
    let graph = g.N.Network.graph c.args.net.now in
    let s = c.in-Some.step in
    let step : step_at graph c.args.from.vertex c.steps.i ≡ Some s = sym c.in-Some.ensures in
    let more : c.steps.i < length (steps_from c.args.from.vertex 1 graph.arcs) = slice_get_within (steps_from c.args.from.vertex 1 graph.arcs) c.steps.i s step in
    let P : c.steps.i < length (steps_from c.args.from.vertex 1 graph.arcs) → length (steps_from c.args.from.vertex 1 graph.arcs) - (c.steps.i + 1) < length (steps_from c.args.from.vertex 1 graph.arcs) - c.steps.i = λ h. omega arith in
    P more

pub steps-preserved : goal.steps-preserved
steps-preserved g c =
    let graph = g.N.Network.graph c.args.net.now in
    let s = c.in-Some.step in
    let v = c.args.from.vertex in
    let before = c.steps.self in
    let after = c.reach.new.self in
    let d = c.args.from.distance + s.length in
    let step : step_at graph v c.steps.i ≡ Some s = sym c.in-Some.ensures in
    let low : s.length < 2 ^ 58 = step_below graph (2 ^ 58) v c.steps.i s c.requires.short step in
    let near = c.requires.near in
    let label : get_or before.labels.items v 0 ≡ c.args.from.distance = c.steps.invariant.label in
    let long : d ≡ get_or before.labels.items v 0 + s.length = ap (λ (k : ℕ). k + s.length) (sym label) in
    let vertex : IsVertex graph.vertices s.head = head_inside graph v c.steps.i s c.requires.sound step in
    let high = vertex.last in
    let size = c.steps.invariant.search.size in
    let inside : s.head < length before.labels.items = omega arith in
    let short : d < 2 ^ 60 + 2 ^ 58 = omega arith in
    let within = c.steps.invariant.search.within in
    let radius = c.steps.invariant.listed.low in
    let limit : c.steps.within < 2 ^ 60 = omega arith in
    let here : v ≤ graph.vertices = c.requires.entry.last in
    let same = label-step c.args.goal.target c.steps.within d s.head c.in_ok-within.within before after v (omega arith) inside c.in_ok-within.ensures.reached in
    record {
      size = c.in_ok-within.ensures.size ∙ c.steps.invariant.size;
      tracked = c.in_ok-within.ensures.tracked;
      listed = c.in_ok-within.ensures.listed;
      work = (let w = c.in_ok-within.ensures.work in let u = c.steps.invariant.work in omega arith);
      label = same ∙ label;
      search = IsSearch-step graph c.args.goal c.steps.within c.in_ok-within.within d before after v c.steps.i s c.requires.sound c.steps.invariant.search here step long short limit c.in_ok-within.ensures.reached;
    }

pub returns-clause-search : goal.returns-clause-search
returns-clause-search g c =
    let graph = g.N.Network.graph c.args.net.now in
    IsSearch-relaxed graph c.args.goal c.steps.within c.steps.self.labels.items c.steps.self.queue c.args.from.vertex c.steps.i c.steps.invariant.search (sym c.out.ensures ∙ c.in_default.is)
