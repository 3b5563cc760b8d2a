use Rattle.std.proofs.Common.{◌≡◌, ◌<◌, ◌≤◌, ◌+◌, ◌*◌, ◌∷◌, length, get_or, sum, arith, sym, ◌∙◌}
use Rattle.std.proofs.lemmas.List.{get_or_default}
use Rattle.std.proofs.lemmas.List.Sorted.{length_permutation}
use Rattle.label_setting.specs.Search.{IsEntry}
use Rattle.label_setting.proofs.Searches.{IsSearch-begun, IsSearch-stale, IsSearch-taken, entry_taken}
use Rattle.label_setting.proofs.Settles.{IsSettled-over, IsSettled-empty}
use Rattle.label_setting.proofs.memory.SearchMemory.run.Goals as goal

pub search-init : goal.search-init
search-init g c =
    let graph = g.N.Network.graph c.args.net.now in
    let size : length c.begin.new.self.labels.items ≡ graph.vertices + 1 = c.in_ok-begin.ensures.size ∙ c.requires.size in
    record {
      size = c.in_ok-begin.ensures.size;
      tracked = c.in_ok-begin.ensures.tracked;
      listed = c.in_ok-begin.ensures.ok.listed;
      search = IsSearch-begun graph c.args.goal c.first_limit-limit.result c.begin.new.self c.requires.root size c.in_ok-begin.ensures.ok c.first_limit-limit.ensures c.requires.target;
    }

pub returns-then-entry-limit-clause-settled : goal.returns-then-entry-limit-clause-settled
returns-then-entry-limit-clause-settled g c =
    let graph = g.N.Network.graph c.args.net.now in
    IsSettled-over graph c.args.goal c.search.limit c.search.self.labels.items c.search.self.queue c.pop.new.self c.in-Some.entry c.vertices-vertices.ensures.sound c.search.invariant.search c.in-Some.ensures.popped c.in-Some.ensures.least c.if-entry-limit.true

pub index-requires : goal.index-requires
index-requires g c =
    let graph = g.N.Network.graph c.args.net.now in
    let e : IsEntry graph.vertices c.in-Some.entry = entry_taken graph c.args.goal c.search.limit c.search.self.labels.items c.search.self.queue c.pop.new.self c.in-Some.entry c.search.invariant.search c.in-Some.ensures.popped in
    let last = e.vertex.last in
    let size = c.search.invariant.search.size in
    omega arith

pub relax-requires-clause-entry : goal.relax-requires-clause-entry
relax-requires-clause-entry g c =
    let graph = g.N.Network.graph c.args.net.now in
    let e : IsEntry graph.vertices c.in-Some.entry = entry_taken graph c.args.goal c.search.limit c.search.self.labels.items c.search.self.queue c.pop.new.self c.in-Some.entry c.search.invariant.search c.in-Some.ensures.popped in
    e.vertex

pub relax-requires-clause-label : goal.relax-requires-clause-label
relax-requires-clause-label g c =
    let graph = g.N.Network.graph c.args.net.now in
    let e : IsEntry graph.vertices c.in-Some.entry = entry_taken graph c.args.goal c.search.limit c.search.self.labels.items c.search.self.queue c.pop.new.self c.in-Some.entry c.search.invariant.search c.in-Some.ensures.popped in
    let last = e.vertex.last in
    let size = c.search.invariant.search.size in
    let inside : c.in-Some.entry.vertex < length c.search.self.labels.items = omega arith in
    sym (c.index.ensures ∙ get_or_default c.search.self.labels.items c.in-Some.entry.vertex c.index.result.now 0 inside) ∙ sym c.if-entry-index.true

pub relax-requires-clause-search : goal.relax-requires-clause-search
relax-requires-clause-search g c =
    let graph = g.N.Network.graph c.args.net.now in
    IsSearch-taken graph c.args.goal c.search.limit c.search.self.labels.items c.search.self.queue c.pop.new.self c.in-Some.entry c.search.invariant.search c.in-Some.ensures.popped

pub search-smaller-then-entry-index : goal.search-smaller-then-entry-index
search-smaller-then-entry-index g c =
    let fewer : length (c.in-Some.entry ∷ c.pop.new.self) ≡ length c.search.self.queue = length_permutation c.search.self.queue (c.in-Some.entry ∷ c.pop.new.self) c.in-Some.ensures.popped in
    let work : 2 * sum c.relax.new.self.labels.items + length c.relax.new.self.queue ≤ 2 * sum c.search.self.labels.items + length c.pop.new.self = c.in_ok-limit.ensures.work in
    let P : length (c.in-Some.entry ∷ c.pop.new.self) ≡ length c.search.self.queue → 2 * sum c.relax.new.self.labels.items + length c.relax.new.self.queue ≤ 2 * sum c.search.self.labels.items + length c.pop.new.self → 2 * sum c.relax.new.self.labels.items + length c.relax.new.self.queue < 2 * sum c.search.self.labels.items + length c.search.self.queue = λ a b. omega arith in
    P fewer work

pub search-smaller : goal.search-smaller
search-smaller g c =
    let fewer : length (c.in-Some.entry ∷ c.pop.new.self) ≡ length c.search.self.queue = length_permutation c.search.self.queue (c.in-Some.entry ∷ c.pop.new.self) c.in-Some.ensures.popped in
    let P : length (c.in-Some.entry ∷ c.pop.new.self) ≡ length c.search.self.queue → 2 * sum c.search.self.labels.items + length c.pop.new.self < 2 * sum c.search.self.labels.items + length c.search.self.queue = λ a. omega arith in
    P fewer

pub search-preserved : goal.search-preserved
search-preserved g c =
    let graph = g.N.Network.graph c.args.net.now in
    let e : IsEntry graph.vertices c.in-Some.entry = entry_taken graph c.args.goal c.search.limit c.search.self.labels.items c.search.self.queue c.pop.new.self c.in-Some.entry c.search.invariant.search c.in-Some.ensures.popped in
    let last = e.vertex.last in
    let size = c.search.invariant.search.size in
    let inside : c.in-Some.entry.vertex < length c.search.self.labels.items = omega arith in
    let label : c.index.result.now ≡ get_or c.search.self.labels.items c.in-Some.entry.vertex 0 = c.index.ensures ∙ get_or_default c.search.self.labels.items c.in-Some.entry.vertex c.index.result.now 0 inside in
    record {
      size = c.search.invariant.size;
      tracked = c.search.invariant.tracked;
      listed = c.search.invariant.listed;
      search = IsSearch-stale graph c.args.goal c.search.limit c.search.self.labels.items c.search.self.queue c.pop.new.self c.in-Some.entry c.search.invariant.search c.in-Some.ensures.popped (λ same. c.if-entry-index.false (same ∙ sym label));
    }

pub returns-clause-settled : goal.returns-clause-settled
returns-clause-settled g c =
    let graph = g.N.Network.graph c.args.net.now in
    IsSettled-empty graph c.args.goal c.search.limit c.search.self.labels.items c.search.self.queue c.vertices-vertices.ensures.sound c.search.invariant.search c.in_default.ensures.none
