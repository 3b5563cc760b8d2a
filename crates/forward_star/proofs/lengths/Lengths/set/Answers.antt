use Rattle.std.proofs.Common.{◌≡◌, ◌-◌, ◌<◌, ℕ, List, length, set, vec_len, arith, ap, sym, ◌∙◌, subst}
use Rattle.forward_star.specs.Layout.{place_at, HasNumbers}
use Rattle.forward_star.proofs.Arcs.{tails_inside, heads_inside}
use Rattle.forward_star.proofs.Counts.{place_at-inside}
use Rattle.forward_star.proofs.Runs.{HasNumbers-laid}
use Rattle.forward_star.proofs.Stars.{IsAmong, among_arcs, IsStar-set, graph_of-set}
use Rattle.forward_star.proofs.lengths.Lengths.set.Goals as goal

pub place_of-out-requires-clause-last : goal.place_of-out-requires-clause-last
place_of-out-requires-clause-last c =
    let among : IsAmong c.args.topology.now c.args.change.arc = among_arcs c.args.topology.now c.args.self.now c.args.change c.requires.star c.requires.sound in
    omega (arith, among.last, c.deref.ensures.len, c.args.topology.now.tails.ok.0)

pub place_of-out-requires-clause-numbers : goal.place_of-out-requires-clause-numbers
place_of-out-requires-clause-numbers c =
    let t = c.args.topology.now in
    let star = c.requires.star in
    let inside = tails_inside t.vertices t.tails.items t.heads.items c.args.self.now.by_number.items star.heads star.numbers star.limits.is_graph in
    subst (λ (ends : List ℕ). HasNumbers ends c.args.topology.now.forward.places.items c.args.topology.now.forward.records.items) (sym c.deref.ensures.value)
    (HasNumbers-laid t.vertices t.tails.items t.heads.items t.forward.places.items t.forward.records.items star.by_tail inside)

pub place_of-into-requires-clause-last : goal.place_of-into-requires-clause-last
place_of-into-requires-clause-last c =
    let among : IsAmong c.args.topology.now c.args.change.arc = among_arcs c.args.topology.now c.args.self.now c.args.change c.requires.star c.requires.sound in
    omega (arith, among.last, c.requires.star.heads, c.deref-2.ensures.len, c.args.topology.now.heads.ok.0)

pub place_of-into-requires-clause-numbers : goal.place_of-into-requires-clause-numbers
place_of-into-requires-clause-numbers c =
    let t = c.args.topology.now in
    let star = c.requires.star in
    let inside = heads_inside t.vertices t.tails.items t.heads.items c.args.self.now.by_number.items star.heads star.numbers star.limits.is_graph in
    subst (λ (ends : List ℕ). HasNumbers ends c.args.topology.now.backward.places.items c.args.topology.now.backward.records.items) (sym c.deref-2.ensures.value)
    (HasNumbers-laid t.vertices t.heads.items t.tails.items t.backward.places.items t.backward.records.items star.by_head inside)

pub index_mut-requires : goal.index_mut-requires
index_mut-requires c =
    let among : IsAmong c.args.topology.now c.args.change.arc = among_arcs c.args.topology.now c.args.self.now c.args.change c.requires.star c.requires.sound in
    omega (arith, among.first, among.last, c.number.ensures.value, c.requires.star.numbers, c.args.self.now.by_number.ok.0)

pub index_mut-requires-2 : goal.index_mut-requires-2
index_mut-requires-2 c =
    let t = c.args.topology.now in
    let j : ℕ = c.args.change.arc - 1 in
    let among : IsAmong c.args.topology.now c.args.change.arc = among_arcs c.args.topology.now c.args.self.now c.args.change c.requires.star c.requires.sound in
    let first = among.first in
    let last = among.last in
    let is : c.place_of-out.result ≡ place_at t.tails.items j = c.place_of-out.ensures ∙ ap (λ (ends : List ℕ). place_at ends j) c.deref.ensures.value in
    let inside : place_at t.tails.items j < length t.tails.items = place_at-inside t.tails.items j (omega arith) in
    let there : place_at t.tails.items j < vec_len c.args.self.now.by_tail = omega (arith, c.requires.star.out.long, c.args.self.now.by_tail.ok.0) in
    subst (λ (p : ℕ). p < vec_len c.args.self.now.by_tail) (sym is) there

pub index_mut-requires-3 : goal.index_mut-requires-3
index_mut-requires-3 c =
    let t = c.args.topology.now in
    let j : ℕ = c.args.change.arc - 1 in
    let among : IsAmong c.args.topology.now c.args.change.arc = among_arcs c.args.topology.now c.args.self.now c.args.change c.requires.star c.requires.sound in
    let first = among.first in
    let last = among.last in
    let is : c.place_of-into.result ≡ place_at t.heads.items j = c.place_of-into.ensures ∙ ap (λ (ends : List ℕ). place_at ends j) c.deref-2.ensures.value in
    let inside : place_at t.heads.items j < length t.heads.items = place_at-inside t.heads.items j (omega (arith, c.requires.star.heads)) in
    let there : place_at t.heads.items j < vec_len c.args.self.now.by_head = omega (arith, c.requires.star.into.long, c.args.self.now.by_head.ok.0) in
    subst (λ (p : ℕ). p < vec_len c.args.self.now.by_head) (sym is) there

pub returns-clause-star : goal.returns-clause-star
returns-clause-star c =
    let t = c.args.topology.now in
    let l = c.args.self.now in
    let j : ℕ = c.args.change.arc - 1 in
    let number : set l.by_number.items (c.number.result - 1) c.args.change.length ≡ set l.by_number.items j c.args.change.length = ap (λ (n : ℕ). set l.by_number.items (n - 1) c.args.change.length) c.number.ensures.value in
    let out : c.place_of-out.result ≡ place_at t.tails.items j = c.place_of-out.ensures ∙ ap (λ (ends : List ℕ). place_at ends j) c.deref.ensures.value in
    let into : c.place_of-into.result ≡ place_at t.heads.items j = c.place_of-into.ensures ∙ ap (λ (ends : List ℕ). place_at ends j) c.deref-2.ensures.value in
    IsStar-set t l _ c.args.change c.requires.star c.requires.sound number
    (ap (λ (p : ℕ). set l.by_tail.items p c.args.change.length) out)
    (ap (λ (p : ℕ). set l.by_head.items p c.args.change.length) into)

pub returns-clause-changed : goal.returns-clause-changed
returns-clause-changed c =
    let l = c.args.self.now in
    let number : set l.by_number.items (c.number.result - 1) c.args.change.length ≡ set l.by_number.items (c.args.change.arc - 1) c.args.change.length = ap (λ (n : ℕ). set l.by_number.items (n - 1) c.args.change.length) c.number.ensures.value in
    graph_of-set c.args.topology.now l c.args.change (set l.by_number.items (c.number.result - 1) c.args.change.length) c.requires.star c.requires.sound number
