use Rattle.std.proofs.Common.{◌≡◌, ◌<◌, ◌≤◌, ℕ, get_or, length, arith, ap, ◌∙◌, subst}
use Rattle.std.proofs.lemmas.List.{get_or_default}
use Rattle.label_setting.specs.Search.{IsSettled, IsAimed}
use Rattle.tree_search.proofs.FoundLabels.{found}
use Rattle.tree_search.proofs.search.labels_to.Goals as goal

pub returns-clause-found : goal.returns-clause-found
returns-clause-found g c =
    let graph = g.N.Network.graph c.args.net.now in
    let labels = c.run.new.self.labels.items in
    let limit = c.in_ok-limit.limit in
    let root : c.number.result ≡ c.args.root = c.number.ensures.value in
    let target : c.number-2.result ≡ c.args.target = c.number-2.ensures.value in
    let settled : IsSettled graph c.args.root limit labels = subst (λ (x : ℕ). IsSettled graph x limit labels) root c.in_ok-limit.ensures.settled in
    let aim : IsAimed (record { root = c.args.root; target = c.args.target; radius = 288230376151711743 }) limit labels =
    subst (λ (t : ℕ). IsAimed (record { root = c.args.root; target = t; radius = 288230376151711743 }) limit labels) target c.in_ok-limit.ensures.aimed in
    let place : c.number-3.result ≡ c.args.target = c.number-3.ensures.value in
    let last = c.requires.target_inside.last in
    let size = settled.size in
    let inside : c.number-3.result < length labels = omega arith in
    let read : c.index.result.now ≡ get_or labels c.args.target 0 = c.index.ensures ∙ get_or_default labels c.number-3.result c.index.result.now 0 inside ∙ ap (λ (i : ℕ). get_or labels i 0) place in
    let below = c.if-index-limit.false in
    let low : get_or labels c.args.target 0 ≤ limit = omega arith in
    let within = c.in_ok-limit.ensures.within in
    found graph c.args.root c.args.target 288230376151711743 limit labels c.vertices.ensures.sound c.requires.inside c.requires.target_inside settled (omega arith) aim low
