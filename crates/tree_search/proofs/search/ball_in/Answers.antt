use Rattle.std.proofs.Common.{ℕ, map, arith, sym, subst, refl}
use Rattle.label_setting.specs.declared.memory.Goal.{Goal}
use Rattle.label_setting.specs.declared.memory.SearchMemory.{SearchMemory}
use Rattle.label_setting.specs.Search.{IsSettled, IsTracked}
use Rattle.tree_search.specs.Ball.{IsBall, Reached, label_within}
use Rattle.tree_search.proofs.FoundLabels.{reach_low, whole_radius, IsBall-settled, IsTracked-same}
use Rattle.tree_search.proofs.search.ball_in.Goals as goal

pub run-requires-clause-low : goal.run-requires-clause-low
run-requires-clause-low g c =
    let graph = g.N.Network.graph c.args.net.now in
    let low = reach_low graph c.args.radius c.requires.bounded in
    let is = c.unwrap_or.ensures in
    omega arith

pub of-requires-clause-low : goal.of-requires-clause-low
of-requires-clause-low g c =
    let within = c.in_ok-limit.ensures.within in
    let graph = g.N.Network.graph c.args.net.now in
    let low = reach_low graph c.args.radius c.requires.bounded in
    let is = c.unwrap_or.ensures in
    omega arith

pub of-requires-clause-tracked : goal.of-requires-clause-tracked
of-requires-clause-tracked g c =
    let labels = c.run.new.self.labels.items in
    subst (λ (m : SearchMemory). IsTracked m.labels.items m.touched.items) (sym c.replace-found.ensures.value)
    (IsTracked-same labels c.run.new.self.touched.items c.put_in_order.new.touched.items c.in_ok-limit.ensures.tracked c.put_in_order.ensures.same)

pub returns-clause-ball : goal.returns-clause-ball
returns-clause-ball g c =
    let graph = g.N.Network.graph c.args.net.now in
    let aim : Goal = record { root = c.number.result; target = 0; radius = c.unwrap_or.result } in
    let memory = c.run.new.self in
    let limit = c.in_ok-limit.limit in
    let is = c.unwrap_or.ensures in
    let low = reach_low graph c.args.radius c.requires.bounded in
    let whole = whole_radius aim limit memory.labels.items refl c.in_ok-limit.ensures.unused c.in_ok-limit.ensures.within (omega arith) c.in_ok-limit.ensures.aimed in
    let settled : IsSettled graph c.args.root limit memory.labels.items = subst (λ (x : ℕ). IsSettled graph x limit memory.labels.items) c.number.ensures.value c.in_ok-limit.ensures.settled in
    let ball = IsBall-settled graph c.args.root c.args.radius c.unwrap_or.result limit memory.labels.items memory.touched.items c.put_in_order.new.touched.items c.vertices.ensures.sound c.requires.inside c.requires.bounded is whole settled c.in_ok-limit.ensures.tracked c.in_ok-limit.ensures.listed c.put_in_order.ensures.same c.put_in_order.ensures.ascending in
    subst (λ (b : Reached). IsBall graph c.args.root c.args.radius b) (sym c.of.ensures)
    (subst (λ (m : SearchMemory). IsBall graph c.args.root c.args.radius (record { labels = map (label_within limit) m.labels.items; members = m.touched.items })) (sym c.replace-found.ensures.value) ball)
