use Rattle.std.proofs.Common.{◌≡◌, length, ap, ◌∙◌, arith}
use Rattle.route_engine.specs.Past.{joined}
use Rattle.route_engine.proofs.Chunks.{length-joined}
use Rattle.route_engine.proofs.past.Past.len.Goals as goal

pub returns-clause-count : goal.returns-clause-count
returns-clause-count c =
    let full : c.len.result ≡ length c.self.inside.full.value = c.len.ensures ∙ ap length c.deref.ensures in
    let all : length (joined c.self.inside.full.value c.self.inside.last) ≡ length c.args.self.now = ap length c.self.view_is in
    omega (arith, length-joined c.self.inside.full.value c.self.inside.last c.self.invariant)

pub returns-clause-few : goal.returns-clause-few
returns-clause-few c =
    let all : length (joined c.self.inside.full.value c.self.inside.last) ≡ length c.args.self.now = ap length c.self.view_is in
    omega (arith, c.self.invariant.few, length-joined c.self.inside.full.value c.self.inside.last c.self.invariant)
