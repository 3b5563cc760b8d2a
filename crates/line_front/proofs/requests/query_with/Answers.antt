use Rattle.std.proofs.Common.{ap}
use Rattle.road_model.specs.declared.request.CursorQuery.{CursorQuery}
use Rattle.line_front.proofs.requests.query_with.Goals as goal

pub returns : goal.returns
returns c =
    let usual = c.usual-usual.ensures in
    let from = ap (λ (q : CursorQuery). q.from) usual in
    let to = ap (λ (q : CursorQuery). q.to) usual in
    let gamma = ap (λ (q : CursorQuery). q.gamma) usual in
    let alpha = ap (λ (q : CursorQuery). q.alpha) usual in
    let epsilon = ap (λ (q : CursorQuery). q.epsilon) usual in
    cc
