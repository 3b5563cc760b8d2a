use Rattle.std.proofs.Common.{◌≡◌, ◌∙◌, ◌≤◌, ap, arith}
use Rattle.recheck.specs.Paths.{Ground}
use Rattle.recheck.specs.Runs.{label_of}
use Rattle.recheck.proofs.RunEnds.{ends_in_order, spread_is}
use Rattle.recheck.proofs.numbers.spread_of.Goals as goal

pub overflow_sub-result : goal.overflow_sub-result
overflow_sub-result c =
    let o = c.args.basis.now in
    let start = c.side_before-before.result in
    let end = c.side_after-after.result in
    let high : c.label_at.result ≡ label_of o.from_rows end.end = c.label_at.ensures ∙ ap (λ (g : Ground). label_of g.from_rows end.end) c.basis.view_is in
    let low : c.label_at-2.result ≡ label_of o.from_rows start.end = c.label_at-2.ensures ∙ ap (λ (g : Ground). label_of g.from_rows start.end) c.basis.view_is in
    let order : label_of o.from_rows start.end ≤ label_of o.from_rows end.end = ends_in_order o c.side_after-after.ensures.sound c.args.r.now.via start.end end.end end.least start.least c.side_after-after.ensures.whole c.side_before-before.ensures in
    omega arith

pub returns : goal.returns
returns c =
    let o = c.args.basis.now in
    let start = c.side_before-before.result in
    let end = c.side_after-after.result in
    let high : c.label_at.result ≡ label_of o.from_rows end.end = c.label_at.ensures ∙ ap (λ (g : Ground). label_of g.from_rows end.end) c.basis.view_is in
    let low : c.label_at-2.result ≡ label_of o.from_rows start.end = c.label_at-2.ensures ∙ ap (λ (g : Ground). label_of g.from_rows start.end) c.basis.view_is in
    spread_is o c.side_after-after.ensures.sound c.args.r.now.via c.args.r.now.arcs start.end end.end end.least start.least _
    c.requires.near c.requires.own.through c.side_after-after.ensures.whole c.side_before-before.ensures (cc)
