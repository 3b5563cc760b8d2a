use Rattle.std.proofs.Common.{ℕ, ◌≤◌, List, ◌++◌, length, take, ap, subst, ◌∙◌, arith}
use Rattle.std.specs.List.{between}
use Rattle.std.proofs.lemmas.List.{length-take-le}
use Rattle.road_text.specs.Filling.{IsFeedAt}
use Rattle.certificate_text.proofs.RawLemmas.{between-feed, between-feed_within}
use Rattle.certificate_text.proofs.raw_lines.RawLines.cut.Goals as goal

pub returns-in-Ok : goal.returns-in-Ok
returns-in-Ok c =
    let self = c.args.self.now in
    let xs : List ℕ = self.buffer.items in
    let size : ℕ = c.in-Some.size in
    let bytes : List ℕ = between self.start self.end xs in
    let high : self.end ≤ length xs = omega (arith, self.buffer.ok.0, self.room, self.inside) in
    let feed : IsFeedAt bytes size = subst (λ (ys : List ℕ). IsFeedAt (between self.start self.end ys) size) c.deref.ensures.value c.in-Some.ensures in
    let within = between-feed_within xs self.start self.end size high self.ordered feed in
    let few : size ≤ length bytes = (let h = feed.within in omega arith) in
    record {
      cuts = (
        take size bytes,
        record {
          no_feed = feed.before;
          held_is = between-feed xs self.start self.end size high self.ordered feed;
          raw_is = c.in-Ok.ensures.items ∙ ap (λ (ys : List ℕ). self.line.items ++ take size (between self.start self.end ys)) c.deref.ensures.value;
          taken = omega (arith, length-take-le size bytes few);
        },
      );
    }
