use Rattle.std.proofs.Common.{◌≡◌, ℕ, ◌+◌, ◌≤◌, List, [], ◌++◌, length, drop, take, arith, sym, ap, subst, ◌∙◌, append_assoc}
use Rattle.std.specs.List.{between}
use Rattle.std.proofs.lemmas.List.{length-append}
use Rattle.std.proofs.lemmas.List.Edits.{length-between}
use Rattle.road_io.proofs.ToldLemmas.{IfTold_both}
use Rattle.road_text.specs.Lines.{HasNoFeed}
use Rattle.road_text.specs.Fields.{first_byte, or_first}
use Rattle.road_text.specs.Reader.{held, HasTaken}
use Rattle.road_text.specs.Filling.{IsFeedAt}
use Rattle.road_text.proofs.HeldLemmas.{between-drop}
use Rattle.road_text.proofs.SkipLemmas.{HasPassed, HasPassed-more, Steps-long_last, Steps-long_whole, passed_text}
use Rattle.road_text.proofs.line_reader.LineReader.skip.Goals as goal

pub returns-in-End-clause-steps : goal.returns-in-End-clause-steps
returns-in-End-clause-steps g c =
    let old = c.args.self.now in
    let mid = c.pieces.self in
    let full = c.fill.new.self in
    let raw = c.pieces.invariant.0 in
    let so_far = c.pieces.invariant.1 in
    let passed : HasPassed old.longest raw c.pieces.first = record { no_feed = so_far.no_feed; first_is = so_far.first; long = (let h = so_far.long in let l = so_far.taken.longest in omega arith) } in
    let empty : held full ≡ [] = c.in-End.ensures.grows ∙ so_far.empty in
    let taken : HasTaken old full (length raw) = record { count = (let h = so_far.taken.count in let k = c.fill.ensures.kept.budget_is in omega arith); longest = c.fill.ensures.kept.longest ∙ so_far.taken.longest } in
    IfTold_both _ _ _ _ _ _ (λ (x y z : List ℕ) (p : held old ++ x ≡ raw ++ y) (q : _). Steps-long_last old mid full raw c.pieces.first passed empty taken x y z p q) so_far.told c.in-End.ensures.told

pub returns-in-Some-clause-steps : goal.returns-in-Some-clause-steps
returns-in-Some-clause-steps g c =
    let old = c.args.self.now in
    let mid = c.pieces.self in
    let full = c.fill.new.self in
    let raw = c.pieces.invariant.0 in
    let so_far = c.pieces.invariant.1 in
    let size : ℕ = c.in-Some.size in
    let passed : HasPassed old.longest raw c.pieces.first = record { no_feed = so_far.no_feed; first_is = so_far.first; long = (let h = so_far.long in let l = so_far.taken.longest in omega arith) } in
    let feed : IsFeedAt (held full) size = subst (λ (ys : List ℕ). IsFeedAt (between full.start full.end ys) size) c.deref-in-pieces.ensures.value c.in-Some.ensures in
    let later : c.first_of-first.result ≡ or_first c.pieces.first (first_byte (take size (held full))) = c.first_of-first.ensures ∙ ap (λ (ys : List ℕ). or_first c.pieces.first (first_byte (take size (between full.start full.end ys)))) c.deref-in-pieces.ensures.value in
    let within : full.start + (size + 1) ≤ full.end = (let h = feed.within in omega (arith, length-between full.buffer.items full.start full.end (omega (arith, full.buffer.ok.0, full.room, full.inside)))) in
    let beyond : between (full.start + (size + 1)) full.end full.buffer.items ≡ drop (size + 1) (held full) = between-drop full.buffer.items full.start full.end (size + 1) within in
    IfTold_both _ _ _ _ _ _ (λ (x y z : List ℕ) (p : held old ++ x ≡ raw ++ y) (q : _). Steps-long_whole old mid full _ raw c.pieces.first c.first_of-first.result size passed so_far.empty feed later beyond (record { count = (let h = so_far.taken.count in let k = c.fill.ensures.kept.budget_is in omega arith); longest = c.fill.ensures.kept.longest ∙ so_far.taken.longest }) x y z p q) so_far.told c.in-More.ensures.told

pub pieces-preserved : goal.pieces-preserved
pieces-preserved g c =
    let old = c.args.self.now in
    let mid = c.pieces.self in
    let full = c.fill.new.self in
    let raw = c.pieces.invariant.0 in
    let so_far = c.pieces.invariant.1 in
    let passed : HasPassed mid.longest raw c.pieces.first = record { no_feed = so_far.no_feed; first_is = so_far.first; long = so_far.long } in
    let none : HasNoFeed (held full) = subst (λ (ys : List ℕ). HasNoFeed (between full.start full.end ys)) c.deref-in-pieces.ensures.value c.in-None.ensures in
    let later : c.first_of-first-in-None.result ≡ or_first c.pieces.first (first_byte (held full)) = c.first_of-first-in-None.ensures ∙ ap (λ (ys : List ℕ). or_first c.pieces.first (first_byte (between full.start full.end ys))) c.deref-in-pieces.ensures.value in
    let more = HasPassed-more mid.longest raw (held full) c.pieces.first c.first_of-first-in-None.result passed none later in (
      raw ++ held full,
      record {
        no_feed = more.no_feed;
        first = more.first_is;
        long = (let h = more.long in let k = c.fill.ensures.kept.longest in let l = c.forget-in-None.ensures.taken.longest in omega arith);
        empty = c.forget-in-None.ensures.empty;
        taken = record { count = (let h = so_far.taken.count in let k = c.fill.ensures.kept.budget_is in let l = c.forget-in-None.ensures.taken.count in omega (arith, length-append raw (held full))); longest = c.forget-in-None.ensures.taken.longest ∙ c.fill.ensures.kept.longest ∙ so_far.taken.longest };
        told = IfTold_both _ _ _ _ _ _ (λ (x y z : List ℕ) (p : held old ++ x ≡ raw ++ y) (q : _). passed_text old mid full raw so_far.empty x y z p q ∙ sym (append_assoc raw (held full) z)) so_far.told c.in-More.ensures.told;
        count = c.in-More.ensures.quiet (λ e. cc) ∙ so_far.count;
        unpicked = c.fill.ensures.unpicked ∙ so_far.unpicked;
      },
    )
