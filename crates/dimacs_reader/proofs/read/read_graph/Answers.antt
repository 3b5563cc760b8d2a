use Rattle.std.proofs.Common.{ℕ, List, [], ◌++◌, Ok, refl, subst, ap, ◌∙◌, arith}
use Rattle.road_io.proofs.ToldLemmas.{IfTold_both, told_same}
use Rattle.road_text.specs.Reader.{held, budget, Steps}
use Rattle.road_text.proofs.BeyondLemmas.{IsBeyond-fresh}
use Rattle.dimacs_reader.specs.declared.builder.Gathered.{Gathered}
use Rattle.dimacs_reader.specs.declared.line.TheConstants.{MAX_LINE, MAX_FILE}
use Rattle.dimacs_reader.specs.Gathering.{Gathers, GathersAll, GathersOn}
use Rattle.dimacs_reader.proofs.GrLemmas.{first_fault-nil}
use Rattle.dimacs_reader.proofs.ReadLemmas.{reads_end}
use Rattle.dimacs_reader.proofs.read.read_graph.Goals as goal

pub lines-init : goal.lines-init
lines-init g c =
    let fresh = c.in_ok-reader.ensures in
    record {
      sound = c.new-builder.ensures.sound;
      limit = fresh.limit;
      few = omega (arith, fresh.whole, c.new-builder.ensures.lines);
      told = told_same _ _ (λ (text : List ℕ). record {
        before = [];
        beyond = IsBeyond-fresh c.in_ok-reader.reader MAX_LINE MAX_FILE text fresh;
        after = c.new-builder.ensures.after;
        clean = first_fault-nil [];
      });
      quiet = refl;
      unpicked = refl;
    }

pub lines-preserved : goal.lines-preserved
lines-preserved g c =
    let mid = c.lines.reader in
    let so_far = c.lines.invariant in
    record {
      sound = c.gather.ensures.sound;
      limit = c.advance-advance.ensures.limit ∙ so_far.limit;
      few = (let more = c.gather.ensures.goes_on (c.in-Ok-More.is ∙ ap (λ (v : Gathered). Ok v) c.in-Ok-More.field-0-is) in let falls = c.advance-advance.ensures.falls more in let h = so_far.few in omega (arith, c.gather.ensures.lines));
      told = IfTold_both _ _ _ _ _ _
          (λ (x y z : List ℕ) (p : Gathers (budget mid) x (held mid ++ y) c.lines.builder) (q : Steps mid c.advance-advance.new.self (held mid ++ y) z c.advance-advance.result). subst (λ (v : Gathered). GathersOn c.advance-advance.new.self x z c.gather.new.self (Ok v)) c.in-Ok-More.field-0-is (c.in-Ok-More.ensures.gathered mid x y z so_far.limit p q))
          so_far.told c.advance-advance.ensures.steps;
      quiet = c.advance-advance.ensures.quiet (λ e. let h = c.gather.ensures.told e in let k = c.in-Ok-More.is in cc) ∙ so_far.quiet;
      unpicked = c.advance-advance.ensures.unpicked ∙ so_far.unpicked;
    }

pub returns-in-Ok-All-clause-reads : goal.returns-in-Ok-All-clause-reads
returns-in-Ok-All-clause-reads g c =
    let mid = c.lines.reader in
    let so_far = c.lines.invariant in
    IfTold_both _ _ _ _ _ _
    (λ (x y z : List ℕ) (p : Gathers (budget mid) x (held mid ++ y) c.lines.builder) (q : Steps mid c.advance-advance.new.self (held mid ++ y) z c.advance-advance.result).
    let whole : GathersAll x c.gather.new.self = subst (λ (v : Gathered). GathersOn c.advance-advance.new.self x z c.gather.new.self (Ok v)) c.in-Ok-All.field-0-is (c.in-Ok-All.ensures.gathered mid x y z so_far.limit p q) in
    reads_end x z whole.all c.finish.result whole.read whole.clean (c.finish.ensures.ends whole.all whole.after))
    so_far.told c.advance-advance.ensures.steps

pub returns-in-Err-clause-reads : goal.returns-in-Err-clause-reads
returns-in-Err-clause-reads g c =
    let mid = c.lines.reader in
    let so_far = c.lines.invariant in
    IfTold_both _ _ _ _ _ _
    (λ (x y z : List ℕ) (p : Gathers (budget mid) x (held mid ++ y) c.lines.builder) (q : Steps mid c.advance-advance.new.self (held mid ++ y) z c.advance-advance.result). c.in-Err.ensures.gathered mid x y z so_far.limit p q)
    so_far.told c.advance-advance.ensures.steps
