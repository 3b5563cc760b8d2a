use Rattle.std.proofs.Common.{ℕ, ◌+◌, List, ◌++◌, Ok, refl, subst, ◌∙◌, arith}
use Rattle.road_io.proofs.ToldLemmas.{IfTold_both, told_same}
use Rattle.certificate_text.specs.declared.read.Gathered.{Gathered}
use Rattle.certificate_text.specs.RawLines.{held, budget, Steps}
use Rattle.certificate_text.specs.Gathering.{Gathers, GathersOn, IsMore}
use Rattle.certificate_text.proofs.ReadLemmas.{Gathers-fresh}
use Rattle.certificate_text.proofs.read.read_certificate.Goals as goal

pub lines-init : goal.lines-init
lines-init g c =
    record {
      opened = tt;
      few = omega (arith, c.in_ok-lines.ensures.whole);
      told = told_same _ _ (λ (text : List ℕ). Gathers-fresh c.in_ok-lines.lines text c.in_ok-lines.ensures);
      faults = refl;
      unpicked = refl;
    }

pub lines-preserved : goal.lines-preserved
lines-preserved g c =
    let mid = c.lines.lines in
    let so_far = c.lines.invariant in
    let line = c.in-Ok-More.ensures.goes_on in
    record {
      opened = subst IsMore c.in-Ok-More.field-0-is c.in-Ok-More.ensures.open;
      few = (let falls = c.advance-advance.ensures.falls line in let h = so_far.few in omega arith);
      told = IfTold_both _ _ _ _ _ _
          (λ (x y z : List ℕ) (p : Gathers (budget mid) x (held mid ++ y) c.lines.progress c.lines.count) (q : Steps mid c.advance-advance.new.self (held mid ++ y) z c.advance-advance.result). subst (λ (v : Gathered). GathersOn c.advance-advance.new.self x z (c.lines.count + 1) (Ok v)) c.in-Ok-More.field-0-is (c.in-Ok-More.ensures.gathered mid x y z p q))
          so_far.told c.advance-advance.ensures.steps;
      faults = c.advance-advance.ensures.quiet (λ e. cc) ∙ so_far.faults;
      unpicked = c.advance-advance.ensures.unpicked ∙ so_far.unpicked;
    }

pub returns-in-Ok-All-clause-reads : goal.returns-in-Ok-All-clause-reads
returns-in-Ok-All-clause-reads g c =
    let mid = c.lines.lines in
    let so_far = c.lines.invariant in
    let now = c.advance-advance.new.self in
    IfTold_both _ _ _ _ _ _
    (λ (x y z : List ℕ) (p : _) (q : _). q x p)
    (IfTold_both _ _ _ _ _ _
    (λ (x y z : List ℕ) (p : Gathers (budget mid) x (held mid ++ y) c.lines.progress c.lines.count) (q : Steps mid now (held mid ++ y) z c.advance-advance.result). subst (λ (v : Gathered). GathersOn now x z (c.lines.count + 1) (Ok v)) c.in-Ok-All.field-0-is (c.in-Ok-All.ensures.gathered mid x y z p q))
    so_far.told c.advance-advance.ensures.steps)
    c.finish.ensures.reads

pub returns-in-Err-clause-reads : goal.returns-in-Err-clause-reads
returns-in-Err-clause-reads g c =
    let mid = c.lines.lines in
    let so_far = c.lines.invariant in
    IfTold_both _ _ _ _ _ _
    (λ (x y z : List ℕ) (p : Gathers (budget mid) x (held mid ++ y) c.lines.progress c.lines.count) (q : Steps mid c.advance-advance.new.self (held mid ++ y) z c.advance-advance.result). c.in-Err.ensures.gathered mid x y z p q)
    so_far.told c.advance-advance.ensures.steps
