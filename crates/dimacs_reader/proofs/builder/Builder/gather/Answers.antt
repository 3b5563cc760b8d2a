use Rattle.std.proofs.Common.{◌≡◌, ℕ, Bool, true, false, List, ◌++◌, Option, Ok, Err, subst, sym, ap, ◌∙◌}
use Rattle.road_text.specs.declared.line_reader.LineReader.{LineReader}
use Rattle.road_text.specs.declared.line_reader.Advance.{Advance}
use Rattle.road_text.specs.declared.line_reader.Advance.TheVariants.{Whole, Last, Long, End, Spent, Failed}
use Rattle.road_text.specs.Reader.{held, IsLongLine, Steps}
use Rattle.dimacs_reader.specs.declared.line.TheConstants.{MAX_LINE}
use Rattle.dimacs_reader.specs.declared.fault.GraphFault.{GraphFault}
use Rattle.dimacs_reader.specs.declared.fault.GraphKind.TheVariants.{FileLong}
use Rattle.dimacs_reader.specs.Building.{AddsLine}
use Rattle.dimacs_reader.proofs.BuilderLemmas.{fault_at-is}
use Rattle.dimacs_reader.proofs.ReadLemmas.{gathers_whole, faults_whole, gathers_last, faults_last, gathers_long, faults_long, gathers_long_last, faults_long_last, gathers_end, faults_over, cut_short}
use Rattle.dimacs_reader.proofs.builder.Builder.gather.Goals as goal

-- the step, at the answer that it gave
at_answer : (old new : LineReader) (text after : List ℕ) (a b : Advance) → a ≡ b → Steps old new text after a → Steps old new text after b
at_answer old new text after a b e step = subst (λ (x : Advance). Steps old new text after x) e step

pub returns-in-Ok-clause-gathered : goal.returns-in-Ok-clause-gathered
returns-in-Ok-clause-gathered c = λ old text rest after limit g step.
    let now = at_answer old c.args.reader.now (held old ++ rest) after c.args.advance Whole c.in-Whole.is step in
    let adds = subst (λ (l : List ℕ). AddsLine g.before l c.take.new.self (Ok c.in-Ok.field-0)) c.line.ensures (c.in-Ok.ensures.adds g.before g.after) in
    gathers_whole old c.args.reader.now text rest after c.args.self.now c.take.new.self _ g now adds

pub returns-in-Err-clause-gathered : goal.returns-in-Err-clause-gathered
returns-in-Err-clause-gathered c = λ old text rest after limit g step.
    let now = at_answer old c.args.reader.now (held old ++ rest) after c.args.advance Whole c.in-Whole.is step in
    let adds = subst (λ (l : List ℕ). AddsLine g.before l c.take.new.self (Err c.in-Err.error)) c.line.ensures (c.in-Err.ensures.adds g.before g.after) in
    faults_whole old c.args.reader.now text rest after c.args.self.now c.take.new.self c.in-Err.error g now adds

pub returns-in-Ok-take-clause-gathered : goal.returns-in-Ok-take-clause-gathered
returns-in-Ok-take-clause-gathered c = λ old text rest after limit g step.
    let now = at_answer old c.args.reader.now (held old ++ rest) after c.args.advance Last c.in-Last.is step in
    let adds = subst (λ (l : List ℕ). AddsLine g.before l c.take-in-Last.new.self (Ok c.in-Ok-take.field-0)) c.line-in-Last.ensures (c.in-Ok-take.ensures.adds g.before g.after) in
    gathers_last old c.args.reader.now text rest after c.args.self.now c.take-in-Last.new.self _ g now adds

pub returns-in-Err-take-clause-gathered : goal.returns-in-Err-take-clause-gathered
returns-in-Err-take-clause-gathered c = λ old text rest after limit g step.
    let now = at_answer old c.args.reader.now (held old ++ rest) after c.args.advance Last c.in-Last.is step in
    let adds = subst (λ (l : List ℕ). AddsLine g.before l c.take-in-Last.new.self (Err c.in-Err-take.error)) c.line-in-Last.ensures (c.in-Err-take.ensures.adds g.before g.after) in
    faults_last old c.args.reader.now text rest after c.args.self.now c.take-in-Last.new.self c.in-Err-take.error g now adds

pub returns-in-Ok-pass-clause-gathered : goal.returns-in-Ok-pass-clause-gathered
returns-in-Ok-pass-clause-gathered c = λ old text rest after limit g step.
    let first : Option ℕ = c.in-Long-true-default.first in
    let is : c.args.advance ≡ Long true first = c.in-Long-true-default.is ∙ ap (λ (w : Bool). Long w first) (sym c.in-Long-true-default.whole-is ∙ c.in-Long-true-default.whole-test) in
    let now = at_answer old c.args.reader.now (held old ++ rest) after c.args.advance (Long true first) is step in
    gathers_long old c.args.reader.now text rest after c.args.self.now c.pass.new.self first _ limit g now (λ line long. c.in-Ok-pass.ensures.adds g.before line g.after (subst (λ (f : Option ℕ). IsLongLine MAX_LINE line f) (sym c.in-Long-true-default.first-is) long))

pub returns-in-Err-pass-clause-gathered : goal.returns-in-Err-pass-clause-gathered
returns-in-Err-pass-clause-gathered c = λ old text rest after limit g step.
    let first : Option ℕ = c.in-Long-true-default.first in
    let is : c.args.advance ≡ Long true first = c.in-Long-true-default.is ∙ ap (λ (w : Bool). Long w first) (sym c.in-Long-true-default.whole-is ∙ c.in-Long-true-default.whole-test) in
    let now = at_answer old c.args.reader.now (held old ++ rest) after c.args.advance (Long true first) is step in
    faults_long old c.args.reader.now text rest after c.args.self.now c.pass.new.self first c.in-Err-pass.error limit g now (λ line long. c.in-Err-pass.ensures.adds g.before line g.after (subst (λ (f : Option ℕ). IsLongLine MAX_LINE line f) (sym c.in-Long-true-default.first-is) long))

pub returns-in-Ok-pass-2-clause-gathered : goal.returns-in-Ok-pass-2-clause-gathered
returns-in-Ok-pass-2-clause-gathered c = λ old text rest after limit g step.
    let first : Option ℕ = c.in-Long-false-default.first in
    let is : c.args.advance ≡ Long false first = c.in-Long-false-default.is ∙ ap (λ (w : Bool). Long w first) (sym c.in-Long-false-default.whole-is ∙ c.in-Long-false-default.whole-test) in
    let now = at_answer old c.args.reader.now (held old ++ rest) after c.args.advance (Long false first) is step in
    gathers_long_last old c.args.reader.now text rest after c.args.self.now c.pass-in-Long-false-default.new.self first _ limit g now (λ line long. c.in-Ok-pass-2.ensures.adds g.before line g.after (subst (λ (f : Option ℕ). IsLongLine MAX_LINE line f) (sym c.in-Long-false-default.first-is) long))

pub returns-in-Err-pass-2-clause-gathered : goal.returns-in-Err-pass-2-clause-gathered
returns-in-Err-pass-2-clause-gathered c = λ old text rest after limit g step.
    let first : Option ℕ = c.in-Long-false-default.first in
    let is : c.args.advance ≡ Long false first = c.in-Long-false-default.is ∙ ap (λ (w : Bool). Long w first) (sym c.in-Long-false-default.whole-is ∙ c.in-Long-false-default.whole-test) in
    let now = at_answer old c.args.reader.now (held old ++ rest) after c.args.advance (Long false first) is step in
    faults_long_last old c.args.reader.now text rest after c.args.self.now c.pass-in-Long-false-default.new.self first c.in-Err-pass-2.error limit g now (λ line long. c.in-Err-pass-2.ensures.adds g.before line g.after (subst (λ (f : Option ℕ). IsLongLine MAX_LINE line f) (sym c.in-Long-false-default.first-is) long))

pub returns-in-End-clause-gathered : goal.returns-in-End-clause-gathered
returns-in-End-clause-gathered c = λ old text rest after limit g step.
    gathers_end old c.args.reader.now text rest after c.args.self.now g (at_answer old c.args.reader.now (held old ++ rest) after c.args.advance End c.in-End.is step)

pub returns-in-Spent-clause-gathered : goal.returns-in-Spent-clause-gathered
returns-in-Spent-clause-gathered c = λ old text rest after limit g step.
    faults_over old c.args.reader.now text rest after c.args.self.now g (at_answer old c.args.reader.now (held old ++ rest) after c.args.advance Spent c.in-Spent.is step)
    ∙ ap (λ (f : GraphFault). Err f) (sym (c.fault.ensures ∙ fault_at-is g.before c.args.self.now.lines FileLong g.after.count))

pub returns-in-Failed-clause-gathered : goal.returns-in-Failed-clause-gathered
returns-in-Failed-clause-gathered c = λ old text rest after limit g step.
    cut_short old c.args.reader.now text rest after c.args.self.now g (at_answer old c.args.reader.now (held old ++ rest) after c.args.advance Failed c.in-Failed.is step)
