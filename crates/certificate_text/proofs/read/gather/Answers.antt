use Rattle.std.proofs.Common.{◌≡◌, ◌+◌, ◌++◌, None}
use Rattle.certificate_text.specs.declared.raw_lines.Step.TheVariants as step
use Rattle.certificate_text.specs.declared.fault.CertKind.TheVariants as kind
use Rattle.certificate_text.specs.Order.{step_raw}
use Rattle.certificate_text.specs.RawLines.{held}
use Rattle.certificate_text.proofs.ReadLemmas.{Steps-at, Reads-fault, gathers_line, wrong_on, truncated_on, long_on, broken_on, GathersOn-sorted, IsMore-sorted}
use Rattle.certificate_text.proofs.read.gather.Goals as goal

pub returns-in-Ok-clause-gathered : goal.returns-in-Ok-clause-gathered
returns-in-Ok-clause-gathered c = λ old text rest after g advanced.
    let now = c.args.lines.now in
    GathersOn-sorted now text after (c.args.count + 1) c.in-Ok.next c.sort.result c.sort.ensures
    (gathers_line old now text rest after c.line.result.now c.args.progress c.in-Ok.next c.args.count g (Steps-at old now (held old ++ rest) after c.args.advance step.Line c.in-Line.is advanced) c.line.ensures c.in-Ok.ensures)

pub returns-in-Ok-clause-open : goal.returns-in-Ok-clause-open
returns-in-Ok-clause-open c = IsMore-sorted c.in-Ok.next c.sort.result c.sort.ensures

pub returns-in-Err-Wrong-clause-gathered : goal.returns-in-Err-Wrong-clause-gathered
returns-in-Err-Wrong-clause-gathered c = λ old text rest after g advanced.
    let now = c.args.lines.now in
    let none : step_raw c.args.progress c.line.result.now ≡ None = rw c.in-Err-Wrong.field-0-is at c.in-Err-Wrong.ensures in
    Reads-fault text after c.args.count kind.Syntax c.refused.result c.refused.ensures
    (wrong_on old now text rest after c.line.result.now c.args.progress c.args.count g (Steps-at old now (held old ++ rest) after c.args.advance step.Line c.in-Line.is advanced) c.line.ensures none)

pub returns-in-End-clause-gathered : goal.returns-in-End-clause-gathered
returns-in-End-clause-gathered c = λ old text rest after g advanced.
    let now = c.args.lines.now in
    Reads-fault text after c.args.count kind.Truncated c.refused-in-End.result c.refused-in-End.ensures
    (truncated_on old now text rest after c.args.progress c.args.count c.requires.open g (Steps-at old now (held old ++ rest) after c.args.advance step.End c.in-End.is advanced))

pub returns-in-Spent-clause-gathered : goal.returns-in-Spent-clause-gathered
returns-in-Spent-clause-gathered c = λ old text rest after g advanced.
    let now = c.args.lines.now in
    Reads-fault text after c.args.count kind.Long c.refused-in-Spent.result c.refused-in-Spent.ensures
    (long_on old now text rest after c.args.progress c.args.count c.requires.open g (Steps-at old now (held old ++ rest) after c.args.advance step.Spent c.in-Spent.is advanced))

pub returns-in-Failed-clause-gathered : goal.returns-in-Failed-clause-gathered
returns-in-Failed-clause-gathered c = λ old text rest after g advanced.
    let now = c.args.lines.now in
    broken_on old now text rest after c.args.progress c.args.count g (Steps-at old now (held old ++ rest) after c.args.advance step.Failed c.in-Failed.is advanced)
