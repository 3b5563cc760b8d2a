use Rattle.std.proofs.Common.{◌≡◌, ℕ, ◌<◌, List, [], ◌++◌, length}
use Rattle.road_io.proofs.ToldLemmas.{IfTold_then}
use Rattle.certificate_text.specs.declared.fault.CertKind.TheVariants as kind
use Rattle.certificate_text.specs.RawLines.{held, budget}
use Rattle.certificate_text.proofs.ReadLemmas.{Reads-fault, fault_followed, is_certificate, broken_end}
use Rattle.certificate_text.proofs.read.finish.Goals as goal

pub returns-in-More-clause-reads : goal.returns-in-More-clause-reads
returns-in-More-clause-reads g c =
    let lines = c.args.lines.now in
    IfTold_then _ _ _ _ (λ (rest after : List ℕ) (some : 0 < length (held lines ++ rest)). λ text gathered.
    Reads-fault text after c.args.count kind.Syntax c.refused.result c.refused.ensures (fault_followed (budget lines) c.args.count text (held lines ++ rest) c.args.certificate gathered some)) c.in-More.ensures.told

pub returns-in-End-clause-reads : goal.returns-in-End-clause-reads
returns-in-End-clause-reads g c =
    let lines = c.args.lines.now in
    IfTold_then _ _ _ _ (λ (rest after : List ℕ) (none : held lines ++ rest ≡ []). λ text gathered.
    is_certificate (budget lines) c.args.count text (held lines ++ rest) c.args.certificate gathered none) c.in-End.ensures.told

pub returns-in-Spent-clause-reads : goal.returns-in-Spent-clause-reads
returns-in-Spent-clause-reads g c =
    let lines = c.args.lines.now in
    IfTold_then _ _ _ _ (λ (rest after : List ℕ) (some : 0 < length (held lines ++ rest)). λ text gathered.
    Reads-fault text after c.args.count kind.Syntax c.refused-in-Spent.result c.refused-in-Spent.ensures (fault_followed (budget lines) c.args.count text (held lines ++ rest) c.args.certificate gathered some)) c.in-Spent.ensures.told

pub returns-in-Failed-clause-reads : goal.returns-in-Failed-clause-reads
returns-in-Failed-clause-reads g c =
    let lines = c.args.lines.now in
    IfTold_then _ _ _ _ (λ (rest after : List ℕ) (same : held lines ++ rest ≡ after). λ text gathered.
    broken_end (budget lines) c.args.count text (held lines ++ rest) after c.args.certificate gathered same) c.in-Failed.ensures.told
