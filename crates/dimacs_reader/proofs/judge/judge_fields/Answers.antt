use Rattle.std.proofs.Common.{◌≡◌, List, ℕ, ◌∷◌, codes, ap, sym, subst, ◌∙◌}
use Rattle.std.proofs.lemmas.Bool.Decides.{Decides-eqb}
use Rattle.std.proofs.lemmas.Slice.Eq.{slice_eq-Decides}
use Rattle.road_text.specs.Fields.{fields_of}
use Rattle.dimacs_reader.specs.Judging.{JudgesFields}
use Rattle.dimacs_reader.proofs.judge.judge_fields.Goals as goal

pub returns-then-eq : goal.returns-then-eq
returns-then-eq c =
    let rest : List ℕ = c.in-Some.fields.now in
    let word_is : c.in-Some.word.now ≡ codes "p" = (slice_eq-Decides Decides-eqb _ _ _ c.eq.ensures).0 c.if-eq.true ∙ c.as_slice.ensures in
    let fields : fields_of c.args.line.now ≡ codes "p" ∷ fields_of rest = c.in-Some.ensures.cut ∙ ap (λ (w : List ℕ). w ∷ fields_of rest) word_is in
    subst (λ (fs : List (List ℕ)). JudgesFields c.args.problem c.args.count fs c.judge_problem.result) (sym fields) (c.judge_problem.ensures c.args.count)
