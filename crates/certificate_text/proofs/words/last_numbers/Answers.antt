use Rattle.std.proofs.Common.{◌≡◌, ℕ, List, ◌++◌, ◌∷◌, [], subst, sym, ap, ◌∙◌}
use Rattle.certificate_text.specs.Words.{left, numbers_in}
use Rattle.certificate_text.proofs.WordLemmas.{after_opening, numbers_in-more, numbers_in-wrong, numbers_in-all, Gives-err, not_some}
use Rattle.certificate_text.proofs.words.last_numbers.Goals as goal

pub returns-in-Err : goal.returns-in-Err
returns-in-Err c =
    Gives-err {X = ℕ} (λ n. n) (λ ns. ns) c.in-Err.refusal _ (numbers_in (left 32 c.args.words))
    (λ e. numbers_in-wrong c.words.numbers (left 32 c.words.rest) (left 32 c.args.words) c.cut.result.0.now (left 32 c.cut.result.1) (ap (left 32) c.in-Some.is ∙ c.cut.ensures.parts) e c.words.invariant)
    c.in-Err.ensures

pub words-preserved : goal.words-preserved
words-preserved c =
    let pushed : c.push.new.self ≡ c.words.numbers ++ c.in-Ok.number ∷ [] = c.in_ok-push-in-Ok.ensures.ok in
    let kept = numbers_in-more c.words.numbers (left 32 c.words.rest) (left 32 c.args.words) c.cut.result.0.now (left 32 c.cut.result.1) c.in-Ok.number (ap (left 32) c.in-Some.is ∙ c.cut.ensures.parts) c.in-Ok.ensures c.words.invariant in
    subst (λ (l : List ℕ). after_opening l (numbers_in (left 32 c.cut.result.1)) ≡ numbers_in (left 32 c.args.words)) (sym pushed) kept

pub returns : goal.returns
returns c = numbers_in-all c.words.numbers c.words.rest (left 32 c.args.words) (not_some c.words.rest c.in_default.not-Some) c.words.invariant
