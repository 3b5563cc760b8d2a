use Rattle.std.proofs.Common.{rules, tests, of_calls, arith, ◌≡◌, ◌==◌, ℕ, get_or, None, Some, refl, sym, ap, ◌∙◌}
use Rattle.std.proofs.lemmas.Iterator.Splits.{YieldsList-from_slice_split}
use Rattle.std.proofs.lemmas.Iterator.Consumers.{YieldsList-turn, YieldsList-end}
use Rattle.std.proofs.lemmas.List.{length_push, length-set}
use Rattle.road_text.specs.Numbers.{canonical_of}
use Rattle.route_ranking.proofs.FieldLemmas.{fields_at_dots, all_numbers-nil, numbers_upto-more, cursor_of-wrong, cursor_of-other_count, cursor_of-all}
use Rattle.route_ranking.proofs.cursors.read_numbers.Goals as goal

pub loop-field-init : goal.loop-field-init
loop-field-init c =
    (search of_calls, search of_calls, record { count = refl; size = search rules; few = omega arith; numbers = all_numbers-nil })

pub returns-then-count-eq-NUMBERS : goal.returns-then-count-eq-NUMBERS
returns-then-count-eq-NUMBERS c =
    let cut = YieldsList-from_slice_split _ (λ b. b == 46) c.args.text.now (cc) (cc) (cc) (λ x b q k. search (rules, tests)) in
    let turn = YieldsList-turn cut c.loop-field.yielded _ c.loop-field.yielded_by _ _ c.in-Some.field c.in-Some.is c.next.ensures.steps in
    let so_far = c.loop-field.invariant.2 in
    cursor_of-other_count c.args.text.now (λ eleven. omega (arith, turn.0))

pub returns-in_err-numbers : goal.returns-in_err-numbers
returns-in_err-numbers c =
    let cut = YieldsList-from_slice_split _ (λ b. b == 46) c.args.text.now (cc) (cc) (cc) (λ x b q k. search (rules, tests)) in
    let turn = YieldsList-turn cut c.loop-field.yielded _ c.loop-field.yielded_by _ _ c.in-Some.field c.in-Some.is c.next.ensures.steps in
    let wrong : canonical_of c.in-Some.field.now ≡ None = sym c.canonical_number.ensures ∙ c.in_err-numbers.was in
    rw c.from_residual.ensures (cursor_of-wrong c.args.text.now c.in-Some.field.now _ turn.0 turn.1 wrong)

pub loop-field-preserved : goal.loop-field-preserved
loop-field-preserved c =
    let cut = YieldsList-from_slice_split _ (λ b. b == 46) c.args.text.now (cc) (cc) (cc) (λ x b q k. search (rules, tests)) in
    let turn = YieldsList-turn cut c.loop-field.yielded _ c.loop-field.yielded_by _ _ c.in-Some.field c.in-Some.is c.next.ensures.steps in
    let so_far = c.loop-field.invariant.2 in
    let fields = fields_at_dots c.args.text.now in
    let field = c.in-Some.field.now in
    let number : canonical_of field ≡ Some c.in_ok-numbers.field-0 = sym c.canonical_number.ensures ∙ c.in_ok-numbers.was in
    let here : field ≡ get_or fields c.loop-field.count field = turn.1 ∙ ap (λ (i : ℕ). get_or fields i field) (sym so_far.count) in (
      search rules,
      search rules,
      record {
        count = omega (arith, length_push c.loop-field.yielded c.in-Some.field);
        size = length-set c.loop-field.numbers c.loop-field.count c.in_ok-numbers.field-0 ∙ so_far.size;
        few = omega arith;
        numbers = numbers_upto-more fields c.loop-field.numbers field c.loop-field.count _ (omega (arith, turn.0)) (omega arith) here number so_far.numbers;
      },
    )

pub returns-then-count-lt-NUMBERS : goal.returns-then-count-lt-NUMBERS
returns-then-count-lt-NUMBERS c =
    let cut = YieldsList-from_slice_split _ (λ b. b == 46) c.args.text.now (cc) (cc) (cc) (λ x b q k. search (rules, tests)) in
    let over = YieldsList-end cut c.loop-field.yielded _ c.loop-field.yielded_by _ _ c.in-None.is c.next.ensures.steps in
    let so_far = c.loop-field.invariant.2 in
    cursor_of-other_count c.args.text.now (λ eleven. omega (arith, over.1))

pub returns-else-count-lt-NUMBERS : goal.returns-else-count-lt-NUMBERS
returns-else-count-lt-NUMBERS c =
    let cut = YieldsList-from_slice_split _ (λ b. b == 46) c.args.text.now (cc) (cc) (cc) (λ x b q k. search (rules, tests)) in
    let over = YieldsList-end cut c.loop-field.yielded _ c.loop-field.yielded_by _ _ c.in-None.is c.next.ensures.steps in
    let so_far = c.loop-field.invariant.2 in
    cursor_of-all c.args.text.now c.loop-field.numbers c.loop-field.count (omega (arith, over.1)) so_far.size (omega arith) so_far.numbers
