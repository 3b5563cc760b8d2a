use Rattle.std.proofs.Common.{◌≡◌, ◌<◌, ◌≤◌, ◌+◌, ◌*◌, ℕ, List, ◌∷◌, length, get_or, set, sum, arith, ap, sym, ◌∙◌, subst}
use Rattle.std.specs.List.Sorted.{IsPermutation}
use Rattle.std.proofs.lemmas.List.{get_or_default}
use Rattle.label_setting.specs.Search.{IsTouchedList, IsTracked}
use Rattle.label_setting.proofs.Touches.{touched_with, IsTracked-touched, IsTracked-given, IsTouchedList-given, work-given}
use Rattle.label_setting.proofs.memory.SearchMemory.give.Goals as goal

pub returns-in_err-push-clause-tracked : goal.returns-in_err-push-clause-tracked
returns-in_err-push-clause-tracked c =
    let labels = c.args.self.now.labels.items in
    let touched = c.args.self.now.touched.items in
    let head = c.args.head in
    subst (λ (l : List ℕ). IsTracked labels l) (sym c.in_ok-touch.ensures.ok)
    (IsTracked-touched labels c.index.result.now head touched c.requires.tracked c.requires.inside)

pub returns-clause-tracked : goal.returns-clause-tracked
returns-clause-tracked c =
    let labels = c.args.self.now.labels.items in
    let touched = c.args.self.now.touched.items in
    let head = c.args.head in
    let at : c.number-at.result ≡ head = c.number-at.ensures.value in
    let within : c.number-at.result < length labels = omega (arith, c.requires.inside) in
    let read : c.index.result.now ≡ get_or labels head 0 = c.index.ensures ∙ get_or_default labels c.number-at.result c.index.result.now 0 within ∙ ap (λ (i : ℕ). get_or labels i 0) at in
    let after : c.touch.new.touched.items ≡ touched_with (get_or labels head 0) head touched = c.in_ok-touch.ensures.ok ∙ ap (λ (k : ℕ). touched_with k head touched) read in
    subst (λ (i : ℕ). IsTracked (set labels i c.args.distance) c.touch.new.touched.items) (sym at)
    (subst (λ (l : List ℕ). IsTracked (set labels head c.args.distance) l) (sym after)
    (IsTracked-given labels head c.args.distance touched c.requires.tracked c.requires.inside))

pub returns-clause-work : goal.returns-clause-work
returns-clause-work c =
    let labels = c.args.self.now.labels.items in
    let queue = c.args.self.now.queue in
    let head = c.args.head in
    let at : c.number-at.result ≡ head = c.number-at.ensures.value in
    let queued : IsPermutation (record { distance = c.args.distance; vertex = c.number.result } ∷ queue) c.push.new.self = c.in_ok-push.ensures.ok in
    subst (λ (i : ℕ). 2 * sum (set labels i c.args.distance) + length c.push.new.self ≤ 2 * sum labels + length queue) (sym at)
    (work-given labels head c.args.distance (record { distance = c.args.distance; vertex = c.number.result }) queue c.push.new.self c.requires.inside c.requires.better queued)

pub returns-clause-listed : goal.returns-clause-listed
returns-clause-listed c =
    let labels = c.args.self.now.labels.items in
    let touched = c.args.self.now.touched.items in
    let head = c.args.head in
    let at : c.number-at.result ≡ head = c.number-at.ensures.value in
    let within : c.number-at.result < length labels = omega (arith, c.requires.inside) in
    let read : c.index.result.now ≡ get_or labels head 0 = c.index.ensures ∙ get_or_default labels c.number-at.result c.index.result.now 0 within ∙ ap (λ (i : ℕ). get_or labels i 0) at in
    let after : c.touch.new.touched.items ≡ touched_with (get_or labels head 0) head touched = c.in_ok-touch.ensures.ok ∙ ap (λ (k : ℕ). touched_with k head touched) read in
    subst (λ (i : ℕ). IsTouchedList c.args.goal.radius (set labels i c.args.distance) c.touch.new.touched.items) (sym at)
    (subst (λ (l : List ℕ). IsTouchedList c.args.goal.radius (set labels head c.args.distance) l) (sym after)
    (IsTouchedList-given c.args.goal.radius labels head c.args.distance touched c.requires.listed c.requires.inside c.requires.within))
