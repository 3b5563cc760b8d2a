use Rattle.std.proofs.Common.{◌≡◌, ℕ, List, [], ◌∷◌, ◌++◌, set, arith, ap, sym, ◌∙◌, subst}
use Rattle.std.specs.List.Sorted.{IsPermutation}
use Rattle.std.proofs.lemmas.List.{length-set, get_or-set_same, get_or-set_other}
use Rattle.label_setting.specs.declared.queue.Entry.{Entry}
use Rattle.label_setting.specs.Search.{IsTouchedList}
use Rattle.label_setting.proofs.Touches.{IsTouchedList-begun}
use Rattle.label_setting.proofs.memory.SearchMemory.begin.Goals as goal

pub returns-clause-ok : goal.returns-clause-ok
returns-clause-ok c =
    let labels = c.args.self.now.labels.items in
    let root = c.args.goal.root in
    let touched : c.push.new.self.items ≡ root ∷ [] = c.in_ok-push.ensures.items ∙ ap (λ (l : List ℕ). l ++ root ∷ []) c.requires.fresh.untouched in
    let listed : IsTouchedList c.args.goal.radius (set labels root 0) (root ∷ []) = IsTouchedList-begun c.args.goal.radius labels root c.requires.inside c.requires.low in
    record {
      listed = subst (λ (l : List ℕ). IsTouchedList c.args.goal.radius (set labels root 0) l) (sym touched) listed;
      root = get_or-set_same labels root 0 0 c.requires.inside;
      others = (λ x hx other. get_or-set_other labels root x 0 0 other ∙ c.requires.fresh.bare x 0 (omega (arith, hx, length-set labels root 0)));
      queue = subst (λ (q : List Entry). IsPermutation (record { distance = 0; vertex = root } ∷ q) c.push-2.new.self) c.requires.fresh.idle c.in_ok-push-2.ensures.ok;
    }
