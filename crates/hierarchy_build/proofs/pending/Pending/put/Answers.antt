use Rattle.std.proofs.Common.{◌≡◌, ◌<◌, ℕ, List, [], ◌∷◌, ◌++◌, length, map, set, sym, ap, ◌∙◌, subst, arith}
use Rattle.std.specs.Global.{Vec}
use Rattle.std.proofs.lemmas.List.{map-set, get_or-map, length-map}
use Rattle.hierarchy_build.specs.Waits.{waiting, IsPut}
use Rattle.hierarchy_build.proofs.Waits.{IsPut-pushed}
use Rattle.hierarchy_build.proofs.pending.Pending.put.Goals as goal

pub returns : goal.returns
returns c =
    let items : Vec ℕ → List ℕ = λ v. v.items in
    let lists = c.self.inside.lists.items in
    let was : map (λ (v : Vec ℕ). v.items) c.self.inside.lists.items ≡ c.args.self.now = c.self.view_is in
    let long : length (map (λ (v : Vec ℕ). v.items) c.self.inside.lists.items) ≡ length c.self.inside.lists.items = length-map c.self.inside.lists.items (λ (v : Vec ℕ). v.items) in
    let same : length (map (λ (v : Vec ℕ). v.items) c.self.inside.lists.items) ≡ length c.args.self.now = ap (λ (l : List (List ℕ)). length l) was in
    let inside : c.args.at < length c.self.inside.lists.items = (let r = c.requires in omega arith) in
    let read : waiting (map (λ (v : Vec ℕ). v.items) c.self.inside.lists.items) c.args.at ≡ c.index_mut.result.now.items =
    get_or-map (λ (v : Vec ℕ). v.items) c.self.inside.lists.items c.args.at c.index_mut.result.now [] inside ∙ ap (λ (v : Vec ℕ). v.items) (sym c.index_mut.ensures.value) in
    let pushed : c.push.new.self.items ≡ waiting c.args.self.now c.args.at ++ c.args.rank ∷ [] =
    c.in_ok-push.ensures.items ∙ ap (λ (l : List ℕ). l ++ c.args.rank ∷ []) (sym read ∙ ap (λ (l : List (List ℕ)). waiting l c.args.at) was) in
    let after : set c.args.self.now c.args.at c.push.new.self.items ≡ map (λ (v : Vec ℕ). v.items) (set c.self.inside.lists.items c.args.at c.push.new.self) =
    ap (λ (l : List (List ℕ)). set l c.args.at c.push.new.self.items) (sym was) ∙ sym (map-set (λ (v : Vec ℕ). v.items) c.self.inside.lists.items c.args.at c.push.new.self) in
    subst (λ (l : List (List ℕ)). IsPut c.args.at c.args.rank c.args.self.now l) after
    (IsPut-pushed c.args.self.now c.args.at c.args.rank c.push.new.self.items c.requires pushed)
