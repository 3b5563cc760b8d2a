use Rattle.std.proofs.Common.{◌≡◌, ℕ, List, [], map, set, ap, ◌∙◌}
use Rattle.std.specs.Global.{Vec}
use Rattle.std.proofs.lemmas.List.{map-set}
use Rattle.hierarchy_build.proofs.pending.Pending.take.Goals as goal

pub returns-clause-rest : goal.returns-clause-rest
returns-clause-rest c =
    let was : map (λ (v : Vec ℕ). v.items) c.self.inside.lists.items ≡ c.args.self.now = c.self.view_is in
    let empty : c.replace.new.dest.items ≡ [] = ap (λ (v : Vec ℕ). v.items) c.replace.ensures.after ∙ c.new.ensures.items in
    map-set (λ (v : Vec ℕ). v.items) c.self.inside.lists.items c.args.at c.replace.new.dest
    ∙ ap (λ (l : List (List ℕ)). set l c.args.at c.replace.new.dest.items) was
    ∙ ap (λ (l : List ℕ). set c.args.self.now c.args.at l) empty
