-- The path of a plateau, and its name.
use Rattle.std.proofs.Common.{◌≡◌, ◌⊎◌, ℕ, List, Option, Some, None, subst, ⊎_elim}
use Rattle.road_model.specs.declared.answer.Query.{Query}
use Rattle.road_model.specs.Graph.{Graph}
use Rattle.road_model.specs.Alternatives.{IsVia, IsName}
use Rattle.road_model.proofs.CanonicalWalks.{IsVia-unique}
use Rattle.canonical_trees.specs.Trees.{Trees, IsInside, IsOutside, IsViaPath}
use Rattle.canonical_trees.proofs.Balls.{apart}
use Rattle.plateau_finder.specs.declared.plateau.Plateau.{Plateau}
use Rattle.plateau_finder.specs.Plateaus.{IsListedPlateau}
use Rattle.certify.specs.Reasons.{pair_of}

through_found : (ts : Trees) (v : ℕ) (o : Option (List ℕ)) (p : List ℕ) → IsViaPath ts v o → o ≡ Some p → IsVia ts.graph ts.source ts.target v p
through_found ts v o p h is =
    let both : IsVia ts.graph ts.source ts.target v p × IsInside ts.graph ts.radius ts.source v × IsInside ts.graph ts.radius v ts.target = subst (λ (x : Option (List ℕ)). IsViaPath ts v x) is h in
    both.0

pub named_path : (ts : Trees) (g : Graph) (q : Query) (radius : Option ℕ) (c : Plateau) (o : Option (List ℕ)) (p : List ℕ) → ts ≡ pair_of g q radius → IsListedPlateau ts ts.radius c → IsViaPath ts c.least o → o ≡ Some p → IsName g q.from q.to p c.least
named_path ts g q radius c o p trees h found is =
    let same : h.walk ≡ p = IsVia-unique ts.graph ts.source ts.target c.least h.walk p h.is.least (through_found ts c.least o p found is) in
    subst (λ (x : Trees). IsName x.graph x.source x.target p c.least) trees
    (subst (λ (l : List ℕ). IsName ts.graph ts.source ts.target l c.least) same (h.is.is_name h.within))

-- its least vertex is inside both balls
pub found_path : (ts : Trees) (radius : Option ℕ) (c : Plateau) (o : Option (List ℕ)) → IsListedPlateau ts radius c → IsViaPath ts c.least o → o ≡ None → ⊥
found_path ts radius c o h found none =
    let outside : IsOutside ts.graph ts.radius ts.source c.least ⊎ IsOutside ts.graph ts.radius c.least ts.target = subst (λ (x : Option (List ℕ)). IsViaPath ts c.least x) none found in
    ⊎_elim
    (λ (from : IsOutside ts.graph ts.radius ts.source c.least). apart ts.graph ts.radius ts.source c.least h.is.least_inside.from from)
    (λ (to : IsOutside ts.graph ts.radius c.least ts.target). apart ts.graph ts.radius c.least ts.target h.is.least_inside.to to)
    outside
