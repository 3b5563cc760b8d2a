-- The links that the arcs of the two trees tell of.
use Rattle.std.proofs.Common.{◌≡◌, ℕ, [], ◌∷◌, ◌++◌, Some, None, sym, ap, ◌∙◌, subst, ⊎_elim}
use Rattle.road_model.specs.declared.rows.ArcRow.{ArcRow}
use Rattle.road_model.specs.declared.network.Step.{Step}
use Rattle.road_model.specs.Graph.{Graph, arc_at}
use Rattle.road_model.specs.Walk.{IsWalk}
use Rattle.road_model.specs.Canonical.{IsFirst, IsLast}
use Rattle.road_model.proofs.CanonicalWalks.{IsFirst-unique, IsLast-unique}
use Rattle.canonical_trees.specs.Trees.{Trees, IsInside, IsOutside, IsFirstStep, IsLastStep, IsFromStep, IsToStep}
use Rattle.canonical_trees.proofs.Canonical.{IsLast-nil}
use Rattle.canonical_trees.proofs.Balls.{apart}
use Rattle.plateau_finder.specs.Plateaus.{IsInBoth}
use Rattle.plateau_finder.specs.Links.{IsLink, IsLinkInside, IsNext, IsPrevious}
use Rattle.plateau_finder.proofs.Cuts.{same_last, no_last}
use Rattle.canonical_trees.proofs.CanonicalParts.{IsFirst-nil, inside_before, inside_after}
use Rattle.plateau_finder.proofs.LinkedVias.{link_walk}

no_link_at_target : (ts : Trees) (v : ℕ) → IsLink ts ts.target v → ⊥
no_link_at_target ts v l =
    let same : l.arc ∷ l.back ≡ [] = IsLast-unique ts.graph ts.target ts.target (l.arc ∷ l.back) [] l.last (IsLast-nil ts.graph ts.target) in
    cc

no_link_to_source : (ts : Trees) (u : ℕ) → IsLink ts u ts.source → ⊥
no_link_to_source ts u l =
    no_last l.prefix l.arc (IsFirst-unique ts.graph ts.source ts.source (l.prefix ++ l.arc ∷ []) [] l.first_on (IsFirst-nil ts.graph ts.source))

-- one arc number, one arc
same_row : (g : Graph) (a b : ℕ) (r x : ArcRow) → a ≡ b → arc_at g a ≡ Some r → arc_at g b ≡ Some x → r ≡ x
same_row g a b r x same at_a at_b =
    let both : Some r ≡ Some x = sym at_a ∙ (ap (λ (n : ℕ). arc_at g n) same ∙ at_b) in
    cc

step_on_link : (ts : Trees) (u v : ℕ) (x : Step) → IsFirstStep ts.graph ts.radius u ts.target x → (l : IsLink ts u v) → (x.arc ≡ l.arc) × (x.head ≡ v)
step_on_link ts u v x h l =
    let walks : x.arc ∷ h.back ≡ l.arc ∷ l.back = IsLast-unique ts.graph u ts.target (x.arc ∷ h.back) (l.arc ∷ l.back) h.path l.last in
    let arcs : x.arc ≡ l.arc = cc in
    let walk : IsWalk ts.graph u (l.arc ∷ []) v = link_walk ts u v l in
    let rows = same_row ts.graph x.arc l.arc (record { tail = u; head = x.head; length = x.length }) walk.0 arcs h.arc walk.1 in
    (arcs, ap (λ (r : ArcRow). r.head) rows ∙ walk.3)

step_back_on_link : (ts : Trees) (u v : ℕ) (x : Step) → IsLastStep ts.graph ts.radius ts.source v x → (l : IsLink ts u v) → (x.arc ≡ l.arc) × (x.head ≡ u)
step_back_on_link ts u v x h l =
    let parts = same_last h.prefix l.prefix x.arc l.arc (IsFirst-unique ts.graph ts.source v (h.prefix ++ x.arc ∷ []) (l.prefix ++ l.arc ∷ []) h.path l.first_on) in
    let walk : IsWalk ts.graph u (l.arc ∷ []) v = link_walk ts u v l in
    let rows = same_row ts.graph x.arc l.arc (record { tail = x.head; head = v; length = x.length }) walk.0 parts.1 h.arc walk.1 in
    (parts.1, ap (λ (r : ArcRow). r.tail) rows ∙ walk.2)

pub next_none : (ts : Trees) (u : ℕ) → IsInBoth ts u → IsToStep ts.graph ts.radius u ts.target None → IsNext ts u None
next_none ts u inside h v on =
    ⊎_elim
    (λ (same : u ≡ ts.target). no_link_at_target ts v (subst (λ (x : ℕ). IsLink ts x v) same on.link))
    (λ (out : IsOutside ts.graph ts.radius u ts.target). apart ts.graph ts.radius u ts.target inside.to out)
    h

pub next_no_back : (ts : Trees) (u : ℕ) (x : Step) → IsFirstStep ts.graph ts.radius u ts.target x → IsFromStep ts.graph ts.radius ts.source x.head None → IsNext ts u None
next_no_back ts u x step h v on =
    let head : x.head ≡ v = (step_on_link ts u v x step on.link).1 in
    ⊎_elim
    (λ (same : x.head ≡ ts.source). no_link_to_source ts u (subst (λ (y : ℕ). IsLink ts u y) (sym head ∙ same) on.link))
    (λ (out : IsOutside ts.graph ts.radius ts.source x.head). apart ts.graph ts.radius ts.source x.head (subst (λ (y : ℕ). IsInside ts.graph ts.radius ts.source y) (sym head) on.head_inside.from) out)
    h

pub next_apart : (ts : Trees) (u : ℕ) (x y : Step) → IsFirstStep ts.graph ts.radius u ts.target x → IsLastStep ts.graph ts.radius ts.source x.head y → (y.arc ≡ x.arc → ⊥) → IsNext ts u None
next_apart ts u x y step back other v on =
    let one = step_on_link ts u v x step on.link in
    let two = step_back_on_link ts u v y (subst (λ (n : ℕ). IsLastStep ts.graph ts.radius ts.source n y) one.1 back) on.link in
    other (two.0 ∙ sym one.0)

pub next_found : (ts : Trees) (u : ℕ) (x y : Step) → IsInBoth ts u → IsFirstStep ts.graph ts.radius u ts.target x → IsLastStep ts.graph ts.radius ts.source x.head y → y.arc ≡ x.arc → IsLinkInside ts u x.head
next_found ts u x y inside step back same =
    let rows = same_row ts.graph y.arc x.arc (record { tail = y.head; head = x.head; length = y.length }) (record { tail = u; head = x.head; length = x.length }) same back.arc step.arc in
    let tail : y.head ≡ u = ap (λ (r : ArcRow). r.tail) rows in
    record {
      link = record {
        arc = x.arc;
        prefix = back.prefix;
        back = step.back;
        first = subst (λ (n : ℕ). IsFirst ts.graph ts.source back.prefix n) tail back.beyond;
        last = step.path;
        first_on = subst (λ (a : ℕ). IsFirst ts.graph ts.source (back.prefix ++ a ∷ []) x.head) same back.path;
        last_on = step.beyond;
      };
      tail_inside = inside;
      head_inside = record {
        from = back.inside;
        to = inside_after ts.graph ts.radius u x.head ts.target (x.arc ∷ []) step.back step.path step.beyond inside.to;
      };
    }

pub previous_none : (ts : Trees) (v : ℕ) → IsInBoth ts v → IsFromStep ts.graph ts.radius ts.source v None → IsPrevious ts v None
previous_none ts v inside h u on =
    ⊎_elim
    (λ (same : v ≡ ts.source). no_link_to_source ts u (subst (λ (x : ℕ). IsLink ts u x) same on.link))
    (λ (out : IsOutside ts.graph ts.radius ts.source v). apart ts.graph ts.radius ts.source v inside.from out)
    h

pub previous_no_onward : (ts : Trees) (v : ℕ) (x : Step) → IsLastStep ts.graph ts.radius ts.source v x → IsToStep ts.graph ts.radius x.head ts.target None → IsPrevious ts v None
previous_no_onward ts v x step h u on =
    let tail : x.head ≡ u = (step_back_on_link ts u v x step on.link).1 in
    ⊎_elim
    (λ (same : x.head ≡ ts.target). no_link_at_target ts v (subst (λ (y : ℕ). IsLink ts y v) (sym tail ∙ same) on.link))
    (λ (out : IsOutside ts.graph ts.radius x.head ts.target). apart ts.graph ts.radius x.head ts.target (subst (λ (y : ℕ). IsInside ts.graph ts.radius y ts.target) (sym tail) on.tail_inside.to) out)
    h

pub previous_apart : (ts : Trees) (v : ℕ) (x y : Step) → IsLastStep ts.graph ts.radius ts.source v x → IsFirstStep ts.graph ts.radius x.head ts.target y → (y.arc ≡ x.arc → ⊥) → IsPrevious ts v None
previous_apart ts v x y step onward other u on =
    let one = step_back_on_link ts u v x step on.link in
    let two = step_on_link ts u v y (subst (λ (n : ℕ). IsFirstStep ts.graph ts.radius n ts.target y) one.1 onward) on.link in
    other (two.0 ∙ sym one.0)

pub previous_found : (ts : Trees) (v : ℕ) (x y : Step) → IsInBoth ts v → IsLastStep ts.graph ts.radius ts.source v x → IsFirstStep ts.graph ts.radius x.head ts.target y → y.arc ≡ x.arc → IsLinkInside ts x.head v
previous_found ts v x y inside step onward same =
    let rows = same_row ts.graph y.arc x.arc (record { tail = x.head; head = y.head; length = y.length }) (record { tail = x.head; head = v; length = x.length }) same onward.arc step.arc in
    let head : y.head ≡ v = ap (λ (r : ArcRow). r.head) rows in
    record {
      link = record {
        arc = x.arc;
        prefix = step.prefix;
        back = onward.back;
        first = step.beyond;
        last = subst (λ (a : ℕ). IsLast ts.graph x.head (a ∷ onward.back) ts.target) same onward.path;
        first_on = step.path;
        last_on = subst (λ (n : ℕ). IsLast ts.graph n onward.back ts.target) head onward.beyond;
      };
      tail_inside = record {
        from = inside_before ts.graph ts.radius ts.source x.head v step.prefix (x.arc ∷ []) step.path step.beyond inside.from;
        to = onward.inside;
      };
      head_inside = inside;
    }
