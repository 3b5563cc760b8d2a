-- What one more batch does.
use Rattle.std.proofs.Common.{◌≡◌, ◌++◌, List, [], ◌∷◌, refl, subst}
use Rattle.road_model.specs.declared.change.Change.{Change}
use Rattle.road_model.specs.Graph.{Graph}
use Rattle.road_model.specs.Dist.{HaveSameDist}
use Rattle.road_model.specs.Changes.{after, after_all}
use Rattle.hierarchy_build.specs.declared.shape.Shape.{Shape}
use Rattle.hierarchy_build.specs.Hierarchy.{IsShapeOf}
use Rattle.hierarchy_build.proofs.Versions.{IsShapeOf-same_ends, HasSameEnds-after}

pub after_all-append : (g : Graph) (history : List (List Change)) (batch : List Change) → after_all g (history ++ batch ∷ []) ≡ after (after_all g history) batch
after_all-append g [] batch = refl
after_all-append g (first ∷ history) batch = after_all-append (after g first) history batch

pub IsShapeOf-after : (g : Graph) (s : Shape) (batch : List Change) → IsShapeOf g s → IsShapeOf (after g batch) s
IsShapeOf-after g s batch h = IsShapeOf-same_ends g (after g batch) s (HasSameEnds-after g batch) h

pub HaveSameDist-same : (g h : Graph) → g ≡ h → HaveSameDist g h
HaveSameDist-same g h e = subst (HaveSameDist g) e (record { vertices = refl; dist = λ u v d. (λ x. x, λ x. x) })
