-- A piece of a path whose ends are nearer to each other than it is long.
use Rattle.std.proofs.Common.{◌≡◌, ◌≢◌, ℕ, ◌+◌, ◌-◌, ◌*◌, ◌<◌, ◌≤◌, ◌⊎◌, List, [], ◌∷◌, ◌++◌, length, Some, Bool, false, sym, ap, ◌∙◌, subst, append_assoc, arith, inl, ⊎_elim}
use Rattle.std.specs.Prelude.{◌↔◌, IsTrue}
use Rattle.std.proofs.lemmas.Bool.{cases_lt, iff_false}
use Rattle.std.proofs.lemmas.List.{length-append}
use Rattle.road_model.specs.declared.answer.Query.{Query}
use Rattle.road_model.specs.Graph.{Graph}
use Rattle.road_model.specs.Walk.{IsWalk, walk_length}
use Rattle.road_model.specs.Dist.{IsDist, IsShortest}
use Rattle.road_model.specs.Fraction.{Allows, Stretches, Exceeds}
use Rattle.road_model.specs.Places.{trail_of, vertex_at, between, IsDistAt}
use Rattle.road_model.specs.Alternatives.{IsAdmissible}
use Rattle.road_model.proofs.Walks.{IsWalk-append, IsWalk-start, walk_length-append, Cut, cut}
use Rattle.road_model.proofs.Dists.{IsDist-same, IsDist-itself, dist_of_shortest, prefix_of_shortest, back_of_shortest}
use Rattle.road_model.proofs.Parts.{between_pieces, place_pieces, place_after, length-places}
use Rattle.canonical_trees.specs.Trees.{Trees}
use Rattle.canonical_trees.proofs.CanonicalParts.{rest_of_walk}
use Rattle.tree_tests.specs.declared.sides.Side.{Side}
use Rattle.tree_tests.specs.declared.sides.Side.TheVariants.{Source, Target}
use Rattle.tree_tests.specs.Sums.{TreeDist}
use Rattle.tree_tests.specs.Ancestors.{IsOn, opposite}
use Rattle.tree_tests.specs.Never.{IsNever}
use Rattle.tree_tests.proofs.UpSteps.{TreePath-unique, TreeDist-same}

-- what is said of a piece that is `long`, between vertices at the distance d
abbrev pub IsWrong : Query → ℕ → ℕ → ℕ → Type 0
IsWrong q l long d = Exceeds q.epsilon long d ⊎ ((long ≢ d) × Allows q.alpha long l)

-- a piece with no arc is as long as the distance
some_arc : (g : Graph) (q : Query) (y x d l : ℕ) (b : List ℕ) → IsWalk g y b x → IsDist g y x (Some d) → IsWrong q l (walk_length g b) d → 1 ≤ length b
some_arc g q y x d l [] walk dist wrong =
    let here : IsDist g y y (Some d) = subst (λ (v : ℕ). IsDist g y v (Some d)) (sym walk) dist in
    let none : d ≡ 0 = IsDist-same g y y d 0 here (IsDist-itself g y) in
    absurd (⊎_elim
    (λ (above : Exceeds q.epsilon 0 d). omega (arith, above))
    (λ (other : (0 ≢ d) × Allows q.alpha 0 l). other.0 (sym none))
    wrong)
some_arc g q y x d l (a ∷ b) walk dist wrong = omega arith

pub piece_never : (g : Graph) (q : Query) (o p a b c : List ℕ) (y x d l : ℕ) → p ≡ a ++ (b ++ c) → IsWalk g q.from a y → IsWalk g y b x → IsDist g y x (Some d) → walk_length g o ≡ l → IsWrong q l (walk_length g b) d → IsAdmissible g q o p → ⊥
piece_never g q o p a b c y x d l is first walk dist best wrong h =
    let t = trail_of g q.from p in
    let i = length a in
    let j = length a + length b in
    let some = some_arc g q y x d l b walk dist wrong in
    let start : vertex_at (trail_of g q.from p) (length a) ≡ y = subst (λ (r : List ℕ). vertex_at (trail_of g q.from r) (length a) ≡ y) (sym is) (place_after g a (b ++ c) q.from y first) in
    let end : vertex_at (trail_of g q.from p) (length a + length b) ≡ x = subst (λ (r : List ℕ). vertex_at (trail_of g q.from r) (length a + length b) ≡ x) (sym is) (place_pieces g q.from y x a b c first walk) in
    let long : between (trail_of g q.from p) (length a) (length a + length b) ≡ walk_length g b = subst (λ (r : List ℕ). between (trail_of g q.from r) (length a) (length a + length b) ≡ walk_length g b) (sym is) (between_pieces g q.from a b c) in
    let at' : IsDistAt g (trail_of g q.from p) (length a) (length a + length b) d =
    subst (λ (v : ℕ). IsDist g v (vertex_at (trail_of g q.from p) (length a + length b)) (Some d)) (sym start)
    (subst (λ (v : ℕ). IsDist g y v (Some d)) (sym end) dist) in
    let whole : length p ≡ length a + (length b + length c) = ap (λ (r : List ℕ). length r) is ∙ (length-append a (b ++ c) ∙ ap (λ (n : ℕ). length a + n) (length-append b c)) in
    let within : length a + length b < length (trail_of g q.from p).vertices = omega (arith, whole, length-places g q.from p) in
    ⊎_elim
    (λ (above : Exceeds q.epsilon (walk_length g b) d).
    h.bounded (length a) (length a + length b) d (record {
      rise = omega (arith, some);
      inside = within;
      dist = at';
      above = subst (λ (n : ℕ). Exceeds q.epsilon n d) (sym long) above;
    }))
    (λ (both : (walk_length g b ≢ d) × Allows q.alpha (walk_length g b) l).
    h.optimal (length a) (length a + length b) d (record {
      rise = omega (arith, some);
      inside = within;
      tested = inl (subst (λ (n : ℕ). Allows q.alpha n (walk_length g o)) (sym long) (subst (λ (n : ℕ). Allows q.alpha (walk_length g b) n) (sym best) both.1));
      dist = at';
      other = (λ (same : between (trail_of g q.from p) (length a) (length a + length b) ≡ d). both.0 (sym long ∙ same));
    }))
    wrong

-- two walks of the same arcs to one vertex begin at one vertex
one_start : (g : Graph) (p : List ℕ) (u v t : ℕ) → IsWalk g u p t → IsWalk g v p t → u ≡ v
one_start g [] u v t h k = h ∙ sym k
one_start g (a ∷ p) u v t h k = IsWalk-start g a p p u t v t h k

-- the first part of a walk whose second part is known by its vertex
prefix_of_walk : (g : Graph) (a b : List ℕ) (u v w : ℕ) → IsWalk g u (a ++ b) w → IsWalk g v b w → IsWalk g u a v
prefix_of_walk g a b u v w whole back =
    let parts : Cut g u a b w = cut g a b u w whole in
    subst (λ (x : ℕ). IsWalk g u a x) (one_start g b parts.middle v w parts.back back) parts.prefix

-- y lies on the paths from the source to w and to x, and x on the path from w to the target
pub source_never : (ts : Trees) (q : Query) (l y w x a b c e f : ℕ) → q.from ≡ ts.source → IsOn ts Source y w → IsOn ts Source y x → IsOn ts Target x w → TreeDist ts Source y a → TreeDist ts Source x b → TreeDist ts Source w c → TreeDist ts Target w e → TreeDist ts Target x f → IsWrong q l ((c - a) + (e - f)) (b - a) → IsNever ts q l w
source_never ts q l y w x a b c e f from near on ahead da db dc de df wrong = λ o p best via admissible.
    let g = ts.graph in
    let prefix : via.prefix ≡ near.own ++ near.part = TreePath-unique ts Source w via.prefix near.whole via.first near.far ∙ near.joined in
    let back : via.back ≡ ahead.part ++ ahead.own = TreePath-unique ts Target w via.back ahead.whole via.last ahead.far ∙ ahead.joined in
    let own : on.own ≡ near.own = TreePath-unique ts Source y on.own near.own on.near near.near in
    let other : on.whole ≡ near.own ++ on.part = on.joined ∙ ap (λ (r : List ℕ). r ++ on.part) own in
    let first : IsWalk ts.graph ts.source near.own y = near.near.shortest.walk in
    let to_w : IsWalk ts.graph ts.source (near.own ++ near.part) w = subst (λ (r : List ℕ). IsWalk ts.graph ts.source r w) prefix via.first.shortest.walk in
    let part : IsWalk ts.graph y near.part w = rest_of_walk ts.graph near.own near.part ts.source y w to_w first in
    let from_w : IsWalk ts.graph w (ahead.part ++ ahead.own) ts.target = subst (λ (r : List ℕ). IsWalk ts.graph w r ts.target) back via.last.shortest.walk in
    let on_to_x : IsWalk ts.graph w ahead.part x = prefix_of_walk ts.graph ahead.part ahead.own w x ts.target from_w ahead.near.shortest.walk in
    let short : IsShortest ts.graph ts.source (near.own ++ on.part) x = subst (λ (r : List ℕ). IsShortest ts.graph ts.source r x) other on.far.shortest in
    let direct : IsWalk ts.graph y on.part x = rest_of_walk ts.graph near.own on.part ts.source y x short.walk first in
    let dist : IsDist ts.graph y x (Some (walk_length ts.graph on.part)) = dist_of_shortest ts.graph y x on.part (back_of_shortest ts.graph near.own on.part ts.source y x short first direct) in
    let la : walk_length ts.graph near.own ≡ a = TreeDist-same ts Source y (walk_length ts.graph near.own) a (dist_of_shortest ts.graph ts.source y near.own near.near.shortest) da in
    let lb : walk_length ts.graph on.whole ≡ b = TreeDist-same ts Source x (walk_length ts.graph on.whole) b (dist_of_shortest ts.graph ts.source x on.whole on.far.shortest) db in
    let lc : walk_length ts.graph via.prefix ≡ c = TreeDist-same ts Source w (walk_length ts.graph via.prefix) c (dist_of_shortest ts.graph ts.source w via.prefix via.first.shortest) dc in
    let le : walk_length ts.graph via.back ≡ e = TreeDist-same ts Target w (walk_length ts.graph via.back) e (dist_of_shortest ts.graph w ts.target via.back via.last.shortest) de in
    let lf : walk_length ts.graph ahead.own ≡ f = TreeDist-same ts Target x (walk_length ts.graph ahead.own) f (dist_of_shortest ts.graph x ts.target ahead.own ahead.near.shortest) df in
    let sb : walk_length ts.graph on.whole ≡ walk_length ts.graph near.own + walk_length ts.graph on.part = ap (λ (r : List ℕ). walk_length ts.graph r) other ∙ walk_length-append ts.graph near.own on.part in
    let sc : walk_length ts.graph via.prefix ≡ walk_length ts.graph near.own + walk_length ts.graph near.part = ap (λ (r : List ℕ). walk_length ts.graph r) prefix ∙ walk_length-append ts.graph near.own near.part in
    let se : walk_length ts.graph via.back ≡ walk_length ts.graph ahead.part + walk_length ts.graph ahead.own = ap (λ (r : List ℕ). walk_length ts.graph r) back ∙ walk_length-append ts.graph ahead.part ahead.own in
    let far : walk_length ts.graph (near.part ++ ahead.part) ≡ walk_length ts.graph near.part + walk_length ts.graph ahead.part = walk_length-append ts.graph near.part ahead.part in
    let long : (c - a) + (e - f) ≡ walk_length ts.graph (near.part ++ ahead.part) = omega (arith, la, lc, le, lf, sc, se, far) in
    let apart : b - a ≡ walk_length ts.graph on.part = omega (arith, la, lb, sb) in
    piece_never ts.graph q o p near.own (near.part ++ ahead.part) ahead.own y x (walk_length ts.graph on.part) l
    (via.joined ∙ (ap (λ (r : List ℕ). r ++ via.back) prefix ∙ (ap (λ (r : List ℕ). (near.own ++ near.part) ++ r) back
    ∙ (append_assoc near.own near.part (ahead.part ++ ahead.own) ∙ ap (λ (r : List ℕ). near.own ++ r) (sym (append_assoc near.part ahead.part ahead.own))))))
    (subst (λ (u : ℕ). IsWalk ts.graph u near.own y) (sym from) first)
    (IsWalk-append ts.graph near.part ahead.part y w x part on_to_x)
    dist best
    (subst (λ (n : ℕ). IsWrong q l n (walk_length ts.graph on.part)) long (subst (λ (n : ℕ). IsWrong q l ((c - a) + (e - f)) n) apart wrong))
    admissible

-- the same from the other side: the piece leads from x to y
pub target_never : (ts : Trees) (q : Query) (l y w x a b c e f : ℕ) → q.from ≡ ts.source → IsOn ts Target y w → IsOn ts Target y x → IsOn ts Source x w → TreeDist ts Target y a → TreeDist ts Target x b → TreeDist ts Target w c → TreeDist ts Source w e → TreeDist ts Source x f → IsWrong q l ((c - a) + (e - f)) (b - a) → IsNever ts q l w
target_never ts q l y w x a b c e f from near on ahead da db dc de df wrong = λ o p best via admissible.
    let prefix : via.prefix ≡ ahead.own ++ ahead.part = TreePath-unique ts Source w via.prefix ahead.whole via.first ahead.far ∙ ahead.joined in
    let back : via.back ≡ near.part ++ near.own = TreePath-unique ts Target w via.back near.whole via.last near.far ∙ near.joined in
    let own : on.own ≡ near.own = TreePath-unique ts Target y on.own near.own on.near near.near in
    let other : on.whole ≡ on.part ++ near.own = on.joined ∙ ap (λ (r : List ℕ). on.part ++ r) own in
    let first : IsWalk ts.graph ts.source ahead.own x = ahead.near.shortest.walk in
    let to_w : IsWalk ts.graph ts.source (ahead.own ++ ahead.part) w = subst (λ (r : List ℕ). IsWalk ts.graph ts.source r w) prefix via.first.shortest.walk in
    let part : IsWalk ts.graph x ahead.part w = rest_of_walk ts.graph ahead.own ahead.part ts.source x w to_w first in
    let from_w : IsWalk ts.graph w (near.part ++ near.own) ts.target = subst (λ (r : List ℕ). IsWalk ts.graph w r ts.target) back via.last.shortest.walk in
    let on_to_y : IsWalk ts.graph w near.part y = prefix_of_walk ts.graph near.part near.own w y ts.target from_w near.near.shortest.walk in
    let short : IsShortest ts.graph x (on.part ++ near.own) ts.target = subst (λ (r : List ℕ). IsShortest ts.graph x r ts.target) other on.far.shortest in
    let direct : IsWalk ts.graph x on.part y = prefix_of_walk ts.graph on.part near.own x y ts.target short.walk near.near.shortest.walk in
    let dist : IsDist ts.graph x y (Some (walk_length ts.graph on.part)) = dist_of_shortest ts.graph x y on.part (prefix_of_shortest ts.graph on.part near.own x y ts.target short direct near.near.shortest.walk) in
    let la : walk_length ts.graph near.own ≡ a = TreeDist-same ts Target y (walk_length ts.graph near.own) a (dist_of_shortest ts.graph y ts.target near.own near.near.shortest) da in
    let lb : walk_length ts.graph on.whole ≡ b = TreeDist-same ts Target x (walk_length ts.graph on.whole) b (dist_of_shortest ts.graph x ts.target on.whole on.far.shortest) db in
    let lc : walk_length ts.graph via.back ≡ c = TreeDist-same ts Target w (walk_length ts.graph via.back) c (dist_of_shortest ts.graph w ts.target via.back via.last.shortest) dc in
    let le : walk_length ts.graph via.prefix ≡ e = TreeDist-same ts Source w (walk_length ts.graph via.prefix) e (dist_of_shortest ts.graph ts.source w via.prefix via.first.shortest) de in
    let lf : walk_length ts.graph ahead.own ≡ f = TreeDist-same ts Source x (walk_length ts.graph ahead.own) f (dist_of_shortest ts.graph ts.source x ahead.own ahead.near.shortest) df in
    let sb : walk_length ts.graph on.whole ≡ walk_length ts.graph on.part + walk_length ts.graph near.own = ap (λ (r : List ℕ). walk_length ts.graph r) other ∙ walk_length-append ts.graph on.part near.own in
    let sc : walk_length ts.graph via.back ≡ walk_length ts.graph near.part + walk_length ts.graph near.own = ap (λ (r : List ℕ). walk_length ts.graph r) back ∙ walk_length-append ts.graph near.part near.own in
    let se : walk_length ts.graph via.prefix ≡ walk_length ts.graph ahead.own + walk_length ts.graph ahead.part = ap (λ (r : List ℕ). walk_length ts.graph r) prefix ∙ walk_length-append ts.graph ahead.own ahead.part in
    let far : walk_length ts.graph (ahead.part ++ near.part) ≡ walk_length ts.graph ahead.part + walk_length ts.graph near.part = walk_length-append ts.graph ahead.part near.part in
    let long : (c - a) + (e - f) ≡ walk_length ts.graph (ahead.part ++ near.part) = omega (arith, la, lc, le, lf, sc, se, far) in
    let apart : b - a ≡ walk_length ts.graph on.part = omega (arith, la, lb, sb) in
    piece_never ts.graph q o p ahead.own (ahead.part ++ near.part) near.own x y (walk_length ts.graph on.part) l
    (via.joined ∙ (ap (λ (r : List ℕ). r ++ via.back) prefix ∙ (ap (λ (r : List ℕ). (ahead.own ++ ahead.part) ++ r) back
    ∙ (append_assoc ahead.own ahead.part (near.part ++ near.own) ∙ ap (λ (r : List ℕ). ahead.own ++ r) (sym (append_assoc ahead.part near.part near.own))))))
    (subst (λ (u : ℕ). IsWalk ts.graph u ahead.own x) (sym from) first)
    (IsWalk-append ts.graph ahead.part near.part x w y part on_to_y)
    dist best
    (subst (λ (n : ℕ). IsWrong q l n (walk_length ts.graph on.part)) long (subst (λ (n : ℕ). IsWrong q l ((c - a) + (e - f)) n) apart wrong))
    admissible

pub side_never : (ts : Trees) (q : Query) (side : Side) (l y w x a b c e f : ℕ) → q.from ≡ ts.source → IsOn ts side y w → IsOn ts side y x → IsOn ts (opposite side) x w → TreeDist ts side y a → TreeDist ts side x b → TreeDist ts side w c → TreeDist ts (opposite side) w e → TreeDist ts (opposite side) x f → IsWrong q l ((c - a) + (e - f)) (b - a) → IsNever ts q l w
side_never ts q Source l y w x a b c e f from near on ahead da db dc de df wrong = source_never ts q l y w x a b c e f from near on ahead da db dc de df wrong
side_never ts q Target l y w x a b c e f from near on ahead da db dc de df wrong = target_never ts q l y w x a b c e f from near on ahead da db dc de df wrong

pub other_dist : (ts : Trees) (side other : Side) (v d : ℕ) → other ≡ opposite side → TreeDist ts other v d → TreeDist ts (opposite side) v d
other_dist ts side other v d e h = subst (λ (s : Side). TreeDist ts s v d) e h

pub not_stretched : (q : Query) (long d : ℕ) (within : Bool) → IsTrue within ↔ Stretches q.epsilon long d → within ≡ false → Exceeds q.epsilon long d
not_stretched q long d within is above =
    ⊎_elim
    (λ (far : Exceeds q.epsilon long d). far)
    (λ (short : Stretches q.epsilon long d). absurd (iff_false is above short))
    (cases_lt ((q.epsilon.den + q.epsilon.num) * d) (long * q.epsilon.den))
