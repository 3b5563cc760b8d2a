-- A vertex has one path through it, and a path one name and one plateau.
use Rattle.std.proofs.Common.{◌≡◌, ℕ, ◌+◌, ◌≤◌, List, [], ◌∷◌, ◌++◌, refl, sym, ap, ◌∙◌, subst, arith}
use Rattle.std.proofs.lemmas.List.{append-nil}
use Rattle.road_model.specs.declared.answer.Query.{Query}
use Rattle.road_model.specs.declared.answer.Route.{Route}
use Rattle.road_model.specs.Graph.{Graph, IsGraph}
use Rattle.road_model.specs.Walk.{walk_length}
use Rattle.road_model.specs.Canonical.{IsFirst, IsLast}
use Rattle.road_model.specs.Tests.{shared}
use Rattle.road_model.specs.Alternatives.{IsVia, HasNoVia, IsName, IsPlateau}
use Rattle.road_model.specs.Answers.{HasNumbers}
use Rattle.road_model.proofs.Walks.{walk_length-positive}

pub no_via : {P : Type 0} (g : Graph) (s t v : ℕ) (p : List ℕ) → HasNoVia g s t v → IsVia g s t v p → P
no_via g s t v p none h = absurd (none h.prefix h.back h.first.shortest.walk h.last.shortest.walk)

-- no arc is needed from a vertex to itself
pub last_of_itself : (g : Graph) (t : ℕ) (p : List ℕ) → IsGraph g → IsLast g t p t → p ≡ []
last_of_itself g t [] sound h = refl
last_of_itself g t (a ∷ p) sound h =
    absurd (omega (arith, h.shortest.least [] refl, walk_length-positive g a p t t sound h.shortest.walk))

pub via_of_target_lem : (g : Graph) (s t : ℕ) (p : List ℕ) → IsGraph g → IsVia g s t t p → IsFirst g s p t
via_of_target_lem g s t p sound h =
    let none : h.back ≡ [] = last_of_itself g t h.back sound h.last in
    let prefix : p ≡ h.prefix = h.joined ∙ (ap (λ (x : List ℕ). h.prefix ++ x) none ∙ append-nil h.prefix) in
    subst (λ (x : List ℕ). IsFirst g s x t) (sym prefix) h.first

pub IsName-unique : (g : Graph) (s t : ℕ) (p : List ℕ) (v w : ℕ) → IsName g s t p v → IsName g s t p w → v ≡ w
IsName-unique g s t p v w h k = omega (arith, h.least w k.through, k.least v h.through)

plateau_most : (g : Graph) (s t : ℕ) (p : List ℕ) (m n : ℕ) → IsPlateau g s t p m → IsPlateau g s t p n → n ≤ m
plateau_most g s t p m n h k =
    omega (arith, h.greatest k.start k.end k.near (k.near + n) k.through_start k.through_end k.dist_start k.dist_end)

pub IsPlateau-unique : (g : Graph) (s t : ℕ) (p : List ℕ) (m n : ℕ) → IsPlateau g s t p m → IsPlateau g s t p n → m ≡ n
IsPlateau-unique g s t p m n h k = omega (arith, plateau_most g s t p m n h k, plateau_most g s t p n m k h)

same_route : (a b : Route) → a.via ≡ b.via → a.length ≡ b.length → a.shared ≡ b.shared → a.plateau ≡ b.plateau → a.rank ≡ b.rank → a.arcs ≡ b.arcs → a ≡ b
same_route a b e1 e2 e3 e4 e5 e6 = rw (e1, e2, e3, e4, e5, e6) refl

pub HasNumbers-unique : (g : Graph) (q : Query) (o : List ℕ) (a b : Route) → a.arcs ≡ b.arcs → HasNumbers g q o a → HasNumbers g q o b → a ≡ b
HasNumbers-unique g q o a b e h k =
    let name : a.via ≡ b.via = IsName-unique g q.from q.to a.arcs a.via b.via h.is_name (subst (λ (x : List ℕ). IsName g q.from q.to x b.via) (sym e) k.is_name) in
    let plateau : a.plateau ≡ b.plateau = IsPlateau-unique g q.from q.to a.arcs a.plateau b.plateau h.is_plateau (subst (λ (x : List ℕ). IsPlateau g q.from q.to x b.plateau) (sym e) k.is_plateau) in
    let long : a.length ≡ b.length = h.is_length ∙ (ap (λ (x : List ℕ). walk_length g x) e ∙ sym k.is_length) in
    let common : a.shared ≡ b.shared = h.is_shared ∙ (ap (λ (x : List ℕ). shared g o x) e ∙ sym k.is_shared) in
    let rank : a.rank ≡ b.rank = omega (arith, h.is_rank, k.is_rank) in
    same_route a b name long common plateau rank e
