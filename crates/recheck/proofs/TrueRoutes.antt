-- Routes that passed their checks are the alternatives, with their numbers, in their order.
--   RouteStands o before r   a route line passed its checks, after another one where there is one
use Rattle.std.proofs.Common.{◌≡◌, ℕ, ◌+◌, ◌<◌, ◌≤◌, ◌⊎◌, List, [], ◌∷◌, ◌++◌, length, reverse, Option, Some, None, All, sym, ◌∙◌, subst, map, arith, inl, inr, ⊎_elim}
use Rattle.std.proofs.lemmas.Bool.{cases_lt}
use Rattle.std.proofs.lemmas.List.{length-reverse}
use Rattle.std.proofs.lemmas.List.Elements.{All-nil, All-cons}
use Rattle.road_model.specs.declared.answer.Route.{Route}
use Rattle.road_model.specs.Graph.{Graph}
use Rattle.road_model.specs.Walk.{walk_length}
use Rattle.road_model.specs.Dist.{IsDist, IsShortest}
use Rattle.road_model.specs.Fraction.{Fraction, Allows, Stretches, Exceeds}
use Rattle.road_model.specs.Places.{trail_of, vertex_at, between, IsDistAt}
use Rattle.road_model.specs.Tests.{IsTested}
use Rattle.road_model.specs.Alternatives.{IsVia, IsName, IsPlateau, IsAdmissible, IsAlternative}
use Rattle.road_model.specs.Answers.{IsRoute, IsBefore, IsAscending, IsListing}
use Rattle.road_model.proofs.Dists.{IsDist-same}
use Rattle.road_model.proofs.Parts.{length-places, dist_in_prefix, dist_in_back}
use Rattle.certificate_text.specs.declared.certificate.CertRoute.{CertRoute}
use Rattle.certificate_text.specs.declared.certificate.ViaRow.{ViaRow}
use Rattle.recheck.specs.Rows.{HasLabel}
use Rattle.recheck.specs.Paths.{Ground, IsNear, IsThrough, trail, rows_from}
use Rattle.recheck.specs.Routes.{IsOwnPath, IsLeastName, AreNumbers, IsCovered, IsLocal, IsUnstretched, IsUnstretchedAt, IsAfter}
use Rattle.recheck.specs.Checks.{Checks, FindsFirst, route_checks, routes_checks, vias_checks}
use Rattle.recheck.specs.Truth.{route_in}
use Rattle.recheck.proofs.NearPaths.{IsGrounded, label_from, label_between, via_of_through, through_of_via, near_along}
use Rattle.recheck.proofs.TrueReasons.{alternative_listed}

pub record RouteStands (o : Ground) (before : Option CertRoute) (r : CertRoute) : Type 0 where
  pub near : IsNear o r.via
  pub walk : IsOwnPath o r
  pub name : IsLeastName o r
  pub numbers : AreNumbers o r
  pub share : Allows o.query.gamma r.shared o.best
  pub cover : IsCovered o r
  pub local : IsLocal o r
  pub stretch : IsUnstretched o r
  pub order : IsAfter before r

route_stands : (o : Ground) (line : ℕ) (before : Option CertRoute) (r : CertRoute) (rest : Checks) → FindsFirst (route_checks o line before r rest) None → RouteStands o before r × FindsFirst rest None
route_stands o line before r rest h =
    let end = h.1.1.1.1.1.1.1 in
    let stands : RouteStands o before r = record {
      near = h.0;
      walk = h.1.0;
      name = h.1.1.0;
      numbers = h.1.1.1.0;
      share = h.1.1.1.1.0;
      cover = h.1.1.1.1.1.0;
      local = h.1.1.1.1.1.1.0;
      stretch = end.0;
      order = end.1.0;
    } in
    (stands, end.1.1)

-- a pair of places on one side of the via vertex is as long as the distance

side_parts : (g : Graph) (s t v : ℕ) (f b : List ℕ) (i j : ℕ) → IsShortest g s f v → IsShortest g v b t → i ≤ j → j ≤ length (f ++ b) → (j ≤ length f) ⊎ (length f ≤ i) → IsDistAt g (trail_of g s (f ++ b)) i j (between (trail_of g s (f ++ b)) i j)
side_parts g s t v f b i j h k le inside (inl prefix) = dist_in_prefix g s v f b i j h le prefix
side_parts g s t v f b i j h k le inside (inr beyond) = dist_in_back g s v t f b i j h.walk k beyond le inside

dist_beside : (g : Graph) (s t v : ℕ) (p : List ℕ) (through : IsVia g s t v p) (i j : ℕ) → i ≤ j → j ≤ length p → (j ≤ length through.prefix) ⊎ (length through.prefix ≤ i) → IsDistAt g (trail_of g s p) i j (between (trail_of g s p) i j)
dist_beside g s t v p through i j le inside side =
    subst (λ (l : List ℕ). IsDistAt g (trail_of g s l) i j (between (trail_of g s l) i j)) (sym through.joined)
    (side_parts g s t v through.prefix through.back i j through.first.shortest through.last.shortest le
    (subst (λ (l : List ℕ). j ≤ length l) through.joined inside) side)

beside : (o : Ground) (v : ℕ) (p : List ℕ) (i j : ℕ) → IsGrounded o → (h : IsThrough o v p) → i ≤ j → j ≤ length p → (j ≤ length h.prefix) ⊎ (length h.prefix ≤ i) → IsDistAt o.graph (trail o p) i j (between (trail o p) i j)
beside o v p i j b h le inside side =
    let long : length (reverse h.prefix) ≡ length h.prefix = length-reverse h.prefix in
    dist_beside o.graph o.query.from o.query.to v p (via_of_through o v p b h) i j le inside
    (⊎_elim
    (λ (low : j ≤ length h.prefix). inl (omega arith))
    (λ (high : length h.prefix ≤ i). inr (omega arith))
    side)

-- on one side, or across
sides : (i j n : ℕ) → ((j ≤ n) ⊎ (n ≤ i)) ⊎ ((i < n) × (n < j))
sides i j n =
    ⊎_elim
    (λ (across : n < j).
    ⊎_elim
    (λ (low : i < n). inr (low, across))
    (λ (high : n ≤ i). inl (inr high))
    (cases_lt i n))
    (λ (low : j ≤ n). inl (inl low))
    (cases_lt n j)

-- a subpath that has to be shortest is
tested_is_dist : (o : Ground) (before : Option CertRoute) (r : CertRoute) (i j d : ℕ) → IsGrounded o → RouteStands o before r → i < j → j ≤ length r.arcs → IsTested o.query.alpha o.best (trail o r.arcs) i j → IsDistAt o.graph (trail o r.arcs) i j d → between (trail o r.arcs) i j ≡ d
tested_is_dist o before r i j d b s rise inside tested dist =
    let h : IsThrough o r.via r.arcs = s.walk.through in
    ⊎_elim
    (λ (side : (j ≤ length h.prefix) ⊎ (length h.prefix ≤ i)).
    let own : IsDistAt o.graph (trail o r.arcs) i j (between (trail o r.arcs) i j) = beside o r.via r.arcs i j b h (omega arith) inside side in
    IsDist-same o.graph (vertex_at (trail o r.arcs) i) (vertex_at (trail o r.arcs) j) (between (trail o r.arcs) i j) d own dist)
    (λ (across : (i < length h.prefix) × (length h.prefix < j)).
    let label : HasLabel (rows_from o (vertex_at (trail o r.arcs) i)) (vertex_at (trail o r.arcs) j) (between (trail o r.arcs) i j) = s.local h i j across.0 across.1 inside tested in
    let own : IsDist o.graph (vertex_at (trail o r.arcs) i) (vertex_at (trail o r.arcs) j) (Some label.row.label) = label_between o (vertex_at (trail o r.arcs) i) (vertex_at (trail o r.arcs) j) label.row b label.is in
    sym label.label ∙ IsDist-same o.graph (vertex_at (trail o r.arcs) i) (vertex_at (trail o r.arcs) j) label.row.label d own dist)
    (sides i j (length h.prefix))

not_itself : (f : Fraction) (m n : ℕ) → m ≡ n → Exceeds f m n → ⊥
not_itself f m n same above =
    let itself : Exceeds f n n = subst (λ (k : ℕ). Exceeds f k n) same above in
    omega arith

not_above : (f : Fraction) (m n d : ℕ) → n ≡ d → Stretches f m n → Exceeds f m d → ⊥
not_above f m n d same low above =
    let other : Exceeds f m n = subst (λ (k : ℕ). Exceeds f m k) (sym same) above in
    omega arith

-- and none is stretched too far
none_exceeds : (o : Ground) (before : Option CertRoute) (r : CertRoute) (i j d : ℕ) → IsGrounded o → RouteStands o before r → i < j → j ≤ length r.arcs → IsDistAt o.graph (trail o r.arcs) i j d → Exceeds o.query.epsilon (between (trail o r.arcs) i j) d → ⊥
none_exceeds o before r i j d b s rise inside dist above =
    let h : IsThrough o r.via r.arcs = s.walk.through in
    ⊎_elim
    (λ (side : (j ≤ length h.prefix) ⊎ (length h.prefix ≤ i)).
    let own : IsDistAt o.graph (trail o r.arcs) i j (between (trail o r.arcs) i j) = beside o r.via r.arcs i j b h (omega arith) inside side in
    not_itself o.query.epsilon (between (trail o r.arcs) i j) d (IsDist-same o.graph (vertex_at (trail o r.arcs) i) (vertex_at (trail o r.arcs) j) (between (trail o r.arcs) i j) d own dist) above)
    (λ (across : (i < length h.prefix) × (length h.prefix < j)).
    let label : IsUnstretchedAt o r.arcs i j = s.stretch h i j across.0 across.1 inside in
    let own : IsDist o.graph (vertex_at (trail o r.arcs) i) (vertex_at (trail o r.arcs) j) (Some label.row.label) = label_between o (vertex_at (trail o r.arcs) i) (vertex_at (trail o r.arcs) j) label.row b label.is in
    not_above o.query.epsilon (between (trail o r.arcs) i j) label.row.label d (IsDist-same o.graph (vertex_at (trail o r.arcs) i) (vertex_at (trail o r.arcs) j) label.row.label d own dist) label.low above)
    (sides i j (length h.prefix))

admissible : (o : Ground) (before : Option CertRoute) (r : CertRoute) → IsGrounded o → RouteStands o before r → IsAdmissible o.graph o.query o.optimum r.arcs
admissible o before r b s =
    let share : Allows o.query.gamma r.shared (walk_length o.graph o.optimum) = subst (λ (n : ℕ). Allows o.query.gamma r.shared n) b.best s.share in
    record {
      limited = subst (λ (n : ℕ). Allows o.query.gamma n (walk_length o.graph o.optimum)) s.numbers.is_shared share;
      optimal = (λ i j d h.
          h.other (tested_is_dist o before r i j d b s h.rise (omega (arith, h.inside, length-places o.graph o.query.from r.arcs))
          (subst (λ (n : ℕ). IsTested o.query.alpha n (trail o r.arcs) i j) (sym b.best) h.tested) h.dist));
      bounded = (λ i j d h.
          none_exceeds o before r i j d b s h.rise (omega (arith, h.inside, length-places o.graph o.query.from r.arcs)) h.dist h.above);
    }

alternative : (o : Ground) (before : Option CertRoute) (r : CertRoute) → IsGrounded o → RouteStands o before r → IsAlternative o.graph o.query o.optimum r.arcs
alternative o before r b s =
    record { via = r.via; through = via_of_through o r.via r.arcs b s.walk.through; other = s.walk.other; admissible = admissible o before r b s }

-- each via vertex of the route's path is near
near_too : (o : Ground) (before : Option CertRoute) (r : CertRoute) (w : ℕ) → IsGrounded o → RouteStands o before r → IsVia o.graph o.query.from o.query.to w r.arcs → IsNear o w
near_too o before r w b s via = near_along o r.via w r.arcs b s.near (via_of_through o r.via r.arcs b s.walk.through) via

named : (o : Ground) (before : Option CertRoute) (r : CertRoute) → IsGrounded o → RouteStands o before r → IsName o.graph o.query.from o.query.to r.arcs r.via
named o before r b s =
    record {
      through = via_of_through o r.via r.arcs b s.walk.through;
      least = (λ w via. ⊎_elim
          (λ (less : w < r.via).
          let near : IsNear o w = near_too o before r w b s via in
          absurd (s.name w less near (through_of_via o w r.arcs b near via)))
          (λ (ge : r.via ≤ w). ge)
          (cases_lt w r.via));
    }

plateau : (o : Ground) (before : Option CertRoute) (r : CertRoute) → IsGrounded o → RouteStands o before r → IsPlateau o.graph o.query.from o.query.to r.arcs r.plateau
plateau o before r b s =
    let h = s.numbers.is_plateau in
    record {
      start = h.start;
      end = h.end;
      near = h.near_start.near.label;
      through_start = via_of_through o h.start r.arcs b h.through_start;
      through_end = via_of_through o h.end r.arcs b h.through_end;
      dist_start = label_from o h.start h.near_start.near b h.near_start.is_near;
      dist_end = subst (λ (n : ℕ). IsDist o.graph o.query.from h.end (Some n)) h.difference (label_from o h.end h.near_end.near b h.near_end.is_near);
      greatest = (λ v w m n via_v via_w dist_v dist_w.
          let near_v : IsNear o v = near_too o before r v b s via_v in
          let near_w : IsNear o w = near_too o before r w b s via_w in
          let low : near_w.near.label ≤ near_v.near.label + r.plateau = h.greatest v w near_v near_w (through_of_via o v r.arcs b near_v via_v) (through_of_via o w r.arcs b near_w via_w) in
          let first : near_v.near.label ≡ m = IsDist-same o.graph o.query.from v near_v.near.label m (label_from o v near_v.near b near_v.is_near) dist_v in
          let last : near_w.near.label ≡ n = IsDist-same o.graph o.query.from w near_w.near.label n (label_from o w near_w.near b near_w.is_near) dist_w in
          omega arith);
    }

route : (o : Ground) (before : Option CertRoute) (r : CertRoute) → IsGrounded o → RouteStands o before r → IsRoute o.graph o.query o.optimum (route_in r)
route o before r b s =
    record {
      alternative = alternative o before r b s;
      numbers = record {
        is_name = named o before r b s;
        is_length = s.numbers.is_length;
        is_shared = s.numbers.is_shared;
        is_plateau = plateau o before r b s;
        is_rank = s.numbers.is_rank;
      };
    }

-- the list of them

each_route : (o : Ground) (line : ℕ) (before : Option CertRoute) (rs : List CertRoute) (rest : ℕ → Checks) → IsGrounded o → FindsFirst (routes_checks o line before rs rest) None → All (IsRoute o.graph o.query o.optimum) (map route_in rs)
each_route o line before [] rest b h = All-nil (IsRoute o.graph o.query o.optimum)
each_route o line before (r ∷ rs) rest b h =
    let stands = route_stands o line before r (routes_checks o (line + 1) (Some r) rs rest) h in
    All-cons (IsRoute o.graph o.query o.optimum) (route_in r) (map route_in rs) (route o before r b stands.0)
    (each_route o (line + 1) (Some r) rs rest b stands.1)

before_through : (a b c : Route) → IsBefore a b → IsBefore b c → IsBefore a c
before_through a b c (inl h) (inl k) = inl (omega arith)
before_through a b c (inl h) (inr k) = inl (omega (arith, k.0))
before_through a b c (inr h) (inl k) = inl (omega (arith, h.0))
before_through a b c (inr h) (inr k) = inr (h.0 ∙ k.0, omega (arith, h.1, k.1))

all_after : (o : Ground) (line : ℕ) (first a : CertRoute) (rs : List CertRoute) (rest : ℕ → Checks) → IsBefore (route_in first) (route_in a) → FindsFirst (routes_checks o line (Some a) rs rest) None → All (IsBefore (route_in first)) (map route_in rs)
all_after o line first a [] rest before h = All-nil (IsBefore (route_in first))
all_after o line first a (r ∷ rs) rest before h =
    let stands = route_stands o line (Some a) r (routes_checks o (line + 1) (Some r) rs rest) h in
    let here : IsBefore (route_in first) (route_in r) = before_through (route_in first) (route_in a) (route_in r) before stands.0.order in
    All-cons (IsBefore (route_in first)) (route_in r) (map route_in rs) here (all_after o (line + 1) first r rs rest here stands.1)

later_line : (o : Ground) (line : ℕ) (a : CertRoute) (rs : List CertRoute) (rest : ℕ → Checks) → FindsFirst (routes_checks o line (Some a) rs rest) None → All (IsBefore (route_in a)) (map route_in rs)
later_line o line a [] rest h = All-nil (IsBefore (route_in a))
later_line o line a (r ∷ rs) rest h =
    let stands = route_stands o line (Some a) r (routes_checks o (line + 1) (Some r) rs rest) h in
    let here : IsBefore (route_in a) (route_in r) = stands.0.order in
    All-cons (IsBefore (route_in a)) (route_in r) (map route_in rs) here (all_after o (line + 1) a r rs rest here stands.1)

ascending : (o : Ground) (line : ℕ) (before : Option CertRoute) (rs : List CertRoute) (rest : ℕ → Checks) → FindsFirst (routes_checks o line before rs rest) None → IsAscending (map route_in rs)
ascending o line before [] rest h = tt
ascending o line before (r ∷ rs) rest h =
    let stands = route_stands o line before r (routes_checks o (line + 1) (Some r) rs rest) h in
    (later_line o (line + 1) r rs rest stands.1, ascending o (line + 1) (Some r) rs rest stands.1)

-- routes and via lines that passed are the listing
pub listing : (o : Ground) (line next : ℕ) (rs : List CertRoute) (xs : List ViaRow) (rest : ℕ → Checks) → IsGrounded o → FindsFirst (routes_checks o line None rs rest) None → FindsFirst (vias_checks o rs next 0 xs) None → IsListing o.graph o.query o.optimum (map route_in rs)
listing o line next rs xs rest b h k =
    record {
      each = each_route o line None rs rest b h;
      every = (λ p a. alternative_listed o rs next xs p b k a);
      ascending = ascending o line None rs rest h;
    }
