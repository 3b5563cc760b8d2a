-- The routes that are written pass their checks.
use Rattle.std.proofs.Common.{◌≡◌, ℕ, ◌+◌, ◌*◌, ◌<◌, ◌≤◌, List, [], ◌∷◌, length, reverse, Option, Some, None, map, sym, subst, arith, ⊎_elim}
use Rattle.std.specs.List.{Contains}
use Rattle.std.proofs.lemmas.Bool.{cases_eq, cases_lt}
use Rattle.std.proofs.lemmas.List.{length-reverse}
use Rattle.std.proofs.lemmas.List.Elements.{All-contains}
use Rattle.road_model.specs.declared.answer.Optimum.{Optimum}
use Rattle.road_model.specs.declared.answer.Query.{Query}
use Rattle.road_model.specs.declared.answer.Route.{Route}
use Rattle.road_model.specs.Graph.{Graph}
use Rattle.road_model.specs.Fraction.{Allows, Stretches, Exceeds}
use Rattle.road_model.specs.Places.{vertex_at, between, IsDistAt}
use Rattle.road_model.specs.Tests.{shared, IsTested}
use Rattle.road_model.specs.Alternatives.{IsVia}
use Rattle.road_model.specs.Answers.{IsRoute, IsBefore, IsAscending}
use Rattle.road_model.proofs.Dists.{IsDist-same}
use Rattle.road_model.proofs.Parts.{length-places}
use Rattle.certificate_text.specs.declared.certificate.Block.{Block}
use Rattle.certificate_text.specs.declared.certificate.CertRoute.{CertRoute}
use Rattle.recheck.specs.Rows.{HasRow, HasLabel}
use Rattle.recheck.specs.Paths.{Ground, IsNear, IsThrough, trail, rows_from}
use Rattle.recheck.specs.Routes.{IsOwnPath, IsLeastName, IsSpread, AreNumbers, IsCovered, IsLocal, IsUnstretched, IsUnstretchedAt, IsAfter}
use Rattle.recheck.specs.Checks.{done, FindsFirst, routes_checks}
use Rattle.recheck.proofs.RowLookups.{contains_first, contains_later}
use Rattle.recheck.proofs.NearPaths.{IsGrounded, label_from, label_between, via_of_through, through_of_via, near_of_via}
use Rattle.tree_search.specs.Ball.{IsWithin}
use Rattle.canonical_trees.proofs.CanonicalParts.{within_less}
use Rattle.certify.specs.Written.{cert_route}
use Rattle.certify.proofs.AllBlocks.{route_in_listing}
use Rattle.certify.proofs.OwnGrounds.{own_ground, IsPosed, is_grounded}
use Rattle.certify.proofs.StartTrees.{HasStartTree, short_route, start_tree, later_row}

module _ (g : Graph) (q : Query) (optimum : Optimum) (others : List Route) (bound : ℕ) (source target : Block) (starts : List Block) (h : IsPosed g q optimum others bound source target starts) where
  grounds : IsGrounded (own_ground g q optimum source target starts)
  grounds = is_grounded g q optimum others bound source target starts h

  is_route : (r : Route) → Contains others r → IsRoute g q optimum.arcs r
  is_route r there = route_in_listing g q optimum.arcs others r h.listing there

  -- each via vertex of the route's path is near
  near_via : (r : Route) (v : ℕ) → Contains others r → IsVia g q.from q.to v r.arcs → IsNear (own_ground g q optimum source target starts) v
  near_via r v there via =
      near_of_via (own_ground g q optimum source target starts) v r.arcs grounds via (short_route g q optimum others bound source target starts h r there)

  through_via : (r : Route) (v : ℕ) → Contains others r → IsVia g q.from q.to v r.arcs → IsThrough (own_ground g q optimum source target starts) v r.arcs
  through_via r v there via =
      through_of_via (own_ground g q optimum source target starts) v r.arcs grounds (near_via r v there via) via

  own_path : (r : Route) → Contains others r → IsOwnPath (own_ground g q optimum source target starts) (cert_route r)
  own_path r there =
      record { through = through_via r r.via there (is_route r there).numbers.is_name.through; other = (is_route r there).alternative.other }

  least_name : (r : Route) → Contains others r → IsLeastName (own_ground g q optimum source target starts) (cert_route r)
  least_name r there w less near through =
      let low : r.via ≤ w = (is_route r there).numbers.is_name.least w (via_of_through (own_ground g q optimum source target starts) w r.arcs grounds through) in
      omega arith

  spread : (r : Route) → Contains others r → IsSpread (own_ground g q optimum source target starts) r.arcs r.plateau
  spread r there =
      let o : Ground = own_ground g q optimum source target starts in
      let p = (is_route r there).numbers.is_plateau in
      let near_start : IsNear (own_ground g q optimum source target starts) p.start = near_via r p.start there p.through_start in
      let near_end : IsNear (own_ground g q optimum source target starts) p.end = near_via r p.end there p.through_end in
      let first : near_start.near.label ≡ p.near = IsDist-same g q.from p.start near_start.near.label p.near (label_from o p.start near_start.near grounds near_start.is_near) p.dist_start in
      let last : near_end.near.label ≡ p.near + r.plateau = IsDist-same g q.from p.end near_end.near.label (p.near + r.plateau) (label_from o p.end near_end.near grounds near_end.is_near) p.dist_end in
      record {
        start = p.start;
        end = p.end;
        near_start = near_start;
        near_end = near_end;
        through_start = through_via r p.start there p.through_start;
        through_end = through_via r p.end there p.through_end;
        difference = omega arith;
        greatest = (λ v w a b through_v through_w.
            p.greatest v w a.near.label b.near.label (via_of_through o v r.arcs grounds through_v) (via_of_through o w r.arcs grounds through_w)
            (label_from o v a.near grounds a.is_near) (label_from o w b.near grounds b.is_near));
      }

  numbers : (r : Route) → Contains others r → AreNumbers (own_ground g q optimum source target starts) (cert_route r)
  numbers r there =
      let n = (is_route r there).numbers in
      record { is_length = n.is_length; is_shared = n.is_shared; is_plateau = spread r there; is_rank = n.is_rank }

  share : (r : Route) → Contains others r → Allows q.gamma r.shared optimum.length
  share r there =
      subst (λ (n : ℕ). Allows q.gamma n optimum.length) (sym (is_route r there).numbers.is_shared)
      (subst (λ (n : ℕ). Allows q.gamma (shared g optimum.arcs r.arcs) n) (sym h.is_length) (is_route r there).alternative.admissible.limited)

  covered : (r : Route) → Contains others r → IsCovered (own_ground g q optimum source target starts) (cert_route r)
  covered r there through i before =
      let via : IsVia g q.from q.to r.via r.arcs = via_of_through (own_ground g q optimum source target starts) r.via r.arcs grounds through in
      let t : HasStartTree g (source ∷ target ∷ starts) (vertex_at (trail (own_ground g q optimum source target starts) r.arcs) i) (between (trail (own_ground g q optimum source target starts) r.arcs) i (length r.arcs)) =
      start_tree g q optimum others bound source target starts h r (reverse through.prefix) through.back i there via.first through.joined (omega (arith, length-reverse through.prefix)) in
      record {
        block = t.block;
        is = t.is;
        room = (λ n low. subst (λ (radius : Option ℕ). IsWithin radius n) (sym t.tree.is_radius)
            (within_less t.radius n (between (trail (own_ground g q optimum source target starts) r.arcs) i (length r.arcs)) low t.within));
      }

  -- the label of each place after, which is the distance
  across : (r : Route) → Contains others r → (through : IsThrough (own_ground g q optimum source target starts) r.via r.arcs) (i j : ℕ) → i < length through.prefix → length through.prefix < j → j ≤ length r.arcs
      → HasRow (rows_from (own_ground g q optimum source target starts) (vertex_at (trail (own_ground g q optimum source target starts) r.arcs) i)) (vertex_at (trail (own_ground g q optimum source target starts) r.arcs) j)
  across r there through i j before later_line inside =
      let via : IsVia g q.from q.to r.via r.arcs = via_of_through (own_ground g q optimum source target starts) r.via r.arcs grounds through in
      later_row g q optimum others bound source target starts h r (reverse through.prefix) through.back i j there via.first through.joined (omega (arith, length-reverse through.prefix)) (omega arith) inside

  is_local : (r : Route) → Contains others r → IsLocal (own_ground g q optimum source target starts) (cert_route r)
  is_local r there through i j before later_line inside tested =
      let o : Ground = own_ground g q optimum source target starts in
      let row : HasRow (rows_from o (vertex_at (trail o r.arcs) i)) (vertex_at (trail o r.arcs) j) = across r there through i j before later_line inside in
      let dist : IsDistAt g (trail o r.arcs) i j row.row.label = label_between o (vertex_at (trail o r.arcs) i) (vertex_at (trail o r.arcs) j) row.row grounds row.is in
      ⊎_elim
      (λ (same : between (trail o r.arcs) i j ≡ row.row.label).
      let label : HasLabel (rows_from o (vertex_at (trail o r.arcs) i)) (vertex_at (trail o r.arcs) j) (between (trail o r.arcs) i j) = record { row = row.row; is = row.is; label = sym same } in
      label)
      (λ (other : between (trail o r.arcs) i j ≡ row.row.label → ⊥).
      absurd ((is_route r there).alternative.admissible.optimal i j row.row.label (record {
        rise = omega arith;
        inside = omega (arith, length-places g q.from r.arcs);
        tested = subst (λ (n : ℕ). IsTested q.alpha n (trail o r.arcs) i j) h.is_length tested;
        dist = dist;
        other = other;
      })))
      (cases_eq (between (trail o r.arcs) i j) row.row.label)

  unstretched : (r : Route) → Contains others r → IsUnstretched (own_ground g q optimum source target starts) (cert_route r)
  unstretched r there through i j before later_line inside =
      let o : Ground = own_ground g q optimum source target starts in
      let row : HasRow (rows_from o (vertex_at (trail o r.arcs) i)) (vertex_at (trail o r.arcs) j) = across r there through i j before later_line inside in
      let dist : IsDistAt g (trail o r.arcs) i j row.row.label = label_between o (vertex_at (trail o r.arcs) i) (vertex_at (trail o r.arcs) j) row.row grounds row.is in
      ⊎_elim
      (λ (above : Exceeds q.epsilon (between (trail o r.arcs) i j) row.row.label).
      absurd ((is_route r there).alternative.admissible.bounded i j row.row.label (record {
        rise = omega arith;
        inside = omega (arith, length-places g q.from r.arcs);
        dist = dist;
        above = above;
      })))
      (λ (low : Stretches q.epsilon (between (trail o r.arcs) i j) row.row.label).
      let x : IsUnstretchedAt o r.arcs i j = record { row = row.row; is = row.is; low = low } in
      x)
      (cases_lt ((q.epsilon.den + q.epsilon.num) * row.row.label) (between (trail o r.arcs) i j * q.epsilon.den))

  pub routes_pass : (line : ℕ) (before : Option CertRoute) (rs : List Route) → ((r : Route) → Contains rs r → Contains others r) → IsAscending rs → ((r : Route) → Contains rs r → IsAfter before (cert_route r))
      → FindsFirst (routes_checks (own_ground g q optimum source target starts) line before (map cert_route rs) (λ _. done)) None
  routes_pass line before [] of ascending later_line = tt
  routes_pass line before (r ∷ rs) of ascending later_line =
      let there : Contains others r = of r (contains_first r rs) in
      let later : FindsFirst (routes_checks (own_ground g q optimum source target starts) (line + 1) (Some (cert_route r)) (map cert_route rs) (λ _. done)) None =
      routes_pass (line + 1) (Some (cert_route r)) rs (λ x after. of x (contains_later r x rs after)) ascending.1
      (λ x after. All-contains (IsBefore r) rs x ascending.0 after) in (
        near_via r r.via there (is_route r there).numbers.is_name.through,
        (
          own_path r there,
          (
            least_name r there,
            (
              numbers r there,
              (
                share r there,
                (
                  covered r there,
                  (
                    is_local r there,
                    (
                      unstretched r there,
                      (later_line r (contains_first r rs), later),
                    ),
                  ),
                ),
              ),
            ),
          ),
        ),
      )
