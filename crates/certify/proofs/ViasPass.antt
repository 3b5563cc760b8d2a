-- The via lines that are written pass their checks.
use Rattle.std.proofs.Common.{◌≡◌, ℕ, ◌+◌, ◌<◌, ◌≤◌, List, [], ◌∷◌, map, None, sym, ap, subst, arith, ⊎_elim}
use Rattle.std.proofs.lemmas.Bool.{cases_lt}
use Rattle.std.specs.List.{Contains}
use Rattle.std.specs.List.Sorted.{IsStrictlyIncreasing}
use Rattle.road_model.specs.declared.answer.Optimum.{Optimum}
use Rattle.road_model.specs.declared.answer.Query.{Query}
use Rattle.road_model.specs.declared.answer.Route.{Route}
use Rattle.road_model.specs.Graph.{Graph, IsVertex}
use Rattle.road_model.specs.Walk.{walk_length}
use Rattle.road_model.specs.Fraction.{Stretches}
use Rattle.road_model.specs.Alternatives.{IsVia}
use Rattle.certificate_text.specs.declared.certificate.Block.{Block}
use Rattle.certificate_text.specs.declared.certificate.ViaRow.{ViaRow}
use Rattle.recheck.specs.Paths.{IsNear}
use Rattle.recheck.specs.Reasons.{IsNextNear, IsReason}
use Rattle.recheck.specs.Checks.{FindsFirst, vias_checks}
use Rattle.recheck.specs.Truth.{HasVia}
use Rattle.recheck.proofs.RowLookups.{contains_first, contains_later, contains_cases, none_contained}
use Rattle.recheck.proofs.NearPaths.{IsGrounded, HasThrough, has_through, via_of_through, through_of_via, near_of_via, low_of_near}
use Rattle.certify.specs.Written.{IsViaLine, AreVias, cert_route}
use Rattle.certify.proofs.RisingLists.{increasing_tail, increasing_first}
use Rattle.certify.proofs.OwnGrounds.{own_ground, IsPosed, is_grounded}
use Rattle.certify.proofs.ReasonsShown.{short_of_said, shows}

no_via : {P : Type 0} (v : ℕ) → HasVia [] v → P
no_via v h = none_contained h.line h.listed

-- a line for a later vertex stands after the first
via_after : (x : ViaRow) (xs : List ViaRow) (w : ℕ) → x.vertex < w → HasVia (x ∷ xs) w → HasVia xs w
via_after x xs w above h =
    ⊎_elim
    (λ (first : x ≡ h.line).
    let same : x.vertex ≡ h.line.vertex = ap (λ (y : ViaRow). y.vertex) first in
    absurd (omega (arith, h.vertex)))
    (λ (later : Contains xs h.line).
    let r : HasVia xs w = record { line = h.line; listed = later; vertex = h.vertex } in
    r)
    (contains_cases x h.line xs h.listed)

least_via : (x : ViaRow) (xs : List ViaRow) (w : ℕ) → IsStrictlyIncreasing (map (λ (y : ViaRow). y.vertex) (x ∷ xs)) → HasVia (x ∷ xs) w → x.vertex ≤ w
least_via x xs w rising h =
    ⊎_elim
    (λ (first : x ≡ h.line).
    let same : x.vertex ≡ h.line.vertex = ap (λ (y : ViaRow). y.vertex) first in
    let low : x.vertex ≤ w = omega (arith, h.vertex) in
    low)
    (λ (later : Contains xs h.line).
    let less : x.vertex < h.line.vertex = increasing_first (λ (y : ViaRow). y.vertex) x h.line xs rising later in
    let low : x.vertex ≤ w = omega (arith, h.vertex) in
    low)
    (contains_cases x h.line xs h.listed)

module _ (g : Graph) (q : Query) (optimum : Optimum) (others : List Route) (bound : ℕ) (source target : Block) (starts : List Block) (h : IsPosed g q optimum others bound source target starts) where
  grounds : IsGrounded (own_ground g q optimum source target starts)
  grounds = is_grounded g q optimum others bound source target starts h

  line_near : (x : ViaRow) → IsViaLine g q optimum.arcs x → IsNear (own_ground g q optimum source target starts) x.vertex
  line_near x line =
      near_of_via (own_ground g q optimum source target starts) x.vertex line.path grounds line.through
      (subst (λ (n : ℕ). Stretches q.epsilon (walk_length g line.path) n) (sym h.is_length)
      (short_of_said g q optimum.arcs line.path x.vertex line.verdict x.reason line.through line.is_verdict line.says))

  line_reason : (x : ViaRow) → IsViaLine g q optimum.arcs x → IsReason (own_ground g q optimum source target starts) (map cert_route others) x
  line_reason x line =
      record {
        path = line.path;
        through = through_of_via (own_ground g q optimum source target starts) x.vertex line.path grounds (line_near x line) line.through;
        shows = shows g q optimum others bound source target starts h x.vertex line.path line.verdict x.reason line.through line.is_verdict line.says;
      }

  -- each near vertex has a line
  near_line : (xs : List ViaRow) (v : ℕ) → AreVias g q optimum.arcs xs → IsNear (own_ground g q optimum source target starts) v → HasVia xs v
  near_line xs v vias near =
      let p : HasThrough (own_ground g q optimum source target starts) v = has_through (own_ground g q optimum source target starts) v grounds near in
      let via : IsVia g q.from q.to v p.path = via_of_through (own_ground g q optimum source target starts) v p.path grounds p.through in
      vias.every v p.path via
      (subst (λ (n : ℕ). Stretches q.epsilon (walk_length g p.path) n) h.is_length
      (low_of_near (own_ground g q optimum source target starts) v p.path grounds near via))

  lines_pass : (line before : ℕ) (xs : List ViaRow) → ((x : ViaRow) → Contains xs x → IsViaLine g q optimum.arcs x) → IsStrictlyIncreasing (map (λ (x : ViaRow). x.vertex) xs) → ((x : ViaRow) → Contains xs x → before < x.vertex)
      → ((v : ℕ) → IsNear (own_ground g q optimum source target starts) v → before < v → HasVia xs v) → FindsFirst (vias_checks (own_ground g q optimum source target starts) (map cert_route others) line before xs) None
  lines_pass line before [] each rising above every = (
    (λ w near. ⊎_elim
        (λ (more : before < w). no_via w (every w near more))
        (λ (low : w ≤ before). low)
        (cases_lt before w)),
    tt,
  )
  lines_pass line before (x ∷ xs) each rising above every =
      let own : IsViaLine g q optimum.arcs x = each x (contains_first x xs) in
      let first : before < x.vertex = above x (contains_first x xs) in
      let next : IsNextNear (own_ground g q optimum source target starts) before x.vertex = record {
        near = line_near x own;
        above = first;
        least = (λ w near more. least_via x xs w rising (every w near more));
      } in
      let later : FindsFirst (vias_checks (own_ground g q optimum source target starts) (map cert_route others) (line + 1) x.vertex xs) None =
      lines_pass (line + 1) x.vertex xs (λ y there. each y (contains_later x y xs there)) (increasing_tail (λ (y : ViaRow). y.vertex) x xs rising)
      (λ y there. increasing_first (λ (z : ViaRow). z.vertex) x y xs rising there)
      (λ v near more. via_after x xs v more (every v near (omega arith))) in
      (next, (line_reason x own, later))

  pub vias_pass : (line : ℕ) (xs : List ViaRow) → AreVias g q optimum.arcs xs → FindsFirst (vias_checks (own_ground g q optimum source target starts) (map cert_route others) line 0 xs) None
  vias_pass line xs vias =
      lines_pass line 0 xs vias.each vias.rising
      (λ x there.
      let v : IsVertex g.vertices x.vertex = (vias.each x there).through.vertex in
      v.first)
      (λ v near more. near_line xs v vias near)
