-- The reason of a vertex's verdict holds of the path through it.
use Rattle.std.proofs.Common.{◌≡◌, ℕ, ◌<◌, ◌≤◌, List, length, map, sym, ap, ◌∙◌, subst, arith}
use Rattle.road_model.specs.declared.answer.Optimum.{Optimum}
use Rattle.road_model.specs.declared.answer.Pair.{Pair}
use Rattle.road_model.specs.declared.answer.Query.{Query}
use Rattle.road_model.specs.declared.answer.Route.{Route}
use Rattle.road_model.specs.declared.answer.Verdict.{Verdict}
use Rattle.road_model.specs.declared.answer.Verdict.TheVariants as verdict
use Rattle.road_model.specs.Graph.{Graph}
use Rattle.road_model.specs.Walk.{walk_length}
use Rattle.road_model.specs.Fraction.{Stretches, IsAbove, Exceeds}
use Rattle.road_model.specs.Places.{trail_of, vertex_at, between, IsDistAt}
use Rattle.road_model.specs.Tests.{shared, IsTested, FailsLocal, FailsStretch}
use Rattle.road_model.specs.Alternatives.{IsVia, IsName, IsAlternative}
use Rattle.road_model.specs.Answers.{IsRoute, HasRoute}
use Rattle.road_model.specs.Verdicts.{IsVerdict, IsListed}
use Rattle.road_model.specs.Verdicts as verdicts
use Rattle.road_model.proofs.Dists.{IsDist-same, dist_of_shortest}
use Rattle.road_model.proofs.CanonicalWalks.{IsVia-unique}
use Rattle.road_model.proofs.Parts.{Parted, parted, length-places}
use Rattle.canonical_trees.proofs.ThroughVertex.{via_walk}
use Rattle.certificate_text.specs.declared.certificate.Block.{Block}
use Rattle.certificate_text.specs.declared.certificate.Reason.{Reason}
use Rattle.certificate_text.specs.declared.certificate.Reason.TheVariants as reason
use Rattle.recheck.specs.Reasons.{IsOverShared, IsDetour, IsShorter, IsOverStretched, IsListedAs, Shows}
use Rattle.certify.specs.Written.{IsOwnDetour, Says, cert_route}
use Rattle.certify.proofs.RisingLists.{contains_map}
use Rattle.certify.proofs.AllBlocks.{route_in_listing}
use Rattle.certify.proofs.OwnGrounds.{own_ground, IsPosed, stretches_itself}

-- a vertex whose verdict has a reason has a path that isn't too long

pub short_of_said : (g : Graph) (q : Query) (optimum p : List ℕ) (v : ℕ) (w : Verdict) (r : Reason) → IsVia g q.from q.to v p → IsVerdict g q optimum v w → Says g q p w r → Stretches q.epsilon (walk_length g p) (walk_length g optimum)
short_of_said g q optimum p v verdict.Unreached r via is says = absurd says
short_of_said g q optimum p v verdict.Optimum r via is says =
    subst (λ (l : List ℕ). Stretches q.epsilon (walk_length g l) (walk_length g optimum)) (IsVia-unique g q.from q.to v optimum p is via) (stretches_itself q.epsilon (walk_length g optimum))
short_of_said g q optimum p v (verdict.Long l) r via is says = absurd says
short_of_said g q optimum p v (verdict.Shared sum) r via is says =
    subst (λ (l : List ℕ). Stretches q.epsilon (walk_length g l) (walk_length g optimum)) (IsVia-unique g q.from q.to v is.path p is.is.through via) is.short
short_of_said g q optimum p v (verdict.Local pair) r via is says =
    subst (λ (l : List ℕ). Stretches q.epsilon (walk_length g l) (walk_length g optimum)) (IsVia-unique g q.from q.to v is.path p is.is.through via) is.short
short_of_said g q optimum p v (verdict.Stretch pair) r via is says =
    subst (λ (l : List ℕ). Stretches q.epsilon (walk_length g l) (walk_length g optimum)) (IsVia-unique g q.from q.to v is.path p is.is.through via) is.short
short_of_said g q optimum p v (verdict.Listed name) r via is says =
    subst (λ (l : List ℕ). Stretches q.epsilon (walk_length g l) (walk_length g optimum)) (IsVia-unique g q.from q.to v is.path p is.is.through via) is.short

-- a detour is as long as the distance between its ends
own_between : (g : Graph) (q : Query) (p : List ℕ) (pair : Pair) (first last : ℕ) (detour : List ℕ) → (first ≡ pair.first) × (last ≡ pair.last) × IsOwnDetour g q p first last detour → IsOwnDetour g q p pair.first pair.last detour
own_between g q p pair first last detour says =
    subst (λ (i : ℕ). IsOwnDetour g q p i pair.last detour) says.0 (subst (λ (j : ℕ). IsOwnDetour g q p first j detour) says.1 says.2)

detour_long : (g : Graph) (q : Query) (p : List ℕ) (i j d : ℕ) (detour : List ℕ) → IsOwnDetour g q p i j detour → IsDistAt g (trail_of g q.from p) i j d → walk_length g detour ≡ d
detour_long g q p i j d detour own dist =
    IsDist-same g (vertex_at (trail_of g q.from p) i) (vertex_at (trail_of g q.from p) j) (walk_length g detour) d
    (dist_of_shortest g (vertex_at (trail_of g q.from p) i) (vertex_at (trail_of g q.from p) j) detour own.path.shortest) dist

-- the name of a path is one
one_name : (g : Graph) (s t v w : ℕ) (p : List ℕ) → IsName g s t p v → IsName g s t p w → v ≡ w
one_name g s t v w p a b =
    let low : v ≤ w = a.least w b.through in
    let high : w ≤ v = b.least v a.through in
    omega arith

module _ (g : Graph) (q : Query) (optimum : Optimum) (others : List Route) (bound : ℕ) (source target : Block) (starts : List Block) (h : IsPosed g q optimum others bound source target starts) where
  leads : (p : List ℕ) (i j : ℕ) (detour : List ℕ) → i < j → j < length (trail_of g q.from p).vertices → IsOwnDetour g q p i j detour → IsDetour (own_ground g q optimum source target starts) p i j detour
  leads p i j detour rise inside own =
      record { rise = rise; inside = omega (arith, length-places g q.from p); walk = own.path.shortest.walk }

  shows_shared : (v : ℕ) (p : List ℕ) (sum n : ℕ) → IsVia g q.from q.to v p → verdicts.IsOverShared g q optimum.arcs v sum → n ≡ sum → IsOverShared (own_ground g q optimum source target starts) p n
  shows_shared v p sum n via is same =
      let path : is.path ≡ p = IsVia-unique g q.from q.to v is.path p is.is.through via in
      record {
        is_sum = same ∙ is.is_sum ∙ ap (λ (l : List ℕ). shared g optimum.arcs l) path;
        over = subst (λ (k : ℕ). IsAbove q.gamma k optimum.length) (sym same) (subst (λ (l : ℕ). IsAbove q.gamma sum l) (sym h.is_length) is.over);
      }

  shows_local : (v : ℕ) (p : List ℕ) (pair : Pair) (first last : ℕ) (detour : List ℕ) → IsVia g q.from q.to v p → verdicts.IsNotLocal g q optimum.arcs v pair → (first ≡ pair.first) × (last ≡ pair.last) × IsOwnDetour g q p first last detour
      → IsShorter (own_ground g q optimum source target starts) p first last detour
  shows_local v p pair first last detour via is says =
      let path : is.path ≡ p = IsVia-unique g q.from q.to v is.path p is.is.through via in
      let fails : FailsLocal g q.alpha (walk_length g optimum.arcs) (trail_of g q.from p) pair.first pair.last pair.distance =
      subst (λ (l : List ℕ). FailsLocal g q.alpha (walk_length g optimum.arcs) (trail_of g q.from l) pair.first pair.last pair.distance) path is.fails.fails in
      let own : IsOwnDetour g q p pair.first pair.last detour = own_between g q p pair first last detour says in
      let long : walk_length g detour ≡ pair.distance = detour_long g q p pair.first pair.last pair.distance detour own fails.dist in
      let part : Parted g q.from p pair.first pair.last = parted g q.from q.to p pair.first pair.last (via_walk g q.from q.to v p via) (omega (arith, fails.rise)) (omega (arith, fails.inside, length-places g q.from p)) in
      let low : pair.distance ≤ walk_length g part.part = fails.dist.1 part.part part.walk in
      let shorter : IsShorter (own_ground g q optimum source target starts) p pair.first pair.last detour = record {
        leads = leads p pair.first pair.last detour fails.rise fails.inside own;
        tested = subst (λ (n : ℕ). IsTested q.alpha n (trail_of g q.from p) pair.first pair.last) (sym h.is_length) fails.tested;
        shorter = omega (arith, part.long, fails.other);
      } in
      subst (λ (i : ℕ). IsShorter (own_ground g q optimum source target starts) p i last detour) (sym says.0)
      (subst (λ (j : ℕ). IsShorter (own_ground g q optimum source target starts) p pair.first j detour) (sym says.1) shorter)

  shows_stretch : (v : ℕ) (p : List ℕ) (pair : Pair) (first last : ℕ) (detour : List ℕ) → IsVia g q.from q.to v p → verdicts.IsStretched g q optimum.arcs v pair → (first ≡ pair.first) × (last ≡ pair.last) × IsOwnDetour g q p first last detour
      → IsOverStretched (own_ground g q optimum source target starts) p first last detour
  shows_stretch v p pair first last detour via is says =
      let path : is.path ≡ p = IsVia-unique g q.from q.to v is.path p is.is.through via in
      let fails : FailsStretch g q.epsilon (trail_of g q.from p) pair.first pair.last pair.distance =
      subst (λ (l : List ℕ). FailsStretch g q.epsilon (trail_of g q.from l) pair.first pair.last pair.distance) path is.fails.fails in
      let own : IsOwnDetour g q p pair.first pair.last detour = own_between g q p pair first last detour says in
      let long : walk_length g detour ≡ pair.distance = detour_long g q p pair.first pair.last pair.distance detour own fails.dist in
      let over : IsOverStretched (own_ground g q optimum source target starts) p pair.first pair.last detour = record {
        leads = leads p pair.first pair.last detour fails.rise fails.inside own;
        above = subst (λ (n : ℕ). Exceeds q.epsilon (between (trail_of g q.from p) pair.first pair.last) n) (sym long) fails.above;
      } in
      subst (λ (i : ℕ). IsOverStretched (own_ground g q optimum source target starts) p i last detour) (sym says.0)
      (subst (λ (j : ℕ). IsOverStretched (own_ground g q optimum source target starts) p pair.first j detour) (sym says.1) over)

  shows_listed : (v : ℕ) (p : List ℕ) (name n : ℕ) → IsVia g q.from q.to v p → verdicts.IsListed g q optimum.arcs v name → n ≡ name → IsListedAs (map cert_route others) p n
  shows_listed v p name n via is same =
      let path : is.path ≡ p = IsVia-unique g q.from q.to v is.path p is.is.through via in
      let alternative : IsAlternative g q optimum.arcs is.path = record {
        via = v;
        through = is.is.through;
        other = is.is.other;
        admissible = record { limited = is.limited; optimal = is.optimal; bounded = is.bounded };
      } in
      let found : HasRoute others is.path = h.listing.every is.path alternative in
      let route : IsRoute g q optimum.arcs found.route = route_in_listing g q optimum.arcs others found.route h.listing found.listed in
      let named : IsName g q.from q.to is.path found.route.via = subst (λ (l : List ℕ). IsName g q.from q.to l found.route.via) found.path route.numbers.is_name in
      record {
        route = cert_route found.route;
        listed = contains_map cert_route others found.route found.listed;
        named = one_name g q.from q.to found.route.via name is.path named is.is_name ∙ sym same;
        same = found.path ∙ path;
      }

  pub shows : (v : ℕ) (p : List ℕ) (w : Verdict) (r : Reason) → IsVia g q.from q.to v p → IsVerdict g q optimum.arcs v w → Says g q p w r → Shows (own_ground g q optimum source target starts) (map cert_route others) p r
  shows v p verdict.Unreached r via is says = absurd says
  shows v p (verdict.Long l) r via is says = absurd says
  shows v p verdict.Optimum reason.Optimum via is says = IsVia-unique g q.from q.to v p optimum.arcs via is
  shows v p verdict.Optimum (reason.Shared n) via is says = absurd says
  shows v p verdict.Optimum (reason.Local first last detour) via is says = absurd says
  shows v p verdict.Optimum (reason.Stretch first last detour) via is says = absurd says
  shows v p verdict.Optimum (reason.Listed n) via is says = absurd says
  shows v p (verdict.Shared sum) (reason.Shared n) via is says = shows_shared v p sum n via is says
  shows v p (verdict.Shared sum) reason.Optimum via is says = absurd says
  shows v p (verdict.Shared sum) (reason.Local first last detour) via is says = absurd says
  shows v p (verdict.Shared sum) (reason.Stretch first last detour) via is says = absurd says
  shows v p (verdict.Shared sum) (reason.Listed n) via is says = absurd says
  shows v p (verdict.Local pair) (reason.Local first last detour) via is says = shows_local v p pair first last detour via is says
  shows v p (verdict.Local pair) reason.Optimum via is says = absurd says
  shows v p (verdict.Local pair) (reason.Shared n) via is says = absurd says
  shows v p (verdict.Local pair) (reason.Stretch first last detour) via is says = absurd says
  shows v p (verdict.Local pair) (reason.Listed n) via is says = absurd says
  shows v p (verdict.Stretch pair) (reason.Stretch first last detour) via is says = shows_stretch v p pair first last detour via is says
  shows v p (verdict.Stretch pair) reason.Optimum via is says = absurd says
  shows v p (verdict.Stretch pair) (reason.Shared n) via is says = absurd says
  shows v p (verdict.Stretch pair) (reason.Local first last detour) via is says = absurd says
  shows v p (verdict.Stretch pair) (reason.Listed n) via is says = absurd says
  shows v p (verdict.Listed name) (reason.Listed n) via is says = shows_listed v p name n via is says
  shows v p (verdict.Listed name) reason.Optimum via is says = absurd says
  shows v p (verdict.Listed name) (reason.Shared n) via is says = absurd says
  shows v p (verdict.Listed name) (reason.Local first last detour) via is says = absurd says
  shows v p (verdict.Listed name) (reason.Stretch first last detour) via is says = absurd says
