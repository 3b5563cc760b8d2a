-- What a certificate says that is written for the answer of a query.
--   IsOwnRow h root r     the row has the distance of its vertex to the root, and the first arc of the canonical path there
--   IsTreeBlock g k root radius b   the block is the canonical tree of the direction, root and radius: a row for each vertex
--                         within the radius, by rising number
--   IsStart g q others x k   x stands before the via vertex on a listed route, and from there to the route's end it is k far
--   IsStartBlock, AreStarts   a tree for each such vertex but the source, as far as the greatest of these lengths, by rising
--                         number
--   Says g q p verdict reason   the reason is that of the verdict on a vertex with the path p; a detour is the canonical path
--                         between the two ends
--   IsViaLine, AreVias    a line for each vertex whose path isn't too long, by rising number
--   cert_route r          a route as its line says it
--   IsFoundWritten g q optimum others c   the certificate of an optimum and its alternatives
--   IsWritten g q plan c  the certificate of a query with this plan
use Rattle.std.specs.Prelude.{◌≡◌, ◌≢◌, ◌<◌, ◌≤◌, ◌⊎◌, ◌++◌, ℕ, List, [], ◌∷◌, length, map, Contains, Option, Some, None}
use Rattle.std.specs.List.Sorted.{IsStrictlyIncreasing}
use Rattle.road_model.specs.declared.answer.Optimum.{Optimum}
use Rattle.road_model.specs.declared.answer.Plan.{Plan}
use Rattle.road_model.specs.declared.answer.Plan.TheVariants as plan
use Rattle.road_model.specs.declared.answer.Query.{Query}
use Rattle.road_model.specs.declared.answer.Route.{Route}
use Rattle.road_model.specs.declared.answer.Verdict.{Verdict}
use Rattle.road_model.specs.declared.answer.Verdict.TheVariants as verdict
use Rattle.road_model.specs.Graph.{Graph, arc_count}
use Rattle.road_model.specs.Walk.{walk_length}
use Rattle.road_model.specs.Dist.{IsDist}
use Rattle.road_model.specs.Canonical.{IsFirst, IsLast}
use Rattle.road_model.specs.Fraction.{Stretches}
use Rattle.road_model.specs.Places.{trail_of, vertex_at, between}
use Rattle.road_model.specs.Queries.{query_of}
use Rattle.road_model.specs.Alternatives.{IsVia}
use Rattle.road_model.specs.Verdicts.{IsVerdict}
use Rattle.tree_search.specs.Ball.{IsWithin}
use Rattle.certificate_text.specs.declared.certificate.BlockKind.{BlockKind}
use Rattle.certificate_text.specs.declared.certificate.BlockKind.TheVariants as kind
use Rattle.certificate_text.specs.declared.certificate.BlockRow.{BlockRow}
use Rattle.certificate_text.specs.declared.certificate.Block.{Block}
use Rattle.certificate_text.specs.declared.certificate.CertRoute.{CertRoute}
use Rattle.certificate_text.specs.declared.certificate.Reason.{Reason}
use Rattle.certificate_text.specs.declared.certificate.Reason.TheVariants as reason
use Rattle.certificate_text.specs.declared.certificate.ViaRow.{ViaRow}
use Rattle.certificate_text.specs.declared.certificate.Finding.TheVariants as finding
use Rattle.certificate_text.specs.declared.certificate.Certificate.{Certificate}
use Rattle.recheck.specs.Rows.{toward, HasRow}
use Rattle.recheck.specs.Standing.{IsRising}
use Rattle.recheck.specs.Truth.{HasVia}

-- the arc of a root's row is 0; any other row has the first arc of the canonical path from its vertex
pub record HasFirstArc (h : Graph) (root : ℕ) (r : BlockRow) : Type 0 where
  pub other : r.vertex ≢ root
  pub back : List ℕ
  pub path : IsLast h r.vertex (r.arc ∷ back) root

pub record IsOwnRow (h : Graph) (root : ℕ) (r : BlockRow) : Type 0 where
  pub dist : IsDist h r.vertex root (Some r.label)
  pub arc : ((r.vertex ≡ root) × (r.arc ≡ 0)) ⊎ HasFirstArc h root r

pub record IsTreeBlock (g : Graph) (k : BlockKind) (root : ℕ) (radius : Option ℕ) (b : Block) : Type 0 where
  pub is_kind : b.kind ≡ k
  pub is_root : b.root ≡ root
  pub is_radius : b.radius ≡ radius
  pub rising : IsRising b.rows
  pub each : (r : BlockRow) → Contains b.rows r → IsOwnRow (toward k g) root r × IsWithin radius r.label
  pub every : (v d : ℕ) → IsDist (toward k g) v root (Some d) → IsWithin radius d → HasRow b.rows v

pub record IsStart (g : Graph) (q : Query) (others : List Route) (x k : ℕ) : Type 0 where
  pub route : Route
  pub listed : Contains others route
  pub prefix : List ℕ
  pub back : List ℕ
  pub first : IsFirst g q.from prefix route.via
  pub joined : route.arcs ≡ prefix ++ back
  pub place : ℕ
  pub before : place < length prefix
  pub is : vertex_at (trail_of g q.from route.arcs) place ≡ x
  pub far : between (trail_of g q.from route.arcs) place (length route.arcs) ≡ k

pub record IsStartBlock (g : Graph) (q : Query) (others : List Route) (b : Block) : Type 0 where
  pub other : b.root ≢ q.from
  pub radius : ℕ
  pub start : IsStart g q others b.root radius
  pub greatest : (k : ℕ) → IsStart g q others b.root k → k ≤ radius
  pub tree : IsTreeBlock g kind.From b.root (Some radius) b

pub record HasStart (bs : List Block) (x : ℕ) : Type 0 where
  pub block : Block
  pub listed : Contains bs block
  pub root : block.root ≡ x

pub record AreStarts (g : Graph) (q : Query) (others : List Route) (bs : List Block) : Type 0 where
  pub each : (b : Block) → Contains bs b → IsStartBlock g q others b
  pub every : (x k : ℕ) → IsStart g q others x k → x ≢ q.from → HasStart bs x
  pub rising : IsStrictlyIncreasing (map (λ (b : Block). b.root) bs)

-- the detour is the canonical path between two places
pub record IsOwnDetour (g : Graph) (q : Query) (p : List ℕ) (first last : ℕ) (detour : List ℕ) : Type 0 where
  pub path : IsFirst g (vertex_at (trail_of g q.from p) first) detour (vertex_at (trail_of g q.from p) last)

abbrev pub Says : Graph → Query → List ℕ → Verdict → Reason → Type 0
Says g q p verdict.Optimum reason.Optimum = Unit {0}
Says g q p (verdict.Shared sum) (reason.Shared n) = n ≡ sum
Says g q p (verdict.Local pair) (reason.Local first last detour) = (first ≡ pair.first) × (last ≡ pair.last) × IsOwnDetour g q p first last detour
Says g q p (verdict.Stretch pair) (reason.Stretch first last detour) = (first ≡ pair.first) × (last ≡ pair.last) × IsOwnDetour g q p first last detour
Says g q p (verdict.Listed name) (reason.Listed n) = n ≡ name
Says g q p other another = ⊥

pub record IsViaLine (g : Graph) (q : Query) (optimum : List ℕ) (x : ViaRow) : Type 0 where
  pub path : List ℕ
  pub through : IsVia g q.from q.to x.vertex path
  pub verdict : Verdict
  pub is_verdict : IsVerdict g q optimum x.vertex verdict
  pub says : Says g q path verdict x.reason

pub record AreVias (g : Graph) (q : Query) (optimum : List ℕ) (xs : List ViaRow) : Type 0 where
  pub each : (x : ViaRow) → Contains xs x → IsViaLine g q optimum x
  pub every : (v : ℕ) (p : List ℕ) → IsVia g q.from q.to v p → Stretches q.epsilon (walk_length g p) (walk_length g optimum) → HasVia xs v
  pub rising : IsStrictlyIncreasing (map (λ (x : ViaRow). x.vertex) xs)

abbrev pub cert_route : Route → CertRoute
cert_route r = record { via = r.via; length = r.length; shared = r.shared; plateau = r.plateau; rank = r.rank; arcs = r.arcs }

pub record IsFoundWritten (g : Graph) (q : Query) (optimum : Optimum) (others : List Route) (c : Certificate) : Type 0 where
  pub bound : ℕ
  pub within : Stretches q.epsilon bound optimum.length
  pub greatest : (n : ℕ) → Stretches q.epsilon n optimum.length → n ≤ bound
  pub source : Block
  pub target : Block
  pub starts : List Block
  pub blocks : c.blocks ≡ source ∷ target ∷ starts
  pub is_source : IsTreeBlock g kind.From q.from (Some bound) source
  pub is_target : IsTreeBlock g kind.To q.to (Some bound) target
  pub are_starts : AreStarts g q others starts
  pub vias : List ViaRow
  pub are_vias : AreVias g q optimum.arcs vias
  pub finding : c.finding ≡ finding.Found optimum.length optimum.arcs (map cert_route others) vias

-- the whole tree from the source, in which the target has no row
pub record IsNothingWritten (g : Graph) (q : Query) (c : Certificate) : Type 0 where
  pub source : Block
  pub blocks : c.blocks ≡ source ∷ []
  pub is_source : IsTreeBlock g kind.From q.from None source
  pub finding : c.finding ≡ finding.Nothing

abbrev pub IsPlanWritten : Graph → Query → Plan → Certificate → Type 0
IsPlanWritten g q plan.NoPath c = IsNothingWritten g q c
IsPlanWritten g q (plan.Found optimum others) c = IsFoundWritten g q optimum others c

pub record IsWritten (g : Graph) (q : Query) (p : Plan) (c : Certificate) : Type 0 where
  pub vertices : c.vertices ≡ g.vertices
  pub arcs : c.arcs ≡ arc_count g
  pub query : query_of c.query ≡ q
  pub plan : IsPlanWritten g q p c
