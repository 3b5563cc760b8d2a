-- The near vertices are those whose path isn't too long, and the path through one is what the two blocks give.
--   IsGrounded o     the blocks of a ground stand, the two from the source and to the target reach as far as an alternative
--                    may be long, and its optimum is the query's
--   HasThrough o v   the two blocks give a path through the vertex
use Rattle.std.proofs.Common.{◌≡◌, ℕ, ◌+◌, ◌*◌, ◌<◌, ◌≤◌, List, [], ◌∷◌, ◌++◌, length, reverse, Option, Some, None, refl, sym, ap, ◌∙◌, subst, arith, ⊎_elim}
use Rattle.std.proofs.Math.Nat.{mul-le-mul_right}
use Rattle.std.proofs.lemmas.Bool.{cases_lt}
use Rattle.road_model.specs.declared.answer.Query.{Query}
use Rattle.road_model.specs.Graph.{Graph, IsVertex, reversed}
use Rattle.road_model.specs.File.{IsWithinLimits}
use Rattle.road_model.specs.Walk.{IsWalk, walk_length}
use Rattle.road_model.specs.Dist.{IsDist}
use Rattle.road_model.specs.Canonical.{IsFirst}
use Rattle.road_model.specs.Fraction.{Fraction, Stretches, Exceeds}
use Rattle.road_model.specs.Places.{trail_of, between}
use Rattle.road_model.specs.Alternatives.{IsVia, IsAdmissible}
use Rattle.road_model.proofs.Walks.{IsWalk-inside}
use Rattle.road_model.proofs.Dists.{IsDist-same, dist_of_shortest}
use Rattle.road_model.proofs.CanonicalWalks.{IsFirst-unique, IsLast-unique}
use Rattle.road_model.proofs.Parts.{length-places, whole_sum, whole_dist}
use Rattle.tree_search.specs.Ball.{IsWithin, IsBeyond}
use Rattle.canonical_trees.proofs.Balls.{beyond_above}
use Rattle.canonical_trees.proofs.ThroughVertex.{via_parts, via_length}
use Rattle.certificate_text.specs.declared.certificate.BlockKind.TheVariants as kind
use Rattle.certificate_text.specs.declared.certificate.BlockRow.{BlockRow}
use Rattle.certificate_text.specs.declared.certificate.Block.{Block}
use Rattle.recheck.specs.Rows.{row_of, block_of, rows_in, HasRow}
use Rattle.recheck.specs.Paths.{Ground, ground_of, IsNear, IsThrough, IsBest, IsBounded, rows_from}
use Rattle.recheck.specs.Standing.{AllStand}
use Rattle.recheck.specs.Checks.{IsQuery}
use Rattle.recheck.proofs.RowLookups.{row_or_none}
use Rattle.recheck.proofs.BlockTrees.{IsTree, HasFollowed, tree_at, tree_in, first_of_followed, dist_from, beyond_from}

pub record IsGrounded (o : Ground) : Type 0 where
  pub limits : IsWithinLimits o.graph
  pub stand : AllStand o.graph o.blocks
  pub source : IsVertex o.graph.vertices o.query.from
  pub from_radius : Option ℕ
  pub to_radius : Option ℕ
  pub from : IsTree (reversed o.graph) o.from_rows o.query.from from_radius
  pub to : IsTree o.graph o.to_rows o.query.to to_radius
  pub from_room : (n : ℕ) → Stretches o.query.epsilon n o.best → IsWithin from_radius n
  pub to_room : (n : ℕ) → Stretches o.query.epsilon n o.best → IsWithin to_radius n
  pub optimum : IsFirst o.graph o.query.from o.optimum o.query.to
  pub best : o.best ≡ walk_length o.graph o.optimum

-- labels are distances

pub label_from : (o : Ground) (v : ℕ) (r : BlockRow) → IsGrounded o → row_of o.from_rows v ≡ Some r → IsDist o.graph o.query.from v (Some r.label)
label_from o v r b is = dist_from o.graph o.query.from v (Some r.label) (b.from.exact v r is)

pub label_to : (o : Ground) (v : ℕ) (r : BlockRow) → IsGrounded o → row_of o.to_rows v ≡ Some r → IsDist o.graph v o.query.to (Some r.label)
label_to o v r b is = b.to.exact v r is

label_in : (o : Ground) (x y : ℕ) (r : BlockRow) (found : Option Block) → IsGrounded o → block_of o.blocks kind.From x ≡ found → row_of (rows_in found) y ≡ Some r → IsDist o.graph x y (Some r.label)
label_in o x y r None b found is = absurd (let e : None ≡ Some r = is in cc)
label_in o x y r (Some block) b found is =
    let tree : IsTree (reversed o.graph) block.rows x block.radius = tree_at o.graph o.blocks kind.From x block b.limits.is_graph b.stand found in
    dist_from o.graph x y (Some r.label) (tree.exact y r is)

-- those of any block from a vertex
pub label_between : (o : Ground) (x y : ℕ) (r : BlockRow) → IsGrounded o → row_of (rows_from o x) y ≡ Some r → IsDist o.graph x y (Some r.label)
label_between o x y r b is = label_in o x y r (block_of o.blocks kind.From x) b refl is

-- what the two blocks give through a vertex is the path through it
abbrev pub via_of_through : (o : Ground) (v : ℕ) (p : List ℕ) → IsGrounded o → IsThrough o v p → IsVia o.graph o.query.from o.query.to v p
via_of_through o v p b h = record {
  vertex = IsWalk-inside o.graph (reverse h.prefix) o.query.from v b.limits.is_graph b.source (first_of_followed o.graph o.from_rows o.query.from v b.from_radius h.prefix b.from h.to_source).shortest.walk;
  prefix = reverse h.prefix;
  back = h.back;
  first = first_of_followed o.graph o.from_rows o.query.from v b.from_radius h.prefix b.from h.to_source;
  last = b.to.followed v h.back h.to_target;
  joined = h.joined;
}

-- and they give it through each near vertex
pub record HasThrough (o : Ground) (v : ℕ) : Type 0 where
  pub path : List ℕ
  pub through : IsThrough o v path

pub has_through : (o : Ground) (v : ℕ) → IsGrounded o → IsNear o v → HasThrough o v
has_through o v b h =
    let front : HasFollowed (reversed o.graph) o.from_rows o.query.from v = b.from.exists v h.near h.is_near in
    let back : HasFollowed o.graph o.to_rows o.query.to v = b.to.exists v h.far h.is_far in
    record {
      path = reverse front.path ++ back.path;
      through = record { prefix = front.path; back = back.path; to_source = front.follows; to_target = back.follows; joined = refl };
    }

pub through_of_via : (o : Ground) (v : ℕ) (p : List ℕ) → IsGrounded o → IsNear o v → IsVia o.graph o.query.from o.query.to v p → IsThrough o v p
through_of_via o v p b near h =
    let front : HasFollowed (reversed o.graph) o.from_rows o.query.from v = b.from.exists v near.near near.is_near in
    let back : HasFollowed o.graph o.to_rows o.query.to v = b.to.exists v near.far near.is_far in
    let same_front : h.prefix ≡ reverse front.path = IsFirst-unique o.graph o.query.from v h.prefix (reverse front.path) h.first (first_of_followed o.graph o.from_rows o.query.from v b.from_radius front.path b.from front.follows) in
    let same_back : h.back ≡ back.path = IsLast-unique o.graph v o.query.to h.back back.path h.last (b.to.followed v back.path back.follows) in
    record {
      prefix = front.path;
      back = back.path;
      to_source = front.follows;
      to_target = back.follows;
      joined = h.joined ∙ (ap (λ (x : List ℕ). x ++ h.back) same_front ∙ ap (λ (x : List ℕ). reverse front.path ++ x) same_back);
    }

-- its length is the sum of the two labels
pub sum_of_near : (o : Ground) (v : ℕ) (p : List ℕ) → IsGrounded o → (h : IsNear o v) → IsVia o.graph o.query.from o.query.to v p → walk_length o.graph p ≡ h.near.label + h.far.label
sum_of_near o v p b h via =
    via_length o.graph o.query.from o.query.to v h.near.label h.far.label p via (label_from o v h.near b h.is_near) (label_to o v h.far b h.is_far)

pub low_of_near : (o : Ground) (v : ℕ) (p : List ℕ) → IsGrounded o → IsNear o v → IsVia o.graph o.query.from o.query.to v p → Stretches o.query.epsilon (walk_length o.graph p) o.best
low_of_near o v p b h via =
    subst (λ (n : ℕ). Stretches o.query.epsilon n o.best) (sym (sum_of_near o v p b h via)) h.low

stretches_less : (f : Fraction) (m n whole : ℕ) → m ≤ n → Stretches f n whole → Stretches f m whole
stretches_less f m n whole le h =
    let scaled : m * f.den ≤ n * f.den = mul-le-mul_right f.den le in
    omega arith

not_apart : {P : Type 0} (radius : Option ℕ) (k : ℕ) → IsWithin radius k → IsBeyond radius k → P
not_apart radius k within beyond = absurd (let lt : k < k = beyond_above radius k k within beyond in omega arith)

-- a vertex has a row in both blocks if the path through it isn't too long
near_from : (o : Ground) (v : ℕ) (p : List ℕ) → IsGrounded o → IsVia o.graph o.query.from o.query.to v p → Stretches o.query.epsilon (walk_length o.graph p) o.best → HasRow o.from_rows v
near_from o v p b via short =
    ⊎_elim
    (λ (there : HasRow o.from_rows v). there)
    (λ (none : row_of o.from_rows v ≡ None).
    let parts = via_parts o.graph o.query.from o.query.to v p via in
    let le : walk_length o.graph via.prefix ≤ walk_length o.graph p = omega arith in
    let within : IsWithin b.from_radius (walk_length o.graph via.prefix) = b.from_room (walk_length o.graph via.prefix) (stretches_less o.query.epsilon (walk_length o.graph via.prefix) (walk_length o.graph p) o.best le short) in
    not_apart b.from_radius (walk_length o.graph via.prefix) within (beyond_from o.graph o.from_rows o.query.from v b.from_radius via.prefix b.from none via.first.shortest.walk))
    (row_or_none o.from_rows v)

near_to : (o : Ground) (v : ℕ) (p : List ℕ) → IsGrounded o → IsVia o.graph o.query.from o.query.to v p → Stretches o.query.epsilon (walk_length o.graph p) o.best → HasRow o.to_rows v
near_to o v p b via short =
    ⊎_elim
    (λ (there : HasRow o.to_rows v). there)
    (λ (none : row_of o.to_rows v ≡ None).
    let parts = via_parts o.graph o.query.from o.query.to v p via in
    let le : walk_length o.graph via.back ≤ walk_length o.graph p = omega arith in
    let within : IsWithin b.to_radius (walk_length o.graph via.back) = b.to_room (walk_length o.graph via.back) (stretches_less o.query.epsilon (walk_length o.graph via.back) (walk_length o.graph p) o.best le short) in
    not_apart b.to_radius (walk_length o.graph via.back) within (b.to.beyond v via.back none via.last.shortest.walk))
    (row_or_none o.to_rows v)

pub near_of_via : (o : Ground) (v : ℕ) (p : List ℕ) → IsGrounded o → IsVia o.graph o.query.from o.query.to v p → Stretches o.query.epsilon (walk_length o.graph p) o.best → IsNear o v
near_of_via o v p b via short =
    let near : HasRow o.from_rows v = near_from o v p b via short in
    let far : HasRow o.to_rows v = near_to o v p b via short in
    let sum : walk_length o.graph p ≡ near.row.label + far.row.label = via_length o.graph o.query.from o.query.to v near.row.label far.row.label p via (label_from o v near.row b near.is) (label_to o v far.row b far.is) in
    record {
      near = near.row;
      far = far.row;
      is_near = near.is;
      is_far = far.is;
      low = subst (λ (n : ℕ). Stretches o.query.epsilon n o.best) sum short;
    }

-- so where one via vertex of a path is near, all are
pub near_along : (o : Ground) (v w : ℕ) (p : List ℕ) → IsGrounded o → IsNear o v → IsVia o.graph o.query.from o.query.to v p → IsVia o.graph o.query.from o.query.to w p → IsNear o w
near_along o v w p b near h k = near_of_via o w p b k (low_of_near o v p b near h)

-- and a path through another vertex is too long
pub near_long : (o : Ground) (v : ℕ) (p : List ℕ) → IsGrounded o → (IsNear o v → ⊥) → IsVia o.graph o.query.from o.query.to v p → Exceeds o.query.epsilon (walk_length o.graph p) o.best
near_long o v p b far via =
    ⊎_elim
    (λ (long : Exceeds o.query.epsilon (walk_length o.graph p) o.best). long)
    (λ (short : Stretches o.query.epsilon (walk_length o.graph p) o.best). absurd (far (near_of_via o v p b via short)))
    (cases_lt ((o.query.epsilon.den + o.query.epsilon.num) * o.best) (walk_length o.graph p * o.query.epsilon.den))

-- an admissible path isn't too long: else it would fail the stretch as a whole
pub short_of_admissible : (g : Graph) (q : Query) (o p : List ℕ) → IsFirst g q.from o q.to → IsWalk g q.from p q.to → IsAdmissible g q o p → Stretches q.epsilon (walk_length g p) (walk_length g o)
short_of_admissible g q o [] best walk h = omega arith
short_of_admissible g q o (a ∷ p) best walk h =
    let whole : between (trail_of g q.from (a ∷ p)) 0 (length (a ∷ p)) ≡ walk_length g (a ∷ p) = whole_sum g q.from (a ∷ p) in
    ⊎_elim
    (λ (long : Exceeds q.epsilon (walk_length g (a ∷ p)) (walk_length g o)).
    absurd (h.bounded 0 (length (a ∷ p)) (walk_length g o) (record {
      rise = omega arith;
      inside = omega (arith, length-places g q.from (a ∷ p));
      dist = whole_dist g q.from q.to (walk_length g o) (a ∷ p) walk (dist_of_shortest g q.from q.to o best.shortest);
      above = subst (λ (n : ℕ). Exceeds q.epsilon n (walk_length g o)) (sym whole) long;
    })))
    (λ (short : Stretches q.epsilon (walk_length g (a ∷ p)) (walk_length g o)). short)
    (cases_lt ((q.epsilon.den + q.epsilon.num) * walk_length g o) (walk_length g (a ∷ p) * q.epsilon.den))

-- blocks that stand, the optimum's check and that of the bound make a ground
pub grounded : (g : Graph) (q : Query) (bs : List Block) (long : ℕ) (arcs : List ℕ) → IsWithinLimits g → IsQuery g q → AllStand g bs → IsBest (ground_of g q bs long arcs) → IsBounded (ground_of g q bs long arcs) → IsGrounded (ground_of g q bs long arcs)
grounded g q bs long arcs limits asks all best bounded =
    let from : IsTree (reversed g) (rows_in (block_of bs kind.From q.from)) q.from bounded.source.block.radius = tree_in g bs kind.From q.from bounded.source.block limits.is_graph all bounded.source.is in
    let to : IsTree g (rows_in (block_of bs kind.To q.to)) q.to bounded.target.block.radius = tree_in g bs kind.To q.to bounded.target.block limits.is_graph all bounded.target.is in
    let path : IsFirst g q.from (reverse best.path) q.to = first_of_followed g (rows_in (block_of bs kind.From q.from)) q.from q.to bounded.source.block.radius best.path from best.follows in
    let first : IsFirst g q.from arcs q.to = subst (λ (l : List ℕ). IsFirst g q.from l q.to) (sym best.arcs) path in
    let label : IsDist g q.from q.to (Some best.row.label) = dist_from g q.from q.to (Some best.row.label) (from.exact q.to best.row best.is) in
    let same : walk_length g arcs ≡ best.row.label = IsDist-same g q.from q.to (walk_length g arcs) best.row.label (dist_of_shortest g q.from q.to arcs first.shortest) label in
    record {
      limits = limits;
      stand = all;
      source = asks.from;
      from_radius = bounded.source.block.radius;
      to_radius = bounded.target.block.radius;
      from = from;
      to = to;
      from_room = bounded.source.room;
      to_room = bounded.target.room;
      optimum = first;
      best = best.length ∙ sym same;
    }
