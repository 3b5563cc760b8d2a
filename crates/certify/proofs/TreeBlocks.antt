-- A tree's block passes its checks.
--   IsOwnTree h rows root radius   the rows are the canonical tree of the root within the radius
use Rattle.std.proofs.Common.{◌≡◌, ℕ, ◌+◌, ◌<◌, ◌≤◌, ◌⊎◌, List, [], ◌∷◌, length, Option, Some, None, refl, sym, ap, subst, arith, inl, inr, ⊎_elim}
use Rattle.std.specs.List.{Contains}
use Rattle.road_model.specs.declared.rows.ArcRow.{ArcRow}
use Rattle.road_model.specs.Graph.{Graph, IsGraph, IsVertex, arc_at, length_at, row_length}
use Rattle.road_model.specs.Walk.{IsWalk, walk_length}
use Rattle.road_model.specs.Dist.{IsDist, IsShortest}
use Rattle.road_model.specs.Canonical.{LexLe}
use Rattle.road_model.proofs.Walks.{IsArc-at}
use Rattle.road_model.proofs.Dists.{IsDist-itself, IsDist-same, shortest_of_dist}
use Rattle.forward_star.proofs.Turned.{IsGraph-reversed}
use Rattle.tree_search.specs.Ball.{IsWithin}
use Rattle.canonical_trees.specs.Tight.{IsTight}
use Rattle.canonical_trees.proofs.Canonical.{Begins, begins, IsTight-shortest}
use Rattle.canonical_trees.proofs.CanonicalParts.{within_less}
use Rattle.certificate_text.specs.declared.certificate.BlockKind.{BlockKind}
use Rattle.certificate_text.specs.declared.certificate.BlockKind.TheVariants as kind
use Rattle.certificate_text.specs.declared.certificate.BlockRow.{BlockRow}
use Rattle.certificate_text.specs.declared.certificate.Block.{Block}
use Rattle.recheck.specs.Rows.{toward, row_of, block_of, HasRow, HasRowBelow, LeadsOn, IsTightFor, IsLeastFor, IsRootRow, IsClosed}
use Rattle.recheck.specs.Standing.{IsRising}
use Rattle.recheck.specs.Checks.{done, FindsFirst, rows_checks, end_checks, block_checks}
use Rattle.recheck.proofs.Firsts.{rows_split}
use Rattle.recheck.proofs.RowLookups.{contains_first, contains_later, row_contained, row_vertex, row_or_none, no_row_of, rising_tail, rising_first}
use Rattle.recheck.proofs.TrueReasons.{has_dist}
use Rattle.certify.specs.Written.{HasFirstArc, IsOwnRow, IsTreeBlock}

pub record IsOwnTree (h : Graph) (rows : List BlockRow) (root : ℕ) (radius : Option ℕ) : Type 0 where
  pub rising : IsRising rows
  pub each : (r : BlockRow) → Contains rows r → IsOwnRow h root r × IsWithin radius r.label
  pub every : (v d : ℕ) → IsDist h v root (Some d) → IsWithin radius d → HasRow rows v

-- where a walk to a vertex begins
pub vertex_of_walk : (h : Graph) (p : List ℕ) (u v : ℕ) → IsGraph h → IsVertex h.vertices v → IsWalk h u p v → IsVertex h.vertices u
vertex_of_walk h [] u v sound inside walk = subst (λ (x : ℕ). IsVertex h.vertices x) (sym walk) inside
vertex_of_walk h (a ∷ p) u v sound inside walk =
    subst (λ (x : ℕ). IsVertex h.vertices x) walk.2 (IsArc-at h a walk.0 sound walk.1).tail

-- no arc has the number 0
no_arc_of_none : {P : Type 0} (h : Graph) (a : ℕ) (x : ArcRow) → a ≡ 0 → arc_at h a ≡ Some x → P
no_arc_of_none h a x zero is = absurd (let e : None ≡ Some x = subst (λ (n : ℕ). arc_at h n ≡ Some x) zero is in cc)

module _ (h : Graph) (rows : List BlockRow) (root : ℕ) (radius : Option ℕ) (sound : IsGraph h) (inside : IsVertex h.vertices root) (t : IsOwnTree h rows root radius) where
  own_row : (r : BlockRow) → Contains rows r → IsOwnRow h root r
  own_row r there = (t.each r there).0

  pub row_exact : (v : ℕ) (r : BlockRow) → row_of rows v ≡ Some r → IsDist h v root (Some r.label)
  row_exact v r is = subst (λ (x : ℕ). IsDist h x root (Some r.label)) (row_vertex rows v r is) (own_row r (row_contained rows v r is)).dist

  own_vertex : (r : BlockRow) → Contains rows r → IsVertex h.vertices r.vertex
  own_vertex r there =
      let d : IsDist h r.vertex root (Some r.label) = (own_row r there).dist in
      vertex_of_walk h d.0.path r.vertex root sound inside d.0.walk

  row_inside : (v : ℕ) (r : BlockRow) → row_of rows v ≡ Some r → IsVertex h.vertices v
  row_inside v r is = subst (λ (x : ℕ). IsVertex h.vertices x) (row_vertex rows v r is) (own_vertex r (row_contained rows v r is))

  -- where a walk leads to the root within the radius, there is a row
  pub row_below : (v : ℕ) (p : List ℕ) → IsWalk h v p root → IsWithin radius (walk_length h p) → HasRowBelow rows v (walk_length h p)
  row_below v p walk within =
      ⊎_elim
      (λ (there : HasRow rows v).
      let r : HasRowBelow rows v (walk_length h p) = record { row = there.row; is = there.is; low = (row_exact v there.row there.is).1 p walk } in
      r)
      (λ (none : row_of rows v ≡ None). absurd (has_dist h v root p walk
      (λ d dist.
      let within_too : IsWithin radius d = within_less radius d (walk_length h p) (dist.1 p walk) within in
      let there : HasRow rows v = t.every v d dist within_too in
      no_row_of rows v there.row none there.is)))
      (row_or_none rows v)

  root_row : (r : BlockRow) → Contains rows r → IsRootRow root r
  root_row r there =
      let own : IsOwnRow h root r = own_row r there in
      let none : r.vertex ≡ root → r.arc ≡ 0 = λ (e : r.vertex ≡ root).
      ⊎_elim
      (λ (at : (r.vertex ≡ root) × (r.arc ≡ 0)). at.1)
      (λ (apart : HasFirstArc h root r). absurd (apart.other e))
      own.arc in
      let at_root : r.arc ≡ 0 → r.vertex ≡ root = λ (zero : r.arc ≡ 0).
      ⊎_elim
      (λ (at : (r.vertex ≡ root) × (r.arc ≡ 0)). at.0)
      (λ (apart : HasFirstArc h root r).
      let walk : IsWalk h r.vertex (r.arc ∷ apart.back) root = apart.path.shortest.walk in
      no_arc_of_none h r.arc walk.0 zero walk.1)
      own.arc in
      record {
        alone = (none, at_root);
        nothing = (λ zero.
            let low : r.label ≤ 0 = own.dist.1 [] (at_root zero) in
            omega arith);
      }

  tight_row : (r : BlockRow) → Contains rows r → HasFirstArc h root r → IsTightFor h rows r r.arc
  tight_row r there apart =
      let own : IsOwnRow h root r = own_row r there in
      let b : Begins h root r.vertex r.arc apart.back = begins h root r.vertex r.arc apart.back apart.path.shortest in
      let sum : b.row.length + walk_length h apart.back ≡ r.label = IsDist-same h r.vertex root (b.row.length + walk_length h apart.back) r.label b.tight.whole own.dist in
      let within : IsWithin radius (walk_length h apart.back) = within_less radius (walk_length h apart.back) r.label (omega arith) (t.each r there).1 in
      let next : HasRow rows b.row.head = t.every b.row.head (walk_length h apart.back) b.tight.beyond within in
      let label : next.row.label ≡ walk_length h apart.back = IsDist-same h b.row.head root next.row.label (walk_length h apart.back) (row_exact b.row.head next.row next.is) b.tight.beyond in
      record {
        leads = record { arc = b.row; is = b.tight.is; tail = b.tight.tail; next = next.row; beyond = next.is };
        sum = omega arith;
      }

  -- another tight arc begins a shortest walk too
  least_row : (r : BlockRow) → Contains rows r → HasFirstArc h root r → IsLeastFor h rows r
  least_row r there apart b tight =
      let own : IsOwnRow h root r = own_row r there in
      let arc = tight.leads.arc in
      let next = tight.leads.next in
      let dist : IsDist h arc.head root (Some next.label) = row_exact arc.head next tight.leads.beyond in
      let sum : r.label ≡ arc.length + next.label = omega (arith, tight.sum) in
      let short : IsShortest h arc.head dist.0.path root = shortest_of_dist h arc.head root next.label dist.0.path dist dist.0.walk dist.0.long in
      let is_tight : IsTight h root r.vertex b arc next.label = record {
        is = tight.leads.is;
        tail = tight.leads.tail;
        beyond = dist;
        whole = subst (λ (n : ℕ). IsDist h r.vertex root (Some n)) sum own.dist;
      } in
      let whole : IsShortest h r.vertex (b ∷ dist.0.path) root = IsTight-shortest h root r.vertex b arc next.label dist.0.path is_tight short in
      let first : LexLe (r.arc ∷ apart.back) (b ∷ dist.0.path) = apart.path.least (b ∷ dist.0.path) whole in
      ⊎_elim
      (λ (less : r.arc < b). let low : r.arc ≤ b = omega arith in low)
      (λ (same : (r.arc ≡ b) × LexLe apart.back dist.0.path). let low : r.arc ≤ b = omega (arith, same.0) in low)
      first

  row_leads : (r : BlockRow) → Contains rows r → (r.arc ≡ 0) ⊎ LeadsOn h rows r r.arc
  row_leads r there =
      ⊎_elim
      (λ (at : (r.vertex ≡ root) × (r.arc ≡ 0)). inl at.1)
      (λ (apart : HasFirstArc h root r). inr (tight_row r there apart).leads)
      (own_row r there).arc

  row_tight : (r : BlockRow) → Contains rows r → (r.arc ≡ 0) ⊎ IsTightFor h rows r r.arc
  row_tight r there =
      ⊎_elim
      (λ (at : (r.vertex ≡ root) × (r.arc ≡ 0)). inl at.1)
      (λ (apart : HasFirstArc h root r). inr (tight_row r there apart))
      (own_row r there).arc

  row_least : (r : BlockRow) → Contains rows r → (r.arc ≡ 0) ⊎ IsLeastFor h rows r
  row_least r there =
      ⊎_elim
      (λ (at : (r.vertex ≡ root) × (r.arc ≡ 0)). inl at.1)
      (λ (apart : HasFirstArc h root r). inr (least_row r there apart))
      (own_row r there).arc

  rows_closed : IsClosed h radius rows
  rows_closed r a x there is head within =
      let d : IsDist h r.vertex root (Some r.label) = (own_row r there).dist in
      let long : length_at h a ≡ x.length = ap row_length is in
      let sum : walk_length h (a ∷ d.0.path) ≡ r.label + x.length = omega (arith, d.0.long) in
      let walk : IsWalk h x.tail (a ∷ d.0.path) root = (x, is, refl, subst (λ (v : ℕ). IsWalk h v d.0.path root) (sym head) d.0.walk) in
      let below : HasRowBelow rows x.tail (walk_length h (a ∷ d.0.path)) = row_below x.tail (a ∷ d.0.path) walk (subst (λ (n : ℕ). IsWithin radius n) (sym sum) within) in
      subst (λ (n : ℕ). HasRowBelow rows x.tail n) sum below

within_zero : (radius : Option ℕ) → IsWithin radius 0
within_zero None = tt
within_zero (Some r) = omega arith

rows_pass : (h : Graph) (b : Block) (line before : ℕ) (rs : List BlockRow) → IsGraph h → IsVertex h.vertices b.root → IsOwnTree h b.rows b.root b.radius → IsRising rs → ((r : BlockRow) → Contains rs r → Contains b.rows r) → ((r : BlockRow) → Contains rs r → before < r.vertex) → FindsFirst (rows_checks h b line before rs done) None
rows_pass h b line before [] sound inside t rising of above = tt
rows_pass h b line before (r ∷ rs) sound inside t rising of above =
    let first : Contains (r ∷ rs) r = contains_first r rs in
    let there : Contains b.rows r = of r first in
    let later : FindsFirst (rows_checks h b (line + 1) r.vertex rs done) None =
    rows_pass h b (line + 1) r.vertex rs sound inside t (rising_tail r rs rising) (λ x after. of x (contains_later r x rs after)) (λ x after. rising_first r x rs rising after) in
    let vertex : IsVertex h.vertices r.vertex = own_vertex h b.rows b.root b.radius sound inside t r there in
    let root : IsRootRow b.root r = root_row h b.rows b.root b.radius sound inside t r there in
    let leads : (r.arc ≡ 0) ⊎ LeadsOn h b.rows r r.arc = row_leads h b.rows b.root b.radius sound inside t r there in
    let tight : (r.arc ≡ 0) ⊎ IsTightFor h b.rows r r.arc = row_tight h b.rows b.root b.radius sound inside t r there in
    let least : (r.arc ≡ 0) ⊎ IsLeastFor h b.rows r = row_least h b.rows b.root b.radius sound inside t r there in
    ((vertex, above r first), ((t.each r there).1, (root, (leads, (tight, (least, later))))))

-- the tree of a block, in the words of the block

toward_sound : (k : BlockKind) (g : Graph) → IsGraph g → IsGraph (toward k g)
toward_sound kind.From g sound = IsGraph-reversed g sound
toward_sound kind.To g sound = sound

toward_inside : (k : BlockKind) (g : Graph) (v : ℕ) → IsVertex g.vertices v → IsVertex (toward k g).vertices v
toward_inside kind.From g v inside = inside
toward_inside kind.To g v inside = inside

pub own_tree : (g : Graph) (k : BlockKind) (root : ℕ) (radius : Option ℕ) (b : Block) → IsTreeBlock g k root radius b → IsOwnTree (toward k g) b.rows root radius
own_tree g k root radius b t = record { rising = t.rising; each = t.each; every = t.every }

block_tree : (g : Graph) (k : BlockKind) (root : ℕ) (radius : Option ℕ) (b : Block) → IsTreeBlock g k root radius b → IsOwnTree (toward b.kind g) b.rows b.root b.radius
block_tree g k root radius b t =
    subst (λ (x : BlockKind). IsOwnTree (toward x g) b.rows b.root b.radius) (sym t.is_kind)
    (subst (λ (x : ℕ). IsOwnTree (toward k g) b.rows x b.radius) (sym t.is_root)
    (subst (λ (x : Option ℕ). IsOwnTree (toward k g) b.rows root x) (sym t.is_radius) (own_tree g k root radius b t)))

pub tree_block_passes : (g : Graph) (earlier : List Block) (line : ℕ) (k : BlockKind) (root : ℕ) (radius : Option ℕ) (b : Block) → IsGraph g → IsVertex g.vertices root → IsTreeBlock g k root radius b → block_of earlier k root ≡ None → FindsFirst (block_checks g earlier line b done) None
tree_block_passes g earlier line k root radius b sound inside t none =
    let h : Graph = toward b.kind g in
    let tree : IsOwnTree (toward b.kind g) b.rows b.root b.radius = block_tree g k root radius b t in
    let vertex : IsVertex g.vertices b.root = subst (λ (x : ℕ). IsVertex g.vertices x) (sym t.is_root) inside in
    let sound_too : IsGraph (toward b.kind g) = toward_sound b.kind g sound in
    let inside_too : IsVertex (toward b.kind g).vertices b.root = toward_inside b.kind g b.root vertex in
    let new : block_of earlier b.kind b.root ≡ None =
    subst (λ (x : BlockKind). block_of earlier x b.root ≡ None) (sym t.is_kind) (subst (λ (x : ℕ). block_of earlier k x ≡ None) (sym t.is_root) none) in
    let rows : FindsFirst (rows_checks h b (line + 1) 0 b.rows done) None =
    rows_pass h b (line + 1) 0 b.rows sound_too inside_too tree tree.rising (λ r there. there)
    (λ r there.
    let v : IsVertex h.vertices r.vertex = own_vertex h b.rows b.root b.radius sound_too inside_too tree r there in
    v.first) in
    let rooted : HasRow b.rows b.root = tree.every b.root 0 (IsDist-itself (toward b.kind g) b.root) (within_zero b.radius) in
    let closed : IsClosed h b.radius b.rows = rows_closed h b.rows b.root b.radius sound_too inside_too tree in
    let end : FindsFirst (end_checks h b (line + 1 + length b.rows) done) None = (rooted, (closed, tt)) in
    ((vertex, new), rows_split h b (line + 1) 0 b.rows (end_checks h b (line + 1 + length b.rows) done) None rows end)
