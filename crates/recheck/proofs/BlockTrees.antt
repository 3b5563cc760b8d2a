-- The rows of a block that stands are a tree of canonical walks to its root.
--   HasFollowed h rows root v   the arcs of the rows lead from v to the root
--   IsTree h rows root radius   the labels are the distances to the root within the radius, and the arcs give canonical walks
use Rattle.std.proofs.Common.{◌≡◌, ◌≢◌, ℕ, ◌+◌, ◌<◌, ◌≤◌, ◌⊎◌, zero, suc, List, [], ◌∷◌, reverse, Option, Some, None, refl, sym, ap, ◌∙◌, subst, arith, inl, inr, ⊎_elim}
use Rattle.std.proofs.lemmas.Bool.{cases_lt, cases_eq}
use Rattle.road_model.specs.declared.answer.Query.{Query}
use Rattle.road_model.specs.declared.rows.ArcRow.{ArcRow}
use Rattle.road_model.specs.Graph.{Graph, IsGraph, IsVertex, arc_at, length_at, row_length, reversed}
use Rattle.road_model.specs.File.{IsWithinLimits}
use Rattle.road_model.specs.Walk.{IsWalk, walk_length}
use Rattle.road_model.specs.Dist.{HasWalk, IsDist}
use Rattle.road_model.specs.Canonical.{IsFirst, IsLast}
use Rattle.road_model.specs.Fraction.{Fraction, IsRatio}
use Rattle.road_model.proofs.Walks.{IsArc-at}
use Rattle.road_model.proofs.Dists.{IsDist-same}
use Rattle.forward_star.proofs.Turned.{IsGraph-reversed, IsWalk-reversed, walk_length-reversed, IsDist-unreversed}
use Rattle.canonical_trees.specs.Tight.{IsTight, IsLeastTight}
use Rattle.canonical_trees.proofs.Canonical.{IsLast-cons, IsLast-nil}
use Rattle.canonical_trees.proofs.CanonicalParts.{within_less}
use Rattle.canonical_trees.proofs.Turned.{IsFirst-unreversed}
use Rattle.tree_search.specs.Ball.{IsWithin, IsBeyond}
use Rattle.certificate_text.specs.declared.certificate.BlockKind.{BlockKind}
use Rattle.certificate_text.specs.declared.certificate.BlockKind.TheVariants as kind
use Rattle.certificate_text.specs.declared.certificate.BlockRow.{BlockRow}
use Rattle.certificate_text.specs.declared.certificate.Block.{Block}
use Rattle.recheck.specs.Rows.{toward, row_of, block_of, rows_in, HasRowBelow, HasBlock, LeadsOn, IsTightFor, IsLeastFor, IsRootRow}
use Rattle.recheck.specs.Standing.{IsRising, RowStands, Stands, AllStand, LeadsDown, IsSound}
use Rattle.recheck.specs.Paths.{ground_of, Follows}
use Rattle.recheck.specs.Checks.{IsQuery}
use Rattle.recheck.proofs.RowLookups.{row_contained, row_vertex, row_same, no_row_of, block_contained, block_kind, block_root, rows_of_block, rising_nil}

pub record HasFollowed (h : Graph) (rows : List BlockRow) (root v : ℕ) : Type 0 where
  pub path : List ℕ
  pub follows : Follows h rows root v path

-- and the walk has the length n
record HasFollowedWalk (h : Graph) (rows : List BlockRow) (root v n : ℕ) : Type 0 where
  path : List ℕ
  follows : Follows h rows root v path
  walk : IsWalk h v path root
  long : walk_length h path ≡ n

pub record IsTree (h : Graph) (rows : List BlockRow) (root : ℕ) (radius : Option ℕ) : Type 0 where
  pub exact : (v : ℕ) (r : BlockRow) → row_of rows v ≡ Some r → IsDist h v root (Some r.label)
  pub within : (v : ℕ) (r : BlockRow) → row_of rows v ≡ Some r → IsWithin radius r.label
  pub beyond : (v : ℕ) (p : List ℕ) → row_of rows v ≡ None → IsWalk h v p root → IsBeyond radius (walk_length h p)
  pub followed : (v : ℕ) (p : List ℕ) → Follows h rows root v p → IsLast h v p root
  pub exists : (v : ℕ) (r : BlockRow) → row_of rows v ≡ Some r → HasFollowed h rows root v
  pub vertex : (v : ℕ) (r : BlockRow) → row_of rows v ≡ Some r → IsVertex h.vertices v
  pub down : LeadsDown h rows root

-- a row of the root, and another one
record IsAtRoot (root v : ℕ) (r : BlockRow) : Type 0 where
  same : v ≡ root
  none : r.arc ≡ 0
  nothing : r.label ≡ 0

record IsApart (h : Graph) (rows : List BlockRow) (root v : ℕ) (r : BlockRow) : Type 0 where
  other : v ≢ root
  tight : IsTightFor h rows r r.arc
  least : IsLeastFor h rows r

pub not_within : (radius : Option ℕ) (k : ℕ) → (IsWithin radius k → ⊥) → IsBeyond radius k
not_within None k not = not tt
not_within (Some r) k not =
    ⊎_elim
    (λ (above : r < k). above)
    (λ (low : k ≤ r). absurd (not low))
    (cases_lt r k)

module _ (h : Graph) (b : Block) (sound : IsGraph h) (s : Stands h b) where
  row_stands : (v : ℕ) (r : BlockRow) → row_of b.rows v ≡ Some r → RowStands h b r
  row_stands v r is = s.rows r (row_contained b.rows v r is)

  row_cases : (v : ℕ) (r : BlockRow) → row_of b.rows v ≡ Some r → IsAtRoot b.root v r ⊎ IsApart h b.rows b.root v r
  row_cases v r is =
      let here : RowStands h b r = row_stands v r is in
      let vertex : r.vertex ≡ v = row_vertex b.rows v r is in
      ⊎_elim
      (λ (same : v ≡ b.root).
      let none : r.arc ≡ 0 = here.root.alone.0 (vertex ∙ same) in
      let x : IsAtRoot b.root v r ⊎ IsApart h b.rows b.root v r = inl (record { same = same; none = none; nothing = here.root.nothing none }) in
      x)
      (λ (other : v ≡ b.root → ⊥).
      let some : r.arc ≡ 0 → ⊥ = λ (none : r.arc ≡ 0). other (sym vertex ∙ here.root.alone.1 none) in
      let tight : IsTightFor h b.rows r r.arc = ⊎_elim (λ (none : r.arc ≡ 0). absurd (some none)) (λ (t : IsTightFor h b.rows r r.arc). t) here.tight in
      let least : IsLeastFor h b.rows r = ⊎_elim (λ (none : r.arc ≡ 0). absurd (some none)) (λ (t : IsLeastFor h b.rows r). t) here.least in
      let x : IsAtRoot b.root v r ⊎ IsApart h b.rows b.root v r = inr (record { other = other; tight = tight; least = least }) in
      x)
      (cases_eq v b.root)

  -- a walk to the root within the radius begins at a vertex that has a row, with no greater label
  reached : (p : List ℕ) (u : ℕ) → IsWalk h u p b.root → IsWithin b.radius (walk_length h p) → HasRowBelow b.rows u (walk_length h p)
  reached [] u walk within =
      let row = s.rooted.row in
      let root : IsRootRow b.root row = (row_stands b.root row s.rooted.is).root in
      let nothing : row.label ≡ 0 = root.nothing (root.alone.0 (row_vertex b.rows b.root row s.rooted.is)) in
      let there : HasRowBelow b.rows b.root 0 = record { row = row; is = s.rooted.is; low = omega arith } in
      subst (λ (x : ℕ). HasRowBelow b.rows x 0) (sym walk) there
  reached (a ∷ p) u walk within =
      let x = walk.0 in
      let long : length_at h a ≡ x.length = ap row_length walk.1 in
      let short : walk_length h p ≤ walk_length h (a ∷ p) = omega arith in
      let next : HasRowBelow b.rows x.head (walk_length h p) = reached p x.head walk.3 (within_less b.radius (walk_length h p) (walk_length h (a ∷ p)) short within) in
      let near : next.row.label + x.length ≤ walk_length h (a ∷ p) = omega (arith, next.low) in
      let there : HasRowBelow b.rows x.tail (next.row.label + x.length) =
      s.closed next.row a x (row_contained b.rows x.head next.row next.is) walk.1 (sym (row_vertex b.rows x.head next.row next.is))
      (within_less b.radius (next.row.label + x.length) (walk_length h (a ∷ p)) near within) in
      let whole : HasRowBelow b.rows x.tail (walk_length h (a ∷ p)) = record { row = there.row; is = there.is; low = omega (arith, there.low) } in
      subst (λ (y : ℕ). HasRowBelow b.rows y (walk_length h (a ∷ p))) walk.2 whole

  positive : (r : BlockRow) (a : ℕ) (t : IsTightFor h b.rows r a) → t.leads.next.label < r.label
  positive r a t =
      let one : 1 ≤ t.leads.arc.length = (IsArc-at h a t.leads.arc sound t.leads.is).positive in
      omega (arith, t.sum)

  -- the label of a row is the length of a walk along the arcs of rows
  followed_below : (n v : ℕ) (r : BlockRow) → r.label < n → row_of b.rows v ≡ Some r → HasFollowedWalk h b.rows b.root v r.label
  followed_below zero v r lt is = absurd (omega arith)
  followed_below (suc n) v r lt is =
      ⊎_elim
      (λ (at : IsAtRoot b.root v r).
      let x : HasFollowedWalk h b.rows b.root v r.label = record { path = []; follows = at.same; walk = at.same; long = sym at.nothing } in
      x)
      (λ (apart : IsApart h b.rows b.root v r).
      let arc = apart.tight.leads.arc in
      let next = apart.tight.leads.next in
      let rest : HasFollowedWalk h b.rows b.root arc.head next.label = followed_below n arc.head next (omega (arith, positive r r.arc apart.tight)) apart.tight.leads.beyond in
      let long : length_at h r.arc ≡ arc.length = ap row_length apart.tight.leads.is in
      let x : HasFollowedWalk h b.rows b.root v r.label = record {
        path = r.arc ∷ rest.path;
        follows = (r, arc, is, refl, apart.other, apart.tight.leads.is, rest.follows);
        walk = (arc, apart.tight.leads.is, apart.tight.leads.tail ∙ row_vertex b.rows v r is, rest.walk);
        long = omega (arith, rest.long, apart.tight.sum);
      } in
      x)
      (row_cases v r is)

  followed_walk : (v : ℕ) (r : BlockRow) → row_of b.rows v ≡ Some r → HasFollowedWalk h b.rows b.root v r.label
  followed_walk v r is = followed_below (suc r.label) v r (omega arith) is

  row_exact : (v : ℕ) (r : BlockRow) → row_of b.rows v ≡ Some r → IsDist h v b.root (Some r.label)
  row_exact v r is =
      let walk : HasFollowedWalk h b.rows b.root v r.label = followed_walk v r is in (
        record { path = walk.path; walk = walk.walk; long = walk.long },
        (λ p other.
            ⊎_elim
            (λ (short : walk_length h p < r.label).
            let within : IsWithin b.radius (walk_length h p) = within_less b.radius (walk_length h p) r.label (omega arith) (row_stands v r is).radius in
            let there : HasRowBelow b.rows v (walk_length h p) = reached p v other within in
            let same : there.row.label ≡ r.label = ap (λ (x : BlockRow). x.label) (row_same b.rows v there.row r there.is is) in
            let low : r.label ≤ walk_length h p = omega (arith, there.low) in
            low)
            (λ (low : r.label ≤ walk_length h p). low)
            (cases_lt (walk_length h p) r.label)),
      )

  row_beyond : (v : ℕ) (p : List ℕ) → row_of b.rows v ≡ None → IsWalk h v p b.root → IsBeyond b.radius (walk_length h p)
  row_beyond v p none walk =
      not_within b.radius (walk_length h p)
      (λ (within : IsWithin b.radius (walk_length h p)).
      let there : HasRowBelow b.rows v (walk_length h p) = reached p v walk within in
      no_row_of b.rows v there.row none there.is)

  -- an arc that is the first of a shortest walk is tight for the row
  tight_arc : (v : ℕ) (r : BlockRow) (a : ℕ) (x : ArcRow) (k : ℕ) → row_of b.rows v ≡ Some r → IsTight h b.root v a x k → IsTightFor h b.rows r a
  tight_arc v r a x k is t =
      let sum : x.length + k ≡ r.label = IsDist-same h v b.root (x.length + k) r.label t.whole (row_exact v r is) in
      let walk : HasWalk h x.head b.root k = t.beyond.0 in
      let within : IsWithin b.radius (walk_length h walk.path) = within_less b.radius (walk_length h walk.path) r.label (omega (arith, walk.long)) (row_stands v r is).radius in
      let there : HasRowBelow b.rows x.head (walk_length h walk.path) = reached walk.path x.head walk.walk within in
      let label : there.row.label ≡ k = IsDist-same h x.head b.root there.row.label k (row_exact x.head there.row there.is) t.beyond in
      record {
        leads = record { arc = x; is = t.is; tail = t.tail ∙ sym (row_vertex b.rows v r is); next = there.row; beyond = there.is };
        sum = omega arith;
      }

  row_least : (v : ℕ) (r : BlockRow) → row_of b.rows v ≡ Some r → (apart : IsApart h b.rows b.root v r) → IsLeastTight h b.root v r.arc apart.tight.leads.arc apart.tight.leads.next.label
  row_least v r is apart =
      let arc = apart.tight.leads.arc in
      let next = apart.tight.leads.next in
      let sum : r.label ≡ arc.length + next.label = omega (arith, apart.tight.sum) in
      record {
        tight = record {
          is = apart.tight.leads.is;
          tail = apart.tight.leads.tail ∙ row_vertex b.rows v r is;
          beyond = row_exact arc.head next apart.tight.leads.beyond;
          whole = subst (λ (n : ℕ). IsDist h v b.root (Some n)) sum (row_exact v r is);
        };
        least = (λ a x k t. apart.least a (tight_arc v r a x k is t));
      }

  row_apart : (v : ℕ) (r : BlockRow) → row_of b.rows v ≡ Some r → v ≢ b.root → IsApart h b.rows b.root v r
  row_apart v r is other =
      ⊎_elim
      (λ (at : IsAtRoot b.root v r). absurd (other at.same))
      (λ (apart : IsApart h b.rows b.root v r). apart)
      (row_cases v r is)

  row_followed : (p : List ℕ) (v : ℕ) → Follows h b.rows b.root v p → IsLast h v p b.root
  row_followed [] v f = subst (λ (x : ℕ). IsLast h x [] b.root) (sym f) (IsLast-nil h b.root)
  row_followed (a ∷ p) v f =
      let r = f.0 in
      let x = f.1 in
      let apart : IsApart h b.rows b.root v r = row_apart v r f.2 f.4 in
      let arc = apart.tight.leads.arc in
      let at : arc_at h a ≡ Some arc = subst (λ (n : ℕ). arc_at h n ≡ Some arc) f.3 apart.tight.leads.is in
      let both : Some arc ≡ Some x = sym at ∙ f.5 in
      let same : arc ≡ x = cc in
      let least : IsLeastTight h b.root v r.arc arc apart.tight.leads.next.label = row_least v r f.2 apart in
      let here : IsLeastTight h b.root v a x apart.tight.leads.next.label =
      subst (λ (n : ℕ). IsLeastTight h b.root v n x apart.tight.leads.next.label) f.3
      (subst (λ (y : ArcRow). IsLeastTight h b.root v r.arc y apart.tight.leads.next.label) same least) in
      IsLast-cons h b.root v a x apart.tight.leads.next.label p sound here (row_followed p x.head f.6)

  row_inside : (v : ℕ) (r : BlockRow) → IsVertex h.vertices b.root → row_of b.rows v ≡ Some r → IsVertex h.vertices v
  row_inside v r inside is =
      ⊎_elim
      (λ (at : IsAtRoot b.root v r). subst (λ (x : ℕ). IsVertex h.vertices x) (sym at.same) inside)
      (λ (apart : IsApart h b.rows b.root v r).
      let leads : LeadsOn h b.rows r r.arc = apart.tight.leads in
      subst (λ (x : ℕ). IsVertex h.vertices x) (leads.tail ∙ row_vertex b.rows v r is) (IsArc-at h r.arc leads.arc sound leads.is).tail)
      (row_cases v r is)

  row_down : LeadsDown h b.rows b.root
  row_down = record {
    rising = s.rising;
    tight = (λ v r is other. (row_apart v r is other).tight);
    none = (λ r is. (row_stands b.root r is).root.alone.0 (row_vertex b.rows b.root r is));
  }

pub tree_of_standing : (h : Graph) (b : Block) → IsGraph h → IsVertex h.vertices b.root → Stands h b → IsTree h b.rows b.root b.radius
tree_of_standing h b sound inside s =
    record {
      exact = row_exact h b sound s;
      within = (λ v r is. (row_stands h b sound s v r is).radius);
      beyond = row_beyond h b sound s;
      followed = (λ v p f. row_followed h b sound s p v f);
      exists = (λ v r is.
          let walk : HasFollowedWalk h b.rows b.root v r.label = followed_walk h b sound s v r is in
          record { path = walk.path; follows = walk.follows });
      vertex = (λ v r is. row_inside h b sound s v r inside is);
      down = row_down h b sound s;
    }

toward_sound : (k : BlockKind) (g : Graph) → IsGraph g → IsGraph (toward k g)
toward_sound kind.From g sound = IsGraph-reversed g sound
toward_sound kind.To g sound = sound

toward_inside : (k : BlockKind) (g : Graph) (v : ℕ) → IsVertex g.vertices v → IsVertex (toward k g).vertices v
toward_inside kind.From g v inside = inside
toward_inside kind.To g v inside = inside

pub tree_at : (g : Graph) (bs : List Block) (k : BlockKind) (root : ℕ) (b : Block) → IsGraph g → AllStand g bs → block_of bs k root ≡ Some b → IsTree (toward k g) b.rows root b.radius
tree_at g bs k root b sound all is =
    let there = block_contained bs k root b is in
    let tree : IsTree (toward b.kind g) b.rows b.root b.radius =
    tree_of_standing (toward b.kind g) b (toward_sound b.kind g sound) (toward_inside b.kind g b.root (all.roots b there)) (all.stand b there) in
    subst (λ (x : BlockKind). IsTree (toward x g) b.rows root b.radius) (block_kind bs k root b is)
    (subst (λ (x : ℕ). IsTree (toward b.kind g) b.rows x b.radius) (block_root bs k root b is) tree)

-- the same, of the rows that a lookup of the block gives
pub tree_in : (g : Graph) (bs : List Block) (k : BlockKind) (root : ℕ) (b : Block) → IsGraph g → AllStand g bs → block_of bs k root ≡ Some b → IsTree (toward k g) (rows_in (block_of bs k root)) root b.radius
tree_in g bs k root b sound all is =
    subst (λ (rows : List BlockRow). IsTree (toward k g) rows root b.radius) (sym (rows_of_block bs k root b is)) (tree_at g bs k root b sound all is)

-- the arcs of the rows give one path
pub Follows-unique : (h : Graph) (rows : List BlockRow) (root v : ℕ) (p q : List ℕ) → Follows h rows root v p → Follows h rows root v q → p ≡ q
Follows-unique h rows root v [] [] a b = refl
Follows-unique h rows root v [] (y ∷ q) a b = absurd (b.4 a)
Follows-unique h rows root v (x ∷ p) [] a b = absurd (a.4 b)
Follows-unique h rows root v (x ∷ p) (y ∷ q) a b =
    let row : a.0 ≡ b.0 = row_same rows v a.0 b.0 a.2 b.2 in
    let arc : x ≡ y = sym a.3 ∙ ap (λ (r : BlockRow). r.arc) row ∙ b.3 in
    let arcs : Some a.1 ≡ Some b.1 = sym a.5 ∙ ap (λ (n : ℕ). arc_at h n) arc ∙ b.5 in
    let same : a.1 ≡ b.1 = cc in
    let rest : p ≡ q = Follows-unique h rows root a.1.head p q a.6 (subst (λ (r : ArcRow). Follows h rows root r.head q) (sym same) b.6) in
    cc

-- walks from a source, read backwards
pub first_of_followed : (g : Graph) (rows : List BlockRow) (s v : ℕ) (radius : Option ℕ) (p : List ℕ) → IsTree (reversed g) rows s radius → Follows (reversed g) rows s v p → IsFirst g s (reverse p) v
first_of_followed g rows s v radius p tree f = IsFirst-unreversed g s v p (tree.followed v p f)

pub dist_from : (g : Graph) (s v : ℕ) (d : Option ℕ) → IsDist (reversed g) v s d → IsDist g s v d
dist_from g s v d h = IsDist-unreversed g v s d h

-- a walk from the source to a vertex without a row is beyond the radius
pub beyond_from : (g : Graph) (rows : List BlockRow) (s v : ℕ) (radius : Option ℕ) (p : List ℕ) → IsTree (reversed g) rows s radius → row_of rows v ≡ None → IsWalk g s p v → IsBeyond radius (walk_length g p)
beyond_from g rows s v radius p tree none walk =
    subst (λ (n : ℕ). IsBeyond radius n) (walk_length-reversed g p)
    (tree.beyond v (reverse p) none (IsWalk-reversed g p s v walk))

pub rise_in : (g : Graph) (bs : List Block) (k : BlockKind) (root : ℕ) (o : Option Block) → AllStand g bs → block_of bs k root ≡ o → IsRising (rows_in o)
rise_in g bs k root None all is = rising_nil
rise_in g bs k root (Some b) all is = (all.stand b (block_contained bs k root b is)).rising

fine_ratio : (f : Fraction) → IsRatio 1 f → IsRatio 4 f
fine_ratio f h = record { positive = h.positive; fine = h.fine; capped = omega (arith, h.capped) }

pub sound_ground : (g : Graph) (q : Query) (bs : List Block) (length : ℕ) (arcs : List ℕ) → AllStand g bs → IsWithinLimits g → IsQuery g q → HasBlock bs kind.From q.from → HasBlock bs kind.To q.to → IsSound (ground_of g q bs length arcs)
sound_ground g q bs length arcs all limits asks from to =
    record {
      limits = limits;
      from = (tree_in g bs kind.From q.from from.block limits.is_graph all from.is).down;
      to = (tree_in g bs kind.To q.to to.block limits.is_graph all to.is).down;
      rise = (λ k root. rise_in g bs k root (block_of bs k root) all refl);
      gamma = fine_ratio q.gamma asks.gamma;
      alpha = fine_ratio q.alpha asks.alpha;
      epsilon = asks.epsilon;
    }
