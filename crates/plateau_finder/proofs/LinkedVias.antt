-- The vias of one walk, by the lengths of the lists of arcs before them: between two of them each place is one, so
-- links join them.
use Rattle.std.proofs.Common.{◌≡◌, ℕ, ◌+◌, ◌<◌, ◌≤◌, List, [], ◌∷◌, ◌++◌, length, Some, sym, ap, ◌∙◌, subst, arith, length-append, append_assoc}
use Rattle.std.proofs.lemmas.List.{append-nil}
use Rattle.road_model.specs.Graph.{IsGraph, IsVertex}
use Rattle.road_model.specs.Walk.{IsWalk, walk_length}
use Rattle.road_model.specs.Dist.{IsDist}
use Rattle.road_model.specs.Canonical.{IsFirst, IsLast}
use Rattle.road_model.proofs.Walks.{cut, IsArc-at, IsWalk-end, IsWalk-inside, walk_length-append}
use Rattle.road_model.proofs.Dists.{IsDist-same, dist_of_shortest}
use Rattle.road_model.proofs.CanonicalWalks.{IsFirst-unique, IsLast-unique}
use Rattle.canonical_trees.specs.Trees.{Trees}
use Rattle.canonical_trees.proofs.CanonicalParts.{rest_of_walk, prefix_of_first, back_of_last, inside_before, inside_after}
use Rattle.plateau_finder.specs.Plateaus.{IsInBoth, IsThrough}
use Rattle.plateau_finder.specs.Links.{IsLink, IsLinkInside, HasLinkInto}
use Rattle.plateau_finder.proofs.Cuts.{Middle, between_cuts, last_item, nothing_left}

-- a vertex between two vias of a walk
pub record ViaBetween (ts : Trees) (prefix back : List ℕ) : Type 0 where
  pub vertex : ℕ
  pub is_vertex : IsVertex ts.graph.vertices vertex
  pub first : IsFirst ts.graph ts.source prefix vertex
  pub last : IsLast ts.graph vertex back ts.target
  pub inside : IsInBoth ts vertex

pub via_between : (ts : Trees) (v w : ℕ) (p one two : List ℕ) → IsGraph ts.graph → (h : IsThrough ts v p) (k : IsThrough ts w p) → IsInBoth ts v → IsInBoth ts w → k.prefix ≡ h.prefix ++ (one ++ two) → h.back ≡ (one ++ two) ++ k.back → ViaBetween ts (h.prefix ++ one) (two ++ k.back)
via_between ts v w p one two sound h k in_v in_w prefix back =
    let g = ts.graph in
    let s = ts.source in
    let t = ts.target in
    let first : IsFirst ts.graph ts.source ((h.prefix ++ one) ++ two) w = subst (λ (x : List ℕ). IsFirst ts.graph ts.source x w) (prefix ∙ sym (append_assoc h.prefix one two)) k.first in
    let last : IsLast ts.graph v (one ++ (two ++ k.back)) ts.target = subst (λ (x : List ℕ). IsLast ts.graph v x ts.target) (back ∙ append_assoc one two k.back) h.last in
    let parts = cut ts.graph (h.prefix ++ one) two ts.source w first.shortest.walk in
    let x = parts.middle in
    let on : IsWalk ts.graph v one parts.middle = rest_of_walk ts.graph h.prefix one ts.source v parts.middle parts.prefix h.first.shortest.walk in
    let first_x : IsFirst ts.graph ts.source (h.prefix ++ one) parts.middle = prefix_of_first ts.graph (h.prefix ++ one) two ts.source parts.middle w first parts.prefix in
    let last_x : IsLast ts.graph parts.middle (two ++ k.back) ts.target = back_of_last ts.graph one (two ++ k.back) v parts.middle ts.target last on in
    record {
      vertex = parts.middle;
      is_vertex = IsWalk-inside ts.graph one v parts.middle sound h.vertex on;
      first = first_x;
      last = last_x;
      inside = record {
        from = inside_before ts.graph ts.radius ts.source parts.middle w (h.prefix ++ one) two first first_x in_w.from;
        to = inside_after ts.graph ts.radius v parts.middle ts.target one (two ++ k.back) last last_x in_v.to;
      };
    }

pub middle_of : (ts : Trees) (v w : ℕ) (p : List ℕ) (h : IsThrough ts v p) (k : IsThrough ts w p) → length h.prefix ≤ length k.prefix → Middle h.prefix h.back k.prefix k.back
middle_of ts v w p h k le = between_cuts h.prefix h.back k.prefix k.back (sym h.joined ∙ k.joined) le

-- two vias at one place are one vertex
pub same_place : (ts : Trees) (v w : ℕ) (p : List ℕ) (h : IsThrough ts v p) (k : IsThrough ts w p) → length h.prefix ≡ length k.prefix → v ≡ w
same_place ts v w p h k same =
    let m = middle_of ts v w p h k (omega arith) in
    let long : length k.prefix ≡ length (h.prefix ++ m.middle) = ap (λ (l : List ℕ). length l) m.later in
    let none : m.middle ≡ [] = nothing_left m.middle (omega (arith, length-append h.prefix m.middle)) in
    let prefixes : k.prefix ≡ h.prefix = m.later ∙ (ap (λ (l : List ℕ). h.prefix ++ l) none ∙ append-nil h.prefix) in
    IsWalk-end ts.graph h.prefix ts.source v w h.first.shortest.walk (subst (λ (l : List ℕ). IsWalk ts.graph ts.source l w) prefixes k.first.shortest.walk)

pub same_front : (ts : Trees) (v : ℕ) (p q : List ℕ) (h : IsThrough ts v p) (k : IsThrough ts v q) → h.prefix ≡ k.prefix
same_front ts v p q h k = IsFirst-unique ts.graph ts.source v h.prefix k.prefix h.first k.first

-- a later via is no nearer
pub farther : (ts : Trees) (v w a b : ℕ) (p : List ℕ) (h : IsThrough ts v p) (k : IsThrough ts w p) → length h.prefix ≤ length k.prefix → IsDist ts.graph ts.source v (Some a) → IsDist ts.graph ts.source w (Some b) → a ≤ b
farther ts v w a b p h k le da db =
    let m = middle_of ts v w p h k le in
    let long : walk_length ts.graph k.prefix ≡ walk_length ts.graph (h.prefix ++ m.middle) = ap (λ (l : List ℕ). walk_length ts.graph l) m.later in
    let one : walk_length ts.graph h.prefix ≡ a = IsDist-same ts.graph ts.source v (walk_length ts.graph h.prefix) a (dist_of_shortest ts.graph ts.source v h.prefix h.first.shortest) da in
    let two : walk_length ts.graph k.prefix ≡ b = IsDist-same ts.graph ts.source w (walk_length ts.graph k.prefix) b (dist_of_shortest ts.graph ts.source w k.prefix k.first.shortest) db in
    omega (arith, walk_length-append ts.graph h.prefix m.middle)

-- out of the nearer of two vias leads a link
pub record HasLinkOut (ts : Trees) (v : ℕ) : Type 0 where
  pub head : ℕ
  pub link : IsLinkInside ts v head

later_by : (ts : Trees) (v w : ℕ) (p middle : List ℕ) → IsGraph ts.graph → (h : IsThrough ts v p) (k : IsThrough ts w p) → IsInBoth ts v → IsInBoth ts w → 1 ≤ length middle → k.prefix ≡ h.prefix ++ middle → h.back ≡ middle ++ k.back → HasLinkOut ts v
later_by ts v w p [] sound h k in_v in_w some later rest = absurd (omega arith)
later_by ts v w p (a ∷ m) sound h k in_v in_w some later rest =
    let x = via_between ts v w p (a ∷ []) m sound h k in_v in_w later rest in
    record {
      head = x.vertex;
      link = record {
        link = record {
          arc = a;
          prefix = h.prefix;
          back = m ++ k.back;
          first = h.first;
          last = subst (λ (l : List ℕ). IsLast ts.graph v l ts.target) rest h.last;
          first_on = x.first;
          last_on = x.last;
        };
        tail_inside = in_v;
        head_inside = x.inside;
      };
    }

pub later_links : (ts : Trees) (v w : ℕ) (p : List ℕ) → IsGraph ts.graph → (h : IsThrough ts v p) (k : IsThrough ts w p) → IsInBoth ts v → IsInBoth ts w → length h.prefix < length k.prefix → HasLinkOut ts v
later_links ts v w p sound h k in_v in_w lt =
    let m = middle_of ts v w p h k (omega arith) in
    let long : length k.prefix ≡ length (h.prefix ++ m.middle) = ap (λ (l : List ℕ). length l) m.later in
    later_by ts v w p m.middle sound h k in_v in_w (omega (arith, length-append h.prefix m.middle)) m.later m.rest

-- and into the farther one
earlier_by : (ts : Trees) (v w : ℕ) (p middle : List ℕ) → IsGraph ts.graph → (h : IsThrough ts v p) (k : IsThrough ts w p) → IsInBoth ts v → IsInBoth ts w → 1 ≤ length middle → k.prefix ≡ h.prefix ++ middle → h.back ≡ middle ++ k.back → HasLinkInto ts w
earlier_by ts v w p [] sound h k in_v in_w some later rest = absurd (omega arith)
earlier_by ts v w p (a ∷ m) sound h k in_v in_w some later rest =
    let l = last_item a m in
    let prefix : k.prefix ≡ h.prefix ++ (l.prefix ++ l.item ∷ []) = later ∙ ap (λ (x : List ℕ). h.prefix ++ x) l.is in
    let back : h.back ≡ (l.prefix ++ l.item ∷ []) ++ k.back = rest ∙ ap (λ (x : List ℕ). x ++ k.back) l.is in
    let x = via_between ts v w p l.prefix (l.item ∷ []) sound h k in_v in_w prefix back in
    record {
      tail = x.vertex;
      link = record {
        link = record {
          arc = l.item;
          prefix = h.prefix ++ l.prefix;
          back = k.back;
          first = x.first;
          last = x.last;
          first_on = subst (λ (y : List ℕ). IsFirst ts.graph ts.source y w) (prefix ∙ sym (append_assoc h.prefix l.prefix (l.item ∷ []))) k.first;
          last_on = k.last;
        };
        tail_inside = x.inside;
        head_inside = in_w;
      };
    }

pub earlier_links : (ts : Trees) (v w : ℕ) (p : List ℕ) → IsGraph ts.graph → (h : IsThrough ts v p) (k : IsThrough ts w p) → IsInBoth ts v → IsInBoth ts w → length h.prefix < length k.prefix → HasLinkInto ts w
earlier_links ts v w p sound h k in_v in_w lt =
    let m = middle_of ts v w p h k (omega arith) in
    let long : length k.prefix ≡ length (h.prefix ++ m.middle) = ap (λ (l : List ℕ). length l) m.later in
    earlier_by ts v w p m.middle sound h k in_v in_w (omega (arith, length-append h.prefix m.middle)) m.later m.rest

-- along a link the walk stays
pub record ThroughAfter (ts : Trees) (v before : ℕ) (p : List ℕ) : Type 0 where
  pub through : IsThrough ts v p
  pub one_more : length through.prefix ≡ before + 1

pub link_walk : (ts : Trees) (u v : ℕ) (l : IsLink ts u v) → IsWalk ts.graph u (l.arc ∷ []) v
link_walk ts u v l = rest_of_walk ts.graph l.prefix (l.arc ∷ []) ts.source u v l.first_on.shortest.walk l.first.shortest.walk

pub via_on : (ts : Trees) (u v : ℕ) (p : List ℕ) → IsGraph ts.graph → (h : IsThrough ts u p) → IsLink ts u v → ThroughAfter ts v (length h.prefix) p
via_on ts u v p sound h l =
    let prefix : h.prefix ≡ l.prefix = IsFirst-unique ts.graph ts.source u h.prefix l.prefix h.first l.first in
    let back : h.back ≡ l.arc ∷ l.back = IsLast-unique ts.graph u ts.target h.back (l.arc ∷ l.back) h.last l.last in
    let parts : p ≡ l.prefix ++ (l.arc ∷ l.back) = h.joined ∙ (ap (λ (x : List ℕ). x ++ h.back) prefix ∙ ap (λ (x : List ℕ). l.prefix ++ x) back) in
    record {
      through = record {
        vertex = IsWalk-inside ts.graph (l.arc ∷ []) u v sound h.vertex (link_walk ts u v l);
        prefix = l.prefix ++ l.arc ∷ [];
        back = l.back;
        first = l.first_on;
        last = l.last_on;
        joined = parts ∙ sym (append_assoc l.prefix (l.arc ∷ []) l.back);
      };
      one_more = omega (arith, length-append l.prefix (l.arc ∷ []), ap (λ (x : List ℕ). length x) prefix);
    }

pub record ThroughBefore (ts : Trees) (u after : ℕ) (p : List ℕ) : Type 0 where
  pub through : IsThrough ts u p
  pub one_less : length through.prefix + 1 ≡ after

pub via_before : (ts : Trees) (u v : ℕ) (p : List ℕ) → IsGraph ts.graph → (k : IsThrough ts v p) → IsLink ts u v → ThroughBefore ts u (length k.prefix) p
via_before ts u v p sound k l =
    let prefix : k.prefix ≡ l.prefix ++ l.arc ∷ [] = IsFirst-unique ts.graph ts.source v k.prefix (l.prefix ++ l.arc ∷ []) k.first l.first_on in
    let back : k.back ≡ l.back = IsLast-unique ts.graph v ts.target k.back l.back k.last l.last_on in
    let parts : p ≡ (l.prefix ++ l.arc ∷ []) ++ l.back = k.joined ∙ (ap (λ (x : List ℕ). x ++ k.back) prefix ∙ ap (λ (x : List ℕ). (l.prefix ++ l.arc ∷ []) ++ x) back) in
    let walk = link_walk ts u v l in
    record {
      through = record {
        vertex = subst (λ (x : ℕ). IsVertex ts.graph.vertices x) walk.2 (IsArc-at ts.graph l.arc walk.0 sound walk.1).tail;
        prefix = l.prefix;
        back = l.arc ∷ l.back;
        first = l.first;
        last = l.last;
        joined = parts ∙ append_assoc l.prefix (l.arc ∷ []) l.back;
      };
      one_less = omega (arith, length-append l.prefix (l.arc ∷ []), ap (λ (x : List ℕ). length x) prefix);
    }
