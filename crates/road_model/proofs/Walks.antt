-- Walks joined, cut and measured.
use Rattle.std.proofs.Common.{◌≡◌, ℕ, ◌+◌, ◌<◌, ◌≤◌, zero, suc, List, [], ◌∷◌, ◌++◌, length, Some, None, refl, sym, ap, ◌∙◌, subst, arith, Option}
use Rattle.std.proofs.lemmas.Option.{slice_get_within, get_or_from_slice_get}
use Rattle.std.proofs.lemmas.List.Sums.{sum_by-cons}
use Rattle.std.specs.List.{sum_by}
use Rattle.road_model.specs.declared.rows.ArcRow.{ArcRow}
use Rattle.road_model.specs.Graph.{Graph, arc_at, length_at, row_length, IsVertex, IsArc, IsGraph, LengthsBelow}
use Rattle.road_model.specs.Walk.{IsWalk, walk_length}
use Rattle.road_model.specs.File.{IsWithinLimits}

pub IsWalk-append : (g : Graph) (p q : List ℕ) (u v w : ℕ) → IsWalk g u p v → IsWalk g v q w → IsWalk g u (p ++ q) w
IsWalk-append g [] q u v w h k = subst (λ (x : ℕ). IsWalk g x q w) (sym h) k
IsWalk-append g (a ∷ p) q u v w h k = (h.0, h.1, h.2, IsWalk-append g p q h.0.head v w h.3 k)

-- a walk that goes on through a middle vertex
pub record Cut (g : Graph) (u : ℕ) (p q : List ℕ) (w : ℕ) : Type 0 where
  pub middle : ℕ
  pub prefix : IsWalk g u p middle
  pub back : IsWalk g middle q w

pub cut : (g : Graph) (p q : List ℕ) (u w : ℕ) → IsWalk g u (p ++ q) w → Cut g u p q w
cut g [] q u w h = record { middle = u; prefix = refl; back = h }
cut g (a ∷ p) q u w h =
    let rest = cut g p q h.0.head w h.3 in
    record { middle = rest.middle; prefix = (h.0, h.1, h.2, rest.prefix); back = rest.back }

pub walk_length-append : (g : Graph) (p q : List ℕ) → walk_length g (p ++ q) ≡ walk_length g p + walk_length g q
walk_length-append g [] q = omega arith
walk_length-append g (a ∷ p) q = omega (arith, walk_length-append g p q)

-- where a walk ends is settled by its arcs and its beginning
pub IsWalk-end : (g : Graph) (p : List ℕ) (u v w : ℕ) → IsWalk g u p v → IsWalk g u p w → v ≡ w
IsWalk-end g [] u v w h k = sym h ∙ k
IsWalk-end g (a ∷ p) u v w h k =
    let same : Some h.0 ≡ Some k.0 = sym h.1 ∙ k.1 in
    let row : h.0 ≡ k.0 = cc in
    IsWalk-end g p h.0.head v w h.3 (subst (λ (r : ArcRow). IsWalk g r.head p w) (sym row) k.3)

-- and where it begins, if it has an arc
pub IsWalk-start : (g : Graph) (a : ℕ) (p q : List ℕ) (u v w x : ℕ) → IsWalk g u (a ∷ p) v → IsWalk g w (a ∷ q) x → u ≡ w
IsWalk-start g a p q u v w x h k =
    let same : Some h.0 ≡ Some k.0 = sym h.1 ∙ k.1 in
    let row : h.0 ≡ k.0 = cc in
    let t : h.0.tail ≡ u = h.2 in
    let s : k.0.tail ≡ w = k.2 in
    cc

pub IsWalk-push : (g : Graph) (p : List ℕ) (u v a : ℕ) (r : ArcRow) → IsWalk g u p v → arc_at g a ≡ Some r → r.tail ≡ v → IsWalk g u (p ++ a ∷ []) r.head
IsWalk-push g p u v a r h is tail = IsWalk-append g p (a ∷ []) u v r.head h (r, is, tail, refl)

-- an arc that is there is one of the graph's
pub IsArc-at : (g : Graph) (a : ℕ) (r : ArcRow) → IsGraph g → arc_at g a ≡ Some r → IsArc g.vertices r
IsArc-at g zero r sound is = absurd (let e : None ≡ Some r = is in cc)
IsArc-at g (suc k) r sound is =
    let inside : k < length g.arcs = slice_get_within g.arcs k r is in
    subst (λ (x : ArcRow). IsArc g.vertices x) (get_or_from_slice_get g.arcs k r r is) (sound k r inside)

pub IsWalk-inside : (g : Graph) (p : List ℕ) (u v : ℕ) → IsGraph g → IsVertex g.vertices u → IsWalk g u p v → IsVertex g.vertices v
IsWalk-inside g [] u v sound inside h = subst (λ (x : ℕ). IsVertex g.vertices x) h inside
IsWalk-inside g (a ∷ p) u v sound inside h =
    IsWalk-inside g p h.0.head v sound (IsArc-at g a h.0 sound h.1).head h.3

-- each arc of a walk is 1 long at least, so a walk without length has no arc
pub walk_length-positive : (g : Graph) (a : ℕ) (p : List ℕ) (u v : ℕ) → IsGraph g → IsWalk g u (a ∷ p) v → 1 ≤ walk_length g (a ∷ p)
walk_length-positive g a p u v sound h =
    let one : 1 ≤ h.0.length = (IsArc-at g a h.0 sound h.1).positive in
    let is : length_at g a ≡ h.0.length = ap row_length h.1 in
    omega arith

abbrev pub row_tail : Option ArcRow → ℕ
row_tail None = 0
row_tail (Some r) = r.tail

pub length_at-below : (g : Graph) (m a : ℕ) (r : ArcRow) → LengthsBelow g m → arc_at g a ≡ Some r → r.length < m
length_at-below g m zero r short is = absurd (let e : None ≡ Some r = is in cc)
length_at-below g m (suc k) r short is =
    let inside : k < length g.arcs = slice_get_within g.arcs k r is in
    subst (λ (x : ArcRow). x.length < m) (get_or_from_slice_get g.arcs k r r is) (short k r inside)

pub sound_of : (g h : Graph) → h ≡ g → IsWithinLimits h → IsGraph g
sound_of g h same limits = subst (λ (x : Graph). IsGraph x) same limits.is_graph

pub walk_length-sum_by : (g : Graph) (p : List ℕ) → walk_length g p ≡ sum_by (λ a. length_at g a) p
walk_length-sum_by g [] = refl
walk_length-sum_by g (a ∷ p) =
    ap (λ (n : ℕ). length_at g a + n) (walk_length-sum_by g p) ∙ sym (sum_by-cons (λ x. length_at g x) a p)
