-- The places of two shortest walks, joined at a via.
use Rattle.std.proofs.Common.{◌≡◌, ℕ, ◌+◌, ◌<◌, ◌≤◌, ◌^◌, zero, suc, List, [], ◌∷◌, ◌++◌, length, get_or, Some, None, refl, sym, subst, arith, length-append}
use Rattle.road_model.specs.declared.trail.Trail.{Trail}
use Rattle.road_model.specs.Graph.{Graph, IsGraph, IsVertex, length_at}
use Rattle.road_model.specs.Walk.{IsWalk}
use Rattle.road_model.specs.Dist.{IsShortest, HaveSameDist}
use Rattle.road_model.specs.Places.{places, sums, trail_of, vertex_at, between, IsDistAt}
use Rattle.road_model.specs.ViaWalk.{IsViaWalk}
use Rattle.road_model.proofs.Walks.{IsWalk-append, IsWalk-inside, walk_length-append}
use Rattle.road_model.proofs.Parts.{length-places, length-sums, place_after, Parted, parted, dist_in_prefix, dist_in_back, sums_low}
use Rattle.path_tests.specs.JoinedTrail.{IsJoinedTrail}

sums_first : (g : Graph) (k : ℕ) (p : List ℕ) → k ≡ get_or (sums g k p) 0 0
sums_first g k [] = refl
sums_first g k (a ∷ p) = refl

sums_rise : (g : Graph) (k : ℕ) (p : List ℕ) (i j : ℕ) → i ≤ j → j ≤ length p → get_or (sums g k p) i 0 ≤ get_or (sums g k p) j 0
sums_rise g k p zero j le inside =
    subst (λ (x : ℕ). x ≤ get_or (sums g k p) j 0) (sums_first g k p) (sums_low g k p j inside)
sums_rise g k p (suc i) zero le inside = absurd (omega arith)
sums_rise g k [] (suc i) (suc j) le inside = absurd (omega arith)
sums_rise g k (a ∷ p) (suc i) (suc j) le inside =
    sums_rise g (k + length_at g a) p i j (omega arith) (omega arith)

-- each place of a walk is a vertex of its graph
place_inside : (g : Graph) (u e : ℕ) (p : List ℕ) (i : ℕ) → IsGraph g → IsVertex g.vertices u → IsWalk g u p e → i ≤ length p → IsVertex g.vertices (vertex_at (trail_of g u p) i)
place_inside g u e p i sound inside walk le =
    let prefix : Parted g u p 0 i = parted g u e p 0 i walk (omega arith) le in
    let start : vertex_at (trail_of g u p) 0 ≡ u = place_after g [] p u u refl in
    IsWalk-inside g prefix.part u (vertex_at (trail_of g u p) i) sound inside
    (subst (λ (x : ℕ). IsWalk g x prefix.part (vertex_at (trail_of g u p) i)) start prefix.walk)

-- within a subpath as long as the distance between its ends, each subpath is as long as that between its own
inner_part : (g : Graph) (u e : ℕ) (p : List ℕ) (i a b j : ℕ) → IsWalk g u p e → i ≤ a → a ≤ b → b ≤ j → j ≤ length p → IsDistAt g (trail_of g u p) i j (between (trail_of g u p) i j) → IsDistAt g (trail_of g u p) a b (between (trail_of g u p) a b)
inner_part g u e p i a b j walk ia ab bj inside h =
    let t : Trail = trail_of g u p in
    let before : Parted g u p i a = parted g u e p i a walk ia (omega arith) in
    let middle : Parted g u p a b = parted g u e p a b walk ab (omega arith) in
    let beyond : Parted g u p b j = parted g u e p b j walk bj inside in
    let low = sums_rise g 0 p i a ia (omega arith) in
    let mid = sums_rise g 0 p a b ab (omega arith) in
    let high = sums_rise g 0 p b j bj inside in (
      record { path = middle.part; walk = middle.walk; long = middle.long },
      (λ q other.
          let rest : IsWalk g (vertex_at (trail_of g u p) a) (q ++ beyond.part) (vertex_at (trail_of g u p) j) = IsWalk-append g q beyond.part (vertex_at (trail_of g u p) a) (vertex_at (trail_of g u p) b) (vertex_at (trail_of g u p) j) other beyond.walk in
          let whole = h.1 (before.part ++ (q ++ beyond.part)) (IsWalk-append g before.part (q ++ beyond.part) (vertex_at (trail_of g u p) i) (vertex_at (trail_of g u p) a) (vertex_at (trail_of g u p) j) before.walk rest) in
          omega (arith, walk_length-append g before.part (q ++ beyond.part), walk_length-append g q beyond.part, before.long, beyond.long)),
    )

joined_walks : (o g : Graph) (s m e : ℕ) (f b : List ℕ) → HaveSameDist g o → IsGraph g → IsVertex g.vertices s → IsShortest g s f m → IsShortest g m b e → length (f ++ b) + 1 < 2 ^ 32 → IsJoinedTrail o (trail_of g s (f ++ b)) (length f)
joined_walks o g s m e f b same sound inside prefix back few =
    let walk : IsWalk g s (f ++ b) e = IsWalk-append g f b s m e prefix.walk back.walk in
    let long : length (places g s (f ++ b)) ≡ length (f ++ b) + 1 = length-places g s (f ++ b) in
    let sums_long : length (sums g 0 (f ++ b)) ≡ length (f ++ b) + 1 = length-sums g 0 (f ++ b) in
    let parts : length (f ++ b) ≡ length f + length b = length-append f b in
    record {
      via_inside = omega arith;
      same_length = omega arith;
      few = omega arith;
      rising = (λ i j le lt. sums_rise g 0 (f ++ b) i j le (omega arith));
      vertices = (λ i lt. subst (λ (n : ℕ). IsVertex n (vertex_at (trail_of g s (f ++ b)) i)) same.vertices (place_inside g s e (f ++ b) i sound inside walk (omega arith)));
      reached = (λ i j le lt none.
          let part : Parted g s (f ++ b) i j = parted g s e (f ++ b) i j walk le (omega arith) in
          (same.dist (vertex_at (trail_of g s (f ++ b)) i) (vertex_at (trail_of g s (f ++ b)) j) None).1 none part.part part.walk);
      prefix = (λ i j le lt. (same.dist (vertex_at (trail_of g s (f ++ b)) i) (vertex_at (trail_of g s (f ++ b)) j) (Some (between (trail_of g s (f ++ b)) i j))).0 (dist_in_prefix g s m f b i j prefix le lt));
      back = (λ i j beyond le lt. (same.dist (vertex_at (trail_of g s (f ++ b)) i) (vertex_at (trail_of g s (f ++ b)) j) (Some (between (trail_of g s (f ++ b)) i j))).0 (dist_in_back g s m e f b i j prefix.walk back beyond le (omega arith)));
      inner = (λ i x y j ix xy yj lt h.
          (same.dist (vertex_at (trail_of g s (f ++ b)) x) (vertex_at (trail_of g s (f ++ b)) y) (Some (between (trail_of g s (f ++ b)) x y))).0
          (inner_part g s e (f ++ b) i x y j walk ix xy yj (omega arith)
          ((same.dist (vertex_at (trail_of g s (f ++ b)) i) (vertex_at (trail_of g s (f ++ b)) j) (Some (between (trail_of g s (f ++ b)) i j))).1 h)));
    }

-- so the walk that a test is handed has the facts that it uses
pub IsJoinedTrail-from_via_walk : (o : Graph) (t : Trail) (via : ℕ) → IsViaWalk o t via → IsJoinedTrail o t via
IsJoinedTrail-from_via_walk o t via w =
    subst (λ (x : Trail). IsJoinedTrail o x via) (sym w.is)
    (subst (λ (n : ℕ). IsJoinedTrail o (trail_of w.graph w.source (w.prefix ++ w.back)) n) (sym w.place)
    (joined_walks o w.graph w.source w.middle w.target w.prefix w.back w.same w.sound w.inside w.prefix_shortest w.back_shortest w.few))
