-- The subpath between two places of a walk.
use Rattle.std.proofs.Common.{◌≡◌, ℕ, ◌+◌, ◌-◌, ◌≤◌, List, [], ◌∷◌, ◌++◌, length, get_or, take, drop, Some, refl, sym, ap, ◌∙◌, subst, arith, append_assoc, length-append, zero, suc}
use Rattle.std.proofs.lemmas.List.{take-append-drop, length-take-le, length-drop, append-nil}
use Rattle.road_model.specs.Graph.{Graph, head_at, length_at, row_head}
use Rattle.road_model.specs.Walk.{IsWalk, walk_length}
use Rattle.road_model.specs.Dist.{IsDist, IsShortest}
use Rattle.road_model.specs.Places.{places, sums, trail_of, vertex_at, between, IsDistAt}
use Rattle.road_model.proofs.Walks.{Cut, cut, walk_length-append, IsWalk-append}
use Rattle.road_model.proofs.Dists.{dist_of_shortest, prefix_of_shortest, back_of_shortest}

pub length-places : (g : Graph) (u : ℕ) (p : List ℕ) → length (places g u p) ≡ length p + 1
length-places g u [] = refl
length-places g u (a ∷ p) = omega (arith, length-places g (head_at g a) p)

pub length-sums : (g : Graph) (k : ℕ) (p : List ℕ) → length (sums g k p) ≡ length p + 1
length-sums g k [] = refl
length-sums g k (a ∷ p) = omega (arith, length-sums g (k + length_at g a) p)

-- where a walk is after its first part
pub place_after : (g : Graph) (p q : List ℕ) (u v : ℕ) → IsWalk g u p v → get_or (places g u (p ++ q)) (length p) 0 ≡ v
place_after g [] [] u v h = h
place_after g [] (a ∷ q) u v h = h
place_after g (a ∷ p) q u v h =
    let heads : h.0.head ≡ head_at g a = sym (ap row_head h.1) in
    place_after g p q (head_at g a) v (subst (λ (x : ℕ). IsWalk g x p v) heads h.3)

-- and how long it is so far
pub sum_after : (g : Graph) (p q : List ℕ) (k : ℕ) → get_or (sums g k (p ++ q)) (length p) 0 ≡ k + walk_length g p
sum_after g [] [] k = omega arith
sum_after g [] (a ∷ q) k = omega arith
sum_after g (a ∷ p) q k = omega (arith, sum_after g p q (k + length_at g a))

-- a walk cut at two places
pub record Parted (g : Graph) (u : ℕ) (p : List ℕ) (i j : ℕ) : Type 0 where
  pub part : List ℕ
  pub walk : IsWalk g (vertex_at (trail_of g u p) i) part (vertex_at (trail_of g u p) j)
  pub long : walk_length g part ≡ between (trail_of g u p) i j

-- by the three pieces
pub between_pieces : (g : Graph) (u : ℕ) (a b c : List ℕ) → between (trail_of g u (a ++ (b ++ c))) (length a) (length a + length b) ≡ walk_length g b
between_pieces g u a b c =
    let low = sum_after g a (b ++ c) 0 in
    let high = sum_after g (a ++ b) c 0 in
    let same : get_or (sums g 0 (a ++ (b ++ c))) (length a + length b) 0 ≡ get_or (sums g 0 ((a ++ b) ++ c)) (length (a ++ b)) 0 =
    ap (λ (l : List ℕ). get_or (sums g 0 l) (length a + length b) 0) (sym (append_assoc a b c))
    ∙ ap (λ (n : ℕ). get_or (sums g 0 ((a ++ b) ++ c)) n 0) (sym (length-append a b)) in
    omega (arith, low, high, same, walk_length-append g a b)

pub place_pieces : (g : Graph) (u x y : ℕ) (a b c : List ℕ) → IsWalk g u a x → IsWalk g x b y → vertex_at (trail_of g u (a ++ (b ++ c))) (length a + length b) ≡ y
place_pieces g u x y a b c h k =
    let high = place_after g (a ++ b) c u y (IsWalk-append g a b u x y h k) in
    ap (λ (l : List ℕ). get_or (places g u l) (length a + length b) 0) (sym (append_assoc a b c))
    ∙ (ap (λ (n : ℕ). get_or (places g u ((a ++ b) ++ c)) n 0) (sym (length-append a b)) ∙ high)

-- where the middle piece is shortest, it is as long as the distance between its ends
pub dist_of_piece : (g : Graph) (u x y : ℕ) (a b c : List ℕ) → IsWalk g u a x → IsShortest g x b y → IsDistAt g (trail_of g u (a ++ (b ++ c))) (length a) (length a + length b) (between (trail_of g u (a ++ (b ++ c))) (length a) (length a + length b))
dist_of_piece g u x y a b c h k =
    let near : vertex_at (trail_of g u (a ++ (b ++ c))) (length a) ≡ x = place_after g a (b ++ c) u x h in
    let far : vertex_at (trail_of g u (a ++ (b ++ c))) (length a + length b) ≡ y = place_pieces g u x y a b c h k.walk in
    let d : IsDist g x y (Some (walk_length g b)) = dist_of_shortest g x y b k in
    let d' = subst (λ (n : ℕ). IsDist g x y (Some n)) (sym (between_pieces g u a b c)) d in
    let t : ℕ = between (trail_of g u (a ++ (b ++ c))) (length a) (length a + length b) in
    let d'' = subst (λ (n : ℕ). IsDist g n y (Some (between (trail_of g u (a ++ (b ++ c))) (length a) (length a + length b)))) (sym near) d' in
    subst (λ (n : ℕ). IsDist g (vertex_at (trail_of g u (a ++ (b ++ c))) (length a)) n (Some (between (trail_of g u (a ++ (b ++ c))) (length a) (length a + length b)))) (sym far) d''

-- the pieces of a list cut at two places
pub record Pieces (p : List ℕ) (i j : ℕ) : Type 0 where
  pub prefix : List ℕ
  pub middle : List ℕ
  pub back : List ℕ
  pub is : p ≡ prefix ++ (middle ++ back)
  pub near : length prefix ≡ i
  pub far : length prefix + length middle ≡ j

pub pieces : (p : List ℕ) (i j : ℕ) → i ≤ j → j ≤ length p → Pieces p i j
pieces p i j le inside =
    let near : length (take i p) ≡ i = length-take-le i p (omega arith) in
    let rest : length (drop i p) ≡ length p - i = length-drop i p in
    let far : length (take (j - i) (drop i p)) ≡ j - i = length-take-le (j - i) (drop i p) (omega arith) in
    record {
      prefix = take i p;
      middle = take (j - i) (drop i p);
      back = drop (j - i) (drop i p);
      is = sym (ap (λ (l : List ℕ). take i p ++ l) (take-append-drop (j - i) (drop i p)) ∙ take-append-drop i p);
      near = near;
      far = omega arith;
    }

-- facts of the three pieces, told of the walk and its places
moved : (P : List ℕ → ℕ → ℕ → Type 0) (p : List ℕ) (i j : ℕ) (cuts : Pieces p i j) → P (cuts.prefix ++ (cuts.middle ++ cuts.back)) (length cuts.prefix) (length cuts.prefix + length cuts.middle) → P p i j
moved P p i j cuts h =
    subst (λ (l : List ℕ). P l i j) (sym cuts.is)
    (subst (λ (n : ℕ). P (cuts.prefix ++ (cuts.middle ++ cuts.back)) n j) cuts.near
    (subst (λ (n : ℕ). P (cuts.prefix ++ (cuts.middle ++ cuts.back)) (length cuts.prefix) n) cuts.far h))

parted_pieces : (g : Graph) (u v : ℕ) (a b c : List ℕ) → IsWalk g u (a ++ (b ++ c)) v → Parted g u (a ++ (b ++ c)) (length a) (length a + length b)
parted_pieces g u v a b c h =
    let outer : Cut g u a (b ++ c) v = cut g a (b ++ c) u v h in
    let inner : Cut g outer.middle b c v = cut g b c outer.middle v outer.back in
    let near : vertex_at (trail_of g u (a ++ (b ++ c))) (length a) ≡ outer.middle = place_after g a (b ++ c) u outer.middle outer.prefix in
    let far : vertex_at (trail_of g u (a ++ (b ++ c))) (length a + length b) ≡ inner.middle = place_pieces g u outer.middle inner.middle a b c outer.prefix inner.prefix in
    record {
      part = b;
      walk = subst (λ (x : ℕ). IsWalk g x b (vertex_at (trail_of g u (a ++ (b ++ c))) (length a + length b))) (sym near)
          (subst (λ (x : ℕ). IsWalk g outer.middle b x) (sym far) inner.prefix);
      long = sym (between_pieces g u a b c);
    }

-- the subpath of a walk between two places
pub parted : (g : Graph) (u v : ℕ) (p : List ℕ) (i j : ℕ) → IsWalk g u p v → i ≤ j → j ≤ length p → Parted g u p i j
parted g u v p i j h le inside =
    let cuts : Pieces p i j = pieces p i j le inside in
    moved (λ l m n. Parted g u l m n) p i j cuts (parted_pieces g u v cuts.prefix cuts.middle cuts.back (subst (λ (l : List ℕ). IsWalk g u l v) cuts.is h))

-- the middle of three pieces of a shortest walk, after a walk, and with anything following
record Middle (g : Graph) (u : ℕ) (a b : List ℕ) : Type 0 where
  from : ℕ
  to : ℕ
  before : IsWalk g u a from
  shortest : IsShortest g from b to

middle_of : (g : Graph) (u w : ℕ) (a b c : List ℕ) → IsShortest g u (a ++ (b ++ c)) w → Middle g u a b
middle_of g u w a b c h =
    let outer : Cut g u a (b ++ c) w = cut g a (b ++ c) u w h.walk in
    let inner : Cut g outer.middle b c w = cut g b c outer.middle w outer.back in
    let rest : IsShortest g outer.middle (b ++ c) w = back_of_shortest g a (b ++ c) u outer.middle w h outer.prefix outer.back in
    record {
      from = outer.middle;
      to = inner.middle;
      before = outer.prefix;
      shortest = prefix_of_shortest g b c outer.middle inner.middle w rest inner.prefix inner.back;
    }

prefix_pieces : (g : Graph) (u w : ℕ) (a b c q : List ℕ) → IsShortest g u (a ++ (b ++ c)) w → IsDistAt g (trail_of g u ((a ++ (b ++ c)) ++ q)) (length a) (length a + length b) (between (trail_of g u ((a ++ (b ++ c)) ++ q)) (length a) (length a + length b))
prefix_pieces g u w a b c q h =
    let m : Middle g u a b = middle_of g u w a b c h in
    let same : (a ++ (b ++ c)) ++ q ≡ a ++ (b ++ (c ++ q)) = append_assoc a (b ++ c) q ∙ ap (λ (l : List ℕ). a ++ l) (append_assoc b c q) in
    subst (λ (l : List ℕ). IsDistAt g (trail_of g u l) (length a) (length a + length b) (between (trail_of g u l) (length a) (length a + length b))) (sym same)
    (dist_of_piece g u m.from m.to a b (c ++ q) m.before m.shortest)

-- within a shortest first part of a walk, each subpath is as long as the distance between its ends
pub dist_in_prefix : (g : Graph) (u w : ℕ) (f q : List ℕ) (i j : ℕ) → IsShortest g u f w → i ≤ j → j ≤ length f → IsDistAt g (trail_of g u (f ++ q)) i j (between (trail_of g u (f ++ q)) i j)
dist_in_prefix g u w f q i j h le inside =
    let cuts : Pieces f i j = pieces f i j le inside in
    moved (λ l m n. IsDistAt g (trail_of g u (l ++ q)) m n (between (trail_of g u (l ++ q)) m n)) f i j cuts
    (prefix_pieces g u w cuts.prefix cuts.middle cuts.back q (subst (λ (l : List ℕ). IsShortest g u l w) cuts.is h))

back_pieces : (g : Graph) (u v w : ℕ) (f a b c : List ℕ) → IsWalk g u f v → IsShortest g v (a ++ (b ++ c)) w → IsDistAt g (trail_of g u (f ++ (a ++ (b ++ c)))) (length f + length a) (length f + (length a + length b)) (between (trail_of g u (f ++ (a ++ (b ++ c)))) (length f + length a) (length f + (length a + length b)))
back_pieces g u v w f a b c walk h =
    let m : Middle g v a b = middle_of g v w a b c h in
    let same : (f ++ a) ++ (b ++ c) ≡ f ++ (a ++ (b ++ c)) = append_assoc f a (b ++ c) in
    let long : length (f ++ a) ≡ length f + length a = length-append f a in
    let far : length (f ++ a) + length b ≡ length f + (length a + length b) = omega arith in
    subst (λ (l : List ℕ). IsDistAt g (trail_of g u l) (length f + length a) (length f + (length a + length b)) (between (trail_of g u l) (length f + length a) (length f + (length a + length b)))) same
    (subst (λ (n : ℕ). IsDistAt g (trail_of g u ((f ++ a) ++ (b ++ c))) n (length f + (length a + length b)) (between (trail_of g u ((f ++ a) ++ (b ++ c))) n (length f + (length a + length b)))) long
    (subst (λ (n : ℕ). IsDistAt g (trail_of g u ((f ++ a) ++ (b ++ c))) (length (f ++ a)) n (between (trail_of g u ((f ++ a) ++ (b ++ c))) (length (f ++ a)) n)) far
    (dist_of_piece g u m.from m.to (f ++ a) b c (IsWalk-append g f a u v m.from walk m.before) m.shortest)))

-- and within a shortest last part
pub dist_in_back : (g : Graph) (u v w : ℕ) (f q : List ℕ) (i j : ℕ) → IsWalk g u f v → IsShortest g v q w → length f ≤ i → i ≤ j → j ≤ length (f ++ q) → IsDistAt g (trail_of g u (f ++ q)) i j (between (trail_of g u (f ++ q)) i j)
dist_in_back g u v w f q i j walk h beyond le inside =
    let whole : length (f ++ q) ≡ length f + length q = length-append f q in
    let cuts : Pieces q (i - length f) (j - length f) = pieces q (i - length f) (j - length f) (omega arith) (omega arith) in
    let shifted = moved (λ l m n. IsDistAt g (trail_of g u (f ++ l)) (length f + m) (length f + n) (between (trail_of g u (f ++ l)) (length f + m) (length f + n))) q (i - length f) (j - length f) cuts
    (back_pieces g u v w f cuts.prefix cuts.middle cuts.back walk (subst (λ (l : List ℕ). IsShortest g v l w) cuts.is h)) in
    let near : length f + (i - length f) ≡ i = omega arith in
    let far : length f + (j - length f) ≡ j = omega arith in
    subst (λ (n : ℕ). IsDistAt g (trail_of g u (f ++ q)) n j (between (trail_of g u (f ++ q)) n j)) near
    (subst (λ (n : ℕ). IsDistAt g (trail_of g u (f ++ q)) (length f + (i - length f)) n (between (trail_of g u (f ++ q)) (length f + (i - length f)) n)) far shifted)

-- the lengths so far never fall
pub sums_low : (g : Graph) (k : ℕ) (p : List ℕ) (j : ℕ) → j ≤ length p → k ≤ get_or (sums g k p) j 0
sums_low g k [] zero le = omega arith
sums_low g k [] (suc j) le = absurd (omega arith)
sums_low g k (a ∷ p) zero le = omega arith
sums_low g k (a ∷ p) (suc j) le = omega (arith, sums_low g (k + length_at g a) p j (omega arith))

-- the whole of a walk, as a pair of places
pub whole_sum : (g : Graph) (u : ℕ) (p : List ℕ) → between (trail_of g u p) 0 (length p) ≡ walk_length g p
whole_sum g u p =
    let last = subst (λ (l : List ℕ). get_or (sums g 0 l) (length p) 0 ≡ 0 + walk_length g p) (append-nil p) (sum_after g p [] 0) in
    let first = sum_after g [] p 0 in
    omega arith

pub whole_dist : (g : Graph) (u v d : ℕ) (p : List ℕ) → IsWalk g u p v → IsDist g u v (Some d) → IsDistAt g (trail_of g u p) 0 (length p) d
whole_dist g u v d p walk h =
    let last : vertex_at (trail_of g u p) (length p) ≡ v = subst (λ (l : List ℕ). get_or (places g u l) (length p) 0 ≡ v) (append-nil p) (place_after g p [] u v walk) in
    let first : vertex_at (trail_of g u p) 0 ≡ u = place_after g [] p u u refl in
    subst (λ (x : ℕ). IsDist g x (vertex_at (trail_of g u p) (length p)) (Some d)) (sym first)
    (subst (λ (x : ℕ). IsDist g u x (Some d)) (sym last) h)
