-- Facts on a graph that is written out, by tests that compute.
--   label_of labels v       the label of vertex v, which stands at place v of the list
--   keeps_all labels rows   no arc leads to a label that is more than its length above that of its tail
--   closed_all labels rows  no arc leads to a greater label
--   none_out v n rows       none of the first n arcs leads out of v
--   none_into v n rows      none of the first n arcs leads into v
use Rattle.std.proofs.Common.{◌≡◌, ℕ, ◌+◌, ◌<◌, ◌≤◌, zero, suc, Bool, true, false, ◌&&◌, not, List, [], ◌∷◌, ◌++◌, get_or, Some, None, slice_get, refl, ap, ◌∙◌, subst, arith, eqb, leb}
use Rattle.std.proofs.lemmas.Bool.Decides.{nat_tests}
use Rattle.road_model.specs.declared.rows.ArcRow.{ArcRow}
use Rattle.road_model.specs.Graph.{Graph, arc_at, length_at, row_length}
use Rattle.road_model.specs.Walk.{IsWalk, walk_length}
use Rattle.road_model.specs.Dist.{IsDist, IsShortest, NoWalk}

abbrev pub label_of : List ℕ → ℕ → ℕ
label_of labels v = get_or labels v 0

abbrev pub keeps_all : List ℕ → List ArcRow → Bool
keeps_all labels [] = true
keeps_all labels (r ∷ rs) = leb (label_of labels r.head) (label_of labels r.tail + r.length) && keeps_all labels rs

and_first : (a b : Bool) → (a && b) ≡ true → a ≡ true
and_first true b h = refl
and_first false b h = h

and_second : (a b : Bool) → (a && b) ≡ true → b ≡ true
and_second true b h = h
and_second false b h = absurd (let e : false ≡ true = h in cc)

leb-holds : (a b : ℕ) → leb a b ≡ true → a ≤ b
leb-holds a b h = grind (arith, nat_tests)

keeps_row : (labels : List ℕ) (rs : List ArcRow) (k : ℕ) (r : ArcRow) → keeps_all labels rs ≡ true → slice_get rs k ≡ Some r → label_of labels r.head ≤ label_of labels r.tail + r.length
keeps_row labels [] k r h is = absurd (let e : None ≡ Some r = is in cc)
keeps_row labels (s ∷ rs) zero r h is =
    let same : Some s ≡ Some r = is in
    let row : s ≡ r = cc in
    subst (λ (x : ArcRow). label_of labels x.head ≤ label_of labels x.tail + x.length) row (leb-holds _ _ (and_first _ _ h))
keeps_row labels (s ∷ rs) (suc k) r h is = keeps_row labels rs k r (and_second _ _ h) is

keeps_arc : (labels : List ℕ) (g : Graph) (a : ℕ) (r : ArcRow) → keeps_all labels g.arcs ≡ true → arc_at g a ≡ Some r → label_of labels r.head ≤ label_of labels r.tail + r.length
keeps_arc labels g zero r h is = absurd (let e : None ≡ Some r = is in cc)
keeps_arc labels g (suc k) r h is = keeps_row labels g.arcs k r h is

-- so no walk gains more than its length
gains : (labels : List ℕ) (g : Graph) (p : List ℕ) (u v : ℕ) → keeps_all labels g.arcs ≡ true → IsWalk g u p v → label_of labels v ≤ label_of labels u + walk_length g p
gains labels g [] u v h walk = let e : u ≡ v = walk in omega (arith, ap (λ (x : ℕ). label_of labels x) e)
gains labels g (a ∷ p) u v h walk =
    let one = keeps_arc labels g a walk.0 h walk.1 in
    let rest = gains labels g p walk.0.head v h walk.3 in
    let is : length_at g a ≡ walk.0.length = ap row_length walk.1 in
    let tail : label_of labels walk.0.tail ≡ label_of labels u = ap (λ (x : ℕ). label_of labels x) walk.2 in
    omega arith

-- a distance, by a walk and labels from its beginning
pub dist_by : (labels : List ℕ) (g : Graph) (u v : ℕ) (p : List ℕ) → keeps_all labels g.arcs ≡ true → IsWalk g u p v → label_of labels u ≡ 0 → label_of labels v ≡ walk_length g p → IsDist g u v (Some (walk_length g p))
dist_by labels g u v p h walk start end =
    (record { path = p; walk = walk; long = refl }, (λ q other. omega (arith, gains labels g q u v h other)))

pub shortest_by : (labels : List ℕ) (g : Graph) (u v : ℕ) (p : List ℕ) → keeps_all labels g.arcs ≡ true → IsWalk g u p v → label_of labels u ≡ 0 → label_of labels v ≡ walk_length g p → IsShortest g u p v
shortest_by labels g u v p h walk start end =
    record { walk = walk; least = (λ q other. omega (arith, gains labels g q u v h other)) }

-- no walk, by a set of vertices that no arc leaves: labels 0 within, 1 outside
abbrev pub closed_all : List ℕ → List ArcRow → Bool
closed_all labels [] = true
closed_all labels (r ∷ rs) = leb (label_of labels r.head) (label_of labels r.tail) && closed_all labels rs

closed_row : (labels : List ℕ) (rs : List ArcRow) (k : ℕ) (r : ArcRow) → closed_all labels rs ≡ true → slice_get rs k ≡ Some r → label_of labels r.head ≤ label_of labels r.tail
closed_row labels [] k r h is = absurd (let e : None ≡ Some r = is in cc)
closed_row labels (s ∷ rs) zero r h is =
    let same : Some s ≡ Some r = is in
    let row : s ≡ r = cc in
    subst (λ (x : ArcRow). label_of labels x.head ≤ label_of labels x.tail) row (leb-holds _ _ (and_first _ _ h))
closed_row labels (s ∷ rs) (suc k) r h is = closed_row labels rs k r (and_second _ _ h) is

closed_arc : (labels : List ℕ) (g : Graph) (a : ℕ) (r : ArcRow) → closed_all labels g.arcs ≡ true → arc_at g a ≡ Some r → label_of labels r.head ≤ label_of labels r.tail
closed_arc labels g zero r h is = absurd (let e : None ≡ Some r = is in cc)
closed_arc labels g (suc k) r h is = closed_row labels g.arcs k r h is

pub stays : (labels : List ℕ) (g : Graph) (p : List ℕ) (u v : ℕ) → closed_all labels g.arcs ≡ true → IsWalk g u p v → label_of labels v ≤ label_of labels u
stays labels g [] u v h walk = let e : u ≡ v = walk in omega (arith, ap (λ (x : ℕ). label_of labels x) e)
stays labels g (a ∷ p) u v h walk =
    let one = closed_arc labels g a walk.0 h walk.1 in
    let rest = stays labels g p walk.0.head v h walk.3 in
    let tail : label_of labels walk.0.tail ≡ label_of labels u = ap (λ (x : ℕ). label_of labels x) walk.2 in
    omega arith

pub none_by : (labels : List ℕ) (g : Graph) (u v : ℕ) → closed_all labels g.arcs ≡ true → label_of labels u < label_of labels v → NoWalk g u v
none_by labels g u v h apart p walk = omega (arith, stays labels g p u v h walk)

abbrev pub none_out : ℕ → ℕ → List ArcRow → Bool
none_out v zero rs = true
none_out v (suc n) [] = true
none_out v (suc n) (r ∷ rs) = not (eqb r.tail v) && none_out v n rs

abbrev pub none_into : ℕ → ℕ → List ArcRow → Bool
none_into v zero rs = true
none_into v (suc n) [] = true
none_into v (suc n) (r ∷ rs) = not (eqb r.head v) && none_into v n rs

not_eqb : (a b : ℕ) → not (eqb a b) ≡ true → a ≡ b → ⊥
not_eqb a b h e = grind (arith, nat_tests)

pub out_from : (v n : ℕ) (rs : List ArcRow) (k : ℕ) (r : ArcRow) → none_out v n rs ≡ true → slice_get rs k ≡ Some r → r.tail ≡ v → n ≤ k
out_from v zero rs k r h is tail = omega arith
out_from v (suc n) [] k r h is tail = absurd (let e : None ≡ Some r = is in cc)
out_from v (suc n) (s ∷ rs) zero r h is tail =
    let same : Some s ≡ Some r = is in
    let row : s ≡ r = cc in
    absurd (not_eqb s.tail v (and_first _ _ h) (ap (λ (x : ArcRow). x.tail) row ∙ tail))
out_from v (suc n) (s ∷ rs) (suc k) r h is tail = omega (arith, out_from v n rs k r (and_second _ _ h) is tail)

pub into_from : (v n : ℕ) (rs : List ArcRow) (k : ℕ) (r : ArcRow) → none_into v n rs ≡ true → slice_get rs k ≡ Some r → r.head ≡ v → n ≤ k
into_from v zero rs k r h is head = omega arith
into_from v (suc n) [] k r h is head = absurd (let e : None ≡ Some r = is in cc)
into_from v (suc n) (s ∷ rs) zero r h is head =
    let same : Some s ≡ Some r = is in
    let row : s ≡ r = cc in
    absurd (not_eqb s.head v (and_first _ _ h) (ap (λ (x : ArcRow). x.head) row ∙ head))
into_from v (suc n) (s ∷ rs) (suc k) r h is head = omega (arith, into_from v n rs k r (and_second _ _ h) is head)

pub arc_out : (g : Graph) (v n a : ℕ) (r : ArcRow) → none_out v n g.arcs ≡ true → arc_at g a ≡ Some r → r.tail ≡ v → n < a
arc_out g v n zero r h is tail = absurd (let e : None ≡ Some r = is in cc)
arc_out g v n (suc k) r h is tail = omega (arith, out_from v n g.arcs k r h is tail)

pub arc_into : (g : Graph) (v n a : ℕ) (r : ArcRow) → none_into v n g.arcs ≡ true → arc_at g a ≡ Some r → r.head ≡ v → n < a
arc_into g v n zero r h is head = absurd (let e : None ≡ Some r = is in cc)
arc_into g v n (suc k) r h is head = omega (arith, into_from v n g.arcs k r h is head)

-- the last arc of a walk that has one
pub record Ends (g : Graph) (q : List ℕ) (v : ℕ) : Type 0 where
  pub before : List ℕ
  pub arc : ℕ
  pub row : ArcRow
  pub is : arc_at g arc ≡ Some row
  pub head : row.head ≡ v
  pub joined : q ≡ before ++ arc ∷ []

pub last_arc : (g : Graph) (a : ℕ) (q : List ℕ) (u v : ℕ) → IsWalk g u (a ∷ q) v → Ends g (a ∷ q) v
last_arc g a [] u v walk = record { before = []; arc = a; row = walk.0; is = walk.1; head = walk.3; joined = refl }
last_arc g a (b ∷ q) u v walk =
    let rest : Ends g (b ∷ q) v = last_arc g b q walk.0.head v walk.3 in
    record { before = a ∷ rest.before; arc = rest.arc; row = rest.row; is = rest.is; head = rest.head; joined = ap (λ (l : List ℕ). a ∷ l) rest.joined }
