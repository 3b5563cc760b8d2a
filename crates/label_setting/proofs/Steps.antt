-- The arcs of a graph as the steps out of their tails.
use Rattle.std.proofs.Common.{◌≡◌, ◌<◌, ◌≤◌, ◌+◌, ℕ, zero, suc, Bool, true, false, cond, eqb, List, [], ◌∷◌, length, Some, None, slice_get, refl, sym, ap, ◌∙◌, subst, arith, ⊎_elim}
use Rattle.std.proofs.lemmas.Bool.{cases_Bool, eqb-true, eq-eqb}
use Rattle.road_model.specs.declared.rows.ArcRow.{ArcRow}
use Rattle.road_model.specs.declared.network.Step.{Step}
use Rattle.road_model.specs.Graph.{Graph, arc_at, steps_from, step_of, step_at, IsVertex, IsGraph, LengthsBelow}
use Rattle.road_model.proofs.Walks.{IsArc-at, length_at-below}

record IsRow (k v i : ℕ) (s : Step) (rows : List ArcRow) : Type 0 where
  place : ℕ
  row : ArcRow
  is : slice_get rows place ≡ Some row
  tail : row.tail ≡ v
  same : s ≡ step_of (k + place) row
  late : i ≤ place

later : (r : ArcRow) (rows : List ArcRow) (k v i : ℕ) (s : Step) → IsRow (k + 1) v i s rows → IsRow k v i s (r ∷ rows)
later r rows k v i s h =
    let n : k + 1 + h.place ≡ k + suc h.place = omega arith in
    record {
      place = suc h.place;
      row = h.row;
      is = h.is;
      tail = h.tail;
      same = h.same ∙ ap (λ (m : ℕ). step_of m h.row) n;
      late = omega (arith, h.late);
    }

first_or_later : (r : ArcRow) (rows : List ArcRow) (k v i : ℕ) (s : Step) → r.tail ≡ v → ((j : ℕ) (t : Step) → slice_get (steps_from v (k + 1) rows) j ≡ Some t → IsRow (k + 1) v j t rows) → slice_get (step_of k r ∷ steps_from v (k + 1) rows) i ≡ Some s → IsRow k v i s (r ∷ rows)
first_or_later r rows k v zero s tail rest h =
    let e : Some (step_of k r) ≡ Some s = h in
    let same : step_of k r ≡ s = cc in
    let n : k ≡ k + 0 = omega arith in
    record {
      place = 0;
      row = r;
      is = refl;
      tail = tail;
      same = sym same ∙ ap (λ (m : ℕ). step_of m r) n;
      late = omega arith;
    }
first_or_later r rows k v (suc i) s tail rest h =
    let t = rest i s h in
    let n : k + 1 + t.place ≡ k + suc t.place = omega arith in
    record {
      place = suc t.place;
      row = t.row;
      is = t.is;
      tail = t.tail;
      same = t.same ∙ ap (λ (m : ℕ). step_of m t.row) n;
      late = omega (arith, t.late);
    }

row_of_step : (rows : List ArcRow) (k v i : ℕ) (s : Step) → slice_get (steps_from v k rows) i ≡ Some s → IsRow k v i s rows
row_of_step [] k v i s h = absurd (let e : None ≡ Some s = h in cc)
row_of_step (r ∷ rows) k v i s h =
    ⊎_elim
    (λ (yes : eqb r.tail v ≡ true).
    first_or_later r rows k v i s (eqb-true r.tail v yes) (row_of_step rows (k + 1) v)
    (subst (λ (b : Bool). slice_get (cond b (step_of k r ∷ steps_from v (k + 1) rows) (steps_from v (k + 1) rows)) i ≡ Some s) yes h))
    (λ (no : eqb r.tail v ≡ false).
    later r rows k v i s
    (row_of_step rows (k + 1) v i s (subst (λ (b : Bool). slice_get (cond b (step_of k r ∷ steps_from v (k + 1) rows) (steps_from v (k + 1) rows)) i ≡ Some s) no h)))
    (cases_Bool (eqb r.tail v))

-- a step is an arc of the graph, and its number is above its place
pub record IsStepOf (g : Graph) (v i : ℕ) (s : Step) : Type 0 where
  pub row : ArcRow
  pub at : arc_at g s.arc ≡ Some row
  pub tail : row.tail ≡ v
  pub head : row.head ≡ s.head
  pub long : row.length ≡ s.length
  pub late : i < s.arc

pub arc_of_step : (g : Graph) (v i : ℕ) (s : Step) → step_at g v i ≡ Some s → IsStepOf g v i s
arc_of_step g v i s h =
    let r = row_of_step g.arcs 1 v i s h in
    let number : s.arc ≡ 1 + r.place = ap (λ (t : Step). t.arc) r.same in
    let next : suc r.place ≡ s.arc = omega arith in
    record {
      row = r.row;
      at = subst (λ (a : ℕ). arc_at g a ≡ Some r.row) next r.is;
      tail = r.tail;
      head = sym (ap (λ (t : Step). t.head) r.same);
      long = sym (ap (λ (t : Step). t.length) r.same);
      late = omega (arith, r.late);
    }

record HasStep (v k : ℕ) (s : Step) (rows : List ArcRow) : Type 0 where
  place : ℕ
  is : slice_get (steps_from v k rows) place ≡ Some s

skip : (r : ArcRow) (rows : List ArcRow) (v k : ℕ) (s : Step) → HasStep v (k + 1) s rows → HasStep v k s (r ∷ rows)
skip r rows v k s h =
    ⊎_elim
    (λ (yes : eqb r.tail v ≡ true).
    record {
      place = suc h.place;
      is = subst (λ (b : Bool). slice_get (cond b (step_of k r ∷ steps_from v (k + 1) rows) (steps_from v (k + 1) rows)) (suc h.place) ≡ Some s) (sym yes) h.is;
    })
    (λ (no : eqb r.tail v ≡ false).
    record {
      place = h.place;
      is = subst (λ (b : Bool). slice_get (cond b (step_of k r ∷ steps_from v (k + 1) rows) (steps_from v (k + 1) rows)) h.place ≡ Some s) (sym no) h.is;
    })
    (cases_Bool (eqb r.tail v))

step_of_row : (rows : List ArcRow) (k j : ℕ) (r : ArcRow) → slice_get rows j ≡ Some r → HasStep r.tail k (step_of (k + j) r) rows
step_of_row [] k j r h = absurd (let e : None ≡ Some r = h in cc)
step_of_row (x ∷ rows) k zero r h =
    let e : Some x ≡ Some r = h in
    let same : x ≡ r = cc in
    let yes : eqb x.tail r.tail ≡ true = eq-eqb x.tail r.tail (ap (λ (y : ArcRow). y.tail) same) in
    let n : k ≡ k + 0 = omega arith in
    let first : Some (step_of k x) ≡ Some (step_of (k + 0) r) = ap (λ (y : ArcRow). Some (step_of k y)) same ∙ ap (λ (m : ℕ). Some (step_of m r)) n in
    record {
      place = 0;
      is = subst (λ (b : Bool). slice_get (cond b (step_of k x ∷ steps_from r.tail (k + 1) rows) (steps_from r.tail (k + 1) rows)) 0 ≡ Some (step_of (k + 0) r)) (sym yes) first;
    }
step_of_row (x ∷ rows) k (suc j) r h =
    let rest = step_of_row rows (k + 1) j r h in
    let n : k + 1 + j ≡ k + suc j = omega arith in
    skip x rows r.tail k (step_of (k + suc j) r)
    (subst (λ (m : ℕ). HasStep r.tail (k + 1) (step_of m r) rows) n rest)

-- and each arc is a step out of its tail
pub record HasStepAt (g : Graph) (v : ℕ) (s : Step) : Type 0 where
  pub place : ℕ
  pub is : step_at g v place ≡ Some s

pub step_of_arc : (g : Graph) (a : ℕ) (r : ArcRow) → arc_at g a ≡ Some r → HasStepAt g r.tail (step_of a r)
step_of_arc g zero r h = absurd (let e : None ≡ Some r = h in cc)
step_of_arc g (suc k) r h =
    let t = step_of_row g.arcs 1 k r h in
    let n : 1 + k ≡ suc k = omega arith in
    record { place = t.place; is = t.is ∙ ap (λ (m : ℕ). Some (step_of m r)) n }

pub head_inside : (g : Graph) (v i : ℕ) (s : Step) → IsGraph g → step_at g v i ≡ Some s → IsVertex g.vertices s.head
head_inside g v i s sound h =
    let t = arc_of_step g v i s h in
    subst (λ (x : ℕ). IsVertex g.vertices x) t.head (IsArc-at g s.arc t.row sound t.at).head

pub step_positive : (g : Graph) (v i : ℕ) (s : Step) → IsGraph g → step_at g v i ≡ Some s → 1 ≤ s.length
step_positive g v i s sound h =
    let t = arc_of_step g v i s h in
    omega (arith, (IsArc-at g s.arc t.row sound t.at).positive, t.long)

pub step_below : (g : Graph) (m v i : ℕ) (s : Step) → LengthsBelow g m → step_at g v i ≡ Some s → s.length < m
step_below g m v i s short h =
    let t = arc_of_step g v i s h in
    omega (arith, length_at-below g m s.arc t.row short t.at, t.long)
