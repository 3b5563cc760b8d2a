-- The steps out of a vertex are its arcs, by rising number.
use Rattle.std.proofs.Common.{◌≡◌, ℕ, ◌+◌, ◌<◌, ◌≤◌, zero, suc, List, [], ◌∷◌, length, true, false, Some, None, slice_get, refl, sym, ap, ◌∙◌, subst, arith, ⊎_elim}
use Rattle.std.specs.Prelude.{◌==◌}
use Rattle.std.proofs.lemmas.Bool.{cases_Bool, eqb-true, eq-eqb, cond-true, cond-false}
use Rattle.std.proofs.lemmas.Option.{slice_get_within}
use Rattle.road_model.specs.declared.rows.ArcRow.{ArcRow}
use Rattle.road_model.specs.declared.network.Step.{Step}
use Rattle.road_model.specs.Graph.{Graph, arc_at, steps_from, step_of, step_at}

-- the arc that a step stands for: the k-th of these rows, where the first has the number first
pub record IsRowOf (v first : ℕ) (rows : List ArcRow) (s : Step) : Type 0 where
  pub place : ℕ
  pub row : ArcRow
  pub found : slice_get rows place ≡ Some row
  pub tail : row.tail ≡ v
  pub is : s ≡ step_of (first + place) row

row_later : (v first : ℕ) (r : ArcRow) (rows : List ArcRow) (s : Step) → IsRowOf v (first + 1) rows s → IsRowOf v first (r ∷ rows) s
row_later v first r rows s h =
    let number : first + 1 + h.place ≡ first + suc h.place = omega arith in
    record {
      place = suc h.place;
      row = h.row;
      found = h.found;
      tail = h.tail;
      is = h.is ∙ ap (λ (k : ℕ). step_of k h.row) number;
    }

row_of_step : (v first : ℕ) (rows : List ArcRow) (i : ℕ) (s : Step) → slice_get (steps_from v first rows) i ≡ Some s → IsRowOf v first rows s
row_of_step v first [] i s h = absurd (let e : None ≡ Some s = h in cc)
row_of_step v first (r ∷ rows) zero s h =
    ⊎_elim
    (λ (yes : (r.tail == v) ≡ true).
    let e = cond-true (r.tail == v) (step_of first r ∷ steps_from v (first + 1) rows) (steps_from v (first + 1) rows) yes in
    let g : slice_get (step_of first r ∷ steps_from v (first + 1) rows) zero ≡ Some s = subst (λ (l : List Step). slice_get l zero ≡ Some s) e h in
    let number : first ≡ first + 0 = omega arith in
    let same : s ≡ step_of first r = cc in
    let row : IsRowOf v first (r ∷ rows) s = record { place = zero; row = r; found = refl; tail = eqb-true r.tail v yes; is = same ∙ ap (λ (k : ℕ). step_of k r) number } in
    row)
    (λ (other : (r.tail == v) ≡ false).
    let e = cond-false (r.tail == v) (step_of first r ∷ steps_from v (first + 1) rows) (steps_from v (first + 1) rows) other in
    row_later v first r rows s (row_of_step v (first + 1) rows zero s (subst (λ (l : List Step). slice_get l zero ≡ Some s) e h)))
    (cases_Bool (r.tail == v))
row_of_step v first (r ∷ rows) (suc i) s h =
    ⊎_elim
    (λ (yes : (r.tail == v) ≡ true).
    let e = cond-true (r.tail == v) (step_of first r ∷ steps_from v (first + 1) rows) (steps_from v (first + 1) rows) yes in
    row_later v first r rows s (row_of_step v (first + 1) rows i s (subst (λ (l : List Step). slice_get l (suc i) ≡ Some s) e h)))
    (λ (other : (r.tail == v) ≡ false).
    let e = cond-false (r.tail == v) (step_of first r ∷ steps_from v (first + 1) rows) (steps_from v (first + 1) rows) other in
    row_later v first r rows s (row_of_step v (first + 1) rows (suc i) s (subst (λ (l : List Step). slice_get l (suc i) ≡ Some s) e h)))
    (cases_Bool (r.tail == v))

-- an arc of the graph, and the step that it is at its tail
pub record IsStepOf (g : Graph) (v : ℕ) (s : Step) : Type 0 where
  pub row : ArcRow
  pub arc : arc_at g s.arc ≡ Some row
  pub tail : row.tail ≡ v
  pub head : s.head ≡ row.head
  pub long : s.length ≡ row.length

pub step_row : (g : Graph) (v i : ℕ) (s : Step) → step_at g v i ≡ Some s → IsStepOf g v s
step_row g v i s h =
    let found = row_of_step v 1 g.arcs i s h in
    let number : s.arc ≡ suc found.place = ap (λ (x : Step). x.arc) found.is ∙ (omega arith) in
    record {
      row = found.row;
      arc = subst (λ (a : ℕ). arc_at g a ≡ Some found.row) (sym number) found.found;
      tail = found.tail;
      head = ap (λ (x : Step). x.head) found.is;
      long = ap (λ (x : Step). x.length) found.is;
    }

-- the place of a step
pub record HasStep (v first : ℕ) (rows : List ArcRow) (s : Step) : Type 0 where
  pub at : ℕ
  pub is : slice_get (steps_from v first rows) at ≡ Some s

step_found : (v first : ℕ) (rows : List ArcRow) (k : ℕ) (r : ArcRow) → slice_get rows k ≡ Some r → r.tail ≡ v → HasStep v first rows (step_of (first + k) r)
step_found v first [] k r h tail = absurd (let e : None ≡ Some r = h in cc)
step_found v first (x ∷ rows) zero r h tail =
    let same : x ≡ r = cc in
    let yes : (x.tail == v) ≡ true = eq-eqb x.tail v (ap (λ (y : ArcRow). y.tail) same ∙ tail) in
    let e = cond-true (x.tail == v) (step_of first x ∷ steps_from v (first + 1) rows) (steps_from v (first + 1) rows) yes in
    let number : first ≡ first + 0 = omega arith in
    let step : step_of first x ≡ step_of (first + 0) r = ap (λ (y : ArcRow). step_of first y) same ∙ ap (λ (k : ℕ). step_of k r) number in
    record { at = zero; is = ap (λ (l : List Step). slice_get l zero) e ∙ ap (λ (y : Step). Some y) step }
step_found v first (x ∷ rows) (suc k) r h tail =
    let rest = step_found v (first + 1) rows k r h tail in
    let number : first + 1 + k ≡ first + suc k = omega arith in
    let rest_is : slice_get (steps_from v (first + 1) rows) rest.at ≡ Some (step_of (first + suc k) r) = rest.is ∙ ap (λ (n : ℕ). Some (step_of n r)) number in
    ⊎_elim
    (λ (yes : (x.tail == v) ≡ true).
    let e = cond-true (x.tail == v) (step_of first x ∷ steps_from v (first + 1) rows) (steps_from v (first + 1) rows) yes in
    let found : HasStep v first (x ∷ rows) (step_of (first + suc k) r) = record { at = suc rest.at; is = ap (λ (l : List Step). slice_get l (suc rest.at)) e ∙ rest_is } in
    found)
    (λ (other : (x.tail == v) ≡ false).
    let e = cond-false (x.tail == v) (step_of first x ∷ steps_from v (first + 1) rows) (steps_from v (first + 1) rows) other in
    let found : HasStep v first (x ∷ rows) (step_of (first + suc k) r) = record { at = rest.at; is = ap (λ (l : List Step). slice_get l rest.at) e ∙ rest_is } in
    found)
    (cases_Bool (x.tail == v))

-- each arc out of v is a step of v
pub step_of_arc : (g : Graph) (v a : ℕ) (r : ArcRow) → arc_at g a ≡ Some r → r.tail ≡ v → HasStep v 1 g.arcs (step_of a r)
step_of_arc g v zero r h tail = absurd (let e : None ≡ Some r = h in cc)
step_of_arc g v (suc k) r h tail =
    let found = step_found v 1 g.arcs k r h tail in
    let number : 1 + k ≡ suc k = omega arith in
    record { at = found.at; is = found.is ∙ ap (λ (n : ℕ). Some (step_of n r)) number }

step_low : (v first : ℕ) (rows : List ArcRow) (i : ℕ) (s : Step) → slice_get (steps_from v first rows) i ≡ Some s → first ≤ s.arc
step_low v first rows i s h =
    let found = row_of_step v first rows i s h in
    let number : s.arc ≡ first + found.place = ap (λ (x : Step). x.arc) found.is in
    omega arith

steps_from_rise : (v first : ℕ) (rows : List ArcRow) (i j : ℕ) (s t : Step) → i < j → slice_get (steps_from v first rows) i ≡ Some s → slice_get (steps_from v first rows) j ≡ Some t → s.arc < t.arc
steps_from_rise v first [] i j s t lt h k = absurd (let e : None ≡ Some s = h in cc)
steps_from_rise v first (r ∷ rows) i zero s t lt h k = absurd (omega arith)
steps_from_rise v first (r ∷ rows) zero (suc j) s t lt h k =
    ⊎_elim
    (λ (yes : (r.tail == v) ≡ true).
    let e = cond-true (r.tail == v) (step_of first r ∷ steps_from v (first + 1) rows) (steps_from v (first + 1) rows) yes in
    let one : Some (step_of first r) ≡ Some s = sym (ap (λ (l : List Step). slice_get l zero) e) ∙ h in
    let two : slice_get (steps_from v (first + 1) rows) j ≡ Some t = sym (ap (λ (l : List Step). slice_get l (suc j)) e) ∙ k in
    let same : step_of first r ≡ s = cc in
    let number : first ≡ s.arc = ap (λ (x : Step). x.arc) same in
    omega (arith, step_low v (first + 1) rows j t two))
    (λ (other : (r.tail == v) ≡ false).
    let e = cond-false (r.tail == v) (step_of first r ∷ steps_from v (first + 1) rows) (steps_from v (first + 1) rows) other in
    steps_from_rise v (first + 1) rows zero (suc j) s t lt (subst (λ (l : List Step). slice_get l zero ≡ Some s) e h) (subst (λ (l : List Step). slice_get l (suc j) ≡ Some t) e k))
    (cases_Bool (r.tail == v))
steps_from_rise v first (r ∷ rows) (suc i) (suc j) s t lt h k =
    ⊎_elim
    (λ (yes : (r.tail == v) ≡ true).
    let e = cond-true (r.tail == v) (step_of first r ∷ steps_from v (first + 1) rows) (steps_from v (first + 1) rows) yes in
    steps_from_rise v (first + 1) rows i j s t (omega arith) (subst (λ (l : List Step). slice_get l (suc i) ≡ Some s) e h) (subst (λ (l : List Step). slice_get l (suc j) ≡ Some t) e k))
    (λ (other : (r.tail == v) ≡ false).
    let e = cond-false (r.tail == v) (step_of first r ∷ steps_from v (first + 1) rows) (steps_from v (first + 1) rows) other in
    steps_from_rise v (first + 1) rows (suc i) (suc j) s t lt (subst (λ (l : List Step). slice_get l (suc i) ≡ Some s) e h) (subst (λ (l : List Step). slice_get l (suc j) ≡ Some t) e k))
    (cases_Bool (r.tail == v))

pub steps_rise : (g : Graph) (v i j : ℕ) (s t : Step) → i < j → step_at g v i ≡ Some s → step_at g v j ≡ Some t → s.arc < t.arc
steps_rise g v i j s t lt h k = steps_from_rise v 1 g.arcs i j s t lt h k

steps_few : (v first : ℕ) (rows : List ArcRow) → length (steps_from v first rows) ≤ length rows
steps_few v first [] = omega arith
steps_few v first (r ∷ rows) =
    ⊎_elim
    (λ (yes : (r.tail == v) ≡ true).
    let e = ap (λ (l : List Step). length l) (cond-true (r.tail == v) (step_of first r ∷ steps_from v (first + 1) rows) (steps_from v (first + 1) rows) yes) in
    omega (arith, steps_few v (first + 1) rows))
    (λ (other : (r.tail == v) ≡ false).
    let e = ap (λ (l : List Step). length l) (cond-false (r.tail == v) (step_of first r ∷ steps_from v (first + 1) rows) (steps_from v (first + 1) rows) other) in
    omega (arith, steps_few v (first + 1) rows))
    (cases_Bool (r.tail == v))

-- a vertex has no more steps than the graph has arcs
pub step_place : (g : Graph) (v i : ℕ) (s : Step) → step_at g v i ≡ Some s → i < length g.arcs
step_place g v i s h =
    omega (arith, slice_get_within (steps_from v 1 g.arcs) i s h, steps_few v 1 g.arcs)
