-- What the steps of a vertex tell of its row.
use Rattle.std.proofs.Common.{◌≡◌, ℕ, ◌+◌, ◌<◌, ◌≤◌, ◌⊎◌, List, length, get_or, refl, sym, ap, ◌∙◌, subst, arith, ⊎_elim}
use Rattle.std.specs.Prelude.{Some, None, ◌↔◌}
use Rattle.std.proofs.lemmas.Bool.{cases_lt}
use Rattle.std.proofs.lemmas.Option.{slice_get_within, slice_get-get_or}
use Rattle.road_model.specs.declared.rows.ArcRow.{ArcRow}
use Rattle.road_model.specs.declared.network.Step.{Step}
use Rattle.road_model.specs.Graph.{Graph, IsGraph, IsVertex, arc_at, step_at, step_of, steps_from, reversed, turned}
use Rattle.road_model.proofs.Walks.{IsArc-at}
use Rattle.forward_star.proofs.Turned.{arc_at-reversed_some}
use Rattle.canonical_trees.proofs.Turned.{arc_unreversed}
use Rattle.canonical_trees.proofs.Steps.{IsStepOf, HasStep, step_row, step_of_arc, steps_rise}
use Rattle.certificate_text.specs.declared.certificate.BlockRow.{BlockRow}
use Rattle.certificate_text.specs.declared.certificate.Block.{Block}
use Rattle.tree_search.specs.Ball.{IsWithin}
use Rattle.recheck.specs.Rows.{row_of, HasRowBelow, LeadsOn, IsTightFor, IsLeastFor, IsClosed}
use Rattle.recheck.specs.RowTests.{IsTightStep, IsClosedAt, AreClosed}

-- an arc leads on in one way
pub same_sum : (h : Graph) (rows : List BlockRow) (r : BlockRow) (a n : ℕ) (on : LeadsOn h rows r a) → n ≡ on.next.label + on.arc.length → (tight : IsTightFor h rows r a) → n ≡ r.label
same_sum h rows r a n on is tight =
    let arcs : Some on.arc ≡ Some tight.leads.arc = sym on.is ∙ tight.leads.is in
    let arc : on.arc ≡ tight.leads.arc = cc in
    let rows_at : Some on.next ≡ Some tight.leads.next = sym on.beyond ∙ ap (λ (x : ArcRow). row_of rows x.head) arc ∙ tight.leads.beyond in
    let next : on.next ≡ tight.leads.next = cc in
    let one : on.arc.length ≡ tight.leads.arc.length = ap (λ (x : ArcRow). x.length) arc in
    let two : on.next.label ≡ tight.leads.next.label = ap (λ (x : BlockRow). x.label) next in
    let three = tight.sum in
    omega arith

pub tight_of_sum : (h : Graph) (rows : List BlockRow) (r : BlockRow) (a n : ℕ) (on : LeadsOn h rows r a) → n ≡ on.next.label + on.arc.length → n ≡ r.label → IsTightFor h rows r a
tight_of_sum h rows r a n on is same = record { leads = on; sum = sym is ∙ same }

-- steps that are tight, and arcs
pub tight_of_step : (h : Graph) (rows : List BlockRow) (r : BlockRow) (v i : ℕ) (s : Step) → v ≡ r.vertex → step_at h v i ≡ Some s → IsTightStep rows r.label s → IsTightFor h rows r s.arc
tight_of_step h rows r v i s same at t =
    let x : IsStepOf h v s = step_row h v i s at in
    record {
      leads = record {
        arc = x.row;
        is = x.arc;
        tail = x.tail ∙ same;
        next = t.next;
        beyond = subst (λ (w : ℕ). row_of rows w ≡ Some t.next) x.head t.beyond;
      };
      sum = ap (λ (n : ℕ). t.next.label + n) (sym x.long) ∙ t.sum;
    }

record HasTightStep (h : Graph) (rows : List BlockRow) (v label a : ℕ) : Type 0 where
  at : ℕ
  step : Step
  is : step_at h v at ≡ Some step
  number : step.arc ≡ a
  tight : IsTightStep rows label step

step_of_tight : (h : Graph) (rows : List BlockRow) (r : BlockRow) (v a : ℕ) → v ≡ r.vertex → IsTightFor h rows r a → HasTightStep h rows v r.label a
step_of_tight h rows r v a same t =
    let found : HasStep v 1 h.arcs (step_of a t.leads.arc) = step_of_arc h v a t.leads.arc t.leads.is (t.leads.tail ∙ sym same) in
    record {
      at = found.at;
      step = step_of a t.leads.arc;
      is = found.is;
      number = refl;
      tight = record { next = t.leads.next; beyond = t.leads.beyond; sum = t.sum };
    }

-- no step below a place is tight
abbrev pub NoneTight : Graph → List BlockRow → ℕ → ℕ → ℕ → Type 0
NoneTight h rows v label i = (j : ℕ) (s : Step) → j < i → step_at h v j ≡ Some s → IsTightStep rows label s → ⊥

pub none_tight_more : (h : Graph) (rows : List BlockRow) (v label i : ℕ) (x : Step) → NoneTight h rows v label i → step_at h v i ≡ Some x → (IsTightStep rows label x → ⊥) → NoneTight h rows v label (i + 1)
none_tight_more h rows v label i x before at here j s low is tight =
    ⊎_elim
    (λ (lt : j < i). before j s lt is tight)
    (λ (ge : i ≤ j).
    let place : j ≡ i = omega arith in
    let both : Some s ≡ Some x = sym is ∙ ap (λ (k : ℕ). step_at h v k) place ∙ at in
    let same : s ≡ x = cc in
    here (subst (λ (y : Step). IsTightStep rows label y) same tight))
    (cases_lt j i)

pub least_up_to : (h : Graph) (rows : List BlockRow) (r : BlockRow) (v i : ℕ) (x : Step) → v ≡ r.vertex → NoneTight h rows v r.label i → step_at h v i ≡ Some x → r.arc ≤ x.arc → IsLeastFor h rows r
least_up_to h rows r v i x same before at low b tight =
    let found : HasTightStep h rows v r.label b = step_of_tight h rows r v b same tight in
    let number = found.number in
    ⊎_elim
    (λ (lt : found.at < i). absurd (before found.at found.step lt found.is found.tight))
    (λ (ge : i ≤ found.at).
    ⊎_elim
    (λ (lt : i < found.at).
    let rise = steps_rise h v i found.at x found.step lt at found.is in
    let r : r.arc ≤ b = omega arith in
    r)
    (λ (le : found.at ≤ i).
    let place : i ≡ found.at = omega arith in
    let both : Some x ≡ Some found.step = sym at ∙ ap (λ (k : ℕ). step_at h v k) place ∙ found.is in
    let steps : x ≡ found.step = cc in
    let arcs = ap (λ (s : Step). s.arc) steps in
    let r : r.arc ≤ b = omega arith in
    r)
    (cases_lt i found.at))
    (cases_lt found.at i)

pub no_step_from : (h : Graph) (v i j : ℕ) (s : Step) → step_at h v i ≡ None → i ≤ j → step_at h v j ≡ Some s → ⊥
no_step_from h v i j s none le is =
    let inside : j < length (steps_from v 1 h.arcs) = slice_get_within (steps_from v 1 h.arcs) j s is in
    let some = slice_get-get_or (steps_from v 1 h.arcs) i s (omega arith) in
    let both : None ≡ Some (get_or (steps_from v 1 h.arcs) i s) = sym none ∙ some in
    cc

pub least_in_all : (h : Graph) (rows : List BlockRow) (r : BlockRow) (v i : ℕ) → v ≡ r.vertex → NoneTight h rows v r.label i → step_at h v i ≡ None → IsLeastFor h rows r
least_in_all h rows r v i same before none b tight =
    let found : HasTightStep h rows v r.label b = step_of_tight h rows r v b same tight in
    ⊎_elim
    (λ (lt : found.at < i). absurd (before found.at found.step lt found.is found.tight))
    (λ (ge : i ≤ found.at). absurd (no_step_from h v i found.at found.step none ge found.is))
    (cases_lt found.at i)

pub not_least : (h : Graph) (rows : List BlockRow) (r : BlockRow) (v i : ℕ) (s : Step) → v ≡ r.vertex → step_at h v i ≡ Some s → IsTightStep rows r.label s → s.arc < r.arc → (r.arc ≡ 0) ⊎ IsLeastFor h rows r → ⊥
not_least h rows r v i s same at t low either =
    ⊎_elim
    (λ (none : r.arc ≡ 0). let f : ⊥ = omega arith in f)
    (λ (least : IsLeastFor h rows r).
    let le = least s.arc (tight_of_step h rows r v i s same at t) in
    let f : ⊥ = omega arith in
    f)
    either

pub least_of_no_vertex : (h : Graph) (rows : List BlockRow) (r : BlockRow) → IsGraph h → (IsVertex h.vertices r.vertex → ⊥) → IsLeastFor h rows r
least_of_no_vertex h rows r sound none b tight =
    absurd (none (subst (λ (v : ℕ). IsVertex h.vertices v) tight.leads.tail (IsArc-at h b tight.leads.arc sound tight.leads.is).tail))

-- rows that are closed, over the steps of the graph turned round
abbrev pub ClosedBefore : Graph → Block → BlockRow → ℕ → ℕ → Type 0
ClosedBefore m b r v i = (j : ℕ) (s : Step) → j < i → step_at m v j ≡ Some s → IsWithin b.radius (r.label + s.length) → HasRowBelow b.rows s.head (r.label + s.length)

pub closed_more : (m : Graph) (b : Block) (r : BlockRow) (v i : ℕ) (x : Step) → ClosedBefore m b r v i → step_at m v i ≡ Some x → (IsWithin b.radius (r.label + x.length) → HasRowBelow b.rows x.head (r.label + x.length)) → ClosedBefore m b r v (i + 1)
closed_more m b r v i x before at here j s low is =
    ⊎_elim
    (λ (lt : j < i). before j s lt is)
    (λ (ge : i ≤ j).
    let place : j ≡ i = omega arith in
    let both : Some x ≡ Some s = sym at ∙ ap (λ (k : ℕ). step_at m v k) (sym place) ∙ is in
    let same : x ≡ s = cc in
    subst (λ (y : Step). IsWithin b.radius (r.label + y.length) → HasRowBelow b.rows y.head (r.label + y.length)) same here)
    (cases_lt j i)

pub closed_in_all : (m : Graph) (b : Block) (r : BlockRow) (v i : ℕ) → v ≡ r.vertex → ClosedBefore m b r v i → step_at m v i ≡ None → IsClosedAt m b r
closed_in_all m b r v i same before none j s at =
    let is : step_at m v j ≡ Some s = subst (λ (w : ℕ). step_at m w j ≡ Some s) (sym same) at in
    ⊎_elim
    (λ (lt : j < i). before j s lt is)
    (λ (ge : i ≤ j). absurd (no_step_from m v i j s none ge is))
    (cases_lt j i)

pub closed_of_no_vertex : (m : Graph) (b : Block) (r : BlockRow) → IsGraph m → (IsVertex m.vertices r.vertex → ⊥) → IsClosedAt m b r
closed_of_no_vertex m b r sound none i s at =
    let x : IsStepOf m r.vertex s = step_row m r.vertex i s at in
    absurd (none (subst (λ (v : ℕ). IsVertex m.vertices v) x.tail (IsArc-at m s.arc x.row sound x.arc).tail))

closed_of_steps : (h : Graph) (b : Block) → AreClosed (reversed h) b → IsClosed h b.radius b.rows
closed_of_steps h b all r a x there is head within =
    let found : HasStep r.vertex 1 (reversed h).arcs (step_of a (turned x)) = step_of_arc (reversed h) r.vertex a (turned x) (arc_at-reversed_some h a x is) head in
    all r there found.at (step_of a (turned x)) found.is within

steps_of_closed : (h : Graph) (b : Block) → IsClosed h b.radius b.rows → AreClosed (reversed h) b
steps_of_closed h b closed r there i s at within =
    let x : IsStepOf (reversed h) r.vertex s = step_row (reversed h) r.vertex i s at in
    let arc : arc_at h s.arc ≡ Some (turned x.row) = arc_unreversed h s.arc x.row x.arc in
    let inside : IsWithin b.radius (r.label + x.row.length) = subst (λ (n : ℕ). IsWithin b.radius (r.label + n)) x.long within in
    let below : HasRowBelow b.rows x.row.head (r.label + x.row.length) = closed r s.arc (turned x.row) there arc x.tail inside in
    subst (λ (n : ℕ). HasRowBelow b.rows s.head (r.label + n)) (sym x.long) (subst (λ (v : ℕ). HasRowBelow b.rows v (r.label + x.row.length)) (sym x.head) below)

pub closed_of : (h m : Graph) (b : Block) → m ≡ reversed h → AreClosed m b ↔ IsClosed h b.radius b.rows
closed_of h m b turns =
    (λ (all : AreClosed m b). closed_of_steps h b (subst (λ (x : Graph). AreClosed x b) turns all), λ (closed : IsClosed h b.radius b.rows). subst (λ (x : Graph). AreClosed x b) (sym turns) (steps_of_closed h b closed))
