-- A search that is over: its labels are distances.
use Rattle.std.proofs.Common.{◌≡◌, ◌<◌, ◌≤◌, ◌+◌, ℕ, List, [], ◌∷◌, get_or, All, Contains, ap, subst, arith, ⊎_elim}
use Rattle.std.specs.List.Sorted.{IsPermutation}
use Rattle.std.proofs.lemmas.Bool.{cases_lt}
use Rattle.std.proofs.lemmas.List.Elements.{All-contains}
use Rattle.std.proofs.lemmas.List.Sorted.{Contains-permutation}
use Rattle.road_model.specs.declared.rows.ArcRow.{ArcRow}
use Rattle.road_model.specs.Graph.{Graph, IsVertex, IsArc, IsGraph, length_at, row_length, step_of}
use Rattle.road_model.specs.Walk.{IsWalk, walk_length}
use Rattle.road_model.proofs.Walks.{IsArc-at}
use Rattle.label_setting.specs.declared.queue.Entry.{Entry}
use Rattle.label_setting.specs.declared.memory.Goal.{Goal}
use Rattle.label_setting.specs.Search.{IsRelaxed, IsSearch, IsSettled}
use Rattle.label_setting.proofs.Entries.{Contains-cons_cases}
use Rattle.label_setting.proofs.Steps.{step_of_arc}

abbrev AllRelaxed : Graph → ℕ → List ℕ → Type 0
AllRelaxed g limit labels = (x : ℕ) → IsVertex g.vertices x → get_or labels x 0 < limit → IsRelaxed g limit labels x

-- no walk betters a label where no step does
none_better : (g : Graph) (limit : ℕ) (labels : List ℕ) (p : List ℕ) (u x : ℕ) → IsGraph g → AllRelaxed g limit labels → IsWalk g u p x → get_or labels u 0 + walk_length g p ≤ limit → get_or labels x 0 ≤ get_or labels u 0 + walk_length g p
none_better g limit labels [] u x sound relaxed walk low =
    let same : get_or labels u 0 ≡ get_or labels x 0 = ap (λ (y : ℕ). get_or labels y 0) walk in
    omega arith
none_better g limit labels (a ∷ p) u x sound relaxed walk low =
    let row : ArcRow = walk.0 in
    let arc : IsArc g.vertices row = IsArc-at g a row sound walk.1 in
    let long : length_at g a ≡ row.length = ap row_length walk.1 in
    let positive = arc.positive in
    let step = step_of_arc g a row walk.1 in
    let at_tail : get_or labels row.tail 0 ≡ get_or labels u 0 = ap (λ (y : ℕ). get_or labels y 0) walk.2 in
    let met : get_or labels row.head 0 ≤ get_or labels row.tail 0 + row.length = relaxed row.tail arc.tail (omega arith) step.place (step_of a row) step.is (omega arith) in
    let rest : get_or labels x 0 ≤ get_or labels row.head 0 + walk_length g p = none_better g limit labels p row.head x sound relaxed walk.3 (omega arith) in
    omega arith

within_walk : (g : Graph) (goal : Goal) (limit : ℕ) (labels : List ℕ) (queue : List Entry) (p : List ℕ) (x : ℕ) → IsGraph g → IsSearch g goal limit labels queue 0 0 → AllRelaxed g limit labels → IsWalk g goal.root p x → walk_length g p ≤ limit → get_or labels x 0 ≤ walk_length g p
within_walk g goal limit labels queue p x sound h relaxed walk low =
    let start = h.start in
    let better = none_better g limit labels p goal.root x sound relaxed walk (omega arith) in
    omega arith

IsSettled-relaxed : (g : Graph) (goal : Goal) (limit : ℕ) (labels : List ℕ) (queue : List Entry) → IsGraph g → IsSearch g goal limit labels queue 0 0 → AllRelaxed g limit labels → IsSettled g goal.root limit labels
IsSettled-relaxed g goal limit labels queue sound h relaxed =
    record {
      size = h.size;
      near = (λ x hx low. (
        h.walks x hx low,
        (λ p walk. ⊎_elim
            (λ (beyond : limit < walk_length g p). omega arith)
            (λ (short : walk_length g p ≤ limit). within_walk g goal limit labels queue p x sound h relaxed walk short)
            (cases_lt limit (walk_length g p))),
      ));
      beyond = (λ x above p walk. ⊎_elim
          (λ (beyond : limit < walk_length g p). beyond)
          (λ (short : walk_length g p ≤ limit). absurd (let better = within_walk g goal limit labels queue p x sound h relaxed walk short in omega arith))
          (cases_lt limit (walk_length g p)));
    }

abbrev IsNotBelow : ℕ → Entry → Type 0
IsNotBelow d e = d ≤ e.distance

-- the search is over where all that waits is at the limit or above it
pub IsSettled-over : (g : Graph) (goal : Goal) (limit : ℕ) (labels : List ℕ) (queue rest : List Entry) (e : Entry) → IsGraph g → IsSearch g goal limit labels queue 0 0 → IsPermutation queue (e ∷ rest) → All (λ y. e.distance ≤ y.distance) rest → limit ≤ e.distance → IsSettled g goal.root limit labels
IsSettled-over g goal limit labels queue rest e sound h same least above =
    IsSettled-relaxed g goal limit labels queue sound h
    (λ x hx low. ⊎_elim
    (λ (there : Contains queue (record { distance = get_or labels x 0; vertex = x })).
    let one : Entry = record { distance = get_or labels x 0; vertex = x } in
    absurd (⊎_elim
    (λ (this : e ≡ one). let d : e.distance ≡ get_or labels x 0 = ap (λ (y : Entry). y.distance) this in omega arith)
    (λ (left : Contains rest one). let d : e.distance ≤ get_or labels x 0 = All-contains (IsNotBelow e.distance) rest one least left in omega arith)
    (Contains-cons_cases one e rest (Contains-permutation queue (e ∷ rest) one same there))))
    (λ (relaxed : IsRelaxed g limit labels x). relaxed)
    (h.waits x hx low (λ z. absurd (let one = hx.first in omega (arith, z)))))

pub IsSettled-empty : (g : Graph) (goal : Goal) (limit : ℕ) (labels : List ℕ) (queue : List Entry) → IsGraph g → IsSearch g goal limit labels queue 0 0 → queue ≡ [] → IsSettled g goal.root limit labels
IsSettled-empty g goal limit labels queue sound h none =
    IsSettled-relaxed g goal limit labels queue sound h
    (λ x hx low. ⊎_elim
    (λ (there : Contains queue (record { distance = get_or labels x 0; vertex = x })).
    absurd (let gone = subst (λ (q : List Entry). Contains q (record { distance = get_or labels x 0; vertex = x })) none there in omega (arith, gone.1)))
    (λ (relaxed : IsRelaxed g limit labels x). relaxed)
    (h.waits x hx low (λ z. absurd (let one = hx.first in omega (arith, z)))))
