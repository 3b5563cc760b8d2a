-- One step of a search after another.
use Rattle.std.proofs.Common.{◌≡◌, ◌≢◌, ◌<◌, ◌≤◌, ◌+◌, ◌^◌, ◌⊎◌, ℕ, List, [], ◌∷◌, ◌++◌, length, get_or, set, Some, None, slice_get, Contains, refl, sym, ap, ◌∙◌, subst, arith, inl, inr, ⊎_elim}
use Rattle.std.specs.List.Sorted.{IsPermutation}
use Rattle.std.proofs.lemmas.Bool.{cases_eq, cases_lt}
use Rattle.std.proofs.lemmas.List.{length-set, get_or-set_same, get_or-set_other}
use Rattle.std.proofs.lemmas.List.Elements.{All-cons, All-nil, All-tail, All-head}
use Rattle.std.proofs.lemmas.List.Sorted.{All-permutation, Contains-permutation}
use Rattle.std.proofs.lemmas.Option.{slice_get-get_or, slice_get_past}
use Rattle.road_model.specs.declared.network.Step.{Step}
use Rattle.road_model.specs.Graph.{Graph, IsVertex, IsGraph, step_at, steps_from, length_at, row_length}
use Rattle.road_model.specs.Walk.{IsWalk}
use Rattle.road_model.specs.Dist.{HasWalk}
use Rattle.road_model.proofs.Walks.{IsWalk-push, walk_length-append}
use Rattle.label_setting.specs.declared.queue.Entry.{Entry}
use Rattle.label_setting.specs.declared.memory.Goal.{Goal}
use Rattle.label_setting.specs.declared.memory.SearchMemory.{SearchMemory}
use Rattle.label_setting.specs.Search.{IsMet, IsRelaxed, IsEntry, IsSearch, Stays, Betters, Begins}
use Rattle.label_setting.proofs.Entries.{Contains-cons_cases, Contains-head, Contains-later}
use Rattle.label_setting.proofs.Steps.{arc_of_step, head_inside}

abbrev pub entry_at : List ℕ → ℕ → Entry
entry_at labels x = record { distance = get_or labels x 0; vertex = x }

abbrev IsEntryOf : ℕ → Entry → Type 0
IsEntryOf n e = IsEntry n e

-- a label never rises
falls : (labels : List ℕ) (head d x : ℕ) → head < length labels → d < get_or labels head 0 → get_or (set labels head d) x 0 ≤ get_or labels x 0
falls labels head d x inside better =
    ⊎_elim
    (λ (here : x ≡ head).
    let is : get_or (set labels head d) head 0 ≡ d = get_or-set_same labels head d 0 inside in
    subst (λ (y : ℕ). get_or (set labels head d) y 0 ≤ get_or labels y 0) (sym here) (omega arith))
    (λ (other : x ≢ head). let is : get_or (set labels head d) x 0 ≡ get_or labels x 0 = get_or-set_other labels head x d 0 other in omega arith)
    (cases_eq x head)

-- a step that betters nothing
pub IsSearch-stays : (g : Graph) (goal : Goal) (limit : ℕ) (labels : List ℕ) (queue : List Entry) (v n d : ℕ) (s : Step) → IsSearch g goal limit labels queue v n → step_at g v n ≡ Some s → d ≡ get_or labels v 0 + s.length → IsMet limit labels d s.head → IsSearch g goal limit labels queue v (n + 1)
IsSearch-stays g goal limit labels queue v n d s h step long met =
    record {
      size = h.size;
      start = h.start;
      unused = h.unused;
      within = h.within;
      aim = h.aim;
      walks = h.walks;
      inside = h.inside;
      waits = h.waits;
      here = (λ i t hi at. ⊎_elim
          (λ (last : i ≡ n).
          let e : Some s ≡ Some t = sym step ∙ ap (λ (j : ℕ). step_at g v j) (sym last) ∙ at in
          let same : s ≡ t = cc in
          subst (λ (x : Step). IsMet limit labels (get_or labels v 0 + x.length) x.head) same (subst (λ (k : ℕ). IsMet limit labels k s.head) long met))
          (λ (other : i ≢ n). h.here i t (omega (arith, other)) at)
          (cases_eq i n));
    }

-- the walk over one arc more
HasWalk-step : (g : Graph) (root v i k : ℕ) (s : Step) → HasWalk g root v k → step_at g v i ≡ Some s → HasWalk g root s.head (k + s.length)
HasWalk-step g root v i k s h step =
    let t = arc_of_step g v i s step in
    let walk : IsWalk g root (h.path ++ s.arc ∷ []) t.row.head = IsWalk-push g h.path root v s.arc t.row h.walk t.at t.tail in
    let one : length_at g s.arc ≡ t.row.length = ap row_length t.at in
    record {
      path = h.path ++ s.arc ∷ [];
      walk = subst (λ (x : ℕ). IsWalk g root (h.path ++ s.arc ∷ []) x) t.head walk;
      long = (let parts = walk_length-append g h.path (s.arc ∷ []) in let was = h.long in let is = t.long in omega arith);
    }

-- a step that betters a label
pub IsSearch-betters : (g : Graph) (goal : Goal) (limit after : ℕ) (labels : List ℕ) (queue queued : List Entry) (v n d : ℕ) (s : Step) → IsGraph g → IsSearch g goal limit labels queue v n → v ≤ g.vertices → step_at g v n ≡ Some s → d ≡ get_or labels v 0 + s.length → d < 2 ^ 60 → d ≤ limit → d < get_or labels s.head 0 → IsPermutation (record { distance = d; vertex = s.head } ∷ queue) queued → ((s.head ≡ goal.target) × (after ≡ d)) ⊎ ((s.head ≢ goal.target) × (after ≡ limit)) → IsSearch g goal after (set labels s.head d) queued v (n + 1)
IsSearch-betters g goal limit after labels queue queued v n d s sound h inside step long short within better same shrinks =
    let head : ℕ = s.head in
    let vertex : IsVertex g.vertices head = head_inside g v n s sound step in
    let fits : head < length labels = omega (arith, vertex.last, h.size) in
    let lower : after ≤ limit = ⊎_elim (λ (a : (head ≡ goal.target) × (after ≡ d)). omega (arith, a.1)) (λ (b : (head ≢ goal.target) × (after ≡ limit)). omega (arith, b.1)) shrinks in
    let written : get_or (set labels head d) head 0 ≡ d = get_or-set_same labels head d 0 fits in
    let kept : (x : ℕ) → x ≢ head → get_or (set labels head d) x 0 ≡ get_or labels x 0 = λ x other. get_or-set_other labels head x d 0 other in
    let down : (x : ℕ) → get_or (set labels head d) x 0 ≤ get_or labels x 0 = λ x. falls labels head d x fits better in
    let not_root : goal.root ≢ head = λ e. absurd (let z : get_or labels head 0 ≡ 0 = subst (λ (x : ℕ). get_or labels x 0 ≡ 0) e h.start in omega arith) in
    let not_self : v ≢ head = λ e. absurd (let z : get_or labels v 0 ≡ get_or labels head 0 = ap (λ (x : ℕ). get_or labels x 0) e in omega arith) in
    let at_v : get_or (set labels head d) v 0 ≡ get_or labels v 0 = kept v not_self in
    record {
      size = length-set labels head d ∙ h.size;
      start = kept goal.root not_root ∙ h.start;
      unused = kept 0 (λ e. absurd (let low = vertex.first in omega (arith, e))) ∙ h.unused;
      within = omega (arith, h.within);
      aim = ⊎_elim
          (λ (a : (head ≡ goal.target) × (after ≡ d)). inl (ap (λ (x : ℕ). get_or (set labels head d) x 0) (sym a.0) ∙ written ∙ sym a.1))
          (λ (b : (head ≢ goal.target) × (after ≡ limit)).
          let there : get_or (set labels head d) goal.target 0 ≡ get_or labels goal.target 0 = kept goal.target (λ e. b.0 (sym e)) in
          ⊎_elim
          (λ (is : get_or labels goal.target 0 ≡ limit). inl (there ∙ is ∙ sym b.1))
          (λ (none : (limit ≡ goal.radius) × (goal.radius < get_or labels goal.target 0)). inr (b.1 ∙ none.0, omega (arith, none.1)))
          h.aim)
          shrinks;
      walks = (λ x hx low. ⊎_elim
          (λ (here : x ≡ head).
          let walk : HasWalk g goal.root v (get_or labels v 0) = h.walks v inside (omega arith) in
          let more : HasWalk g goal.root head d = subst (λ (k : ℕ). HasWalk g goal.root head k) (sym long) (HasWalk-step g goal.root v n (get_or labels v 0) s walk step) in
          subst (λ (y : ℕ). HasWalk g goal.root y (get_or (set labels head d) y 0)) (sym here) (subst (λ (k : ℕ). HasWalk g goal.root head k) (sym written) more))
          (λ (other : x ≢ head).
          subst (λ (k : ℕ). HasWalk g goal.root x k) (sym (kept x other)) (h.walks x hx (omega (arith, kept x other))))
          (cases_eq x head));
      inside = All-permutation (IsEntryOf g.vertices) (record { distance = d; vertex = head } ∷ queue) queued same (All-cons (IsEntryOf g.vertices) (record { distance = d; vertex = head }) queue (record { vertex = vertex; short = short }) h.inside);
      waits = (λ x hx low other_v. ⊎_elim
          (λ (here : x ≡ head).
          let e : Contains queued (record { distance = d; vertex = head }) = Contains-permutation (record { distance = d; vertex = head } ∷ queue) queued (record { distance = d; vertex = head }) same (Contains-head (record { distance = d; vertex = head }) queue) in
          let at : Contains queued (entry_at (set labels head d) head) = subst (λ (k : ℕ). Contains queued (record { distance = k; vertex = head })) (sym written) e in
          inl (subst (λ (y : ℕ). Contains queued (entry_at (set labels head d) y)) (sym here) at))
          (λ (other : x ≢ head).
          let label : get_or (set labels head d) x 0 ≡ get_or labels x 0 = kept x other in
          ⊎_elim
          (λ (queued_x : Contains queue (entry_at labels x)).
          let more : Contains queued (entry_at labels x) = Contains-permutation (record { distance = d; vertex = head } ∷ queue) queued (entry_at labels x) same (Contains-later (entry_at labels x) (record { distance = d; vertex = head }) queue queued_x) in
          inl (subst (λ (k : ℕ). Contains queued (record { distance = k; vertex = x })) (sym label) more))
          (λ (relaxed : IsRelaxed g limit labels x). inr (λ i t at low_t. let met = relaxed i t at (omega arith) in omega (arith, down t.head)))
          (h.waits x hx (omega arith) other_v))
          (cases_eq x head));
      here = (λ i t hi at low_t. ⊎_elim
          (λ (last : i ≡ n).
          let e : Some s ≡ Some t = sym step ∙ ap (λ (j : ℕ). step_at g v j) (sym last) ∙ at in
          let one : s ≡ t = cc in
          let there : get_or (set labels head d) t.head 0 ≡ d = ap (λ (y : Step). get_or (set labels head d) y.head 0) (sym one) ∙ written in
          let lengths : s.length ≡ t.length = ap (λ (y : Step). y.length) one in
          omega arith)
          (λ (other : i ≢ n). let met = h.here i t (omega (arith, other)) at (omega arith) in omega (arith, down t.head))
          (cases_eq i n));
    }

-- what a step does, either way
pub IsSearch-step : (g : Graph) (goal : Goal) (limit after d : ℕ) (f f' : SearchMemory) (v n : ℕ) (s : Step) → IsGraph g → IsSearch g goal limit f.labels.items f.queue v n → v ≤ g.vertices → step_at g v n ≡ Some s → d ≡ get_or f.labels.items v 0 + s.length → d < 2 ^ 60 + 2 ^ 58 → limit < 2 ^ 60 → Stays limit d s.head after f f' ⊎ Betters goal.target limit d s.head after f f' → IsSearch g goal after f'.labels.items f'.queue v (n + 1)
IsSearch-step g goal limit after d f f' v n s sound h inside step long short low outcome =
    ⊎_elim
    (λ (a : Stays limit d s.head after f f').
    let more = IsSearch-stays g goal limit f.labels.items f.queue v n d s h step long a.met in
    subst (λ (l : ℕ). IsSearch g goal l f'.labels.items f'.queue v (n + 1)) (sym a.limit_stays)
    (subst (λ (ls : List ℕ). IsSearch g goal limit ls f'.queue v (n + 1)) (sym a.labels)
    (subst (λ (q : List Entry). IsSearch g goal limit f.labels.items q v (n + 1)) (sym a.queue) more)))
    (λ (b : Betters goal.target limit d s.head after f f').
    let more = IsSearch-betters g goal limit after f.labels.items f.queue f'.queue v n d s sound h inside step long (let w = b.within in omega arith) b.within b.better b.queue b.limit_shrinks in
    subst (λ (ls : List ℕ). IsSearch g goal after ls f'.queue v (n + 1)) (sym b.labels) more)
    outcome

pub label-step : (target limit d head after : ℕ) (f f' : SearchMemory) (v : ℕ) → get_or f.labels.items v 0 ≤ d → head < length f.labels.items → Stays limit d head after f f' ⊎ Betters target limit d head after f f' → get_or f'.labels.items v 0 ≡ get_or f.labels.items v 0
label-step target limit d head after f f' v low inside outcome =
    ⊎_elim
    (λ (a : Stays limit d head after f f'). ap (λ (ls : List ℕ). get_or ls v 0) a.labels)
    (λ (b : Betters target limit d head after f f').
    let other : v ≢ head = λ e. absurd (let z : get_or f.labels.items v 0 ≡ get_or f.labels.items head 0 = ap (λ (x : ℕ). get_or f.labels.items x 0) e in let better = b.better in omega arith) in
    ap (λ (ls : List ℕ). get_or ls v 0) b.labels ∙ get_or-set_other f.labels.items head v d 0 other)
    outcome

pub limit-step : (target limit d head after : ℕ) (f f' : SearchMemory) → Stays limit d head after f f' ⊎ Betters target limit d head after f f' → after ≤ limit
limit-step target limit d head after f f' outcome =
    ⊎_elim
    (λ (a : Stays limit d head after f f'). omega (arith, a.limit_stays))
    (λ (b : Betters target limit d head after f f').
    ⊎_elim
    (λ (x : (head ≡ target) × (after ≡ d)). omega (arith, x.1, b.within))
    (λ (y : (head ≢ target) × (after ≡ limit)). omega (arith, y.1))
    b.limit_shrinks)
    outcome

blank : Step
blank = record { arc = 0; head = 0; length = 0 }

past_end : (steps : List Step) (n i : ℕ) → slice_get steps n ≡ None → n ≤ i → slice_get steps i ≡ None
past_end steps n i none late =
    ⊎_elim
    (λ (inside : n < length steps). absurd (let has : slice_get steps n ≡ Some (get_or steps n blank) = slice_get-get_or steps n blank inside in let e : None ≡ Some (get_or steps n blank) = sym none ∙ has in cc))
    (λ (past : length steps ≤ n). slice_get_past steps i (omega arith))
    (cases_lt n (length steps))

-- all steps out of v are taken
pub IsSearch-relaxed : (g : Graph) (goal : Goal) (limit : ℕ) (labels : List ℕ) (queue : List Entry) (v n : ℕ) → IsSearch g goal limit labels queue v n → step_at g v n ≡ None → IsSearch g goal limit labels queue 0 0
IsSearch-relaxed g goal limit labels queue v n h end =
    record {
      size = h.size;
      start = h.start;
      unused = h.unused;
      within = h.within;
      aim = h.aim;
      walks = h.walks;
      inside = h.inside;
      waits = (λ x hx low other. ⊎_elim
          (λ (here : x ≡ v). inr (subst (λ (y : ℕ). IsRelaxed g limit labels y) (sym here)
          (λ i s at. ⊎_elim
          (λ (early : i < n). h.here i s early at)
          (λ (late : n ≤ i). absurd (let gone : step_at g v i ≡ None = past_end (steps_from v 1 g.arcs) n i end late in let e : None ≡ Some s = sym gone ∙ at in cc))
          (cases_lt i n))))
          (λ (not_v : x ≢ v). h.waits x hx low not_v)
          (cases_eq x v));
      here = (λ i s hi at. absurd (let z : i < 0 = hi in omega arith));
    }

-- an entry that is taken out
pub IsSearch-stale : (g : Graph) (goal : Goal) (limit : ℕ) (labels : List ℕ) (queue rest : List Entry) (e : Entry) → IsSearch g goal limit labels queue 0 0 → IsPermutation queue (e ∷ rest) → e.distance ≢ get_or labels e.vertex 0 → IsSearch g goal limit labels rest 0 0
IsSearch-stale g goal limit labels queue rest e h same stale =
    record {
      size = h.size;
      start = h.start;
      unused = h.unused;
      within = h.within;
      aim = h.aim;
      walks = h.walks;
      here = h.here;
      inside = All-tail (IsEntryOf g.vertices) e rest (All-permutation (IsEntryOf g.vertices) queue (e ∷ rest) same h.inside);
      waits = (λ x hx low other. ⊎_elim
          (λ (there : Contains queue (entry_at labels x)).
          ⊎_elim
          (λ (this : e ≡ entry_at labels x). absurd (stale (ap (λ (y : Entry). y.distance) this ∙ ap (λ (y : Entry). get_or labels y.vertex 0) (sym this))))
          (λ (left : Contains rest (entry_at labels x)). inl left)
          (Contains-cons_cases (entry_at labels x) e rest (Contains-permutation queue (e ∷ rest) (entry_at labels x) same there)))
          (λ (relaxed : IsRelaxed g limit labels x). inr relaxed)
          (h.waits x hx low other));
    }

pub IsSearch-taken : (g : Graph) (goal : Goal) (limit : ℕ) (labels : List ℕ) (queue rest : List Entry) (e : Entry) → IsSearch g goal limit labels queue 0 0 → IsPermutation queue (e ∷ rest) → IsSearch g goal limit labels rest e.vertex 0
IsSearch-taken g goal limit labels queue rest e h same =
    record {
      size = h.size;
      start = h.start;
      unused = h.unused;
      within = h.within;
      aim = h.aim;
      walks = h.walks;
      inside = All-tail (IsEntryOf g.vertices) e rest (All-permutation (IsEntryOf g.vertices) queue (e ∷ rest) same h.inside);
      waits = (λ x hx low other. ⊎_elim
          (λ (there : Contains queue (entry_at labels x)).
          ⊎_elim
          (λ (this : e ≡ entry_at labels x). absurd (other (ap (λ (y : Entry). y.vertex) (sym this))))
          (λ (left : Contains rest (entry_at labels x)). inl left)
          (Contains-cons_cases (entry_at labels x) e rest (Contains-permutation queue (e ∷ rest) (entry_at labels x) same there)))
          (λ (relaxed : IsRelaxed g limit labels x). inr relaxed)
          (h.waits x hx low (λ z. absurd (let one = hx.first in omega (arith, z)))));
      here = (λ i s hi at. absurd (let z : i < 0 = hi in omega arith));
    }

pub entry_taken : (g : Graph) (goal : Goal) (limit : ℕ) (labels : List ℕ) (queue rest : List Entry) (e : Entry) → IsSearch g goal limit labels queue 0 0 → IsPermutation queue (e ∷ rest) → IsEntry g.vertices e
entry_taken g goal limit labels queue rest e h same =
    All-head (IsEntryOf g.vertices) e rest (All-permutation (IsEntryOf g.vertices) queue (e ∷ rest) same h.inside)

-- the root alone has a label
pub IsSearch-begun : (g : Graph) (goal : Goal) (limit : ℕ) (f : SearchMemory) → IsVertex g.vertices goal.root → length f.labels.items ≡ g.vertices + 1 → Begins goal f → ((goal.root ≡ goal.target) × (limit ≡ 0)) ⊎ ((goal.root ≢ goal.target) × (limit ≡ goal.radius)) → goal.target ≤ g.vertices → IsSearch g goal limit f.labels.items f.queue 0 0
IsSearch-begun g goal limit f root size h first inside =
    let labels : List ℕ = f.labels.items in
    let low = h.listed.low in
    let under : limit ≤ goal.radius = ⊎_elim (λ (a : (goal.root ≡ goal.target) × (limit ≡ 0)). omega (arith, a.1)) (λ (b : (goal.root ≢ goal.target) × (limit ≡ goal.radius)). omega (arith, b.1)) first in
    record {
      size = size;
      start = h.root;
      unused = h.others 0 (omega arith) (λ e. absurd (let one = root.first in omega (arith, e)));
      within = under;
      aim = ⊎_elim
          (λ (a : (goal.root ≡ goal.target) × (limit ≡ 0)). inl (ap (λ (x : ℕ). get_or labels x 0) (sym a.0) ∙ h.root ∙ sym a.1))
          (λ (b : (goal.root ≢ goal.target) × (limit ≡ goal.radius)).
          let bare = h.others goal.target (omega arith) (λ e. b.0 (sym e)) in
          inr (b.1, omega arith))
          first;
      walks = (λ x hx hl. ⊎_elim
          (λ (here : x ≡ goal.root).
          let none : HasWalk g goal.root goal.root 0 = record { path = []; walk = refl; long = refl } in
          subst (λ (y : ℕ). HasWalk g goal.root y (get_or labels y 0)) (sym here) (subst (λ (k : ℕ). HasWalk g goal.root goal.root k) (sym h.root) none))
          (λ (other : x ≢ goal.root). absurd (let bare = h.others x (omega arith) other in omega arith))
          (cases_eq x goal.root));
      inside = All-permutation (IsEntryOf g.vertices) (record { distance = 0; vertex = goal.root } ∷ []) f.queue h.queue (All-cons (IsEntryOf g.vertices) (record { distance = 0; vertex = goal.root }) [] (record { vertex = root; short = omega arith }) (All-nil (IsEntryOf g.vertices)));
      waits = (λ x hx hl other_zero. ⊎_elim
          (λ (here : x ≡ goal.root).
          let e : Contains f.queue (record { distance = 0; vertex = goal.root }) = Contains-permutation (record { distance = 0; vertex = goal.root } ∷ []) f.queue (record { distance = 0; vertex = goal.root }) h.queue (Contains-head (record { distance = 0; vertex = goal.root }) []) in
          inl (subst (λ (y : ℕ). Contains f.queue (entry_at labels y)) (sym here) (subst (λ (k : ℕ). Contains f.queue (record { distance = k; vertex = goal.root })) (sym h.root) e)))
          (λ (other : x ≢ goal.root). absurd (let last = hx.last in let bare = h.others x (omega arith) other in omega arith))
          (cases_eq x goal.root));
      here = (λ i s hi at. absurd (let z : i < 0 = hi in omega arith));
    }
