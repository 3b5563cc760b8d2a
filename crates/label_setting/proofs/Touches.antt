-- The list of touched vertices beside the labels.
use Rattle.std.proofs.Common.{◌≡◌, ◌≢◌, ◌<◌, ◌≤◌, ◌+◌, ◌*◌, ◌^◌, ◌⊎◌, ℕ, zero, suc, Bool, true, false, cond, eqb, ◌||◌, List, [], ◌∷◌, ◌++◌, length, get_or, set, drop, sum, All, Contains, refl, sym, ap, ◌∙◌, subst, arith, inl, inr, ⊎_elim}
use Rattle.std.specs.Cmp.{nat_eq_equiv}
use Rattle.std.specs.List.{IsDistinct, list_any}
use Rattle.std.specs.List.Sorted.{IsPermutation}
use Rattle.std.proofs.lemmas.Bool.{cases_eq, cases_Bool, eq-eqb, ne_eqb, eqb-true}
use Rattle.std.proofs.lemmas.List.{length-set, get_or-set_same, get_or-set_other, drop_more, drop_all, get_or_default}
use Rattle.std.proofs.lemmas.List.Elements.{All-push, All-from_get_or, Contains-append_left, Contains-push, Contains-push_cases}
use Rattle.std.proofs.lemmas.List.Sorted.{length_permutation}
use Rattle.std.proofs.lemmas.List.Sums.{sum_by-set}
use Rattle.std.proofs.lemmas.Map.Keys.{IsDistinct-push, IsDistinct-from_apart}
use Rattle.label_setting.specs.declared.queue.Entry.{Entry}
use Rattle.label_setting.specs.Search.{far, IsTracked, IsTouchedList}
use Rattle.label_setting.proofs.Entries.{Contains-cons_cases}

abbrev IsPlace : ℕ → ℕ → Type 0
IsPlace n v = v < n

-- the touched vertices once a vertex is touched that may have a label
abbrev pub touched_with : ℕ → ℕ → List ℕ → List ℕ
touched_with label head touched = cond (eqb label far) (touched ++ head ∷ []) touched

Contains-touched : (label head x : ℕ) (touched : List ℕ) → Contains touched x → Contains (touched_with label head touched) x
Contains-touched label head x touched h =
    ⊎_elim
    (λ (yes : eqb label far ≡ true). subst (λ (b : Bool). Contains (cond b (touched ++ head ∷ []) touched) x) (sym yes) (Contains-append_left touched (head ∷ []) x h))
    (λ (no : eqb label far ≡ false). subst (λ (b : Bool). Contains (cond b (touched ++ head ∷ []) touched) x) (sym no) h)
    (cases_Bool (eqb label far))

Contains-head_touched : (labels : List ℕ) (head : ℕ) (touched : List ℕ) → IsTracked labels touched → head < length labels → Contains (touched_with (get_or labels head 0) head touched) head
Contains-head_touched labels head touched h inside =
    ⊎_elim
    (λ (unlabelled : get_or labels head 0 ≡ far).
    subst (λ (b : Bool). Contains (cond b (touched ++ head ∷ []) touched) head) (sym (eq-eqb (get_or labels head 0) far unlabelled)) (Contains-push touched head))
    (λ (there : Contains touched head). Contains-touched (get_or labels head 0) head head touched there)
    (h.covers head inside)

All-touched : (n label head : ℕ) (touched : List ℕ) → All (IsPlace n) touched → head < n → All (IsPlace n) (touched_with label head touched)
All-touched n label head touched all inside =
    ⊎_elim
    (λ (yes : eqb label far ≡ true). subst (λ (b : Bool). All (IsPlace n) (cond b (touched ++ head ∷ []) touched)) (sym yes) (All-push (IsPlace n) touched head all inside))
    (λ (no : eqb label far ≡ false). subst (λ (b : Bool). All (IsPlace n) (cond b (touched ++ head ∷ []) touched)) (sym no) all)
    (cases_Bool (eqb label far))

pub IsTracked-touched : (labels : List ℕ) (label head : ℕ) (touched : List ℕ) → IsTracked labels touched → head < length labels → IsTracked labels (touched_with label head touched)
IsTracked-touched labels label head touched h inside =
    record {
      inside = All-touched (length labels) label head touched h.inside inside;
      covers = (λ x hx. ⊎_elim
          (λ (bare : get_or labels x 0 ≡ far). inl bare)
          (λ (there : Contains touched x). inr (Contains-touched label head x touched there))
          (h.covers x hx));
    }

pub IsTracked-given : (labels : List ℕ) (head d : ℕ) (touched : List ℕ) → IsTracked labels touched → head < length labels → IsTracked (set labels head d) (touched_with (get_or labels head 0) head touched)
IsTracked-given labels head d touched h inside =
    let same : length (set labels head d) ≡ length labels = length-set labels head d in
    record {
      inside = All-touched (length (set labels head d)) (get_or labels head 0) head touched (subst (λ (n : ℕ). All (IsPlace n) touched) (sym same) h.inside) (omega arith);
      covers = (λ x hx. ⊎_elim
          (λ (here : x ≡ head). inr (subst (λ (y : ℕ). Contains (touched_with (get_or labels head 0) head touched) y) (sym here) (Contains-head_touched labels head touched h inside)))
          (λ (other : x ≢ head). ⊎_elim
          (λ (bare : get_or labels x 0 ≡ far). inl (get_or-set_other labels head x d 0 other ∙ bare))
          (λ (there : Contains touched x). inr (Contains-touched (get_or labels head 0) head x touched there))
          (h.covers x (omega arith)))
          (cases_eq x head));
    }

not_any : (x : ℕ) (xs : List ℕ) → (Contains xs x → ⊥) → list_any (eqb x) xs ≡ false
not_any x [] h = refl
not_any x (y ∷ xs) h =
    let apart : eqb x y ≡ false = ne_eqb x y (λ e. h (0, omega arith, sym e)) in
    let rest : list_any (eqb x) xs ≡ false = not_any x xs (λ c. h (suc c.0, omega (arith, c.1), c.2)) in
    subst (λ (b : Bool). (b || list_any (eqb x) xs) ≡ false) (sym apart) rest

touched_before : (label head x : ℕ) (touched : List ℕ) → x ≢ head → Contains (touched_with label head touched) x → Contains touched x
touched_before label head x touched other h =
    ⊎_elim
    (λ (yes : eqb label far ≡ true).
    ⊎_elim
    (λ (was : Contains touched x). was)
    (λ (here : head ≡ x). absurd (other (sym here)))
    (Contains-push_cases touched head x (subst (λ (b : Bool). Contains (cond b (touched ++ head ∷ []) touched) x) yes h)))
    (λ (no : eqb label far ≡ false). subst (λ (b : Bool). Contains (cond b (touched ++ head ∷ []) touched) x) no h)
    (cases_Bool (eqb label far))

pub IsTouchedList-given : (radius : ℕ) (labels : List ℕ) (head d : ℕ) (touched : List ℕ) → IsTouchedList radius labels touched → head < length labels → d ≤ radius → IsTouchedList radius (set labels head d) (touched_with (get_or labels head 0) head touched)
IsTouchedList-given radius labels head d touched h inside low =
    record {
      low = h.low;
      each = (λ x there. ⊎_elim
          (λ (here : x ≡ head). let is : get_or (set labels head d) head 0 ≡ d = get_or-set_same labels head d 0 inside in
          subst (λ (y : ℕ). get_or (set labels head d) y 0 ≤ radius) (sym here) (omega arith))
          (λ (other : x ≢ head).
          let is : get_or (set labels head d) x 0 ≡ get_or labels x 0 = get_or-set_other labels head x d 0 other in
          let was = h.each x (touched_before (get_or labels head 0) head x touched other there) in
          omega arith)
          (cases_eq x head));
      apart = ⊎_elim
          (λ (yes : eqb (get_or labels head 0) far ≡ true).
          let bare : get_or labels head 0 ≡ far = eqb-true (get_or labels head 0) far yes in
          let new : Contains touched head → ⊥ = λ c. absurd (omega (arith, h.each head c, h.low)) in
          subst (λ (b : Bool). IsDistinct eqb (cond b (touched ++ head ∷ []) touched)) (sym yes) (IsDistinct-push nat_eq_equiv touched head h.apart (not_any head touched new)))
          (λ (no : eqb (get_or labels head 0) far ≡ false).
          subst (λ (b : Bool). IsDistinct eqb (cond b (touched ++ head ∷ []) touched)) (sym no) h.apart)
          (cases_Bool (eqb (get_or labels head 0) far));
    }

-- a better label is worth more than a place in the queue
pub work-given : (labels : List ℕ) (head d : ℕ) (e : Entry) (queue after : List Entry) → head < length labels → d < get_or labels head 0 → IsPermutation (e ∷ queue) after → 2 * sum (set labels head d) + length after ≤ 2 * sum labels + length queue
work-given labels head d e queue after inside better same =
    let total : sum (set labels head d) + get_or labels head 0 ≡ sum labels + d = sum_by-set (λ (x : ℕ). x) labels head d 0 inside in
    let long : length after ≡ length (e ∷ queue) = length_permutation (e ∷ queue) after same in
    omega arith

-- a search that begins: all bare, and then the root alone
pub IsTracked-bare : (labels touched : List ℕ) → All (λ x. x ≡ far) labels → All (λ v. v < length labels) touched → IsTracked labels touched
IsTracked-bare labels touched bare inside =
    record { inside = inside; covers = (λ x hx. inl (bare x 0 hx)) }

one_inside : (root n : ℕ) → root < n → (i : ℕ) → i < length (root ∷ []) → get_or (root ∷ []) i 0 < n
one_inside root n h zero inside = h
one_inside root n h (suc i) inside = absurd (omega arith)

pub IsTracked-begun : (labels : List ℕ) (root d : ℕ) → All (λ x. x ≡ far) labels → root < length labels → IsTracked (set labels root d) (root ∷ [])
IsTracked-begun labels root d bare inside =
    record {
      inside = All-from_get_or (IsPlace (length (set labels root d))) (root ∷ []) 0 (one_inside root (length (set labels root d)) (omega (arith, length-set labels root d)));
      covers = (λ x hx. ⊎_elim
          (λ (here : x ≡ root). inr (0, omega arith, sym here))
          (λ (other : x ≢ root). inl (get_or-set_other labels root x d 0 other ∙ bare x 0 (omega (arith, length-set labels root d))))
          (cases_eq x root));
    }

pub IsTouchedList-begun : (radius : ℕ) (labels : List ℕ) (root : ℕ) → root < length labels → radius < 2 ^ 60 → IsTouchedList radius (set labels root 0) (root ∷ [])
IsTouchedList-begun radius labels root inside low =
    record {
      low = low;
      each = (λ x there. ⊎_elim
          (λ (here : root ≡ x). let is : get_or (set labels root 0) root 0 ≡ 0 = get_or-set_same labels root 0 0 inside in
          subst (λ (y : ℕ). get_or (set labels root 0) y 0 ≤ radius) here (omega arith))
          (λ (none : Contains [] x). absurd (omega (arith, none.1)))
          (Contains-cons_cases x root [] there));
      apart = IsDistinct-from_apart eqb (root ∷ []) (λ i j d lt within. absurd (omega arith));
    }

-- the labels that are still to be taken back, once some are
abbrev pub IsLeft : List ℕ → List ℕ → Type 0
IsLeft labels rest = (x : ℕ) → x < length labels → (get_or labels x 0 ≡ far) ⊎ Contains rest x

pub IsLeft-more : (labels touched : List ℕ) (i v : ℕ) → IsLeft labels (drop i touched) → i < length touched → v ≡ get_or touched i v → v < length labels → IsLeft (set labels v far) (drop (i + 1) touched)
IsLeft-more labels touched i v h inside is fits x hx =
    let split : drop i touched ≡ v ∷ drop (i + 1) touched = drop_more touched i v inside ∙ ap (λ (y : ℕ). y ∷ drop (i + 1) touched) (sym is) in
    ⊎_elim
    (λ (here : x ≡ v). inl (subst (λ (y : ℕ). get_or (set labels v far) y 0 ≡ far) (sym here) (get_or-set_same labels v far 0 fits)))
    (λ (other : x ≢ v).
    ⊎_elim
    (λ (bare : get_or labels x 0 ≡ far). inl (get_or-set_other labels v x far 0 other ∙ bare))
    (λ (there : Contains (drop i touched) x).
    ⊎_elim
    (λ (here : v ≡ x). absurd (other (sym here)))
    (λ (later : Contains (drop (i + 1) touched) x). inr later)
    (Contains-cons_cases x v (drop (i + 1) touched) (subst (λ (l : List ℕ). Contains l x) split there)))
    (h x (omega (arith, length-set labels v far))))
    (cases_eq x v)

pub bare_from_none_left : (labels touched : List ℕ) (i : ℕ) → IsLeft labels (drop i touched) → length touched ≤ i → All (λ x. x ≡ far) labels
bare_from_none_left labels touched i h end k d inside =
    let none : drop i touched ≡ [] = drop_all i touched end in
    ⊎_elim
    (λ (bare : get_or labels k 0 ≡ far). get_or_default labels k d 0 inside ∙ bare)
    (λ (there : Contains (drop i touched) k). absurd (let c = subst (λ (l : List ℕ). Contains l k) none there in omega (arith, c.1)))
    (h k inside)
