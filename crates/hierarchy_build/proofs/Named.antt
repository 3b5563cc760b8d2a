-- Each rank is that of a vertex.
use Rattle.std.proofs.Common.{◌≡◌, ◌≢◌, ◌+◌, ◌<◌, ◌≤◌, ℕ, zero, suc, Bool, true, false, cond, eqb, List, slice_index, sym, ap, ◌∙◌, subst, arith, eq-eqb, ⊎_elim}
use Rattle.std.proofs.lemmas.Bool.{cases_lt, cases_Bool, eqb-true}
use Rattle.road_model.specs.Graph.{IsVertex}
use Rattle.road_model.proofs.Basics.{same_or_other}
use Rattle.hierarchy_build.specs.Runs.{IsRanked}

-- a function from the numbers below m to themselves that gives each at most once
record IsInto (f : ℕ → ℕ) (m : ℕ) : Type 0 where
  inside : (i : ℕ) → i < m → f i < m
  apart : (i j : ℕ) → i < m → j < m → f i ≡ f j → i ≡ j

record IsReached (f : ℕ → ℕ) (m a : ℕ) : Type 0 where
  from : ℕ
  inside : from < m
  is : f from ≡ a

-- with what it gives at m in the place of m
abbrev shortened : (ℕ → ℕ) → ℕ → ℕ → ℕ
shortened f m i = cond (eqb (f i) m) (f m) (f i)

shortened_top : (f : ℕ → ℕ) (m i : ℕ) → f i ≡ m → shortened f m i ≡ f m
shortened_top f m i is = ap (λ (b : Bool). cond b (f m) (f i)) (eq-eqb (f i) m is)

shortened_below : (f : ℕ → ℕ) (m i : ℕ) → f i ≢ m → shortened f m i ≡ f i
shortened_below f m i other =
    ⊎_elim
    (λ (yes : eqb (f i) m ≡ true). let r : shortened f m i ≡ f i = absurd (other (eqb-true (f i) m yes)) in r)
    (λ (no : eqb (f i) m ≡ false). ap (λ (b : Bool). cond b (f m) (f i)) no)
    (cases_Bool (eqb (f i) m))

below_top : (f : ℕ → ℕ) (m i : ℕ) → IsInto f (suc m) → i < m → f i ≡ m → f m < m
below_top f m i into lt is =
    ⊎_elim
    (λ (low : f m < m). low)
    (λ (high : m ≤ f m).
    let most : f m < suc m = into.inside m (omega arith) in
    let same : i ≡ m = into.apart i m (omega arith) (omega arith) (omega arith) in
    let r : f m < m = absurd (omega arith) in r)
    (cases_lt (f m) m)

IsInto-shortened : (f : ℕ → ℕ) (m : ℕ) → IsInto f (suc m) → IsInto (shortened f m) m
IsInto-shortened f m into =
    record {
      inside = (λ i lt.
          ⊎_elim
          (λ (top : f i ≡ m). subst (λ (x : ℕ). x < m) (sym (shortened_top f m i top)) (below_top f m i into lt top))
          (λ (other : f i ≢ m).
          let most : f i < suc m = into.inside i (omega arith) in
          let low : f i < m = omega (arith, other) in
          subst (λ (x : ℕ). x < m) (sym (shortened_below f m i other)) low)
          (same_or_other (f i) m));
      apart = (λ i j lt lt' same.
          ⊎_elim
          (λ (top : f i ≡ m).
          ⊎_elim
          (λ (top' : f j ≡ m). into.apart i j (omega arith) (omega arith) (top ∙ sym top'))
          (λ (other : f j ≢ m).
          let e : f m ≡ f j = sym (shortened_top f m i top) ∙ same ∙ shortened_below f m j other in
          let at : m ≡ j = into.apart m j (omega arith) (omega arith) e in
          let r : i ≡ j = absurd (omega arith) in r)
          (same_or_other (f j) m))
          (λ (other : f i ≢ m).
          ⊎_elim
          (λ (top' : f j ≡ m).
          let e : f i ≡ f m = sym (shortened_below f m i other) ∙ same ∙ shortened_top f m j top' in
          let at : i ≡ m = into.apart i m (omega arith) (omega arith) e in
          let r : i ≡ j = absurd (omega arith) in r)
          (λ (other' : f j ≢ m). into.apart i j (omega arith) (omega arith) (sym (shortened_below f m i other) ∙ same ∙ shortened_below f m j other'))
          (same_or_other (f j) m))
          (same_or_other (f i) m));
    }

-- each is given
reached : (m : ℕ) (f : ℕ → ℕ) (a : ℕ) → IsInto f m → a < m → IsReached f m a
reached zero f a into lt = absurd (omega arith)
reached (suc m) f a into lt =
    let less : IsInto (shortened f m) m = IsInto-shortened f m into in
    ⊎_elim
    (λ (here : f m ≡ a). let r : IsReached f (suc m) a = record { from = m; inside = omega arith; is = here } in r)
    (λ (other : f m ≢ a).
    ⊎_elim
    (λ (top : a ≡ m).
    let most : f m < suc m = into.inside m (omega arith) in
    let ne : f m ≢ m = (λ e. other (e ∙ sym top)) in
    let low : f m < m = omega (arith, ne) in
    let r : IsReached (shortened f m) m (f m) = reached m (shortened f m) (f m) less low in
    let under = r.inside in
    ⊎_elim
    (λ (is : f r.from ≡ m). let s : IsReached f (suc m) a = record { from = r.from; inside = omega arith; is = is ∙ sym top } in s)
    (λ (no : f r.from ≢ m).
    let at : r.from ≡ m = into.apart r.from m (omega arith) (omega arith) (sym (shortened_below f m r.from no) ∙ r.is) in
    let s : IsReached f (suc m) a = absurd (omega arith) in s)
    (same_or_other (f r.from) m))
    (λ (below : a ≢ m).
    let low : a < m = omega (arith, below) in
    let r : IsReached (shortened f m) m a = reached m (shortened f m) a less low in
    let under = r.inside in
    ⊎_elim
    (λ (is : f r.from ≡ m). let s : IsReached f (suc m) a = absurd (other (sym (shortened_top f m r.from is) ∙ r.is)) in s)
    (λ (no : f r.from ≢ m). let s : IsReached f (suc m) a = record { from = r.from; inside = omega arith; is = sym (shortened_below f m r.from no) ∙ r.is } in s)
    (same_or_other (f r.from) m))
    (same_or_other a m))
    (same_or_other (f m) a)

pub record IsNamed (n : ℕ) (order rank : List ℕ) (a : ℕ) : Type 0 where
  pub vertex : IsVertex n (slice_index order a)
  pub back : slice_index rank (slice_index order a) ≡ a

pub named : (n : ℕ) (order rank : List ℕ) (a : ℕ) → IsRanked n order rank → a < n → IsNamed n order rank a
named n order rank a h lt =
    let into : IsInto (λ i. slice_index rank (i + 1)) n = record {
      inside = (λ i low. h.inside (i + 1) (record { first = omega arith; last = omega arith }));
      apart = (λ i j low low' same.
          let at_i = h.back (i + 1) (record { first = omega arith; last = omega arith }) in
          let at_j = h.back (j + 1) (record { first = omega arith; last = omega arith }) in
          let e : i + 1 ≡ j + 1 = sym at_i ∙ ap (λ (x : ℕ). slice_index order x) same ∙ at_j in
          omega arith);
    } in
    let r : IsReached (λ i. slice_index rank (i + 1)) n a = reached n (λ i. slice_index rank (i + 1)) a into lt in
    let low = r.inside in
    let is_v : IsVertex n (r.from + 1) = record { first = omega arith; last = omega arith } in
    let name : slice_index order a ≡ r.from + 1 = ap (λ (x : ℕ). slice_index order x) (sym r.is) ∙ h.back (r.from + 1) is_v in
    record {
      vertex = subst (λ (x : ℕ). IsVertex n x) (sym name) is_v;
      back = ap (λ (x : ℕ). slice_index rank x) name ∙ r.is;
    }
