-- Via lines against the near vertices, and the first check that fails.
use Rattle.std.proofs.Common.{◌≡◌, ◌≢◌, ℕ, ◌+◌, ◌<◌, ◌≤◌, inl, inr, List, ◌∷◌, length, get_or, drop, Option, Some, None, sym, ap, ◌∙◌, subst, arith, ⊎_elim}
use Rattle.std.specs.List.Sorted.{IsStrictlyIncreasing}
use Rattle.std.proofs.lemmas.Bool.{cases_lt}
use Rattle.std.proofs.lemmas.List.{drop_more, drop_all, get_or_default}
use Rattle.std.proofs.lemmas.List.Kept.{AllPairs-from_increasing}
use Rattle.certificate_text.specs.declared.certificate.CertRoute.{CertRoute}
use Rattle.certificate_text.specs.declared.certificate.ViaRow.{ViaRow}
use Rattle.certificate_text.specs.declared.fault.CertKind.{CertKind}
use Rattle.certificate_text.specs.declared.fault.CertKind.TheVariants as word
use Rattle.certificate_text.specs.declared.fault.CertFault.{CertFault}
use Rattle.recheck.specs.Paths.{Ground, IsNear}
use Rattle.recheck.specs.Reasons.{IsNextNear, IsAllNear, IsReason}
use Rattle.recheck.specs.Nears.{AreNears, IsPast}
use Rattle.recheck.specs.Checks.{Checks, FindsFirst, check, fault_at, vias_checks}

-- where a near vertex stands
pub place_of : (o : Ground) (vs : List ℕ) (v : ℕ) → AreNears o vs → IsNear o v → (k : ℕ) × (k < length vs) × (get_or vs k 0 ≡ v)
place_of o vs v nears near =
    let there = (nears.each v).1 near in
    (there.0, there.1, get_or_default vs there.0 0 v there.1 ∙ there.2)

pub near_at : (o : Ground) (vs : List ℕ) (k : ℕ) → AreNears o vs → k < length vs → IsNear o (get_or vs k 0)
near_at o vs k nears lt = (nears.each (get_or vs k 0)).0 (k, lt, get_or_default vs k (get_or vs k 0) 0 lt)

not_below : (vs : List ℕ) (i j : ℕ) → IsStrictlyIncreasing vs → i ≤ j → j < length vs → get_or vs i 0 ≤ get_or vs j 0
not_below vs i j rising le lt =
    ⊎_elim
    (λ (less : i < j). let rise : get_or vs i 0 < get_or vs j 0 = AllPairs-from_increasing vs rising i j 0 less lt in omega arith)
    (λ (ge : j ≤ i). let same : i ≡ j = omega arith in omega (arith, ap (λ (n : ℕ). get_or vs n 0) same))
    (cases_lt i j)

-- a near vertex above the one before stands from the place on
from_place : (o : Ground) (vs : List ℕ) (k before w : ℕ) → AreNears o vs → IsPast vs k before → IsNear o w → before < w → (j : ℕ) × (j < length vs) × (get_or vs j 0 ≡ w) × (k ≤ j)
from_place o vs k before w nears past near above =
    let at = place_of o vs w nears near in
    let lt : at.0 < length vs = at.1 in
    let is : get_or vs at.0 0 ≡ w = at.2 in (
      at.0,
      lt,
      is,
      ⊎_elim
          (λ (less : at.0 < k). absurd (let low : get_or vs at.0 0 ≤ before = past.low at.0 less lt in omega arith))
          (λ (ge : k ≤ at.0). ge)
          (cases_lt at.0 k),
    )

pub next_near : (o : Ground) (vs : List ℕ) (k before v : ℕ) → AreNears o vs → IsPast vs k before → (k < length vs) × (get_or vs k 0 ≡ v) → IsNextNear o before v
next_near o vs k before v nears past at =
    let lt : k < length vs = at.0 in
    let is : get_or vs k 0 ≡ v = at.1 in
    let same : k ≤ k = omega arith in
    let above : before < get_or vs k 0 = past.high k same lt in
    record {
      near = subst (λ (n : ℕ). IsNear o n) is (near_at o vs k nears lt);
      above = omega arith;
      least = (λ w near over.
          let place = from_place o vs k before w nears past near over in
          let low : get_or vs k 0 ≤ get_or vs place.0 0 = not_below vs k place.0 nears.rising place.3 place.1 in
          let there : get_or vs place.0 0 ≡ w = place.2 in
          omega arith);
    }

pub stands_next : (o : Ground) (vs : List ℕ) (k before v : ℕ) → AreNears o vs → IsPast vs k before → IsNextNear o before v → (k < length vs) × (get_or vs k 0 ≡ v)
stands_next o vs k before v nears past next =
    let place = from_place o vs k before v nears past next.near next.above in
    let inside : place.0 < length vs = place.1 in
    let there : get_or vs place.0 0 ≡ v = place.2 in
    let from : k ≤ place.0 = place.3 in
    let lt : k < length vs = omega arith in
    let same : k ≤ k = omega arith in
    let low : get_or vs k 0 ≤ get_or vs place.0 0 = not_below vs k place.0 nears.rising from inside in
    let high : v ≤ get_or vs k 0 = next.least (get_or vs k 0) (near_at o vs k nears lt) (past.high k same lt) in
    (lt, omega arith)

pub all_past : (o : Ground) (vs : List ℕ) (k before : ℕ) → AreNears o vs → IsPast vs k before → length vs ≤ k → IsAllNear o before
all_past o vs k before nears past ge w near =
    ⊎_elim
    (λ (over : before < w). absurd (let place = from_place o vs k before w nears past near over in omega (arith, place.1, place.3)))
    (λ (low : w ≤ before). low)
    (cases_lt before w)

pub some_left : (o : Ground) (vs : List ℕ) (k before : ℕ) → AreNears o vs → IsPast vs k before → k < length vs → IsAllNear o before → ⊥
some_left o vs k before nears past lt all =
    let same : k ≤ k = omega arith in
    omega (arith, past.high k same lt, all (get_or vs k 0) (near_at o vs k nears lt))

pub IsPast-more : (vs : List ℕ) (k before v : ℕ) → IsStrictlyIncreasing vs → k < length vs → get_or vs k 0 ≡ v → IsPast vs (k + 1) v
IsPast-more vs k before v rising lt is =
    record {
      low = (λ j less inside. let le : j ≤ k = omega arith in omega (arith, not_below vs j k rising le lt));
      high = (λ j from inside. let less : k < j = omega arith in omega (arith, AllPairs-from_increasing vs rising k j 0 less inside));
    }

pub IsPast-start : (vs : List ℕ) → IsStrictlyIncreasing vs → 0 < length vs → get_or vs 0 0 ≡ 0 → IsPast vs 1 0
IsPast-start vs rising some is = IsPast-more vs 0 0 0 rising some is

pub IsPast-none : (vs : List ℕ) → IsStrictlyIncreasing vs → (0 < length vs → get_or vs 0 0 ≢ 0) → IsPast vs 0 0
IsPast-none vs rising other =
    record {
      low = (λ j less inside. absurd (omega arith));
      high = (λ j from inside.
          let some : 0 < length vs = omega arith in
          let le : 0 ≤ j = omega arith in
          omega (arith, not_below vs 0 j rising le inside, other some));
    }

-- the first i lines passed: the next one has a number, and is compared with the near vertex at a place
pub record ArePassed (o : Ground) (rs : List CertRoute) (vs : List ℕ) (first : ℕ) (xs : List ViaRow) (i line place : ℕ) : Type 0 where
  pub before : ℕ
  pub past : IsPast vs place before
  pub on : (r : Option CertFault) → FindsFirst (vias_checks o rs line before (drop i xs)) r → FindsFirst (vias_checks o rs first 0 xs) r

-- a check passed, and then another
pub both_passed : (line : ℕ) (one two : CertKind) (P Q : Type 0) (rest : Checks) (r : Option CertFault) → P → Q → FindsFirst rest r → FindsFirst (check line one P (check line two Q rest)) r
both_passed line one two P Q rest None p q h = (p, (q, h))
both_passed line one two P Q rest (Some f) p q h = inr (p, inr (q, h))

pub passed_more : (o : Ground) (rs : List CertRoute) (vs : List ℕ) (first line next place i : ℕ) (xs : List ViaRow) (x : ViaRow) → AreNears o vs → ArePassed o rs vs first xs i line place → i < length xs → x ≡ get_or xs i x
    → (place < length vs) × (get_or vs place 0 ≡ x.vertex) → IsReason o rs x → next ≡ line + 1 → ArePassed o rs vs first xs (i + 1) next (place + 1)
passed_more o rs vs first line next place i xs x nears t lt is at reason number =
    let split : drop i xs ≡ x ∷ drop (i + 1) xs = drop_more xs i x lt ∙ ap (λ (y : ViaRow). y ∷ drop (i + 1) xs) (sym is) in
    record {
      before = x.vertex;
      past = IsPast-more vs place t.before x.vertex nears.rising at.0 at.1;
      on = (λ r h.
          let rest : FindsFirst (vias_checks o rs (line + 1) x.vertex (drop (i + 1) xs)) r = subst (λ (n : ℕ). FindsFirst (vias_checks o rs n x.vertex (drop (i + 1) xs)) r) number h in
          t.on r (subst (λ (l : List ViaRow). FindsFirst (vias_checks o rs line t.before l) r) (sym split)
          (both_passed line word.Next word.Reason (IsNextNear o t.before x.vertex) (IsReason o rs x) (vias_checks o rs (line + 1) x.vertex (drop (i + 1) xs)) r
          (next_near o vs place t.before x.vertex nears t.past at) reason rest)));
    }

pub next_fails : (o : Ground) (rs : List CertRoute) (vs : List ℕ) (first line place i : ℕ) (xs : List ViaRow) (x : ViaRow) (f : CertFault) → AreNears o vs → ArePassed o rs vs first xs i line place → i < length xs → x ≡ get_or xs i x
    → ((place < length vs) × (get_or vs place 0 ≡ x.vertex) → ⊥) → f ≡ fault_at line word.Next → FindsFirst (vias_checks o rs first 0 xs) (Some f)
next_fails o rs vs first line place i xs x f nears t lt is other told =
    let split : drop i xs ≡ x ∷ drop (i + 1) xs = drop_more xs i x lt ∙ ap (λ (y : ViaRow). y ∷ drop (i + 1) xs) (sym is) in
    t.on (Some f) (subst (λ (l : List ViaRow). FindsFirst (vias_checks o rs line t.before l) (Some f)) (sym split)
    (inl ((λ next. other (stands_next o vs place t.before x.vertex nears t.past next)), told)))

pub reason_fails : (o : Ground) (rs : List CertRoute) (vs : List ℕ) (first line place i : ℕ) (xs : List ViaRow) (x : ViaRow) (f : CertFault) → AreNears o vs → ArePassed o rs vs first xs i line place → i < length xs → x ≡ get_or xs i x
    → (place < length vs) × (get_or vs place 0 ≡ x.vertex) → (IsReason o rs x → ⊥) → f ≡ fault_at line word.Reason → FindsFirst (vias_checks o rs first 0 xs) (Some f)
reason_fails o rs vs first line place i xs x f nears t lt is at other told =
    let split : drop i xs ≡ x ∷ drop (i + 1) xs = drop_more xs i x lt ∙ ap (λ (y : ViaRow). y ∷ drop (i + 1) xs) (sym is) in
    t.on (Some f) (subst (λ (l : List ViaRow). FindsFirst (vias_checks o rs line t.before l) (Some f)) (sym split)
    (inr (next_near o vs place t.before x.vertex nears t.past at, inl (other, told))))

pub end_fails : (o : Ground) (rs : List CertRoute) (vs : List ℕ) (first line place i : ℕ) (xs : List ViaRow) (f : CertFault) → AreNears o vs → ArePassed o rs vs first xs i line place → length xs ≤ i → place < length vs
    → f ≡ fault_at line word.Next → FindsFirst (vias_checks o rs first 0 xs) (Some f)
end_fails o rs vs first line place i xs f nears t ge lt told =
    t.on (Some f) (subst (λ (l : List ViaRow). FindsFirst (vias_checks o rs line t.before l) (Some f)) (sym (drop_all i xs ge))
    (inl (some_left o vs place t.before nears t.past lt, told)))

pub end_passes : (o : Ground) (rs : List CertRoute) (vs : List ℕ) (first line place i : ℕ) (xs : List ViaRow) → AreNears o vs → ArePassed o rs vs first xs i line place → length xs ≤ i → length vs ≤ place → FindsFirst (vias_checks o rs first 0 xs) None
end_passes o rs vs first line place i xs nears t ge over =
    t.on None (subst (λ (l : List ViaRow). FindsFirst (vias_checks o rs line t.before l) None) (sym (drop_all i xs ge))
    (all_past o vs place t.before nears t.past over, tt))
