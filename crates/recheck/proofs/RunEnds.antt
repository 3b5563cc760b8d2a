-- What the ends of a run and its least vertex on each side tell of all near vertices of the path.
use Rattle.std.proofs.Common.{◌≡◌, ◌↔◌, IsTrue, ℕ, ◌-◌, ◌<◌, ◌≤◌, ◌⊎◌, min, zero, suc, List, refl, sym, ap, subst, arith, inl, inr, ⊎_elim}
use Rattle.std.proofs.lemmas.Bool.{cases_lt, leb-true, le-leb}
use Rattle.std.proofs.Math.Dec.{leb}
use Rattle.certificate_text.specs.declared.certificate.CertRoute.{CertRoute}
use Rattle.recheck.specs.Paths.{Ground, IsNear, IsThrough}
use Rattle.recheck.specs.Standing.{IsSound}
use Rattle.recheck.specs.Routes.{IsLeastName, IsSpread}
use Rattle.recheck.specs.Runs.{IsLinked, IsLinkedBack, Leads, IsRun, IsWholeRun, label_of, row_label}
use Rattle.recheck.proofs.LinkLemmas.{link_onward, link_back, label_rises, near_on, near_back, through_on, through_back}
use Rattle.recheck.proofs.Chains.{leads_push, leads_same, leads_to_end, leads_keep, leads_rise}
use Rattle.recheck.proofs.RunsAcross.{joined_by}

pub onward_once : (o : Ground) (u v w : ℕ) → IsLinked o u v → IsLinked o u w → v ≡ w
onward_once o u v w h k = link_onward o u v w h k

pub back_once : (o : Ground) (u v w : ℕ) → IsLinkedBack o u v → IsLinkedBack o u w → v ≡ w
back_once o u v w h k = link_back o u v w h k

run_start_lowest : (R : ℕ → ℕ → Type 0) (v k w : ℕ) → k ≤ zero → Leads R v k w → v ≤ w
run_start_lowest R v zero w le h = let e : v ≡ w = h in omega arith
run_start_lowest R v (suc k) w le h = absurd (omega arith)

-- a run begins at a vertex and takes in one more at its end
pub run_start : (R : ℕ → ℕ → Type 0) (v : ℕ) → IsRun R v v v
run_start R v =
    record {
      steps = zero;
      leads = refl;
      place = zero;
      member = refl;
      lowest = run_start_lowest R v;
    }

run_more : (R : ℕ → ℕ → Type 0) → ((u v w : ℕ) → R u v → R u w → v ≡ w) → (v end least next least_now : ℕ) → IsRun R v end least → R end next → (least_now ≡ next) ⊎ (least_now ≡ least) → least_now ≤ next → least_now ≤ least → IsRun R v next least_now
run_more R once v end least next least_now h step which low_next low =
    let leads : Leads R v (suc h.steps) next = leads_push R v h.steps end next h.leads step in
    let lowest : (k w : ℕ) → k ≤ suc h.steps → Leads R v k w → least_now ≤ w =
    λ k w le l.
    ⊎_elim
    (λ (lt : h.steps < k).
    let whole : k ≡ suc h.steps = omega arith in
    let same : next ≡ w = leads_same R once v (suc h.steps) next w leads (subst (λ (n : ℕ). Leads R v n w) whole l) in
    let r : least_now ≤ w = omega arith in
    r)
    (λ (inside : k ≤ h.steps). let r : least_now ≤ w = omega (arith, h.lowest k w inside l) in r)
    (cases_lt h.steps k) in
    ⊎_elim
    (λ (new : least_now ≡ next).
    let r : IsRun R v next least_now = record { steps = suc h.steps; leads = leads; place = suc h.steps; member = subst (λ (n : ℕ). Leads R v (suc h.steps) n) (sym new) leads; lowest = lowest } in
    r)
    (λ (old : least_now ≡ least).
    let r : IsRun R v next least_now = record { steps = suc h.steps; leads = leads; place = h.place; member = subst (λ (n : ℕ). Leads R v h.place n) (sym old) h.member; lowest = lowest } in
    r)
    which

pub run_lower : (R : ℕ → ℕ → Type 0) → ((u v w : ℕ) → R u v → R u w → v ≡ w) → (v end least next now : ℕ) → IsRun R v end least → R end next → now ≡ min least next → IsRun R v next now
run_lower R once v end least next now h step is =
    ⊎_elim
    (λ (lt : next < least). let new : now ≡ next = omega arith in run_more R once v end least next now h step (inl new) (omega arith) (omega arith))
    (λ (ge : least ≤ next). let old : now ≡ least = omega arith in run_more R once v end least next now h step (inr old) (omega arith) (omega arith))
    (cases_lt next least)

module _ (o : Ground) (sound : IsSound o) where
  near_along : (u n v : ℕ) → IsNear o u → Leads (IsLinked o) u n v → IsNear o v
  near_along u n v h l = leads_keep (IsLinked o) (IsNear o) (λ x y p link. near_on o x y sound p link) u n v h l

  near_against : (u n v : ℕ) → IsNear o u → Leads (IsLinkedBack o) u n v → IsNear o v
  near_against u n v h l = leads_keep (IsLinkedBack o) (IsNear o) (λ x y p link. near_back o y x sound p link) u n v h l

  through_along : (p : List ℕ) (u n v : ℕ) → IsThrough o u p → Leads (IsLinked o) u n v → IsThrough o v p
  through_along p u n v h l = leads_keep (IsLinked o) (λ (x : ℕ). IsThrough o x p) (λ x y t link. through_on o x y p sound t link) u n v h l

  through_against : (p : List ℕ) (u n v : ℕ) → IsThrough o u p → Leads (IsLinkedBack o) u n v → IsThrough o v p
  through_against p u n v h l = leads_keep (IsLinkedBack o) (λ (x : ℕ). IsThrough o x p) (λ x y t link. through_back o y x p sound t link) u n v h l

  rises_along : (u n v : ℕ) → Leads (IsLinked o) u n v → label_of o.from_rows u ≤ label_of o.from_rows v
  rises_along u n v l = leads_rise (IsLinked o) (label_of o.from_rows) (λ x y link. let lt : label_of o.from_rows x < label_of o.from_rows y = label_rises o x y sound link in omega arith) u n v l

  -- the same with the labels counted down
  falls_against : (u n v : ℕ) → Leads (IsLinkedBack o) u n v → label_of o.from_rows v ≤ label_of o.from_rows u
  falls_against u zero v h = let e : label_of o.from_rows u ≡ label_of o.from_rows v = ap (label_of o.from_rows) h in omega arith
  falls_against u (suc n) v h =
      let lt : label_of o.from_rows h.0 < label_of o.from_rows u = label_rises o h.0 u sound h.1 in
      omega (arith, falls_against h.0 n v h.2)

  -- a path's name: no vertex of the run is lower
  pub least_name : (v : ℕ) (p : List ℕ) (end first least lowest : ℕ) → IsThrough o v p → IsWholeRun (IsLinked o) v end least → IsWholeRun (IsLinkedBack o) v first lowest → v ≤ least → v ≤ lowest → (w : ℕ) → w < v → IsThrough o w p → ⊥
  least_name v p end first least lowest h after before one two w lt k =
      let joined = joined_by o v w p sound h k in
      ⊎_elim
      (λ (l : Leads (IsLinked o) v joined.steps w).
      let rest = leads_to_end (IsLinked o) (onward_once o) v after.run.steps joined.steps end w after.run.leads after.ended l in
      let inside : joined.steps ≤ after.run.steps = omega (arith, rest.1) in
      let low : least ≤ w = after.run.lowest joined.steps w inside l in
      let r : ⊥ = omega arith in
      r)
      (λ (l : Leads (IsLinkedBack o) v joined.steps w).
      let rest = leads_to_end (IsLinkedBack o) (back_once o) v before.run.steps joined.steps first w before.run.leads before.ended l in
      let inside : joined.steps ≤ before.run.steps = omega (arith, rest.1) in
      let low : lowest ≤ w = before.run.lowest joined.steps w inside l in
      let r : ⊥ = omega arith in
      r)
      joined.either

  pub not_lower : (v : ℕ) (p : List ℕ) (end least : ℕ) → IsNear o v → IsThrough o v p → IsWholeRun (IsLinked o) v end least → ((w : ℕ) → w < v → IsNear o w → IsThrough o w p → ⊥) → v ≤ least
  not_lower v p end least near h run none =
      ⊎_elim
      (λ (lt : least < v).
      let r : v ≤ least = absurd (none least lt (near_along v run.run.place least near run.run.member) (through_along p v run.run.place least h run.run.member)) in
      r)
      (λ (ge : v ≤ least). ge)
      (cases_lt least v)

  pub not_lower_before : (v : ℕ) (p : List ℕ) (end least : ℕ) → IsNear o v → IsThrough o v p → IsWholeRun (IsLinkedBack o) v end least → ((w : ℕ) → w < v → IsNear o w → IsThrough o w p → ⊥) → v ≤ least
  not_lower_before v p end least near h run none =
      ⊎_elim
      (λ (lt : least < v).
      let r : v ≤ least = absurd (none least lt (near_against v run.run.place least near run.run.member) (through_against p v run.run.place least h run.run.member)) in
      r)
      (λ (ge : v ≤ least). ge)
      (cases_lt least v)

  pub name_told : (r : CertRoute) (end least first lowest now : ℕ) → IsNear o r.via → IsThrough o r.via r.arcs → IsWholeRun (IsLinked o) r.via end least → IsWholeRun (IsLinkedBack o) r.via first lowest → now ≡ min least lowest → IsTrue (leb r.via now) ↔ IsLeastName o r
  name_told r end least first lowest now near h after before is = (
    (λ yes.
        let low : r.via ≤ now = leb-true r.via now yes in
        λ w lt near_w k. least_name r.via r.arcs end first least lowest h after before (omega arith) (omega arith) w lt k),
    (λ none.
        let one : r.via ≤ least = not_lower r.via r.arcs end least near h after none in
        let two : r.via ≤ lowest = not_lower_before r.via r.arcs first lowest near h before none in
        le-leb r.via now (omega arith)),
  )

  -- the labels of all are between those of the run's ends
  below_end : (v w : ℕ) (p : List ℕ) (end least : ℕ) → IsThrough o v p → IsThrough o w p → IsWholeRun (IsLinked o) v end least → label_of o.from_rows w ≤ label_of o.from_rows end
  below_end v w p end least h k run =
      let joined = joined_by o v w p sound h k in
      ⊎_elim
      (λ (l : Leads (IsLinked o) v joined.steps w).
      let rest = leads_to_end (IsLinked o) (onward_once o) v run.run.steps joined.steps end w run.run.leads run.ended l in
      rises_along w rest.0 end rest.2)
      (λ (l : Leads (IsLinkedBack o) v joined.steps w).
      let r : label_of o.from_rows w ≤ label_of o.from_rows end = omega (arith, falls_against v joined.steps w l, rises_along v run.run.steps end run.run.leads) in
      r)
      joined.either

  above_start : (v w : ℕ) (p : List ℕ) (start least : ℕ) → IsThrough o v p → IsThrough o w p → IsWholeRun (IsLinkedBack o) v start least → label_of o.from_rows start ≤ label_of o.from_rows w
  above_start v w p start least h k run =
      let joined = joined_by o v w p sound h k in
      ⊎_elim
      (λ (l : Leads (IsLinked o) v joined.steps w).
      let r : label_of o.from_rows start ≤ label_of o.from_rows w = omega (arith, rises_along v joined.steps w l, falls_against v run.run.steps start run.run.leads) in
      r)
      (λ (l : Leads (IsLinkedBack o) v joined.steps w).
      let rest = leads_to_end (IsLinkedBack o) (back_once o) v run.run.steps joined.steps start w run.run.leads run.ended l in
      falls_against w rest.0 start rest.2)
      joined.either

  pub ends_in_order : (v : ℕ) (start end least lowest : ℕ) → IsWholeRun (IsLinked o) v end least → IsWholeRun (IsLinkedBack o) v start lowest → label_of o.from_rows start ≤ label_of o.from_rows end
  ends_in_order v start end least lowest after before =
      omega (arith, rises_along v after.run.steps end after.run.leads, falls_against v before.run.steps start before.run.leads)

  near_label : (v : ℕ) (h : IsNear o v) → label_of o.from_rows v ≡ h.near.label
  near_label v h = ap row_label h.is_near

  pub spread_is : (v : ℕ) (p : List ℕ) (start end least lowest n : ℕ) → IsNear o v → IsThrough o v p → IsWholeRun (IsLinked o) v end least → IsWholeRun (IsLinkedBack o) v start lowest → n ≡ label_of o.from_rows end - label_of o.from_rows start → IsSpread o p n
  spread_is v p start end least lowest n near h after before is =
      let near_end = near_along v after.run.steps end near after.run.leads in
      let near_start = near_against v before.run.steps start near before.run.leads in
      let order = ends_in_order v start end least lowest after before in
      record {
        start = start;
        end = end;
        near_start = near_start;
        near_end = near_end;
        through_start = through_against p v before.run.steps start h before.run.leads;
        through_end = through_along p v after.run.steps end h after.run.leads;
        difference = omega (arith, near_label start near_start, near_label end near_end, order, is);
        greatest = (λ x y a b i j.
            omega (arith, near_label x a, near_label y b, order, is, above_start v x p start lowest h i before, below_end v y p end least h j after));
      }

-- there is one spread
pub spread_once : (o : Ground) (p : List ℕ) (m n : ℕ) → IsSpread o p m → IsSpread o p n → m ≡ n
spread_once o p m n h k =
    omega (arith, h.difference, k.difference, h.greatest k.start k.end k.near_start k.near_end k.through_start k.through_end, k.greatest h.start h.end h.near_start h.near_end h.through_start h.through_end)
