-- The entries of a cache, as the plans that a desk keeps.
use Rattle.std.proofs.Common.{◌≡◌, ℕ, zero, suc, ◌+◌, ◌-◌, ◌<◌, ◌≤◌, Bool, true, false, cond, List, [], ◌∷◌, length, take, Option, Some, None, refl, sym, ap, ◌∙◌, subst, arith}
use Rattle.std.specs.Prelude.{map, filter, not, is_some, option_map}
use Rattle.std.specs.List.{find, AllByRecursion, IsDistinct}
use Rattle.std.specs.Option.{option_map_or}
use Rattle.std.specs.Map.{lookup, lookup_entry, remove_entry}
use Rattle.std.specs.Map as entries
use Rattle.std.specs.declared.sync.Arc.{Arc}
use Rattle.std.proofs.lemmas.List.{take-map, take_all, length-map}
use Rattle.road_model.specs.declared.answer.Plan.{Plan}
use Rattle.lru.specs.LruCache.{LruCache, lru_cache, promoted, put_entries, IsValid}
use Rattle.desk_core.specs.States.{Key, same_key}
use Rattle.desk_core.specs.KeyLaws.{same_key_decides}
use Rattle.desk_core.specs.Desks.{Kept, DeskState, plan_at, first_plan, keeps, put_first, IsMoved}
use Rattle.desk_core.specs.Views.{kept_of, desk_of}

abbrev at_key : Key → Kept → Bool
at_key key k = same_key key k.key

abbrev other_than : Key → Kept → Bool
other_than key k = not (same_key key k.key)

abbrev plan_in : Kept → Plan
plan_in k = k.plan

-- a full list is cut after its first elements
take_first : (n : ℕ) (k : Kept) (ks : List Kept) → 0 < n → take n (k ∷ ks) ≡ k ∷ take (n - 1) ks
take_first zero k ks some = absurd (omega (arith, some))
take_first (suc n) k ks some = ap (λ (m : ℕ). k ∷ take m ks) (let e : n ≡ suc n - 1 = omega arith in e)

put_first_first : (desk : DeskState) (key : Key) (plan : Plan) → 0 < desk.room → first_plan (put_first desk key plan) ≡ Some plan
put_first_first desk key plan some =
    let k : Kept = record { key = key; plan = plan } in
    let ks : List Kept = filter (other_than key) desk.kept in
    subst (λ (l : List Kept). first_plan (record { room = desk.room; kept = l }) ≡ Some plan) (sym (take_first desk.room k ks some)) refl

same_desk : (room : ℕ) (a b : List Kept) → a ≡ b → ◌≡◌ {A = DeskState} (record { room = room; kept = a }) (record { room = room; kept = b })
same_desk room a b e = ap (λ (l : List Kept). let d : DeskState = record { room = room; kept = l } in d) e

module _ {Z : Type 0} where
  found_is : (key : Key) (es : List (Key × Arc Plan Z)) → option_map plan_in (find (at_key key) (map kept_of es)) ≡ option_map (λ (p : Arc Plan Z). p.value) (lookup (same_key key) es)
  found_is key [] = refl
  found_is key (e ∷ es) =
      elim (same_key key e.0) as (λ b. option_map plan_in (cond b (Some (kept_of e)) (find (at_key key) (map kept_of es))) ≡ option_map (λ (p : Arc Plan Z). p.value) (cond b (Some e.1) (lookup (same_key key) es)))
      [ true ↦ refl | false ↦ found_is key es ]

  plan_at_is : (c : LruCache Key (Arc Plan Z)) (key : Key) → plan_at (desk_of c) key ≡ option_map (λ (p : Arc Plan Z). p.value) (lookup (same_key key) c.entries)
  plan_at_is c key = found_is key c.entries

  there_is : (o : Option (Arc Plan Z)) → is_some (option_map (λ (p : Arc Plan Z). p.value) o) ≡ is_some o
  there_is None = refl
  there_is (Some p) = refl

  is_there : (c : LruCache Key (Arc Plan Z)) (key : Key) → is_some (plan_at (desk_of c) key) ≡ is_some (lookup (same_key key) c.entries)
  is_there c key = ap is_some (plan_at_is c key) ∙ there_is (lookup (same_key key) c.entries)

  -- ---- the others

  abbrev NoneAt : Key → List (Key × Arc Plan Z) → Type 0
  NoneAt key es = AllByRecursion (λ (k : Key). same_key key k ≡ false) (entries.keys_of es)

  all_others : (key : Key) (es : List (Key × Arc Plan Z)) → NoneAt key es → filter (other_than key) (map kept_of es) ≡ map kept_of es
  all_others key [] h = refl
  all_others key (e ∷ es) h = rw h.0 (ap (λ (l : List Kept). kept_of e ∷ l) (all_others key es h.1))

  none_at : (key : Key) (es : List (Key × Arc Plan Z)) → lookup (same_key key) es ≡ None → NoneAt key es
  none_at key [] h = tt
  none_at key (e ∷ es) h =
      (elim (same_key key e.0) as (λ b. same_key key e.0 ≡ b → cond b (Some e.1) (lookup (same_key key) es) ≡ None → NoneAt key (e ∷ es))
      [ true ↦ λ t g. absurd (let f : ◌≡◌ {A = Option (Arc Plan Z)} (Some e.1) None = g in cc) | false ↦ λ t g. (t, none_at key es g) ]) refl h

  none_entry : (key : Key) (es : List (Key × Arc Plan Z)) → NoneAt key es → lookup_entry (same_key key) es ≡ None
  none_entry key [] h = refl
  none_entry key (e ∷ es) h = rw h.0 (none_entry key es h.1)

  -- where keys are distinct, what stays after one goes has other keys
  removed_is : (key : Key) (es : List (Key × Arc Plan Z)) → IsDistinct same_key (entries.keys_of es) → map kept_of (remove_entry (same_key key) es) ≡ filter (other_than key) (map kept_of es)
  unfolding IsDistinct
  removed_is key [] h = refl
  removed_is key (e ∷ es) h =
      (elim (same_key key e.0) as (λ b. same_key key e.0 ≡ b → map kept_of (cond b es (e ∷ remove_entry (same_key key) es)) ≡ cond (not b) (kept_of e ∷ filter (other_than key) (map kept_of es)) (filter (other_than key) (map kept_of es))) [
        | true ↦ λ t. sym (all_others key es (subst (λ (k : Key). NoneAt k es) (sym ((same_key_decides key e.0).0 t)) h.0))
        | false ↦ λ t. ap (λ (l : List Kept). kept_of e ∷ l) (removed_is key es h.1)
      ]) refl

  record Taken (key : Key) (es : List (Key × Arc Plan Z)) : Type 0 where
    plan : Arc Plan Z
    found : lookup (same_key key) es ≡ Some plan
    is_entry : lookup_entry (same_key key) es ≡ Some (key, plan)
    one_less : length (remove_entry (same_key key) es) + 1 ≡ length es

  taken_here : (key : Key) (e : Key × Arc Plan Z) (es : List (Key × Arc Plan Z)) → same_key key e.0 ≡ true → Taken key (e ∷ es)
  taken_here key (k, p) es t =
      let is : key ≡ k = (same_key_decides key k).0 t in
      record {
        plan = p;
        found = rw t refl;
        is_entry = rw t (ap (λ (x : Key). Some (x, p)) (sym is));
        one_less = rw t (omega arith);
      }

  taken_later : (key : Key) (e : Key × Arc Plan Z) (es : List (Key × Arc Plan Z)) → same_key key e.0 ≡ false → Taken key es → Taken key (e ∷ es)
  taken_later key e es t h = record {
    plan = h.plan;
    found = rw t h.found;
    is_entry = rw t h.is_entry;
    one_less = rw t (let one = h.one_less in omega (arith, one));
  }

  taken : (key : Key) (es : List (Key × Arc Plan Z)) → is_some (lookup (same_key key) es) ≡ true → Taken key es
  taken key [] h = absurd (let f : false ≡ true = h in cc)
  taken key (e ∷ es) h =
      (elim (same_key key e.0) as (λ b. same_key key e.0 ≡ b → is_some (cond b (Some e.1) (lookup (same_key key) es)) ≡ true → Taken key (e ∷ es))
      [ true ↦ λ t g. taken_here key e es t | false ↦ λ t g. taken_later key e es t (taken key es g) ]) refl h

  -- ---- the cache after a call

  abbrev kept_as : Key → Arc Plan Z → Kept
  kept_as key p = record { key = key; plan = p.value }

  abbrev after_promote : LruCache Key (Arc Plan Z) → Key → LruCache Key (Arc Plan Z)
  after_promote c key = lru_cache (promoted (same_key key) c.entries) c.cap

  abbrev after_put : LruCache Key (Arc Plan Z) → Key → Arc Plan Z → LruCache Key (Arc Plan Z)
  after_put c key p = lru_cache (put_entries same_key c key p) c.cap

  hit_entries : (c : LruCache Key (Arc Plan Z)) (key : Key) → IsValid same_key c → (t : Taken key c.entries) → map kept_of (promoted (same_key key) c.entries) ≡ take c.cap (kept_as key t.plan ∷ filter (other_than key) (map kept_of c.entries))
  hit_entries c key valid t =
      let rest : List (Key × Arc Plan Z) = remove_entry (same_key key) c.entries in
      let others : map kept_of rest ≡ filter (other_than key) (map kept_of c.entries) = removed_is key c.entries valid.0 in
      let one : length rest + 1 ≡ length c.entries = t.one_less in
      let long : length (map kept_of rest) ≡ length rest = length-map rest kept_of in
      let few : length c.entries ≤ c.cap = valid.1 in
      let fits : length (kept_as key t.plan ∷ map kept_of rest) ≤ c.cap = omega (arith, one, long, few) in
      ap (λ (o : Option (Key × Arc Plan Z)). map kept_of (option_map_or (λ (e : Key × Arc Plan Z). e ∷ rest) o c.entries)) t.is_entry
      ∙ sym (take_all c.cap (kept_as key t.plan ∷ map kept_of rest) fits)
      ∙ ap (λ (l : List Kept). take c.cap (kept_as key t.plan ∷ l)) others

  miss_entries : (c : LruCache Key (Arc Plan Z)) (key : Key) (p : Arc Plan Z) → 0 < c.cap → NoneAt key c.entries → map kept_of (put_entries same_key c key p) ≡ take c.cap (kept_as key p ∷ filter (other_than key) (map kept_of c.entries))
  miss_entries c key p some none =
      ap (λ (o : Option (Key × Arc Plan Z)). map kept_of (option_map_or (λ (e : Key × Arc Plan Z). (e.0, p) ∷ remove_entry (same_key key) c.entries) o ((key, p) ∷ take (c.cap - 1) c.entries))) (none_entry key c.entries none)
      ∙ ap (λ (l : List Kept). kept_as key p ∷ l) (sym (take-map kept_of (c.cap - 1) c.entries))
      ∙ sym (take_first c.cap (kept_as key p) (map kept_of c.entries) some)
      ∙ ap (λ (l : List Kept). take c.cap (kept_as key p ∷ l)) (sym (all_others key c.entries none))

  no_value : (o : Option (Arc Plan Z)) → is_some o ≡ false → o ≡ None
  no_value None h = refl
  no_value (Some p) h = absurd (let f : true ≡ false = h in cc)

  unpromoted : (c : LruCache Key (Arc Plan Z)) (key : Key) → is_some (lookup (same_key key) c.entries) ≡ false → after_promote c key ≡ c
  unpromoted c key h =
      let none = none_at key c.entries (no_value (lookup (same_key key) c.entries) h) in
      ap (λ (o : Option (Key × Arc Plan Z)). lru_cache (option_map_or (λ (e : Key × Arc Plan Z). e ∷ remove_entry (same_key key) c.entries) o c.entries) c.cap) (none_entry key c.entries none)

  -- a plan that is kept comes first
  moved : (c : LruCache Key (Arc Plan Z)) (key : Key) → IsValid same_key c → is_some (lookup (same_key key) c.entries) ≡ true → IsMoved (desk_of c) key (desk_of (after_promote c key))
  moved c key valid h =
      let t = taken key c.entries h in
      let next : desk_of (after_promote c key) ≡ put_first (desk_of c) key t.plan.value = same_desk c.cap _ _ (hit_entries c key valid t) in
      record {
        plan = t.plan.value;
        is_kept = plan_at_is c key ∙ ap (λ (o : Option (Arc Plan Z)). option_map (λ (p : Arc Plan Z). p.value) o) t.found;
        is_first = ap first_plan next ∙ put_first_first (desk_of c) key t.plan.value valid.2;
        is_next = next;
      }

  -- one that isn't kept comes first too
  put_is : (c : LruCache Key (Arc Plan Z)) (key : Key) (p : Arc Plan Z) → IsValid same_key c → plan_at (desk_of c) key ≡ None → desk_of (after_put c key p) ≡ put_first (desk_of c) key p.value
  put_is c key p valid h =
      let no : is_some (lookup (same_key key) c.entries) ≡ false = sym (is_there c key) ∙ ap is_some h in
      same_desk c.cap _ _ (miss_entries c key p valid.2 (none_at key c.entries (no_value (lookup (same_key key) c.entries) no)))

  -- ---- as the desk has it

  pub keeps_is : (c : LruCache Key (Arc Plan Z)) (desk : DeskState) (o : Option Key) (key : Key) (b : Bool) → desk_of c ≡ desk → o ≡ Some key → b ≡ is_some (lookup (same_key key) c.entries) → b ≡ keeps desk o
  keeps_is c desk o key b view is e = e ∙ sym (is_there c key) ∙ ap (λ (d : DeskState). keeps d (Some key)) view ∙ ap (keeps desk) (sym is)

  pub promote_kept : (c : LruCache Key (Arc Plan Z)) (desk : DeskState) (key : Key) (b : Bool) → desk_of c ≡ desk → b ≡ is_some (lookup (same_key key) c.entries) → is_some (plan_at desk key) ≡ b
  promote_kept c desk key b view e = ap (λ (d : DeskState). is_some (plan_at d key)) (sym view) ∙ is_there c key ∙ sym e

  pub promote_moved : (c new : LruCache Key (Arc Plan Z)) (desk : DeskState) (key : Key) (b : Bool) → desk_of c ≡ desk → IsValid same_key c → b ≡ is_some (lookup (same_key key) c.entries) → new ≡ after_promote c key → b ≡ true → IsMoved desk key (desk_of new)
  promote_moved c new desk key b view valid e is t =
      subst (λ (d : DeskState). IsMoved d key (desk_of new)) view
      (subst (λ (n : LruCache Key (Arc Plan Z)). IsMoved (desk_of c) key (desk_of n)) (sym is) (moved c key valid (sym e ∙ t)))

  pub promote_same : (c new : LruCache Key (Arc Plan Z)) (desk : DeskState) (key : Key) (b : Bool) → desk_of c ≡ desk → b ≡ is_some (lookup (same_key key) c.entries) → new ≡ after_promote c key → b ≡ false → desk_of new ≡ desk
  promote_same c new desk key b view e is f = ap desk_of (is ∙ unpromoted c key (sym e ∙ f)) ∙ view

  pub put_first_is : (c new : LruCache Key (Arc Plan Z)) (desk : DeskState) (key : Key) (p : Arc Plan Z) (plan : Plan) → desk_of c ≡ desk → IsValid same_key c → plan_at desk key ≡ None → p.value ≡ plan → new ≡ after_put c key p → desk_of new ≡ put_first desk key plan
  put_first_is c new desk key p plan view valid none value is =
      ap desk_of is ∙ put_is c key p valid (subst (λ (d : DeskState). plan_at d key ≡ None) (sym view) none)
      ∙ ap (λ (d : DeskState). put_first d key p.value) view ∙ ap (put_first desk key) value
