-- The labels of a search that is over, and the members of a whole ball.
use Rattle.std.proofs.Common.{◌≡◌, ◌<◌, ◌≤◌, ◌+◌, ◌^◌, ◌↔◌, ℕ, Bool, true, false, cond, List, length, map, get_or, Option, Some, None, IsSome, unwrap_or, Contains, refl, sym, ap, ◌∙◌, subst, arith, inl, inr, ⊎_elim}
use Rattle.std.specs.List.Sorted.{IsStrictlyIncreasing}
use Rattle.std.proofs.lemmas.Bool.{cases_lt, le-leb, lt-leb}
use Rattle.std.proofs.lemmas.List.{length-map, get_or-map, get_or_past}
use Rattle.std.proofs.lemmas.List.Elements.{All-contains, All-from_get_or, Contains-get_or}
use Rattle.road_model.specs.Graph.{Graph, IsVertex, IsGraph}
use Rattle.road_model.specs.Dist.{IsDist, NoWalk, DistsBelow}
use Rattle.road_model.proofs.Walks.{IsWalk-inside}
use Rattle.label_setting.specs.declared.memory.Goal.{Goal}
use Rattle.tree_search.specs.Ball.{label_at, label_within, IsLabelled, IsBall, IsLabelledTo, IsBounded}
use Rattle.label_setting.specs.Search.{far, IsSettled, IsTracked, IsTouchedList, IsAimed}
use Rattle.tree_search.proofs.Ascending.{HasSame}

-- stored numbers as labels
label_at-inside : (limit : ℕ) (labels : List ℕ) (v : ℕ) → v < length labels → label_at (map (label_within limit) labels) v ≡ label_within limit (get_or labels v 0)
label_at-inside limit labels v inside = get_or-map (label_within limit) labels v 0 None inside

label_at-past : (limit : ℕ) (labels : List ℕ) (v : ℕ) → length labels ≤ v → label_at (map (label_within limit) labels) v ≡ None
label_at-past limit labels v past = get_or_past (map (label_within limit) labels) v None (omega (arith, length-map labels (label_within limit)))

pub label_within-low : (limit x : ℕ) → x ≤ limit → label_within limit x ≡ Some x
label_within-low limit x low = ap (λ (b : Bool). cond b (Some x) None) (le-leb x limit low)

pub label_within-high : (limit x : ℕ) → limit < x → label_within limit x ≡ None
label_within-high limit x high = ap (λ (b : Bool). cond b (Some x) None) (lt-leb x limit high)

pub label_at-low : (limit : ℕ) (labels : List ℕ) (v : ℕ) → v < length labels → get_or labels v 0 ≤ limit → label_at (map (label_within limit) labels) v ≡ Some (get_or labels v 0)
label_at-low limit labels v inside low = label_at-inside limit labels v inside ∙ label_within-low limit (get_or labels v 0) low

pub label_at-high : (limit : ℕ) (labels : List ℕ) (v : ℕ) → v < length labels → limit < get_or labels v 0 → label_at (map (label_within limit) labels) v ≡ None
label_at-high limit labels v inside high = label_at-inside limit labels v inside ∙ label_within-high limit (get_or labels v 0) high

-- what a label tells
pub record IsStored (limit : ℕ) (labels : List ℕ) (v k : ℕ) : Type 0 where
  pub inside : v < length labels
  pub is : get_or labels v 0 ≡ k
  pub low : k ≤ limit

pub stored_from_label : (limit : ℕ) (labels : List ℕ) (v k : ℕ) → label_at (map (label_within limit) labels) v ≡ Some k → IsStored limit labels v k
stored_from_label limit labels v k is =
    ⊎_elim
    (λ (inside : v < length labels).
    ⊎_elim
    (λ (high : limit < get_or labels v 0). absurd (let e : None ≡ Some k = sym (label_at-high limit labels v inside high) ∙ is in cc))
    (λ (low : get_or labels v 0 ≤ limit).
    let e : Some (get_or labels v 0) ≡ Some k = sym (label_at-low limit labels v inside low) ∙ is in
    let same : get_or labels v 0 ≡ k = cc in
    record { inside = inside; is = same; low = omega arith })
    (cases_lt limit (get_or labels v 0)))
    (λ (past : length labels ≤ v). absurd (let e : None ≡ Some k = sym (label_at-past limit labels v past) ∙ is in cc))
    (cases_lt v (length labels))

high_from_none : (limit : ℕ) (labels : List ℕ) (v : ℕ) → v < length labels → label_at (map (label_within limit) labels) v ≡ None → limit < get_or labels v 0
high_from_none limit labels v inside none =
    ⊎_elim
    (λ (high : limit < get_or labels v 0). high)
    (λ (low : get_or labels v 0 ≤ limit). absurd (let e : None ≡ Some (get_or labels v 0) = sym none ∙ label_at-low limit labels v inside low in cc))
    (cases_lt limit (get_or labels v 0))

pub IsLabelled-settled : (g : Graph) (root limit : ℕ) (labels : List ℕ) → IsGraph g → IsVertex g.vertices root → IsSettled g root limit labels → IsLabelled g root (Some limit) (map (label_within limit) labels)
IsLabelled-settled g root limit labels sound inside h =
    record {
      near = (λ v k is.
          let stored = stored_from_label limit labels v k is in
          let there : v ≤ g.vertices = omega (arith, stored.inside, h.size) in
          let dist : IsDist g root v (Some (get_or labels v 0)) = h.near v there (omega (arith, stored.is, stored.low)) in
          (subst (λ (d : ℕ). IsDist g root v (Some d)) stored.is dist, stored.low));
      far = (λ v none p walk.
          let vertex : IsVertex g.vertices v = IsWalk-inside g p root v sound inside walk in
          let there : v < length labels = omega (arith, vertex.last, h.size) in
          h.beyond v (high_from_none limit labels v there none) p walk);
    }

-- with no radius: nothing that a walk leads to is beyond the limit
pub IsLabelled-unbounded : (g : Graph) (root : ℕ) (labels : List (Option ℕ)) → DistsBelow g (2 ^ 58) → IsLabelled g root (Some 288230376151711743) labels → IsLabelled g root None labels
IsLabelled-unbounded g root labels bound h =
    record {
      near = (λ v k is. ((h.near v k is).0, tt));
      far = (λ v none p walk. bound root v p walk (λ q other. let beyond = h.far v none q other in omega arith));
    }

-- the labels of a target that no walk leads to, or of one that is found
pub unreached : (g : Graph) (root target radius limit m : ℕ) (labels : List ℕ) → IsSettled g root limit labels → IsAimed (record { root = root; target = target; radius = radius }) limit labels → DistsBelow g m → m ≤ radius + 1 → limit < get_or labels target 0 → NoWalk g root target
unreached g root target radius limit m labels h aim bound fits high p walk =
    ⊎_elim
    (λ (is : get_or labels target 0 ≡ limit). absurd (omega arith))
    (λ (none : (limit ≡ radius) × (radius < get_or labels target 0)).
    bound root target p walk (λ q other. let beyond = h.beyond target high q other in let is = none.0 in omega arith))
    aim

pub found : (g : Graph) (root target radius limit : ℕ) (labels : List ℕ) → IsGraph g → IsVertex g.vertices root → IsVertex g.vertices target → IsSettled g root limit labels → limit < 2 ^ 60 → IsAimed (record { root = root; target = target; radius = radius }) limit labels → get_or labels target 0 ≤ limit → IsLabelledTo g root target labels limit
found g root target radius limit labels sound inside there h short aim low =
    let is : get_or labels target 0 ≡ limit = ⊎_elim
    (λ (same : get_or labels target 0 ≡ limit). same)
    (λ (none : (limit ≡ radius) × (radius < get_or labels target 0)). absurd (omega (arith, none.0, none.1)))
    aim in
    let dist : IsDist g root target (Some (get_or labels target 0)) = h.near target there.last low in
    record {
      low = short;
      dist = subst (λ (d : ℕ). IsDist g root target (Some d)) is dist;
      labelled = IsLabelled-settled g root limit labels sound inside h;
    }

labelled_is_member : (radius : ℕ) (labels touched members : List ℕ) → IsTracked labels touched → IsTouchedList radius labels touched → HasSame members touched → (v : ℕ) (o : Option ℕ) → label_at (map (label_within radius) labels) v ≡ o → IsSome o → Contains members v
labelled_is_member radius labels touched members tracked listed same v None is some = absurd (let e : false ≡ true = some in cc)
labelled_is_member radius labels touched members tracked listed same v (Some k) is some =
    let stored = stored_from_label radius labels v k is in
    ⊎_elim
    (λ (bare : get_or labels v 0 ≡ far). absurd (omega (arith, stored.is, stored.low, listed.low)))
    (λ (there : Contains touched v). (same v).1 there)
    (tracked.covers v stored.inside)

-- the touched vertices of a whole ball are its members
pub members_of : (radius : ℕ) (labels touched members : List ℕ) → IsTracked labels touched → IsTouchedList radius labels touched → HasSame members touched → (v : ℕ) → Contains members v ↔ IsSome (label_at (map (label_within radius) labels) v)
members_of radius labels touched members tracked listed same v = (
  (λ there.
      let was : Contains touched v = (same v).0 there in
      let inside : v < length labels = All-contains (λ (x : ℕ). x < length labels) touched v tracked.inside was in
      subst (λ (o : Option ℕ). IsSome o) (sym (label_at-low radius labels v inside (listed.each v was))) refl),
  (λ some. labelled_is_member radius labels touched members tracked listed same v (label_at (map (label_within radius) labels) v) refl some),
)

pub reach_low : (g : Graph) (radius : Option ℕ) → IsBounded g radius → unwrap_or radius 288230376151711743 < 2 ^ 60
reach_low g None bounded = omega arith
reach_low g (Some r) bounded = bounded

-- a search without a target reaches its whole radius
pub whole_radius : (goal : Goal) (limit : ℕ) (labels : List ℕ) → goal.target ≡ 0 → get_or labels 0 0 ≡ far → limit ≤ goal.radius → goal.radius < 2 ^ 60 → IsAimed goal limit labels → limit ≡ goal.radius
whole_radius goal limit labels none unused within low aim =
    let at : get_or labels goal.target 0 ≡ far = ap (λ (x : ℕ). get_or labels x 0) none ∙ unused in
    ⊎_elim
    (λ (is : get_or labels goal.target 0 ≡ limit). absurd (omega arith))
    (λ (whole : (limit ≡ goal.radius) × (goal.radius < get_or labels goal.target 0)). whole.0)
    aim

IsLabelled-bounded : (g : Graph) (root : ℕ) (radius : Option ℕ) (labels : List (Option ℕ)) → IsBounded g radius → IsLabelled g root (Some (unwrap_or radius 288230376151711743)) labels → IsLabelled g root radius labels
IsLabelled-bounded g root None labels bounded h = IsLabelled-unbounded g root labels bounded h
IsLabelled-bounded g root (Some r) labels bounded h = h

pub IsBall-settled : (g : Graph) (root : ℕ) (radius : Option ℕ) (reach limit : ℕ) (labels touched members : List ℕ) → IsGraph g → IsVertex g.vertices root → IsBounded g radius → reach ≡ unwrap_or radius 288230376151711743 → limit ≡ reach → IsSettled g root limit labels → IsTracked labels touched → IsTouchedList reach labels touched → HasSame members touched → IsStrictlyIncreasing members → IsBall g root radius (record { labels = map (label_within limit) labels; members = members })
IsBall-settled g root radius reach limit labels touched members sound inside bounded is whole h tracked listed same ascending =
    let all : limit ≡ unwrap_or radius 288230376151711743 = whole ∙ is in
    let within : IsTouchedList limit labels touched = subst (λ (r : ℕ). IsTouchedList r labels touched) (sym whole) listed in
    let labelled : IsLabelled g root (Some limit) (map (label_within limit) labels) = IsLabelled-settled g root limit labels sound inside h in
    record {
      labelled = IsLabelled-bounded g root radius (map (label_within limit) labels) bounded (subst (λ (r : ℕ). IsLabelled g root (Some r) (map (label_within limit) labels)) all labelled);
      members = members_of limit labels touched members tracked within same;
      ascending = ascending;
    }

-- the touched vertices in another order
pub IsTracked-same : (labels touched members : List ℕ) → IsTracked labels touched → HasSame members touched → IsTracked labels members
IsTracked-same labels touched members tracked same =
    record {
      inside = All-from_get_or (λ (v : ℕ). v < length labels) members 0
          (λ i low. All-contains (λ (v : ℕ). v < length labels) touched (get_or members i 0) tracked.inside ((same (get_or members i 0)).0 (Contains-get_or members i 0 low)));
      covers = (λ x hx. ⊎_elim
          (λ (bare : get_or labels x 0 ≡ far). inl bare)
          (λ (there : Contains touched x). inr ((same x).1 there))
          (tracked.covers x hx));
    }
