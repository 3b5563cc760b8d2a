-- The plateaus that begin at the vertices of a ball, one vertex after the other, and their order.
use Rattle.std.proofs.Common.{◌≡◌, ◌≢◌, ℕ, ◌+◌, ◌<◌, ◌≤◌, ◌⊎◌, ◌==◌, zero, suc, Bool, false, List, [], ◌∷◌, ◌++◌, length, get_or, Option, Some, None, All, AllPairs, Contains, slice_get, IsPermutation, sym, ap, ◌∙◌, subst, arith, inl, inr, ⊎_elim}
use Rattle.std.specs.List.{IsDistinct}
use Rattle.std.specs.List.Sorted.{IsNonDecreasingBy, IsStrictlyIncreasing}
use Rattle.std.proofs.lemmas.Bool.{cases_lt, ne_eqb, eqb-false}
use Rattle.std.proofs.lemmas.Option.{slice_get-get_or, slice_get_within}
use Rattle.std.proofs.lemmas.List.Elements.{All-nil, All-push, All-weaker, All-contains, All-from_recursion, Contains-append_left, Contains-push}
use Rattle.std.proofs.lemmas.List.Quantifiers.{all_pairs_push}
use Rattle.std.proofs.lemmas.List.Kept.{AllPairs-from_increasing}
use Rattle.std.proofs.lemmas.List.Sorted.{All-permutation, Contains-permutation}
use Rattle.std.proofs.lemmas.Map.Keys.{IsDistinct-from_apart, IsDistinct-head, IsDistinct-tail, IsDistinct-IsPermutation}
use Rattle.road_model.specs.Graph.{IsGraph, IsVertex}
use Rattle.road_model.specs.Walk.{walk_length}
use Rattle.road_model.proofs.Basics.{eqb-flips}
use Rattle.road_model.proofs.CanonicalWalks.{IsVia-unique}
use Rattle.tree_search.specs.Ball.{IsWithin}
use Rattle.canonical_trees.specs.Trees.{Trees, IsMembersFrom}
use Rattle.plateau_finder.specs.declared.plateau.Plateau.{Plateau}
use Rattle.plateau_finder.specs.Plateaus.{IsInBoth, IsThrough, IsPlateauOf, IsListedPlateau, HasPlateau, ArePlateaus, IsPlateauAt}
use Rattle.plateau_finder.specs.Links.{IsPrevious, IsChainFrom, IsChainBack, HasLinkInto, HasStart, HasLeast, IsStart, StartsAt, AreGathered}
use Rattle.plateau_finder.proofs.LinkedVias.{via_before}
use Rattle.plateau_finder.proofs.WholeChains.{walk_through, same_first}

-- the vertex stands among the first i
pub record StandsBefore (vertices : List ℕ) (i v : ℕ) : Type 0 where
  pub place : ℕ
  pub before : place < i
  pub stands : slice_get vertices place ≡ Some v

abbrev pub Covers : Trees → Option ℕ → List Plateau → ℕ → Type 0
Covers ts bound cs v = (p : List ℕ) → IsThrough ts v p → IsInBoth ts v → IsWithin bound (walk_length ts.graph p) → HasLinkInto ts v ⊎ HasStart cs v

-- the plateaus that begin at the first i of these vertices
pub record IsGathering (ts : Trees) (bound : Option ℕ) (vertices : List ℕ) (i : ℕ) (cs : List Plateau) : Type 0 where
  pub each : All (IsListedPlateau ts bound) cs
  pub begin : All (λ (c : Plateau). IsPrevious ts c.first None) cs
  pub from : All (λ (c : Plateau). StandsBefore vertices i c.first) cs
  pub apart : AllPairs (λ (a b : Plateau). a.first ≢ b.first) cs
  pub covers : (k v : ℕ) → k < i → slice_get vertices k ≡ Some v → Covers ts bound cs v

pub gathering_start : (ts : Trees) (bound : Option ℕ) (vertices : List ℕ) (cs : List Plateau) → cs ≡ [] → IsGathering ts bound vertices 0 cs
gathering_start ts bound vertices cs none =
    subst (λ (l : List Plateau). IsGathering ts bound vertices 0 l) (sym none)
    (record {
      each = All-nil (IsListedPlateau ts bound);
      begin = All-nil (λ (c : Plateau). IsPrevious ts c.first None);
      from = All-nil (λ (c : Plateau). StandsBefore vertices 0 c.first);
      apart = (λ i j d lt inside. absurd (let none : j < 0 = inside in omega arith));
      covers = (λ k v lt is. absurd (omega arith));
    })

stands_later : (vertices : List ℕ) (i : ℕ) (c : Plateau) → StandsBefore vertices i c.first → StandsBefore vertices (i + 1) c.first
stands_later vertices i c h = record { place = h.place; before = omega (arith, h.before); stands = h.stands }

same_item : (vertices : List ℕ) (i k v w : ℕ) → i ≡ k → slice_get vertices i ≡ Some v → slice_get vertices k ≡ Some w → v ≡ w
same_item vertices i k v w same a b =
    let both : Some v ≡ Some w = sym a ∙ (ap (λ (n : ℕ). slice_get vertices n) same ∙ b) in
    cc

covers_more : (ts : Trees) (bound : Option ℕ) (vertices : List ℕ) (i v : ℕ) (cs : List Plateau) → slice_get vertices i ≡ Some v → ((k w : ℕ) → k < i → slice_get vertices k ≡ Some w → Covers ts bound cs w) → Covers ts bound cs v → (k w : ℕ) → k < i + 1 → slice_get vertices k ≡ Some w → Covers ts bound cs w
covers_more ts bound vertices i v cs here before now k w lt is =
    ⊎_elim
    (λ (less : k < i). before k w less is)
    (λ (ge : i ≤ k).
    let same : i ≡ k = omega arith in
    subst (λ (x : ℕ). Covers ts bound cs x) (same_item vertices i k v w same here is) now)
    (cases_lt k i)

pub gathering_none : (ts : Trees) (bound : Option ℕ) (vertices : List ℕ) (i v : ℕ) (cs now : List Plateau) (o : Option Plateau) → IsGathering ts bound vertices i cs → slice_get vertices i ≡ Some v → StartsAt ts bound v o → o ≡ None → now ≡ cs → IsGathering ts bound vertices (i + 1) now
gathering_none ts bound vertices i v cs now o h here found none same =
    let into : (p : List ℕ) → IsThrough ts v p → IsInBoth ts v → IsWithin bound (walk_length ts.graph p) → HasLinkInto ts v = subst (λ (x : Option Plateau). StartsAt ts bound v x) none found in
    subst (λ (l : List Plateau). IsGathering ts bound vertices (i + 1) l) (sym same)
    (record {
      each = h.each;
      begin = h.begin;
      from = All-weaker (λ (c : Plateau). StandsBefore vertices i c.first) (λ (c : Plateau). StandsBefore vertices (i + 1) c.first) (stands_later vertices i) cs h.from;
      apart = h.apart;
      covers = covers_more ts bound vertices i v cs here h.covers (λ p via inside within. inl (into p via inside within));
    })

HasStart-push : (cs : List Plateau) (c : Plateau) (v : ℕ) → HasStart cs v → HasStart (cs ++ c ∷ []) v
HasStart-push cs c v h =
    record { plateau = h.plateau; listed = Contains-append_left cs (c ∷ []) h.plateau h.listed; is = h.is }

covers_push : (ts : Trees) (bound : Option ℕ) (cs : List Plateau) (c : Plateau) (v : ℕ) → Covers ts bound cs v → Covers ts bound (cs ++ c ∷ []) v
covers_push ts bound cs c v h p via inside within =
    ⊎_elim
    (λ (into : HasLinkInto ts v). inl into)
    (λ (start : HasStart cs v). inr (HasStart-push cs c v start))
    (h p via inside within)

-- vertices at different places differ
stand_apart : (vertices : List ℕ) (i j v w : ℕ) → AllPairs (λ (x y : ℕ). x < y) vertices → i < j → slice_get vertices i ≡ Some v → slice_get vertices j ≡ Some w → v ≢ w
stand_apart vertices i j v w rising lt at_i at_j same =
    let inside : j < length vertices = slice_get_within vertices j w at_j in
    let first : Some (get_or vertices i 0) ≡ Some v = sym (slice_get-get_or vertices i 0 (omega arith)) ∙ at_i in
    let second : Some (get_or vertices j 0) ≡ Some w = sym (slice_get-get_or vertices j 0 inside) ∙ at_j in
    let is_v : get_or vertices i 0 ≡ v = cc in
    let is_w : get_or vertices j 0 ≡ w = cc in
    let rise : get_or vertices i 0 < get_or vertices j 0 = rising i j 0 lt inside in
    absurd (omega arith)

pub gathering_some : (ts : Trees) (bound : Option ℕ) (vertices : List ℕ) (i v : ℕ) (cs now : List Plateau) (o : Option Plateau) (c : Plateau) → IsStrictlyIncreasing vertices → IsGathering ts bound vertices i cs → slice_get vertices i ≡ Some v → StartsAt ts bound v o → o ≡ Some c → now ≡ cs ++ c ∷ [] → IsGathering ts bound vertices (i + 1) now
gathering_some ts bound vertices i v cs now o c ascending h here found some same =
    let start : IsStart ts bound v c = subst (λ (x : Option Plateau). StartsAt ts bound v x) some found in
    let own : StandsBefore vertices (i + 1) c.first = record { place = i; before = omega arith; stands = here ∙ ap (λ (x : ℕ). Some x) (sym start.is_first) } in
    let new : HasStart (cs ++ c ∷ []) v = record { plateau = c; listed = Contains-push cs c; is = start.is_first } in
    subst (λ (l : List Plateau). IsGathering ts bound vertices (i + 1) l) (sym same)
    (record {
      each = All-push (IsListedPlateau ts bound) cs c h.each start.listed;
      begin = All-push (λ (x : Plateau). IsPrevious ts x.first None) cs c h.begin start.begins;
      from = All-push (λ (x : Plateau). StandsBefore vertices (i + 1) x.first) cs c (All-weaker (λ (x : Plateau). StandsBefore vertices i x.first) (λ (x : Plateau). StandsBefore vertices (i + 1) x.first) (stands_later vertices i) cs h.from) own;
      apart = all_pairs_push (λ (a b : Plateau). a.first ≢ b.first) cs c h.apart (λ k d lt.
          let old = h.from k d lt in
          let differ : (get_or cs k d).first ≢ v = stand_apart vertices old.place i (get_or cs k d).first v (AllPairs-from_increasing vertices ascending) old.before old.stands here in
          λ e. differ (e ∙ start.is_first));
      covers = covers_more ts bound vertices i v (cs ++ c ∷ []) here
          (λ k w lt is. covers_push ts bound cs c w (h.covers k w lt is))
          (λ p via inside within. inr new);
    })

-- the plateau of a walk, from its first vertex
of_start : (ts : Trees) (bound : Option ℕ) (cs : List Plateau) (v : ℕ) (p : List ℕ) → All (IsListedPlateau ts bound) cs → IsThrough ts v p → HasStart cs v → HasPlateau ts p cs
of_start ts bound cs v p each via h =
    let own : IsListedPlateau ts bound h.plateau = All-contains (IsListedPlateau ts bound) cs h.plateau each h.listed in
    let walk : own.walk ≡ p = IsVia-unique ts.graph ts.source ts.target v own.walk p (subst (λ (x : ℕ). IsThrough ts x own.walk) h.is own.is.first) via in
    record { plateau = h.plateau; listed = h.listed; is = subst (λ (q : List ℕ). IsPlateauOf ts q h.plateau) walk own.is }

-- back along the links, a walk comes to where its plateau begins
back_to_start : (n : ℕ) (ts : Trees) (bound : Option ℕ) (cs : List Plateau) (v : ℕ) (p : List ℕ) → IsGraph ts.graph → All (IsListedPlateau ts bound) cs → ((w : ℕ) → IsInBoth ts w → Covers ts bound cs w) → (h : IsThrough ts v p) → length h.prefix < n → IsInBoth ts v → IsWithin bound (walk_length ts.graph p) → HasPlateau ts p cs
back_to_start zero ts bound cs v p sound each covers h lt inside within = absurd (omega arith)
back_to_start (suc n) ts bound cs v p sound each covers h lt inside within =
    ⊎_elim
    (λ (into : HasLinkInto ts v).
    let before = via_before ts into.tail v p sound h into.link.link in
    back_to_start n ts bound cs into.tail p sound each covers before.through (omega (arith, before.one_less)) into.link.tail_inside within)
    (λ (start : HasStart cs v). of_start ts bound cs v p each h start)
    (covers v inside p h inside within)

leasts_apart : (ts : Trees) (bound : Option ℕ) (a b : Plateau) → IsGraph ts.graph → IsListedPlateau ts bound a → IsListedPlateau ts bound b → IsPrevious ts a.first None → IsPrevious ts b.first None → a.first ≢ b.first → a.least ≢ b.least
leasts_apart ts bound a b sound h k begins_a begins_b apart same =
    let walk : k.walk ≡ h.walk = IsVia-unique ts.graph ts.source ts.target a.least k.walk h.walk (subst (λ (x : ℕ). IsThrough ts x k.walk) (sym same) k.is.least) h.is.least in
    apart (same_first ts h.walk a b sound begins_a begins_b h.is (subst (λ (q : List ℕ). IsPlateauOf ts q b) walk k.is))

pub gathered_all : (ts : Trees) (bound : Option ℕ) (vertices members : List ℕ) (n : ℕ) (cs : List Plateau) → IsGraph ts.graph → IsMembersFrom ts.graph ts.radius ts.source members → vertices ≡ members → length vertices ≤ n → IsGathering ts bound vertices n cs → AreGathered ts bound cs
gathered_all ts bound vertices members n cs sound ball same le h =
    let covers = (λ (w : ℕ) (inside : IsInBoth ts w).
    let has : Contains vertices w = subst (λ (l : List ℕ). Contains l w) (sym same) (ball.every w inside.from) in
    h.covers has.0 w (omega (arith, has.1)) (slice_get-get_or vertices has.0 w has.1 ∙ ap (λ (x : ℕ). Some x) has.2)) in
    record {
      each = h.each;
      every = (λ v p via inside within. back_to_start (suc (length via.prefix)) ts bound cs v p sound h.each covers via (omega arith) inside within);
      apart = (λ i j d lt inside.
          leasts_apart ts bound (get_or cs i d) (get_or cs j d) sound (h.each i d (omega arith)) (h.each j d inside) (h.begin i d (omega arith)) (h.begin j d inside) (h.apart i j d lt inside));
    }

abbrev same_least : Plateau → Plateau → Bool
same_least a b = a.least == b.least

HasPlateau-permutation : (ts : Trees) (p : List ℕ) (xs ys : List Plateau) → IsPermutation xs ys → HasPlateau ts p xs → HasPlateau ts p ys
HasPlateau-permutation ts p xs ys moved h =
    record { plateau = h.plateau; listed = Contains-permutation xs ys h.plateau moved h.listed; is = h.is }

distinct_apart : (ys : List Plateau) → IsDistinct same_least ys → AllPairs (λ (a b : Plateau). a.least ≢ b.least) ys
distinct_apart [] names i j d lt inside = absurd (let none : j < 0 = inside in omega arith)
distinct_apart (y ∷ ys) names i zero d lt inside = absurd (omega arith)
distinct_apart (y ∷ ys) names zero (suc j) d lt inside =
    let head : All (λ (x : Plateau). same_least y x ≡ false) ys = All-from_recursion (λ (x : Plateau). same_least y x ≡ false) ys (IsDistinct-head same_least y ys names) in
    eqb-false y.least (get_or ys j d).least (head j d (omega arith))
distinct_apart (y ∷ ys) names (suc i) (suc j) d lt inside =
    distinct_apart ys (IsDistinct-tail same_least y ys names) i j d (omega arith) (omega arith)

rises : (a b : Plateau) → a.least ≤ b.least → a.least ≢ b.least → a.least < b.least
rises a b le other =
    ⊎_elim
    (λ (lt : a.least < b.least). lt)
    (λ (ge : b.least ≤ a.least). absurd (let same : a.least ≡ b.least = omega arith in other same))
    (cases_lt a.least b.least)

pub in_order_of : (ts : Trees) (bound : Option ℕ) (xs ys : List Plateau) → AreGathered ts bound xs → IsPermutation xs ys → IsNonDecreasingBy (λ (c : Plateau). c.least) ys → ArePlateaus ts bound ys
in_order_of ts bound xs ys h moved order =
    let distinct : IsDistinct same_least xs = IsDistinct-from_apart same_least xs (λ i j d lt inside. ne_eqb (get_or xs i d).least (get_or xs j d).least (h.apart i j d lt inside)) in
    let still : IsDistinct same_least ys = IsDistinct-IsPermutation same_least (λ a b. eqb-flips a.least b.least) xs ys moved distinct in
    record {
      each = All-permutation (IsListedPlateau ts bound) xs ys moved h.each;
      every = (λ v p via inside within. HasPlateau-permutation ts p xs ys moved (h.every v p via inside within));
      rising = (λ i j d lt inside. rises (get_or ys i d) (get_or ys j d) (order i j d (omega arith) inside) (distinct_apart ys still i j d lt inside));
    }

-- of all plateaus, the one of the walk through v
has_least_of : (ts : Trees) (cs : List Plateau) (p : List ℕ) (c : Plateau) → IsPlateauOf ts p c → HasPlateau ts p cs → HasLeast cs c.least
has_least_of ts cs p c own h =
    let low : c.least ≤ h.plateau.least = own.lowest h.plateau.least h.is.least h.is.least_inside in
    let high : h.plateau.least ≤ c.least = h.is.lowest c.least own.least own.least_inside in
    record { plateau = h.plateau; listed = h.listed; is = omega arith }

pub has_least : (ts : Trees) (cs : List Plateau) (v : ℕ) (c : Plateau) → IsGraph ts.graph → IsVertex ts.graph.vertices ts.source → ArePlateaus ts None cs → IsInBoth ts v → IsChainBack ts v c.first → IsChainFrom ts c → HasLeast cs c.least
has_least ts cs v c sound source all inside back chain =
    let walk = walk_through ts v sound source inside in
    has_least_of ts cs walk.path c (chain.is walk.path (back.through walk.path walk.through)) (all.every v walk.path walk.through inside tt)

pub plateau_found : (ts : Trees) (cs : List Plateau) (v : ℕ) (c found : Plateau) → ArePlateaus ts None cs → IsInBoth ts v → IsChainBack ts v c.first → IsChainFrom ts c → Contains cs found → found.least ≡ c.least → IsPlateauAt ts cs v found
plateau_found ts cs v c found all inside back chain listed same =
    let own : IsListedPlateau ts None found = All-contains (IsListedPlateau ts None) cs found all.each listed in
    record {
      listed = listed;
      inside = inside;
      is = (λ p via.
          let at : IsPlateauOf ts p c = chain.is p (back.through p via) in
          let walk : own.walk ≡ p = IsVia-unique ts.graph ts.source ts.target found.least own.walk p own.is.least (subst (λ (x : ℕ). IsThrough ts x p) (sym same) at.least) in
          subst (λ (q : List ℕ). IsPlateauOf ts q found) walk own.is);
    }

pub not_here : (xs : List Plateau) (i : ℕ) (x : Plateau) (least : ℕ) → slice_get xs i ≡ Some x → (x.least ≡ least → ⊥) → ((k : ℕ) (y : Plateau) → k < i → slice_get xs k ≡ Some y → y.least ≡ least → ⊥) → (k : ℕ) (y : Plateau) → k < i + 1 → slice_get xs k ≡ Some y → y.least ≡ least → ⊥
not_here xs i x least here other before k y lt is same =
    ⊎_elim
    (λ (less : k < i). before k y less is same)
    (λ (ge : i ≤ k).
    let place : i ≡ k = omega arith in
    let both : Some x ≡ Some y = sym here ∙ (ap (λ (n : ℕ). slice_get xs n) place ∙ is) in
    let one : x ≡ y = cc in
    other (ap (λ (c : Plateau). c.least) one ∙ same))
    (cases_lt k i)

pub not_missing : (xs ys : List Plateau) (n least : ℕ) → ys ≡ xs → HasLeast xs least → length ys ≤ n → ((k : ℕ) (y : Plateau) → k < n → slice_get ys k ≡ Some y → y.least ≡ least → ⊥) → ⊥
not_missing xs ys n least same h le none =
    let has : Contains ys h.plateau = subst (λ (l : List Plateau). Contains l h.plateau) (sym same) h.listed in
    none has.0 h.plateau (omega (arith, has.1)) (slice_get-get_or ys has.0 h.plateau has.1 ∙ ap (λ (x : Plateau). Some x) has.2) h.is

pub listed_as : (xs ys : List Plateau) (c : Plateau) → xs ≡ ys → Contains xs c → Contains ys c
listed_as xs ys c same has = subst (λ (l : List Plateau). Contains l c) same has
