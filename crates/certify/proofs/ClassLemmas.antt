-- The classes of equal paths, and the reason of each vertex by its class.
use Rattle.std.proofs.Common.{◌≡◌, ℕ, ◌+◌, ◌<◌, ◌≤◌, List, [], ◌∷◌, ◌++◌, length, get_or, take, map, Option, Some, Contains, All, refl, sym, ap, ◌∙◌, subst, arith, ⊎_elim}
use Rattle.std.specs.List.Sorted.{IsStrictlyIncreasing}
use Rattle.std.proofs.lemmas.Bool.{cases_lt}
use Rattle.std.proofs.lemmas.List.{take_all, map_more, get_or-map, get_or_default, length-map, map-append}
use Rattle.std.proofs.lemmas.List.Elements.{All-nil, All-push, All-contains}
use Rattle.std.proofs.lemmas.List.Kept.{AllPairs-from_increasing}
use Rattle.road_model.specs.declared.answer.Query.{Query}
use Rattle.road_model.specs.Graph.{Graph, IsGraph, IsVertex}
use Rattle.road_model.specs.Walk.{walk_length}
use Rattle.road_model.specs.Alternatives.{IsVia}
use Rattle.road_model.proofs.CanonicalWalks.{IsVia-unique}
use Rattle.canonical_trees.specs.Trees.{Trees, IsLabel}
use Rattle.canonical_trees.proofs.ThroughVertex.{via_length}
use Rattle.plateau_finder.specs.declared.plateau.Plateau.{Plateau}
use Rattle.plateau_finder.specs.Plateaus.{IsThrough, IsPlateauOf, IsListedPlateau, HasPlateau, ArePlateaus, IsOwnPlateau, IsPlateauThrough}
use Rattle.plateau_finder.proofs.WholeChains.{walk_through}
use Rattle.certificate_text.specs.declared.certificate.Reason.{Reason}
use Rattle.certify.specs.declared.vias.Class.{Class}
use Rattle.certify.specs.Reasons.{pair_of, IsPathReason, HasReason}
use Rattle.certify.specs.Classes.{AreClasses, AreAllClasses, IsNearIn}

abbrev pub names_of : List Class → List ℕ
names_of ks = map (λ (k : Class). k.least) ks

pub classes_none : (g : Graph) (q : Query) (o : List ℕ) (cs : List Plateau) → AreClasses g q o (take 0 cs) []
classes_none g q o cs = record { each = All-nil (λ (k : Class). HasReason g q o k.least k.reason); leasts = refl }

pub classes_more : (g : Graph) (q : Query) (o : List ℕ) (cs : List Plateau) (i : ℕ) (c : Plateau) (ks now : List Class) (r : Reason) → i < length cs → c ≡ get_or cs i c → now ≡ ks ++ (record { least = c.least; reason = r }) ∷ [] → HasReason g q o c.least r → AreClasses g q o (take i cs) ks → AreClasses g q o (take (i + 1) cs) now
classes_more g q o cs i c ks now r lt is more has before =
    let k : Class = record { least = c.least; reason = r } in
    subst (λ (l : List Class). AreClasses g q o (take (i + 1) cs) l) (sym more)
    (record {
      each = All-push (λ (x : Class). HasReason g q o x.least x.reason) ks k before.each has;
      leasts = map-append (λ (x : Class). x.least) ks (k ∷ [])
          ∙ ap (λ (l : List ℕ). l ++ c.least ∷ []) before.leasts
          ∙ ap (λ (n : ℕ). map (λ (x : Plateau). x.least) (take i cs) ++ n ∷ []) (ap (λ (x : Plateau). x.least) is)
          ∙ sym (map_more (λ (x : Plateau). x.least) cs i c lt);
    })

pub classes_all : (g : Graph) (q : Query) (o : List ℕ) (cs : List Plateau) (i : ℕ) (ks : List Class) → length cs ≤ i → AreClasses g q o (take i cs) ks → AreClasses g q o cs ks
classes_all g q o cs i ks ge h = subst (λ (l : List Plateau). AreClasses g q o l ks) (take_all i cs ge) h

pub listed_here : (ts : Trees) (radius : Option ℕ) (cs : List Plateau) (i : ℕ) (c : Plateau) → All (IsListedPlateau ts radius) cs → i < length cs → c ≡ get_or cs i c → IsListedPlateau ts radius c
listed_here ts radius cs i c each lt is = subst (λ (x : Plateau). IsListedPlateau ts radius x) (sym is) (each i c lt)

-- near vertices

pub near_in : (ts : Trees) (v near left bound : ℕ) → IsLabel ts.graph ts.radius ts.source v (Some near) → IsLabel ts.graph ts.radius v ts.target (Some left) → near + left ≤ bound → IsNearIn ts bound v
near_in ts v near left bound from to low =
    record {
      inside = record {
        from = record { distance = near; dist = from.0; within = from.1 };
        to = record { distance = left; dist = to.0; within = to.1 };
      };
      low = (λ p via. omega (arith, via_length ts.graph ts.source ts.target v near left p via from.0 to.0));
    }

pub near_out : (ts : Trees) (v near left bound : ℕ) → IsGraph ts.graph → IsVertex ts.graph.vertices ts.source → IsLabel ts.graph ts.radius ts.source v (Some near) → IsLabel ts.graph ts.radius v ts.target (Some left) → IsNearIn ts bound v → near + left ≤ bound
near_out ts v near left bound sound source from to h =
    let walk = walk_through ts v sound source h.inside in
    let low : walk_length ts.graph walk.path ≤ bound = h.low walk.path walk.through in
    omega (arith, via_length ts.graph ts.source ts.target v near left walk.path walk.through from.0 to.0)

-- the class of a plateau, in a list by rising names

abbrev pub IsBracket : List Class → ℕ → ℕ → ℕ → Type 0
IsBracket ks least low high = (i : ℕ) → i < length ks → get_or (names_of ks) i 0 ≡ least → (low ≤ i) × (i < high)

pub bracket_above : (ks : List Class) (least low high middle : ℕ) (d : Class) → IsStrictlyIncreasing (names_of ks) → middle < length ks → (get_or ks middle d).least < least → IsBracket ks least low high → IsBracket ks least (middle + 1) high
bracket_above ks least low high middle d rising lt less h i inside here =
    let own : get_or (names_of ks) middle 0 ≡ (get_or ks middle d).least = get_or-map (λ (x : Class). x.least) ks middle d 0 lt in
    let above : middle + 1 ≤ i =
    ⊎_elim
    (λ (after : middle < i). let r : middle + 1 ≤ i = omega arith in r)
    (λ (le : i ≤ middle).
    ⊎_elim
    (λ (before : i < middle).
    let up : get_or (names_of ks) i 0 < get_or (names_of ks) middle 0 = AllPairs-from_increasing (names_of ks) rising i middle 0 before (omega (arith, length-map ks (λ (x : Class). x.least))) in
    let r : middle + 1 ≤ i = absurd (omega arith) in
    r)
    (λ (ge : middle ≤ i).
    let place : i ≡ middle = omega arith in
    let same : get_or (names_of ks) i 0 ≡ get_or (names_of ks) middle 0 = ap (λ (n : ℕ). get_or (names_of ks) n 0) place in
    let r : middle + 1 ≤ i = absurd (omega arith) in
    r)
    (cases_lt i middle))
    (cases_lt middle i) in
    (above, (h i inside here).1)

pub bracket_below : (ks : List Class) (least low high middle : ℕ) (d : Class) → IsStrictlyIncreasing (names_of ks) → middle < length ks → least < (get_or ks middle d).least → IsBracket ks least low high → IsBracket ks least low middle
bracket_below ks least low high middle d rising lt more h i inside here =
    let own : get_or (names_of ks) middle 0 ≡ (get_or ks middle d).least = get_or-map (λ (x : Class). x.least) ks middle d 0 lt in
    let below : i < middle =
    ⊎_elim
    (λ (before : i < middle). before)
    (λ (ge : middle ≤ i).
    ⊎_elim
    (λ (after : middle < i).
    let up : get_or (names_of ks) middle 0 < get_or (names_of ks) i 0 = AllPairs-from_increasing (names_of ks) rising middle i 0 after (omega (arith, length-map ks (λ (x : Class). x.least))) in
    let r : i < middle = absurd (omega arith) in
    r)
    (λ (le : i ≤ middle).
    let place : i ≡ middle = omega arith in
    let same : get_or (names_of ks) i 0 ≡ get_or (names_of ks) middle 0 = ap (λ (n : ℕ). get_or (names_of ks) n 0) place in
    let r : i < middle = absurd (omega arith) in
    r)
    (cases_lt middle i))
    (cases_lt i middle) in
    ((h i inside here).0, below)

pub bracket_empty : (ks : List Class) (least low high : ℕ) → high ≤ low → IsBracket ks least low high → Contains (names_of ks) least → ⊥
bracket_empty ks least low high le h there =
    let inside : there.0 < length ks = omega (arith, there.1, length-map ks (λ (x : Class). x.least)) in
    let here : get_or (names_of ks) there.0 0 ≡ least = get_or_default (names_of ks) there.0 0 least there.1 ∙ there.2 in
    let both = h there.0 inside here in
    omega (arith, both.0, both.1)

-- the class of a near vertex

rising_names : (ts : Trees) (bound : Option ℕ) (cs : List Plateau) → ArePlateaus ts bound cs → IsStrictlyIncreasing (map (λ (c : Plateau). c.least) cs)
rising_names ts bound [] h k lt = absurd (omega arith)
rising_names ts bound (c ∷ cs) h k lt =
    let long : length (map (λ (x : Plateau). x.least) (c ∷ cs)) ≡ length (c ∷ cs) = length-map (c ∷ cs) (λ (x : Plateau). x.least) in
    let low = get_or-map (λ (x : Plateau). x.least) (c ∷ cs) k c 0 (omega arith) in
    let high = get_or-map (λ (x : Plateau). x.least) (c ∷ cs) (k + 1) c 0 (omega arith) in
    let up : (get_or (c ∷ cs) k c).least < (get_or (c ∷ cs) (k + 1) c).least = h.rising k (k + 1) c (omega arith) (omega arith) in
    omega arith

pub rising_classes : (g : Graph) (q : Query) (o : List ℕ) (ts : Trees) (bound : ℕ) (ks : List Class) → AreAllClasses g q o ts bound ks → IsStrictlyIncreasing (names_of ks)
rising_classes g q o ts bound ks h =
    subst (λ (l : List ℕ). IsStrictlyIncreasing l) (sym h.are.leasts) (rising_names ts (Some bound) h.plateaus h.all)

own_plateau : (ts : Trees) (v : ℕ) (r : Option Plateau) (c : Plateau) → IsPlateauThrough ts v r → r ≡ Some c → IsOwnPlateau ts v c
own_plateau ts v r c h is = subst (λ (x : Option Plateau). IsPlateauThrough ts v x) is h

contains_least : (cs : List Plateau) (c : Plateau) (n : ℕ) → Contains cs c → c.least ≡ n → Contains (map (λ (x : Plateau). x.least) cs) n
contains_least cs c n there is =
    let inside : there.0 < length cs = there.1 in
    (there.0, omega (arith, length-map cs (λ (x : Plateau). x.least)), get_or-map (λ (x : Plateau). x.least) cs there.0 c n inside ∙ (ap (λ (x : Plateau). x.least) there.2 ∙ is))

pub has_class : (g : Graph) (q : Query) (o : List ℕ) (ts : Trees) (bound : ℕ) (ks : List Class) (v : ℕ) (r : Option Plateau) (c : Plateau) → IsGraph ts.graph → IsVertex ts.graph.vertices ts.source → AreAllClasses g q o ts bound ks → IsNearIn ts bound v → IsPlateauThrough ts v r → r ≡ Some c → Contains (names_of ks) c.least
has_class g q o ts bound ks v r c sound source h near found is =
    let walk = walk_through ts v sound source near.inside in
    let own : IsPlateauOf ts walk.path c = (own_plateau ts v r c found is).is walk.path walk.through in
    let has : HasPlateau ts walk.path h.plateaus = h.all.every v walk.path walk.through near.inside (near.low walk.path walk.through) in
    let low : c.least ≤ has.plateau.least = own.lowest has.plateau.least has.is.least has.is.least_inside in
    let high : has.plateau.least ≤ c.least = has.is.lowest c.least own.least own.least_inside in
    let same : has.plateau.least ≡ c.least = omega arith in
    subst (λ (l : List ℕ). Contains l c.least) (sym h.are.leasts) (contains_least h.plateaus has.plateau c.least has.listed same)

-- a vertex of the plateau has the same path, and so the same reason
same_reason : (ts : Trees) (o : List ℕ) (q : Query) (v least : ℕ) (p : List ℕ) (r : Reason) → IsThrough ts v p → IsThrough ts least p → q.from ≡ ts.source → q.to ≡ ts.target → HasReason ts.graph q o least r → HasReason ts.graph q o v r
same_reason ts o q v least p r via own from to h =
    let told : IsVia ts.graph ts.source ts.target least h.path = subst (λ (x : ℕ). IsVia ts.graph x ts.target least h.path) from (subst (λ (x : ℕ). IsVia ts.graph q.from x least h.path) to h.through) in
    let one : h.path ≡ p = IsVia-unique ts.graph ts.source ts.target least h.path p told own in
    record {
      path = p;
      through = subst (λ (x : ℕ). IsVia ts.graph x q.to v p) (sym from) (subst (λ (x : ℕ). IsVia ts.graph ts.source x v p) (sym to) via);
      is = subst (λ (l : List ℕ). IsPathReason ts.graph q o l r) one h.is;
    }

pub reason_here : (g : Graph) (q : Query) (o : List ℕ) (ts : Trees) (bound : ℕ) (ks : List Class) (v : ℕ) (found : Option Plateau) (c : Plateau) (k : Class) (place : ℕ) → IsGraph ts.graph → IsVertex ts.graph.vertices ts.source → ts ≡ pair_of g q (Some bound) → AreAllClasses g q o ts bound ks → IsNearIn ts bound v →
    IsPlateauThrough ts v found → found ≡ Some c → place < length ks → k ≡ get_or ks place k → (get_or ks place k).least ≡ c.least → HasReason g q o v k.reason
reason_here g q o ts bound ks v found c k place sound source trees h near through is lt here named =
    let walk = walk_through ts v sound source near.inside in
    let own : IsPlateauOf ts walk.path c = (own_plateau ts v found c through is).is walk.path walk.through in
    let graph : ts.graph ≡ g = ap (λ (x : Trees). x.graph) trees in
    let mine : HasReason g q o k.least k.reason = All-contains (λ (x : Class). HasReason g q o x.least x.reason) ks k h.are.each (place, lt, sym here) in
    let name : k.least ≡ c.least = ap (λ (x : Class). x.least) here ∙ named in
    let told : HasReason ts.graph q o c.least k.reason = subst (λ (x : Graph). HasReason x q o c.least k.reason) (sym graph) (subst (λ (n : ℕ). HasReason g q o n k.reason) name mine) in
    subst (λ (x : Graph). HasReason x q o v k.reason) graph
    (same_reason ts o q v c.least walk.path k.reason walk.through own.least (sym (ap (λ (x : Trees). x.source) trees)) (sym (ap (λ (x : Trees). x.target) trees)) told)
