-- The versions of a graph, in order.
use Rattle.std.proofs.Common.{◌≡◌, ℕ, ◌+◌, ◌-◌, ◌<◌, ◌≤◌, List, [], ◌∷◌, ◌++◌, length, get_or, take, refl, sym, ap, ◌∙◌, subst, arith, ⊎_elim}
use Rattle.std.proofs.lemmas.Bool.{cases_lt}
use Rattle.std.proofs.Math.ListN.{get_or-eq_default}
use Rattle.std.proofs.lemmas.List.{get_or_append_left, get_or_default, length-append, take-append-le, take_all}
use Rattle.std.proofs.Math.Seq.{get_or-append_seam}
use Rattle.road_model.specs.declared.change.Change.{Change}
use Rattle.road_model.specs.Graph.{Graph}
use Rattle.road_model.specs.Changes.{after_all}
use Rattle.desk_core.specs.Histories.{History, newest_in, graph_in, AreVersions}

-- the graph of the newest version is that after all batches
pub graph_of_newest : (h : History) → graph_in h (newest_in h) ≡ after_all h.base h.batches
graph_of_newest h =
    ap (λ (l : List (List Change)). after_all h.base l) (take_all (newest_in h - 1) h.batches (omega arith))

module _ {V : Type 0} (base : V → Graph) (history : V → List (List Change)) where
  abbrev Before : List V → V → ℕ → V → Type 0
  Before older newest k v = (base v ≡ base newest) × (history v ≡ take k (history newest))

  -- the version that so many others stand before
  pub version_before : (older : List V) (newest : V) (k : ℕ) → AreVersions base history older newest → k ≤ length older → Before older newest k (get_or older k newest)
  version_before older newest k are within =
      ⊎_elim
      (λ (early : k < length older). let r : Before older newest k (get_or older k newest) = (are.bases k early, are.histories k early) in r)
      (λ (last : length older ≤ k).
      let count = are.count in
      let whole : take k (history newest) ≡ history newest = take_all k (history newest) (omega arith) in
      let r : Before older newest k (get_or older k newest) =
      subst (Before older newest k) (sym (get_or-eq_default older newest {n = k} last)) (refl, sym whole)
      in
      r)
      (cases_lt k (length older))

  pub first_version : (v : V) → history v ≡ [] → AreVersions base history [] v
  first_version v none = record {
    count = sym (ap (λ (l : List (List Change)). length l) none);
    bases = λ k early. absurd (omega arith);
    histories = λ k early. absurd (omega arith);
  }

  -- the newest version becomes an older one
  module _ (older : List V) (newest next : V) (batch : List Change) (are : AreVersions base history older newest) (same : base next ≡ base newest) (more : history next ≡ history newest ++ batch ∷ []) where
    abbrev AsBefore : ℕ → V → Type 0
    AsBefore k v = (base v ≡ base next) × (history v ≡ take k (history next))

    carried : (k : ℕ) → k ≤ length older → AsBefore k (get_or older k newest)
    carried k within =
        let h = version_before older newest k are within in
        let count = are.count in
        let kept : take k (history newest ++ batch ∷ []) ≡ take k (history newest) = take-append-le k (history newest) (batch ∷ []) (omega arith) in
        (h.0 ∙ sym same, h.1 ∙ sym kept ∙ ap (λ (l : List (List Change)). take k l) (sym more))

    at_seam : (k : ℕ) → length older ≤ k → k < length (older ++ newest ∷ []) → k ≡ length older
    at_seam k late early = let long = length-append older (newest ∷ []) in omega arith

    one_more : (k : ℕ) → k < length (older ++ newest ∷ []) → AsBefore k (get_or (older ++ newest ∷ []) k next)
    one_more k early =
        ⊎_elim
        (λ (inside : k < length older).
        let is : get_or (older ++ newest ∷ []) k next ≡ get_or older k newest = get_or_append_left older (newest ∷ []) next k inside ∙ get_or_default older k next newest inside in
        let r : AsBefore k (get_or (older ++ newest ∷ []) k next) = subst (AsBefore k) (sym is) (carried k (omega arith)) in
        r)
        (λ (late : length older ≤ k).
        let seam : k ≡ length older = at_seam k late early in
        let is : get_or (older ++ newest ∷ []) k next ≡ newest = ap (λ (j : ℕ). get_or (older ++ newest ∷ []) j next) seam ∙ get_or-append_seam older newest [] next in
        let old : get_or older k newest ≡ newest = get_or-eq_default older newest {n = k} late in
        let r : AsBefore k (get_or (older ++ newest ∷ []) k next) = subst (AsBefore k) (old ∙ sym is) (carried k (omega arith)) in
        r)
        (cases_lt k (length older))

    versions_grow : AreVersions base history (older ++ newest ∷ []) next
    versions_grow = record {
      count =
          let count = are.count in
          let now : length (history next) ≡ length (history newest) + 1 = ap (λ (l : List (List Change)). length l) more ∙ length-append (history newest) (batch ∷ []) in
          let then : length (older ++ newest ∷ []) ≡ length older + 1 = length-append older (newest ∷ []) in
          omega arith;
      bases = λ k early. (one_more k early).0;
      histories = λ k early. (one_more k early).1;
    }

  pub versions_pushed : (older pushed kept : List V) (newest next held made gone : V) (batch : List Change) → AreVersions base history older newest → pushed ≡ kept ++ gone ∷ [] → kept ≡ older → gone ≡ newest → next ≡ made → base made ≡ base held → history made ≡ history held ++ batch ∷ [] → held ≡ newest → AreVersions base history pushed next
  versions_pushed older pushed kept newest next held made gone batch are is stays was becomes same more holds =
      let all : pushed ≡ older ++ newest ∷ [] = is ∙ ap (λ (l : List V). l ++ gone ∷ []) stays ∙ ap (λ (v : V). older ++ v ∷ []) was in
      let history_is : history next ≡ history newest ++ batch ∷ [] =
      ap history becomes ∙ more ∙ ap (λ (v : V). history v ++ batch ∷ []) holds
      in
      subst (λ (l : List V). AreVersions base history l next) (sym all)
      (versions_grow older newest next batch are (ap base becomes ∙ same ∙ ap base holds) history_is)
