-- The plateaus that begin at the vertices of a ball, found of all vertices at once.
use Rattle.std.proofs.Common.{◌≡◌, ℕ, suc, ◌+◌, List, [], ◌∷◌, ◌++◌, length, Option, Some, None, refl, sym, subst, arith}
use Rattle.std.specs.Prelude.{slice_get, filter_map}
use Rattle.std.specs.List.{AllZip}
use Rattle.std.specs.List.Sorted.{IsStrictlyIncreasing}
use Rattle.std.proofs.lemmas.List.{append_assoc, append-nil}
use Rattle.canonical_trees.specs.Trees.{Trees}
use Rattle.plateau_finder.specs.declared.plateau.Plateau.{Plateau}
use Rattle.plateau_finder.specs.Links.{StartsAt}
use Rattle.plateau_finder.proofs.Gathered.{IsGathering, gathering_start, gathering_none, gathering_some}

module _ (ts : Trees) (bound : Option ℕ) (vertices : List ℕ) (ascending : IsStrictlyIncreasing vertices) where
  -- these vertices are those from the place i on
  abbrev StandsFrom : ℕ → List ℕ → Type 0
  StandsFrom i rest = (k v : ℕ) → slice_get rest k ≡ Some v → slice_get vertices (i + k) ≡ Some v

  from_next : (i v : ℕ) (rest : List ℕ) → StandsFrom i (v ∷ rest) → StandsFrom (i + 1) rest
  from_next i v rest h k w is =
      let later : i + suc k ≡ (i + 1) + k = omega arith in
      subst (λ (n : ℕ). slice_get vertices n ≡ Some w) later (h (suc k) w is)

  go : (i : ℕ) (rest : List ℕ) (os : List (Option Plateau)) (cs : List Plateau) → StandsFrom i rest → length vertices ≡ i + length rest → AllZip (StartsAt ts bound) rest os → IsGathering ts bound vertices i cs → IsGathering ts bound vertices (length vertices) (cs ++ filter_map (λ o. o) os)
  go i [] [] cs from long all h =
      let none : cs ++ [] ≡ cs = append-nil cs in
      subst (λ (l : List Plateau). IsGathering ts bound vertices (length vertices) l) (sym none)
      (subst (λ (n : ℕ). IsGathering ts bound vertices n cs) (omega (arith, long)) h)
  go i [] (o ∷ os) cs from long all h = absurd all
  go i (v ∷ rest) [] cs from long all h = absurd all
  go i (v ∷ rest) (None ∷ os) cs from long all h =
      let here : slice_get vertices i ≡ Some v = subst (λ (n : ℕ). slice_get vertices n ≡ Some v) (omega arith) (from 0 v refl) in
      go (i + 1) rest os cs (from_next i v rest from) (omega (arith, long)) all.1
      (gathering_none ts bound vertices i v cs cs None h here all.0 refl refl)
  go i (v ∷ rest) (Some c ∷ os) cs from long all h =
      let here : slice_get vertices i ≡ Some v = subst (λ (n : ℕ). slice_get vertices n ≡ Some v) (omega arith) (from 0 v refl) in
      subst (λ (l : List Plateau). IsGathering ts bound vertices (length vertices) l) (append_assoc cs (c ∷ []) (filter_map (λ o. o) os))
      (go (i + 1) rest os (cs ++ c ∷ []) (from_next i v rest from) (omega (arith, long)) all.1
      (gathering_some ts bound vertices i v cs (cs ++ c ∷ []) (Some c) c ascending h here all.0 refl refl))

  pub gathering_all : (os : List (Option Plateau)) → AllZip (StartsAt ts bound) vertices os → IsGathering ts bound vertices (length vertices) (filter_map (λ o. o) os)
  gathering_all os all =
      go 0 vertices os [] (λ k v is. subst (λ (n : ℕ). slice_get vertices n ≡ Some v) (omega arith) is) (omega arith) all (gathering_start ts bound vertices [] refl)
