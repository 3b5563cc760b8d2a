-- The plateaus that are left for the oracle, and what it says of them.
--   IsSifted x s           s is a plateau within the reach that isn't the optimum's, with what its path shares with the
--                          optimum, which is allowed
--   SiftsTo x c o          Some: c is left, and is this one; None: the walk of c is no alternative
--   Gathers F xs ys        one answer by F for each of xs, in order: ys are those answers that are there
--   AreSifted x cs ss      ss are those of the plateaus cs that are left, in their order
--   IsPut x s o            Some: the route of s; None: the walk of s is no alternative
--   ArePut x ss rs         rs are the routes of ss, in their order
--   AsksForAll x ss old new   a count of questions has risen by no more than the sum of the costs at the names of ss
use Rattle.std.specs.Prelude.{◌≡◌, ◌≢◌, ◌≤◌, ◌+◌, ℕ, List, [], ◌∷◌, Option, Some, None}
use Rattle.std.specs.List.{cons_option, sum_by}
use Rattle.road_model.specs.declared.answer.Route.{Route}
use Rattle.road_model.specs.Fraction.{Allows}
use Rattle.road_model.specs.Alternatives.{IsVia}
use Rattle.plateau_finder.specs.declared.plateau.Plateau.{Plateau}
use Rattle.plateau_finder.specs.Plateaus.{IsListedPlateau}
use Rattle.tree_tests.specs.Sums.{carried}
use Rattle.via_search.specs.declared.sifting.Sifted.{Sifted}
use Rattle.via_search.specs.Settings.{Givens, trees_of}
use Rattle.via_search.specs.Asks.{BoundsEach}
use Rattle.via_search.specs.Listing.{IsRouteOf}

pub record IsSifted (x : Givens) (s : Sifted) : Type 0 where
  pub listed : IsListedPlateau (trees_of x) (Some x.reach) s.plateau
  pub other : s.plateau.last ≢ x.query.to
  pub is_shared : (p : List ℕ) → IsVia x.graph x.query.from x.query.to s.plateau.least p → s.shared ≡ carried x.graph x.optimum.arcs p
  pub allowed : Allows x.query.gamma s.shared x.optimum.length

abbrev pub SiftsTo : Givens → Plateau → Option Sifted → Type 0
SiftsTo x c None = IsRouteOf x.graph x.query x.optimum.arcs (trees_of x) c None
SiftsTo x c (Some s) = (s.plateau ≡ c) × IsSifted x s

abbrev pub Gathers : {A B : Type 0} → (A → Option B → Type 0) → List A → List B → Type 0
Gathers F [] ys = ys ≡ []
Gathers {A} {B} F (x ∷ xs) ys = (found : Option B) × (rest : List B) × F x found × Gathers F xs rest × (ys ≡ cons_option found rest)

abbrev pub AreSifted : Givens → List Plateau → List Sifted → Type 0
AreSifted x = Gathers (SiftsTo x)

abbrev pub IsPut : Givens → Sifted → Option Route → Type 0
IsPut x s = IsRouteOf x.graph x.query x.optimum.arcs (trees_of x) s.plateau

abbrev pub ArePut : Givens → List Sifted → List Route → Type 0
ArePut x = Gathers (IsPut x)

abbrev pub AsksForAll : Givens → List Sifted → ℕ → ℕ → Type 0
AsksForAll x ss old new =
    (f : ℕ → ℕ) → BoundsEach x.graph x.query.from x.query.to x.reach x.optimum.arcs f → new ≤ old + sum_by (λ (s : Sifted). f s.plateau.least) ss
