-- Versions of a graph without arcs: no batch with a change is accepted, so each batch is empty.
use Rattle.std.proofs.Common.{◌≡◌, ℕ, zero, suc, Bool, true, false, List, [], ◌∷◌, ◌++◌, length, replicate, Some, refl, sym, ap, ◌∙◌, subst, eqb, arith, inr}
use Rattle.std.specs.Prelude.{nat_le, ◌&&◌, ◌==◌}
use Rattle.std.proofs.lemmas.Bool.Decides.{nat_tests}
use Rattle.std.proofs.lemmas.Bool.{eqb-true}
use Rattle.std.proofs.lemmas.List.Elements.{All-nil}
use Rattle.road_model.specs.declared.answer.Optimum.{Optimum}
use Rattle.road_model.specs.declared.answer.Plan.{Plan}
use Rattle.road_model.specs.declared.answer.Plan.TheVariants.{NoPath, Found}
use Rattle.road_model.specs.declared.answer.Query.{Query}
use Rattle.road_model.specs.declared.change.Change.{Change}
use Rattle.road_model.specs.declared.change.ChangeFault.TheVariants as fault
use Rattle.road_model.specs.Graph.{Graph, arc_count}
use Rattle.road_model.specs.Walk.{IsWalk}
use Rattle.road_model.specs.Dist.{IsShortest}
use Rattle.road_model.specs.Canonical.{IsFirst}
use Rattle.road_model.specs.Answers.{IsAnswer, IsRoute}
use Rattle.road_model.specs.Changes.{after_all}
use Rattle.road_model.specs.Versions.{version_fault, IsRefusedAs}
use Rattle.desk_core.proofs.Arcless.{arcless, no_arc, no_walk}

abbrev pub bare_at : ℕ → ℕ → Graph
bare_at vertices n = after_all (arcless vertices) (replicate n [])

-- empty batches change nothing
stays : (g : Graph) (n : ℕ) → g ≡ after_all g (replicate n [])
stays g zero = refl
stays g (suc n) = stays g n

pub bare_vertices : (vertices n : ℕ) → vertices ≡ (bare_at vertices n).vertices
bare_vertices vertices n = ap (λ (g : Graph). g.vertices) (stays (arcless vertices) n)

pub bare_arcs : (vertices n : ℕ) → 0 ≡ arc_count (bare_at vertices n)
bare_arcs vertices n = ap arc_count (stays (arcless vertices) n)

-- a change of an arc that isn't there
no_number : (a : ℕ) → (nat_le 1 a && nat_le a 0) ≡ false
no_number a = grind (arith, nat_tests)

range_fault : (vertices n : ℕ) (c : Change) (batch : List Change) → version_fault (arcless vertices) n (c ∷ batch) ≡ Some fault.ArcRange
range_fault vertices n c batch = rw (no_number c.arc) refl

pub refused_range : (vertices n number : ℕ) (changes : List Change) (b : Bool) → b ≡ (length changes == 0) → b ≡ false → IsRefusedAs (version_fault (bare_at vertices n) number changes) fault.ArcRange
refused_range vertices n number [] b e f = absurd (let t : true ≡ false = sym e ∙ f in cc)
refused_range vertices n number (c ∷ changes) b e f =
    subst (λ (g : Graph). IsRefusedAs (version_fault g number (c ∷ changes)) fault.ArcRange) (stays (arcless vertices) n) (inr (range_fault vertices number c changes))

-- ---- walks

stands : (n u v : ℕ) (p : List ℕ) → IsWalk (arcless n) u p v → p ≡ []
stands n u v [] h = refl
stands n u v (a ∷ p) (r, is, tail, rest) = absurd (no_arc n a r is)

abbrev pub nowhere : Optimum
nowhere = record { length = 0; arcs = [] }

-- from a vertex to itself
bare_answer : (n : ℕ) (q : Query) (b : Bool) → b ≡ eqb q.from q.to → b ≡ true → IsAnswer (arcless n) q (Found nowhere [])
bare_answer n q b tested holds =
    let same : q.from ≡ q.to = eqb-true q.from q.to (sym tested ∙ holds) in
    let g : Graph = arcless n in
    let shortest : IsShortest g q.from [] q.to = record { walk = same; least = λ p walk. omega arith } in
    let first : IsFirst g q.from [] q.to = record { shortest = shortest; least = λ p other. tt } in (
      (first, refl),
      record {
        each = All-nil (IsRoute g q []);
        every = λ p alternative.
            let t = alternative.through in
            let prefix : t.prefix ≡ [] = stands n q.from alternative.via t.prefix t.first.shortest.walk in
            let back : t.back ≡ [] = stands n alternative.via q.to t.back t.last.shortest.walk in
            let whole : p ≡ [] = t.joined ∙ ap (λ (l : List ℕ). l ++ t.back) prefix ∙ back in
            absurd (alternative.other whole);
        ascending = tt;
      },
    )

pub bare_plan : (vertices n : ℕ) (q : Query) (plan : Plan) (b : Bool) → b ≡ eqb q.from q.to → b ≡ true → plan ≡ Found nowhere [] → IsAnswer (bare_at vertices n) q plan
bare_plan vertices n q plan b tested holds is =
    subst (IsAnswer (bare_at vertices n) q) (sym is)
    (subst (λ (g : Graph). IsAnswer g q (Found nowhere [])) (stays (arcless vertices) n) (bare_answer vertices q b tested holds))

pub bare_none : (vertices n : ℕ) (q : Query) (b : Bool) → b ≡ eqb q.from q.to → b ≡ false → IsAnswer (bare_at vertices n) q NoPath
bare_none vertices n q b tested fails =
    subst (λ (g : Graph). IsAnswer g q NoPath) (stays (arcless vertices) n) (no_walk vertices q.from q.to b tested fails)
