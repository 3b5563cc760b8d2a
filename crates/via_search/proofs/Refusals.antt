-- What the tests say, and what an admissible path passes.
use Rattle.std.proofs.Common.{◌≡◌, ℕ, ◌≤◌, List, cond, ◌==◌, refl, sym, subst, arith}
use Rattle.std.specs.List.{list_any}
use Rattle.std.proofs.lemmas.List.Sums.{sum_by-le-sum_by}
use Rattle.road_model.specs.declared.answer.Optimum.{Optimum}
use Rattle.road_model.specs.declared.answer.Query.{Query}
use Rattle.road_model.specs.Graph.{Graph, length_at}
use Rattle.road_model.specs.Walk.{IsWalk, walk_length}
use Rattle.road_model.specs.Fraction.{Allows, Stretches}
use Rattle.road_model.specs.Canonical.{IsFirst}
use Rattle.road_model.specs.Tests.{shared}
use Rattle.road_model.specs.Alternatives.{IsAdmissible}
use Rattle.road_model.proofs.Basics.{cond-le}
use Rattle.road_model.proofs.Walks.{walk_length-sum_by}
use Rattle.via_search.specs.declared.judging.Judged.{Judged}
use Rattle.via_search.specs.declared.judging.Judged.TheVariants.{Long, Shared, Local, Stretch, Passed}
use Rattle.via_search.specs.declared.candidates.Candidate.{Candidate}
use Rattle.via_search.specs.Candidates.{IsPosed, IsCandidate}
use Rattle.via_search.specs.Judging.{IsLimited, IsJudged}
use Rattle.canonical_trees.proofs.ThroughVertex.{via_walk}
use Rattle.via_search.proofs.ViaPaths.{near_of_admissible}

pub limited_of : (g : Graph) (q : Query) (o : Optimum) (c : Candidate) (sum : ℕ) → IsPosed g q o → IsCandidate g q.from q.to c → Stretches q.epsilon c.length o.length → Allows q.gamma sum o.length → sum ≡ shared g o.arcs c.arcs → IsLimited g q o.arcs c.arcs
limited_of g q o c sum posed h short part is =
    record {
      short = subst (λ (n : ℕ). Stretches q.epsilon n (walk_length g o.arcs)) h.is_length (subst (λ (n : ℕ). Stretches q.epsilon c.length n) posed.best.1 short);
      limited = subst (λ (n : ℕ). Allows q.gamma n (walk_length g o.arcs)) is (subst (λ (n : ℕ). Allows q.gamma sum n) posed.best.1 part);
    }

-- a path that fails a test is not admissible
pub refused : (g : Graph) (q : Query) (o p : List ℕ) (j : Judged) → IsFirst g q.from o q.to → IsWalk g q.from p q.to → ((sum : ℕ) → j ≡ Passed sum → ⊥) → IsJudged g q o p j → IsAdmissible g q o p → ⊥
refused g q o p Long best walk not h a = omega (arith, near_of_admissible g q o p best walk a)
refused g q o p (Shared sum) best walk not h a =
    let limited : Allows q.gamma sum (walk_length g o) = subst (λ (n : ℕ). Allows q.gamma n (walk_length g o)) (sym h.1) a.limited in
    omega (arith, h.2)
refused g q o p (Local pair) best walk not h a = a.optimal pair.first pair.last pair.distance h.1.fails
refused g q o p (Stretch pair) best walk not h a = a.bounded pair.first pair.last pair.distance h.2.fails
refused g q o p (Passed sum) best walk not h a = not sum refl

pub passed_of : (g : Graph) (q : Query) (o p : List ℕ) (j : Judged) (sum : ℕ) → IsJudged g q o p j → j ≡ Passed sum → (sum ≡ shared g o p) × IsAdmissible g q o p
passed_of g q o p j sum h is = subst (λ (x : Judged). IsJudged g q o p x) is h

shared-le : (g : Graph) (o p : List ℕ) → shared g o p ≤ walk_length g o
shared-le g o p =
    subst (λ (n : ℕ). shared g o p ≤ n) (sym (walk_length-sum_by g o))
    (sum_by-le-sum_by (λ a. cond (list_any (λ b. b == a) p) (length_at g a) 0) (λ a. length_at g a) o (λ a. cond-le (list_any (λ b. b == a) p) (length_at g a)))

pub shared_part : (g : Graph) (q : Query) (o : Optimum) (c : Candidate) (sum : ℕ) → IsPosed g q o → IsCandidate g q.from q.to c → sum ≡ shared g o.arcs c.arcs → sum ≤ c.length
shared_part g q o c sum posed h is =
    let best : walk_length g o.arcs ≤ walk_length g c.arcs = posed.best.0.shortest.least c.arcs (via_walk g q.from q.to c.via c.arcs h.through) in
    omega (arith, shared-le g o.arcs c.arcs, h.is_length)
