-- What the tests say of the path through a vertex, as the verdict on the vertex.
use Rattle.std.proofs.Common.{◌≡◌, ◌↔◌, ℕ, ◌+◌, ◌*◌, Bool, false, IsTrue, List, ap, ◌∙◌, subst, arith, ⊎_elim}
use Rattle.std.proofs.lemmas.Bool.{cases_lt, iff_false}
use Rattle.road_model.specs.declared.answer.Optimum.{Optimum}
use Rattle.road_model.specs.declared.answer.Query.{Query}
use Rattle.road_model.specs.Graph.{Graph}
use Rattle.road_model.specs.Walk.{walk_length}
use Rattle.road_model.specs.Canonical.{IsFirst}
use Rattle.road_model.specs.Fraction.{Fraction, Stretches, Exceeds}
use Rattle.road_model.specs.Alternatives.{IsVia, IsName}
use Rattle.road_model.specs.Verdicts.{IsOther, IsLong, IsListed}
use Rattle.via_search.specs.declared.candidates.Candidate.{Candidate}
use Rattle.via_search.specs.declared.judging.Judged.{Judged}
use Rattle.via_search.specs.declared.judging.Judged.TheVariants.{Passed}
use Rattle.via_search.specs.Candidates.{IsPosed, IsCandidate}
use Rattle.via_search.specs.Judging.{IsJudged}
use Rattle.via_search.specs.Through.{HasPathThrough}
use Rattle.canonical_trees.proofs.ThroughVertex.{via_walk}
use Rattle.via_search.proofs.ViaPaths.{near_of_admissible}
use Rattle.via_search.proofs.Refusals.{passed_of}

-- no length exceeds itself
not_itself : (f : Fraction) (l : ℕ) → Exceeds f l l → ⊥
not_itself f l h = omega arith

pub not_stretched : (f : Fraction) (l best : ℕ) (within : Bool) → IsTrue within ↔ Stretches f l best → within ≡ false → Exceeds f l best
not_stretched f l best within is above =
    ⊎_elim
    (λ (long : Exceeds f l best). long)
    (λ (short : Stretches f l best). absurd (iff_false is above short))
    (cases_lt ((f.den + f.num) * best) (l * f.den))

-- a path that is too long isn't the optimum
pub long_of_length : (g : Graph) (q : Query) (o : Optimum) (v l : ℕ) → IsPosed g q o → HasPathThrough g q.from q.to v l → Exceeds q.epsilon l o.length → IsLong g q o.arcs v l
long_of_length g q o v l posed h exceeds =
    let best : o.length ≡ walk_length g o.arcs = posed.best.1 in
    let long : Exceeds q.epsilon l (walk_length g o.arcs) = subst (λ (n : ℕ). Exceeds q.epsilon l n) best exceeds in
    record {
      path = h.path;
      is = record {
        through = h.through;
        other = (λ (same : h.path ≡ o.arcs).
            let long_as : l ≡ walk_length g o.arcs = h.is_length ∙ ap (λ (p : List ℕ). walk_length g p) same in
            not_itself q.epsilon (walk_length g o.arcs) (subst (λ (n : ℕ). Exceeds q.epsilon n (walk_length g o.arcs)) long_as long));
      };
      is_length = h.is_length;
      long = long;
    }

pub is_other : (g : Graph) (q : Query) (o : List ℕ) (v : ℕ) (c : Candidate) → c.via ≡ v → IsCandidate g q.from q.to c → (c.arcs ≡ o → ⊥) → IsOther g q o v c.arcs
is_other g q o v c is h other =
    record { through = subst (λ (x : ℕ). IsVia g q.from q.to x c.arcs) is h.through; other = other }

pub listed_of : (g : Graph) (q : Query) (o p : List ℕ) (v sum name : ℕ) (j : Judged) → IsFirst g q.from o q.to → IsOther g q o v p → IsJudged g q o p j → j ≡ Passed sum → IsName g q.from q.to p name → IsListed g q o v name
listed_of g q o p v sum name j best other h is named =
    let passed = passed_of g q o p j sum h is in
    record {
      path = p;
      is = other;
      short = near_of_admissible g q o p best (via_walk g q.from q.to v p other.through) passed.1;
      limited = passed.1.limited;
      optimal = passed.1.optimal;
      bounded = passed.1.bounded;
      is_name = named;
    }
