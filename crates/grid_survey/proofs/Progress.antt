-- A survey after some of its queries.
use Rattle.std.proofs.Common.{◌≡◌, ℕ, zero, suc, ◌+◌, ◌<◌, ◌≤◌, List, [], ◌∷◌, ◌++◌, length, refl, sym, ap, ◌∙◌, subst, append_assoc, length-append, lit≤, arith}
use Rattle.std.specs.List.{sum_by, count_by}
use Rattle.std.proofs.lemmas.List.{append-nil}
use Rattle.std.proofs.lemmas.List.Sums.{count_by-le-length, sum_by_push}
use Rattle.road_model.specs.declared.answer.Plan.{Plan}
use Rattle.road_model.specs.declared.answer.Plan.TheVariants.{NoPath, Found}
use Rattle.road_model.specs.declared.answer.Query.{Query}
use Rattle.road_model.specs.Graph.{Graph}
use Rattle.road_model.specs.File.{IsWithinLimits}
use Rattle.road_model.specs.Answers.{IsAnswer}
use Rattle.road_model.specs.Queries.{usual}
use Rattle.grid_survey.specs.declared.Summary.{Summary}
use Rattle.grid_survey.specs.Summary.{AreAnswers, IsSummary, drawn, draws, is_none, length_in, routes_in, step}
use Rattle.grid_survey.specs.Counting.{Counts, HasRoom, none_in}
use Rattle.grid_survey.proofs.Bounds.{all_small, small}

-- of the draws from x on, `left` are to come, and the generator stands at `now`
pub record IsProgress (g : Graph) (x queries now left : ℕ) (s : Summary) : Type 0 where
  pub done : List (ℕ × ℕ)
  pub split : draws x g.vertices queries ≡ done ++ draws now g.vertices left
  pub many : length done + left ≡ queries
  pub plans : List Plan
  pub answers : AreAnswers g done plans
  pub is_vertices : s.vertices ≡ g.vertices
  pub is_arcs : s.arcs ≡ length g.arcs
  pub is_queries : s.queries ≡ queries
  pub is_none_count : s.without_path ≡ count_by is_none plans
  pub is_routes : s.routes ≡ sum_by routes_in plans
  pub is_length : s.length ≡ sum_by length_in plans

answers_push : (g : Graph) (ds : List (ℕ × ℕ)) (plans : List Plan) (d : ℕ × ℕ) (plan : Plan) → AreAnswers g ds plans → IsAnswer g (usual d.0 d.1) plan → AreAnswers g (ds ++ d ∷ []) (plans ++ plan ∷ [])
answers_push g [] [] d plan h last = (last, tt)
answers_push g [] (p ∷ plans) d plan h last = absurd h
answers_push g (e ∷ ds) [] d plan h last = absurd h
answers_push g (e ∷ ds) (p ∷ plans) d plan h last = (h.0, answers_push g ds plans d plan h.1 last)

length-answers : (g : Graph) (ds : List (ℕ × ℕ)) (plans : List Plan) → AreAnswers g ds plans → length plans ≡ length ds
length-answers g [] [] h = refl
length-answers g [] (p ∷ plans) h = absurd h
length-answers g (d ∷ ds) [] h = absurd h
length-answers g (d ∷ ds) (p ∷ plans) h = ap suc (length-answers g ds plans h.1)

length-draws : (x n q : ℕ) → length (draws x n q) ≡ q
unfolding draws
length-draws x n zero = refl
length-draws x n (suc q) = ap suc (length-draws (step (step x)) n q)

draws_next : (x n left q : ℕ) → left ≡ suc q → draws x n left ≡ (drawn n x, drawn n (step x)) ∷ draws (step (step x)) n q
unfolding draws
draws_next x n left q is = ap (λ (k : ℕ). draws x n k) is

draws_none : (x n left : ℕ) → left ≡ 0 → draws x n left ≡ []
unfolding draws
draws_none x n left is = ap (λ (k : ℕ). draws x n k) is

none_in-le : (plan : Plan) → none_in plan ≤ 1
none_in-le NoPath = lit≤ tt
none_in-le (Found optimum others) = lit≤ tt

pub progress_start : (g : Graph) (x queries left : ℕ) (s : Summary) → left ≡ queries → s.vertices ≡ g.vertices → s.arcs ≡ length g.arcs → s.queries ≡ queries → s.without_path ≡ 0 → s.routes ≡ 0 → s.length ≡ 0 → IsProgress g x queries x left s
progress_start g x queries left s all vertices arcs asked none routes long = record {
  done = [];
  split = ap (λ (k : ℕ). draws x g.vertices k) (sym all);
  many = omega arith;
  plans = [];
  answers = tt;
  is_vertices = vertices;
  is_arcs = arcs;
  is_queries = asked;
  is_none_count = none;
  is_routes = routes;
  is_length = long;
}

-- the query of the next two words
pub next_query : (g : Graph) (n x y a b : ℕ) (q : Query) → n ≡ g.vertices → a ≡ drawn n x → y ≡ step x → b ≡ drawn n y → q ≡ usual a b → q ≡ usual (drawn g.vertices x) (drawn g.vertices (step x))
next_query g n x y a b q vertices from beyond to is =
    let from_is : a ≡ drawn g.vertices x = from ∙ ap (λ (k : ℕ). drawn k x) vertices in
    let to_is : b ≡ drawn g.vertices (step x) = to ∙ ap (λ (k : ℕ). drawn n k) beyond ∙ ap (λ (k : ℕ). drawn k (step x)) vertices in
    is ∙ ap (λ (k : ℕ). usual k b) from_is ∙ ap (λ (k : ℕ). usual (drawn g.vertices x) k) to_is

-- the counts of 10000 answers fit
pub has_room : (g : Graph) (x queries now left : ℕ) (s : Summary) (q : Query) (plan : Plan) → IsWithinLimits g → queries ≤ 10000 → 0 < left → IsProgress g x queries now left s → IsAnswer g q plan → HasRoom s plan
has_room g x queries now left s q plan limits few more h answer =
    let many = length-answers g h.done h.plans h.answers in
    let before = all_small g h.done h.plans limits h.answers in
    let one = small g q plan limits answer in
    record {
      for_none = omega (arith, many, h.many, h.is_none_count, count_by-le-length is_none h.plans, none_in-le plan);
      for_routes = omega (arith, many, h.many, h.is_routes, before.few, one.few);
      for_length = omega (arith, many, h.many, h.is_length, before.short, one.short);
    }

-- one more answer
pub progress_more : (g : Graph) (x queries now then left rest : ℕ) (a b : Summary) (q : Query) (plan : Plan) → left ≡ suc rest → then ≡ step (step now) → q ≡ usual (drawn g.vertices now) (drawn g.vertices (step now)) → IsProgress g x queries now left a → IsAnswer g q plan → Counts a b plan → IsProgress g x queries then rest b
progress_more g x queries now then left rest a b q plan next beyond query h answer counted =
    let n = g.vertices in
    let d : ℕ × ℕ = (drawn n now, drawn n (step now)) in
    record {
      done = h.done ++ d ∷ [];
      split =
          h.split
          ∙ ap (λ (ds : List (ℕ × ℕ)). h.done ++ ds) (draws_next now n left rest next)
          ∙ sym (append_assoc h.done (d ∷ []) (draws (step (step now)) n rest))
          ∙ ap (λ (y : ℕ). (h.done ++ d ∷ []) ++ draws y n rest) (sym beyond);
      many = omega (arith, h.many, next, length-append h.done (d ∷ []));
      plans = h.plans ++ plan ∷ [];
      answers = answers_push g h.done h.plans d plan h.answers (subst (λ (r : Query). IsAnswer g r plan) query answer);
      is_vertices = counted.same_vertices ∙ h.is_vertices;
      is_arcs = counted.same_arcs ∙ h.is_arcs;
      is_queries = counted.same_queries ∙ h.is_queries;
      is_none_count = omega (arith, counted.is_none_count, h.is_none_count, sum_by_push none_in h.plans plan);
      is_routes = omega (arith, counted.is_routes, h.is_routes, sum_by_push routes_in h.plans plan);
      is_length = omega (arith, counted.is_length, h.is_length, sum_by_push length_in h.plans plan);
    }

pub progress_end : (g : Graph) (x queries now left : ℕ) (s : Summary) → left ≡ 0 → IsProgress g x queries now left s → IsSummary g (draws x g.vertices queries) s
progress_end g x queries now left s none h =
    let drawn_all : h.done ≡ draws x g.vertices queries =
    sym (h.split ∙ ap (λ (ds : List (ℕ × ℕ)). h.done ++ ds) (draws_none now g.vertices left none) ∙ append-nil h.done)
    in
    record {
      plans = h.plans;
      answers = subst (λ (ds : List (ℕ × ℕ)). AreAnswers g ds h.plans) drawn_all h.answers;
      is_vertices = h.is_vertices;
      is_arcs = h.is_arcs;
      is_queries = h.is_queries ∙ sym (length-draws x g.vertices queries);
      is_none_count = h.is_none_count;
      is_routes = h.is_routes;
      is_length = h.is_length;
    }
