-- Verdicts on vertices of graph A, a changed graph, and a page.
use Rattle.std.proofs.Common.{◌≡◌, ℕ, ◌<◌, [], ◌∷◌, arith}
use Rattle.road_model.specs.declared.answer.Verdict.TheVariants as the
use Rattle.road_model.specs.Verdicts.{IsVerdict}
use Rattle.road_model.specs.Queries.{usual}
use Rattle.road_laws.specs.Worked.{graph_a}
use Rattle.road_laws.proofs.OneVerdict.{verdict_of_one}
use Rattle.road_laws.proofs.Tried.{admissible_a}
use Rattle.road_laws.proofs.Answered.{via_4, name_a, differs}

pub listed_4 : IsVerdict graph_a (usual 1 6) (1 ∷ 2 ∷ []) 4 (the.Listed 3)
listed_4 = record {
  path = 3 ∷ 4 ∷ 5 ∷ [];
  is = record { through = via_4; other = differs };
  short = omega arith;
  limited = admissible_a.limited;
  optimal = admissible_a.optimal;
  bounded = admissible_a.bounded;
  is_name = name_a;
}

not_same : (a b : ℕ) → a < b → the.Listed a ≡ the.Listed b → ⊥
not_same a b lt e = let same : a ≡ b = cc in omega arith

pub not_listed_by_itself : IsVerdict graph_a (usual 1 6) (1 ∷ 2 ∷ []) 4 (the.Listed 4) → ⊥
not_listed_by_itself h = not_same 3 4 (omega arith) (verdict_of_one graph_a (usual 1 6) (1 ∷ 2 ∷ []) 4 (the.Listed 3) (the.Listed 4) listed_4 h)

long_is_listed : the.Long 22 ≡ the.Listed 3 → ⊥
long_is_listed e = cc

pub not_long : IsVerdict graph_a (usual 1 6) (1 ∷ 2 ∷ []) 4 (the.Long 22) → ⊥
not_long h = long_is_listed (verdict_of_one graph_a (usual 1 6) (1 ∷ 2 ∷ []) 4 (the.Long 22) (the.Listed 3) h listed_4)
