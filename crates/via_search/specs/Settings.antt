-- What the paths of a query are judged by.
--   Givens                 what a clause sees of a setting: the graph, the query, its optimum, and how far the trees
--                          of the query reach
--   trees_of x             these trees
--   IsSetting g ts q o r   the query is posed with its optimum, and the trees are those from its ends, as far as r
use Rattle.std.specs.Prelude.{◌≡◌, ℕ}
use Rattle.road_model.specs.declared.answer.Optimum.{Optimum}
use Rattle.road_model.specs.declared.answer.Query.{Query}
use Rattle.road_model.specs.Graph.{Graph}
use Rattle.canonical_trees.specs.Trees.{Trees}
use Rattle.via_search.specs.Candidates.{IsPosed, pair_of}

pub record Givens : Type 0 where
  pub graph : Graph
  pub query : Query
  pub optimum : Optimum
  pub reach : ℕ

abbrev pub trees_of : Givens → Trees
trees_of x = pair_of x.graph x.query x.reach

pub record IsSetting (g : Graph) (ts : Trees) (q : Query) (o : Optimum) (reach : ℕ) : Type 0 where
  pub posed : IsPosed g q o
  pub trees : ts ≡ pair_of g q reach
