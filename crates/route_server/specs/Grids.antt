-- Texts about grids that a generator makes.
--   IsMade grid text           the canonical text of the grid
--   IsSurveyed grid q text     the summary of so many queries over it
use Rattle.std.specs.Prelude.{◌≡◌, ℕ, List}
use Rattle.dimacs_reader.specs.Text.{graph_text}
use Rattle.grid_maker.specs.Grid.{grid}
use Rattle.grid_survey.specs.declared.Summary.{Summary}
use Rattle.grid_survey.specs.Summary.{IsSurvey, summary_text}
use Rattle.route_server.specs.declared.words.Grid.{Grid}

abbrev pub IsMade : Grid → List ℕ → Type 0
IsMade g text = text ≡ graph_text (grid g.seed g.width g.height)

pub record IsSurveyed (g : Grid) (queries : ℕ) (text : List ℕ) : Type 0 where
  pub summary : Summary
  pub is_summary : IsSurvey g.seed g.width g.height queries summary
  pub is : text ≡ summary_text summary
