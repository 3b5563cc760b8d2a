-- The blocks of the certificate of an optimum and its alternatives.
--   AreBlocks g q others bound bs   the trees of the query as far as the bound, and then one from each vertex before the via
--                       of an alternative
use Rattle.std.specs.Prelude.{◌≡◌, ◌∷◌, ℕ, List, Some}
use Rattle.road_model.specs.declared.answer.Query.{Query}
use Rattle.road_model.specs.declared.answer.Route.{Route}
use Rattle.road_model.specs.Graph.{Graph}
use Rattle.certificate_text.specs.declared.certificate.BlockKind.TheVariants as kind
use Rattle.certificate_text.specs.declared.certificate.Block.{Block}
use Rattle.certify.specs.Written.{IsTreeBlock, AreStarts}

pub record AreBlocks (g : Graph) (q : Query) (others : List Route) (bound : ℕ) (bs : List Block) : Type 0 where
  pub source : Block
  pub target : Block
  pub starts : List Block
  pub are : bs ≡ source ∷ target ∷ starts
  pub is_source : IsTreeBlock g kind.From q.from (Some bound) source
  pub is_target : IsTreeBlock g kind.To q.to (Some bound) target
  pub are_starts : AreStarts g q others starts
