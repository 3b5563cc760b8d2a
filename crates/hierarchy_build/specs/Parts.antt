-- What a hierarchy is to a clause.
--   Parts          its shape, its links from lower ranks to higher ones, and those from higher to lower
use Rattle.hierarchy_build.specs.declared.shape.Shape.{Shape}
use Rattle.hierarchy_build.specs.declared.links.Links.{Links}

pub record Parts : Type 0 where
  pub shape : Shape
  pub up : Links
  pub down : Links
