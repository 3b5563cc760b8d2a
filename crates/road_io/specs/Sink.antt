-- What one write to a sink does.
--   piece         the bytes that are to be written
--   Writes        the answer fits the piece and what the sink tells before and after the write
--   WritesPrefix   a prefix of the piece, which may be none or all of it, stands after what was written before
use Rattle.std.specs.Prelude.{◌≡◌, ℕ, List, ◌++◌, Option}
use Rattle.road_io.specs.Told.{Told, IfTold}
use Rattle.road_io.specs.declared.writing.Put.{Put}
use Rattle.road_io.specs.declared.writing.Put.TheVariants.{Done, Failed}

pub record WritesPrefix (piece before after : List ℕ) : Type 0 where
  pub prefix : List ℕ
  pub beyond : List ℕ
  pub parts : piece ≡ prefix ++ beyond
  pub written : after ≡ before ++ prefix

abbrev pub Writes : List ℕ → Option Told → Option Told → Put → Type 0
Writes piece old new Done = IfTold old new (λ before after. after ≡ before ++ piece)
Writes piece old new Failed = IfTold old new (WritesPrefix piece)
