-- What the forms that never fail show of themselves, over their private fields.
--   sure_left   what a SureSource still has
--   sure_told   a SureShelf's files, with what is left of the current one
use Rattle.std.specs.Prelude.{ℕ, List}
use Rattle.road_io.specs.Told.{Told}
use Rattle.road_io.specs.Memory.{named_text}
use Rattle.road_io.specs.declared.sure.SureSource.{SureSource}
use Rattle.road_io.specs.declared.sure.SureShelf.{SureShelf}

abbrev pub sure_left : SureSource → List ℕ
sure_left source = source.rest.bytes.now

abbrev pub sure_told : SureShelf → Told
sure_told shelf = record { bytes = shelf.rest.bytes.now; files = named_text shelf.files.now }
