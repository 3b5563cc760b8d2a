-- What the forms in memory show of themselves, over their private fields.
--   source_left, source_piece, source_calls   what a MemSource still has, the size of its pieces, and its calls
--   sink_bytes, sink_calls                     what was written to a MemSink, and its calls
--   shelf_told, shelf_piece, shelf_calls       a MemShelf's files with what is left of the current one, the size of its
--                                              pieces, and its calls
use Rattle.std.specs.Prelude.{ℕ, List}
use Rattle.road_io.specs.Told.{Told}
use Rattle.road_io.specs.Memory.{contents_in}
use Rattle.road_io.specs.declared.calls.Calls.{Calls}
use Rattle.road_io.specs.declared.memory.MemSource.{MemSource}
use Rattle.road_io.specs.declared.memory.MemSink.{MemSink}
use Rattle.road_io.specs.declared.memory.MemShelf.{MemShelf}

abbrev pub source_left : MemSource → List ℕ
source_left source = source.rest.bytes.now

abbrev pub source_piece : MemSource → ℕ
source_piece source = source.rest.piece

abbrev pub source_calls : MemSource → Calls
source_calls source = source.calls

abbrev pub sink_bytes : MemSink → List ℕ
sink_bytes sink = sink.bytes.items

abbrev pub sink_calls : MemSink → Calls
sink_calls sink = sink.calls

abbrev pub shelf_told : MemShelf → Told
shelf_told shelf = record { bytes = shelf.rest.bytes.now; files = contents_in shelf.files.now }

abbrev pub shelf_piece : MemShelf → ℕ
shelf_piece shelf = shelf.rest.piece

abbrev pub shelf_calls : MemShelf → Calls
shelf_calls shelf = shelf.calls
