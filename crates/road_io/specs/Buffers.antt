-- Bytes that are kept for a later write.
--   gathered g       what was written to a Gathered since it was cleared
--   refusals g       how often there was no memory for a piece
--   pending p        what was put into a Pending and not written on
--   SendsPiece       Done: a prefix of what was pending was written, and the rest still is pending; Failed: a write of it
--                    failed
use Rattle.std.specs.Prelude.{◌≡◌, ℕ, List, ◌++◌, Option, take}
use Rattle.road_io.specs.Told.{Told}
use Rattle.road_io.specs.Sink.{Writes}
use Rattle.road_io.specs.declared.buffers.Gathered.{Gathered}
use Rattle.road_io.specs.declared.buffers.Pending.{Pending}
use Rattle.road_io.specs.declared.writing.Put.{Put}
use Rattle.road_io.specs.declared.writing.Put.TheVariants.{Done, Failed}

abbrev pub gathered : Gathered → List ℕ
gathered g = g.bytes.items

abbrev pub refusals : Gathered → ℕ
refusals g = g.refused

abbrev pub pending : Pending → List ℕ
pending p = take p.used p.room

abbrev pub SendsPiece : List ℕ → List ℕ → Option Told → Option Told → Put → Type 0
SendsPiece before after old new Done = (sent : List ℕ) × (before ≡ sent ++ after) × Writes sent old new Done
SendsPiece before after old new Failed = Writes before old new Failed
