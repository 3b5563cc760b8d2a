-- How a reader of lines works inside: what it reads into its buffer, and where it finds a line's end.
--   IsFeedAt bytes k   the first line feed of the bytes stands at place k
--   IsSameStock        the reader holds the same bytes, has taken as many and may take as many
--   HandsOut           the reader shows this raw line, or says that it is too long
--   IsKept             the lines may take as many bytes as before, and no limit changes
--   Grows              which bytes a try to read more put after those that were held
--   GivesFill              what such a try took from the source, where it tells
--   Finishes           the held bytes are handed out at the source's end
use Rattle.std.specs.Prelude.{◌≡◌, ℕ, ◌+◌, ◌<◌, Bool, true, false, List, [], ◌∷◌, ◌++◌, length, take, slice_index}
use Rattle.road_text.specs.declared.line_reader.LineReader.{LineReader}
use Rattle.road_text.specs.declared.line_reader.Advance.{Advance}
use Rattle.road_text.specs.declared.line_reader.Advance.TheVariants.{Whole, Last, Long, End, Spent, Failed}
use Rattle.road_text.specs.declared.line_reader.Fill.{Fill}
use Rattle.road_text.specs.declared.line_reader.Fill.TheVariants as fill
use Rattle.road_text.specs.Lines.{HasNoFeed}
use Rattle.road_text.specs.Reader.{held, budget, HasTaken, Shows, IsTooLong}

pub record IsFeedAt (bytes : List ℕ) (k : ℕ) : Type 0 where
  pub within : k < length bytes
  pub before : HasNoFeed (take k bytes)
  pub feed : slice_index bytes k ≡ 10

pub record IsSameStock (old new : LineReader) : Type 0 where
  pub items : new.buffer.items ≡ old.buffer.items
  pub start : new.start ≡ old.start
  pub end_is : new.end ≡ old.end
  pub taken : new.taken ≡ old.taken
  pub most : new.most ≡ old.most
  pub longest : new.longest ≡ old.longest

abbrev pub HandsOut : LineReader → LineReader → List ℕ → Bool → Advance → Type 0
HandsOut old new raw true Whole = Shows new raw
HandsOut old new raw false Last = Shows new raw
HandsOut old new raw true (Long true first) = IsTooLong old.longest raw first
HandsOut old new raw false (Long false first) = IsTooLong old.longest raw first
HandsOut old new raw true Last = ⊥
HandsOut old new raw false Whole = ⊥
HandsOut old new raw true (Long false first) = ⊥
HandsOut old new raw false (Long true first) = ⊥
HandsOut old new raw whole End = ⊥
HandsOut old new raw whole Spent = ⊥
HandsOut old new raw whole Failed = ⊥

pub record IsKept (old new : LineReader) : Type 0 where
  pub budget_is : budget new ≡ budget old
  pub most : new.most ≡ old.most
  pub longest : new.longest ≡ old.longest

abbrev pub Grows : LineReader → LineReader → Fill → Type 0
Grows old new fill.More = (piece : List ℕ) × (0 < length piece) × (held new ≡ held old ++ piece) × (new.taken ≡ old.taken + length piece)
Grows old new fill.End = held new ≡ held old
Grows old new fill.Spent = held new ≡ held old
Grows old new fill.Failed = held new ≡ held old

abbrev pub GivesFill : LineReader → LineReader → List ℕ → List ℕ → Fill → Type 0
GivesFill old new before after fill.More = held old ++ before ≡ held new ++ after
GivesFill old new before after fill.End = (before ≡ []) × (after ≡ [])
GivesFill old new before after fill.Spent = (byte : ℕ) × (before ≡ byte ∷ after) × (length (held old) ≡ budget old)
GivesFill old new before after fill.Failed = after ≡ before

abbrev pub Finishes : LineReader → LineReader → Advance → Type 0
Finishes old new End = (held old ≡ []) × (new.longest ≡ old.longest)
Finishes old new Last = (0 < length (held old)) × (held new ≡ []) × HasTaken old new (length (held old)) × Shows new (held old)
Finishes old new (Long false first) = (0 < length (held old)) × (held new ≡ []) × HasTaken old new (length (held old)) × IsTooLong old.longest (held old) first
Finishes old new (Long true first) = ⊥
Finishes old new Whole = ⊥
Finishes old new Spent = ⊥
Finishes old new Failed = ⊥
