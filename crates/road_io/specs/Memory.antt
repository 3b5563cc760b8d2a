-- What the objects in memory hold.
--   piece         the most bytes that one read gives, where it isn't 0; at 0 a read gives as many as fit
--   piece_len     how many bytes a read gives, from the piece, the room's length and how many bytes are left
--   GivesPiece         what one read of a text in memory does, which never fails
--   TakesPiece    a read that gave bytes gave as many as it was to
--   contents_in   the contents of the first file of the list that has the name
--   named_text    the same, but an empty text under a name that no file has
use Rattle.std.specs.Prelude.{◌≡◌, ℕ, ◌<◌, List, [], ◌++◌, length, take, Option, min, if◌then◌else◌, ◌==◌, unwrap_or, Some}
use Rattle.std.specs.Option.{option_map}
use Rattle.std.specs.List.{find}
use Rattle.std.specs.Str.{bytes_eq}
use Rattle.road_io.specs.declared.reading.Read.{Read}
use Rattle.road_io.specs.declared.reading.Read.TheVariants.{Took, End, Failed}
use Rattle.road_io.specs.declared.texts.NamedFile.{NamedFile}

abbrev pub piece_len : ℕ → ℕ → ℕ → ℕ
piece_len piece room left = min (min room left) (if piece == 0 then left else piece)

abbrev pub TakesPiece : ℕ → ℕ → List ℕ → Read → Type 0
TakesPiece piece room before (Took n) = n ≡ piece_len piece room (length before)
TakesPiece piece room before End = Unit {0}
TakesPiece piece room before Failed = Unit {0}

abbrev pub GivesPiece : ℕ → List ℕ → List ℕ → List ℕ → Read → Type 0
GivesPiece piece room before after (Took n) =
    (0 < n) × (n ≡ piece_len piece (length room) (length before)) × (before ≡ take n room ++ after)
GivesPiece piece room before after End = (before ≡ []) × (after ≡ [])
GivesPiece piece room before after Failed = ⊥

abbrev pub contents_in : List NamedFile → List ℕ → Option (List ℕ)
contents_in files name = option_map (λ file. file.bytes.now) (find (λ file. bytes_eq file.name.now name) files)

abbrev pub named_text : List NamedFile → List ℕ → Option (List ℕ)
named_text files name = Some (unwrap_or (contents_in files name) [])
