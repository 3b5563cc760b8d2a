-- What picking a file from a shelf does.
--   name     the bytes of the file's name
--   Opens    the name has contents, and these are what is left to read. A shelf that tells nothing goes on telling
--            nothing
--   Picks    the answer fits the name and what the shelf tells before and after
--   with_name   the names that were asked for, with one more after them; a shelf that doesn't tell them goes on telling
--               none
-- A pick that failed leaves the file that was current where it was.
use Rattle.std.specs.Prelude.{◌≡◌, ℕ, List, [], ◌∷◌, ◌++◌, Option, Some, None}
use Rattle.std.specs.Option.{option_map}
use Rattle.road_io.specs.Told.{Told}
use Rattle.road_io.specs.declared.shelves.Picked.{Picked}
use Rattle.road_io.specs.declared.shelves.Picked.TheVariants.{Ready, Failed}

abbrev pub Opens : List ℕ → Option Told → Option Told → Type 0
Opens name None None = Unit {0}
Opens name None (Some b) = ⊥
Opens name (Some a) None = ⊥
Opens name (Some a) (Some b) = (b.files ≡ a.files) × (a.files name ≡ Some b.bytes)

abbrev pub Picks : List ℕ → Option Told → Option Told → Picked → Type 0
Picks name old new Ready = Opens name old new
Picks name old new Failed = new ≡ old

abbrev pub with_name : List ℕ → Option (List (List ℕ)) → Option (List (List ℕ))
with_name name names = option_map (λ asked. asked ++ name ∷ []) names
