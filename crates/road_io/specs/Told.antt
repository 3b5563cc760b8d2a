-- What a source, a sink or a shelf tells of its bytes, for contracts alone.
--   Told        the bytes that an object holds, and what stands under each name on its shelf
--   bytes       a source's bytes are those still to be read, a sink's those written to it
--   files       the contents under a name; an object that is no shelf has nothing under any name
--   IfTold      the bytes before and after fit a fact, and every name keeps its contents; an object that tells nothing
--               tells nothing afterwards either
--   text_told   what is told by an object that holds these bytes and is no shelf
-- A file, a socket and a terminal tell nothing, which is `None`. Whether an object tells its bytes never changes.
use Rattle.std.specs.Prelude.{◌≡◌, ℕ, List, Option, None, Some}

pub record Told : Type 0 where
  pub bytes : List ℕ
  pub files : List ℕ → Option (List ℕ)

abbrev pub IfTold : Option Told → Option Told → (List ℕ → List ℕ → Type 0) → Type 0
IfTold None None P = Unit {0}
IfTold None (Some b) P = ⊥
IfTold (Some a) None P = ⊥
IfTold (Some a) (Some b) P = (b.files ≡ a.files) × P a.bytes b.bytes

abbrev pub text_told : List ℕ → Told
text_told bytes = record { bytes = bytes; files = λ _. None }
