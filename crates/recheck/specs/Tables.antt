-- Look-ups of rows and of blocks.
--   FindsRows rows o    None: the rows are looked through by halves, since they rise; Some: a map has the first row of each
--                       vertex
--   place_of bs k root  the place of the first block of the direction and the root, counted from 0
--   HasPlaces bs k i m  a map has the places of those from the place i on
--   FindsBlocks bs m n  one map has the places of the blocks from each root, one those of the blocks to it
use Rattle.std.specs.Prelude.{◌≡◌, ◌+◌, ◌==◌, ◌&&◌, ℕ, List, [], ◌∷◌, drop, Option, Some, None, if◌then◌else◌}
use Rattle.std.specs.Option.{option_map}
use Rattle.std.specs.Ordering.{nat_cmp}
use Rattle.std.specs.BTreeMap.{BTreeMap, get}
use Rattle.certificate_text.specs.declared.certificate.BlockRow.{BlockRow}
use Rattle.certificate_text.specs.declared.certificate.BlockKind.{BlockKind}
use Rattle.certificate_text.specs.declared.certificate.BlockKind.TheVariants as kind
use Rattle.certificate_text.specs.declared.certificate.Block.{Block}
use Rattle.recheck.specs.Rows.{row_of, same_kind}
use Rattle.recheck.specs.Standing.{IsRising}

abbrev pub FindsRows : List BlockRow → Option (BTreeMap ℕ BlockRow) → Type 0
FindsRows rows None = IsRising rows
FindsRows rows (Some m) = (v : ℕ) → get nat_cmp m v ≡ row_of rows v

abbrev pub place_of : List Block → BlockKind → ℕ → Option ℕ
place_of [] k root = None
place_of (b ∷ bs) k root = if same_kind b.kind k && b.root == root then Some 0 else option_map (λ p. p + 1) (place_of bs k root)

abbrev pub HasPlaces : List Block → BlockKind → ℕ → BTreeMap ℕ ℕ → Type 0
HasPlaces bs k i m = (root : ℕ) → get nat_cmp m root ≡ option_map (λ p. i + p) (place_of (drop i bs) k root)

pub record FindsBlocks (bs : List Block) (m n : BTreeMap ℕ ℕ) : Type 0 where
  pub from : (root : ℕ) → get nat_cmp m root ≡ place_of bs kind.From root
  pub to : (root : ℕ) → get nat_cmp n root ≡ place_of bs kind.To root
