-- From the checks of blocks that hold to blocks that stand.
use Rattle.std.proofs.Common.{◌≡◌, ℕ, ◌+◌, ◌<◌, ◌++◌, List, [], ◌∷◌, length, None, subst, ⊎_elim}
use Rattle.std.specs.List.{Contains}
use Rattle.road_model.specs.Graph.{Graph, IsVertex}
use Rattle.certificate_text.specs.declared.certificate.BlockRow.{BlockRow}
use Rattle.certificate_text.specs.declared.certificate.Block.{Block}
use Rattle.recheck.specs.Rows.{toward}
use Rattle.recheck.specs.Standing.{IsRising, RowStands, Stands, AllStand}
use Rattle.recheck.specs.Checks.{Checks, FindsFirst, row_checks, rows_checks, end_checks, blocks_checks}
use Rattle.recheck.proofs.Firsts.{line_after}
use Rattle.recheck.proofs.RowLookups.{contains_cases, none_contained, rising_nil, rising_one, rising_cons}

-- what the checks of one row say
record RowHolds (h : Graph) (b : Block) (before : ℕ) (r : BlockRow) (rest : Checks) : Type 0 where
  vertex : IsVertex h.vertices r.vertex
  above : before < r.vertex
  stands : RowStands h b r
  later : FindsFirst rest None

row_holds : (h : Graph) (b : Block) (line before : ℕ) (r : BlockRow) (rest : Checks) → FindsFirst (row_checks h b line before r rest) None → RowHolds h b before r rest
row_holds h b line before r rest f =
    record {
      vertex = f.0.0;
      above = f.0.1;
      stands = record { radius = f.1.0; root = f.1.1.0; tight = f.1.1.1.1.0; least = f.1.1.1.1.1.0 };
      later = f.1.1.1.1.1.1;
    }

pub rows_stand : (h : Graph) (b : Block) (line before : ℕ) (rs : List BlockRow) (rest : Checks) → FindsFirst (rows_checks h b line before rs rest) None → (r : BlockRow) → Contains rs r → RowStands h b r
rows_stand h b line before [] rest f r there = none_contained r there
rows_stand h b line before (x ∷ rs) rest f r there =
    let here : RowHolds h b before x (rows_checks h b (line + 1) x.vertex rs rest) = row_holds h b line before x (rows_checks h b (line + 1) x.vertex rs rest) f in
    ⊎_elim
    (λ (first : x ≡ r). subst (λ (y : BlockRow). RowStands h b y) first here.stands)
    (λ (later : Contains rs r). rows_stand h b (line + 1) x.vertex rs rest here.later r later)
    (contains_cases x r rs there)

pub rows_are_vertices : (h : Graph) (b : Block) (line before : ℕ) (rs : List BlockRow) (rest : Checks) → FindsFirst (rows_checks h b line before rs rest) None → (r : BlockRow) → Contains rs r → IsVertex h.vertices r.vertex
rows_are_vertices h b line before [] rest f r there = none_contained r there
rows_are_vertices h b line before (x ∷ rs) rest f r there =
    let here : RowHolds h b before x (rows_checks h b (line + 1) x.vertex rs rest) = row_holds h b line before x (rows_checks h b (line + 1) x.vertex rs rest) f in
    ⊎_elim
    (λ (first : x ≡ r). subst (λ (y : BlockRow). IsVertex h.vertices y.vertex) first here.vertex)
    (λ (later : Contains rs r). rows_are_vertices h b (line + 1) x.vertex rs rest here.later r later)
    (contains_cases x r rs there)

pub rows_rise : (h : Graph) (b : Block) (line before : ℕ) (rs : List BlockRow) (rest : Checks) → FindsFirst (rows_checks h b line before rs rest) None → IsRising rs
rows_rise h b line before [] rest f = rising_nil
rows_rise h b line before (r ∷ []) rest f = rising_one r
rows_rise h b line before (r ∷ x ∷ rs) rest f =
    let here = row_holds h b line before r (rows_checks h b (line + 1) r.vertex (x ∷ rs) rest) f in
    let next = row_holds h b (line + 1) r.vertex x (rows_checks h b (line + 1 + 1) x.vertex rs rest) here.later in
    rising_cons r x rs next.above (rows_rise h b (line + 1) r.vertex (x ∷ rs) rest here.later)

pub rows_end : (h : Graph) (b : Block) (line before : ℕ) (rs : List BlockRow) (rest : Checks) → FindsFirst (rows_checks h b line before rs rest) None → FindsFirst rest None
rows_end h b line before [] rest f = f
rows_end h b line before (r ∷ rs) rest f =
    let here = row_holds h b line before r (rows_checks h b (line + 1) r.vertex rs rest) f in
    rows_end h b (line + 1) r.vertex rs rest here.later

-- the line of the end may be any
pub stands : (h : Graph) (b : Block) (line more : ℕ) (rest : Checks) → FindsFirst (rows_checks h b line 0 b.rows (end_checks h b more rest)) None → Stands h b × FindsFirst rest None
stands h b line more rest f =
    let end : FindsFirst (end_checks h b more rest) None = rows_end h b line 0 b.rows (end_checks h b more rest) f in
    let block : Stands h b = record {
      rows = rows_stand h b line 0 b.rows (end_checks h b more rest) f;
      rising = rows_rise h b line 0 b.rows (end_checks h b more rest) f;
      rooted = end.0;
      closed = end.1.0;
    } in
    (block, end.1.1)

pub stands_nil : (g : Graph) → AllStand g []
stands_nil g = record { roots = (λ b there. none_contained b there); stand = (λ b there. none_contained b there) }

pub stands_cons : (g : Graph) (x : Block) (bs : List Block) → IsVertex g.vertices x.root → Stands (toward x.kind g) x → AllStand g bs → AllStand g (x ∷ bs)
stands_cons g x bs inside here all =
    record {
      roots = (λ b there.
          ⊎_elim
          (λ (first : x ≡ b). subst (λ (y : Block). IsVertex g.vertices y.root) first inside)
          (λ (later : Contains bs b). all.roots b later)
          (contains_cases x b bs there));
      stand = (λ b there.
          ⊎_elim
          (λ (first : x ≡ b). subst (λ (y : Block). Stands (toward y.kind g) y) first here)
          (λ (later : Contains bs b). all.stand b later)
          (contains_cases x b bs there));
    }

-- also after earlier blocks
pub all_stand : (g : Graph) (earlier : List Block) (line : ℕ) (bs : List Block) (rest : ℕ → Checks) → FindsFirst (blocks_checks g earlier line bs rest) None → AllStand g bs × FindsFirst (rest (line_after line bs)) None
all_stand g earlier line [] rest f = (stands_nil g, f)
all_stand g earlier line (b ∷ bs) rest f =
    let next : Checks = blocks_checks g (earlier ++ b ∷ []) (line + 2 + length b.rows) bs rest in
    let here : Stands (toward b.kind g) b × FindsFirst next None = stands (toward b.kind g) b (line + 1) (line + 1 + length b.rows) next f.1 in
    let later : AllStand g bs × FindsFirst (rest (line_after (line + 2 + length b.rows) bs)) None = all_stand g (earlier ++ b ∷ []) (line + 2 + length b.rows) bs rest here.1 in
    (stands_cons g b bs f.0.0 here.0 later.0, later.1)
