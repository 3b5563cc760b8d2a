-- What a lookup of a row or of a block finds.
use Rattle.std.proofs.Common.{◌≡◌, ◌≢◌, ℕ, ◌+◌, ◌<◌, ◌⊎◌, true, false, zero, suc, List, [], ◌∷◌, length, Option, Some, None, refl, sym, ap, ◌∙◌, subst, map, arith, add-one, inl, inr, ⊎_elim}
use Rattle.std.specs.List.{Contains, slice_index_or, slice_index}
use Rattle.std.proofs.lemmas.Bool.{eq-eqb, ne_eqb, cases_eq}
use Rattle.certificate_text.specs.declared.certificate.BlockKind.{BlockKind}
use Rattle.certificate_text.specs.declared.certificate.BlockKind.TheVariants as kind
use Rattle.certificate_text.specs.declared.certificate.BlockRow.{BlockRow}
use Rattle.certificate_text.specs.declared.certificate.Block.{Block}
use Rattle.recheck.specs.Rows.{row_of, block_of, same_kind, rows_in, HasRow, HasRowBelow, HasBlock}
use Rattle.recheck.specs.Standing.{IsRising}

-- elements of a list with one more in front

pub contains_first : {X : Type 0} (x : X) (xs : List X) → Contains (x ∷ xs) x
contains_first x xs = (zero, omega arith, refl)

pub contains_later : {X : Type 0} (y x : X) (xs : List X) → Contains xs x → Contains (y ∷ xs) x
contains_later y x xs h = (suc h.0, omega (arith, h.1), h.2)

contains_at : {X : Type 0} (k : ℕ) (y x : X) (xs : List X) → k < length (y ∷ xs) → slice_index_or (y ∷ xs) k x ≡ x → (y ≡ x) ⊎ Contains xs x
contains_at zero y x xs lt is = inl is
contains_at (suc k) y x xs lt is = inr (k, omega arith, is)

pub contains_cases : {X : Type 0} (y x : X) (xs : List X) → Contains (y ∷ xs) x → (y ≡ x) ⊎ Contains xs x
contains_cases y x xs h = contains_at h.0 y x xs h.1 h.2

pub none_contained : {X : Type 0} {P : Type 0} (x : X) → Contains [] x → P
none_contained x h = let lt : h.0 < 0 = h.1 in absurd (omega arith)

-- the first row is the vertex's, or it isn't

pub row_of_first : (r : BlockRow) (rs : List BlockRow) (v : ℕ) → r.vertex ≡ v → row_of (r ∷ rs) v ≡ Some r
row_of_first r rs v same = rw (eq-eqb r.vertex v same) refl

pub row_of_later : (r : BlockRow) (rs : List BlockRow) (v : ℕ) → r.vertex ≢ v → row_of (r ∷ rs) v ≡ row_of rs v
row_of_later r rs v other = rw (ne_eqb r.vertex v other) refl

pub record IsFound (rows : List BlockRow) (v : ℕ) (r : BlockRow) : Type 0 where
  pub listed : Contains rows r
  pub vertex : r.vertex ≡ v

pub row_found : (rows : List BlockRow) (v : ℕ) (r : BlockRow) → row_of rows v ≡ Some r → IsFound rows v r
row_found [] v r is = absurd (let e : None ≡ Some r = is in cc)
row_found (x ∷ rows) v r is =
    ⊎_elim
    (λ (same : x.vertex ≡ v).
    let both : Some x ≡ Some r = sym (row_of_first x rows v same) ∙ is in
    let row : x ≡ r = cc in
    let found : IsFound (x ∷ rows) v x = record { listed = contains_first x rows; vertex = same } in
    subst (λ (y : BlockRow). IsFound (x ∷ rows) v y) row found)
    (λ (other : x.vertex ≡ v → ⊥).
    let later : IsFound rows v r = row_found rows v r (sym (row_of_later x rows v other) ∙ is) in
    let found : IsFound (x ∷ rows) v r = record { listed = contains_later x r rows later.listed; vertex = later.vertex } in
    found)
    (cases_eq x.vertex v)

pub row_contained : (rows : List BlockRow) (v : ℕ) (r : BlockRow) → row_of rows v ≡ Some r → Contains rows r
row_contained rows v r is = (row_found rows v r is).listed

pub row_vertex : (rows : List BlockRow) (v : ℕ) (r : BlockRow) → row_of rows v ≡ Some r → r.vertex ≡ v
row_vertex rows v r is = (row_found rows v r is).vertex

-- a vertex has one first row
pub row_same : (rows : List BlockRow) (v : ℕ) (r x : BlockRow) → row_of rows v ≡ Some r → row_of rows v ≡ Some x → r ≡ x
row_same rows v r x h k =
    let both : Some r ≡ Some x = sym h ∙ k in
    cc

pub no_row_of : {P : Type 0} (rows : List BlockRow) (v : ℕ) (r : BlockRow) → row_of rows v ≡ None → row_of rows v ≡ Some r → P
no_row_of rows v r none is = absurd (let e : None ≡ Some r = sym none ∙ is in cc)

pub has_row_below : (rows : List BlockRow) (v k : ℕ) → HasRowBelow rows v k → HasRow rows v
has_row_below rows v k h = record { row = h.row; is = h.is }

-- no row of a list has the vertex
pub row_of_none : (rows : List BlockRow) (v : ℕ) → ((r : BlockRow) → Contains rows r → r.vertex ≢ v) → row_of rows v ≡ None
row_of_none [] v none = refl
row_of_none (x ∷ rows) v none =
    row_of_later x rows v (none x (contains_first x rows))
    ∙ row_of_none rows v (λ r there. none r (contains_later x r rows there))

pub none_of_rows : (rows : List BlockRow) (v : ℕ) (r : BlockRow) → row_of rows v ≡ None → Contains rows r → r.vertex ≢ v
none_of_rows [] v r none there = none_contained r there
none_of_rows (x ∷ rows) v r none there =
    ⊎_elim
    (λ (same : x.vertex ≡ v).
    let e : None ≡ Some x = sym none ∙ row_of_first x rows v same in
    let no : r.vertex ≢ v = absurd cc in
    no)
    (λ (other : x.vertex ≡ v → ⊥).
    ⊎_elim
    (λ (first : x ≡ r).
    let no : r.vertex ≢ v = subst (λ (y : BlockRow). y.vertex ≢ v) first other in
    no)
    (λ (later : Contains rows r). none_of_rows rows v r (sym (row_of_later x rows v other) ∙ none) later)
    (contains_cases x r rows there))
    (cases_eq x.vertex v)

-- a vertex has a row or none
pub row_or_none : (rows : List BlockRow) (v : ℕ) → HasRow rows v ⊎ (row_of rows v ≡ None)
row_or_none [] v = inr refl
row_or_none (x ∷ rows) v =
    ⊎_elim
    (λ (same : x.vertex ≡ v).
    let r : HasRow (x ∷ rows) v ⊎ (row_of (x ∷ rows) v ≡ None) = inl (record { row = x; is = row_of_first x rows v same }) in
    r)
    (λ (other : x.vertex ≡ v → ⊥).
    ⊎_elim
    (λ (there : HasRow rows v).
    let r : HasRow (x ∷ rows) v ⊎ (row_of (x ∷ rows) v ≡ None) = inl (record { row = there.row; is = row_of_later x rows v other ∙ there.is }) in
    r)
    (λ (none : row_of rows v ≡ None).
    let r : HasRow (x ∷ rows) v ⊎ (row_of (x ∷ rows) v ≡ None) = inr (row_of_later x rows v other ∙ none) in
    r)
    (row_or_none rows v))
    (cases_eq x.vertex v)

-- rising rows

pub rising_tail : (r : BlockRow) (rs : List BlockRow) → IsRising (r ∷ rs) → IsRising rs
rising_tail r rs rising k lt =
    let next = rising (suc k) (omega arith) in
    rw add-one (rw add-one at next)

rising_at : (r x : BlockRow) (rs : List BlockRow) (k : ℕ) → r.vertex < x.vertex → IsRising (x ∷ rs) → k + 1 < length (map (λ (y : BlockRow). y.vertex) (r ∷ x ∷ rs)) →
    slice_index (map (λ (y : BlockRow). y.vertex) (r ∷ x ∷ rs)) k < slice_index (map (λ (y : BlockRow). y.vertex) (r ∷ x ∷ rs)) (k + 1)
rising_at r x rs zero less rising lt = less
rising_at r x rs (suc k) less rising lt =
    let next = rising k (omega arith) in
    rw add-one (rw add-one at next)

pub rising_cons : (r x : BlockRow) (rs : List BlockRow) → r.vertex < x.vertex → IsRising (x ∷ rs) → IsRising (r ∷ x ∷ rs)
rising_cons r x rs less rising k lt = rising_at r x rs k less rising lt

pub rising_nil : IsRising []
rising_nil k lt = absurd (omega arith)

pub rising_one : (r : BlockRow) → IsRising (r ∷ [])
rising_one r k lt = absurd (omega arith)

-- the first one is below each later one
pub rising_first : (r x : BlockRow) (rs : List BlockRow) → IsRising (r ∷ rs) → Contains rs x → r.vertex < x.vertex
rising_first r x [] rising there = none_contained x there
rising_first r x (y ∷ ys) rising there =
    let less : r.vertex < y.vertex = rising zero (omega arith) in
    ⊎_elim
    (λ (first : y ≡ x). subst (λ (z : BlockRow). r.vertex < z.vertex) first less)
    (λ (later : Contains ys x).
    let above : y.vertex < x.vertex = rising_first y x ys (rising_tail r (y ∷ ys) rising) later in
    let both : r.vertex < x.vertex = omega arith in
    both)
    (contains_cases y x ys there)

-- so each row is the first of its vertex
pub row_of_rising : (rows : List BlockRow) (r : BlockRow) → IsRising rows → Contains rows r → row_of rows r.vertex ≡ Some r
row_of_rising [] r rising there = none_contained r there
row_of_rising (x ∷ rows) r rising there =
    ⊎_elim
    (λ (first : x ≡ r).
    row_of_first x rows r.vertex (ap (λ (y : BlockRow). y.vertex) first) ∙ ap (λ (y : BlockRow). Some y) first)
    (λ (later : Contains rows r).
    let less : x.vertex < r.vertex = rising_first x r rows rising later in
    let other : x.vertex ≢ r.vertex = λ (e : x.vertex ≡ r.vertex). omega arith in
    row_of_later x rows r.vertex other ∙ row_of_rising rows r (rising_tail x rows rising) later)
    (contains_cases x r rows there)

-- blocks

pub kind_itself : (k : BlockKind) → same_kind k k ≡ true
kind_itself kind.From = refl
kind_itself kind.To = refl

pub kind_same : (j k : BlockKind) → same_kind j k ≡ true → j ≡ k
kind_same kind.From kind.From is = refl
kind_same kind.From kind.To is = absurd (let e : false ≡ true = is in cc)
kind_same kind.To kind.From is = absurd (let e : false ≡ true = is in cc)
kind_same kind.To kind.To is = refl

pub kind_other : (j k : BlockKind) → j ≢ k → same_kind j k ≡ false
kind_other kind.From kind.From other = absurd (other refl)
kind_other kind.From kind.To other = refl
kind_other kind.To kind.From other = refl
kind_other kind.To kind.To other = absurd (other refl)

pub kind_cases : (j k : BlockKind) → (j ≡ k) ⊎ (j ≢ k)
kind_cases kind.From kind.From = inl refl
kind_cases kind.From kind.To = inr (λ e. absurd cc)
kind_cases kind.To kind.From = inr (λ e. absurd cc)
kind_cases kind.To kind.To = inl refl

pub record IsBlockOf (k : BlockKind) (root : ℕ) (b : Block) : Type 0 where
  pub of_kind : b.kind ≡ k
  pub of_root : b.root ≡ root

pub block_cases : (k : BlockKind) (root : ℕ) (b : Block) → IsBlockOf k root b ⊎ (IsBlockOf k root b → ⊥)
block_cases k root b =
    ⊎_elim
    (λ (kinds : b.kind ≡ k).
    ⊎_elim
    (λ (roots : b.root ≡ root).
    let r : IsBlockOf k root b ⊎ (IsBlockOf k root b → ⊥) = inl (record { of_kind = kinds; of_root = roots }) in
    r)
    (λ (other : b.root ≡ root → ⊥).
    let r : IsBlockOf k root b ⊎ (IsBlockOf k root b → ⊥) = inr (λ h. other h.of_root) in
    r)
    (cases_eq b.root root))
    (λ (other : b.kind ≢ k).
    let r : IsBlockOf k root b ⊎ (IsBlockOf k root b → ⊥) = inr (λ h. other h.of_kind) in
    r)
    (kind_cases b.kind k)

pub block_of_first : (b : Block) (bs : List Block) (k : BlockKind) (root : ℕ) → IsBlockOf k root b → block_of (b ∷ bs) k root ≡ Some b
block_of_first b bs k root h =
    let kinds : same_kind b.kind k ≡ true = subst (λ (x : BlockKind). same_kind b.kind x ≡ true) h.of_kind (kind_itself b.kind) in
    rw (kinds, eq-eqb b.root root h.of_root) refl

pub block_of_later : (b : Block) (bs : List Block) (k : BlockKind) (root : ℕ) → (IsBlockOf k root b → ⊥) → block_of (b ∷ bs) k root ≡ block_of bs k root
block_of_later b bs k root none =
    ⊎_elim
    (λ (kinds : b.kind ≡ k).
    let tests : same_kind b.kind k ≡ true = subst (λ (x : BlockKind). same_kind b.kind x ≡ true) kinds (kind_itself b.kind) in
    let other : b.root ≡ root → ⊥ = λ (e : b.root ≡ root). none (record { of_kind = kinds; of_root = e }) in
    let r : block_of (b ∷ bs) k root ≡ block_of bs k root = rw (tests, ne_eqb b.root root other) refl in
    r)
    (λ (other : b.kind ≢ k).
    let r : block_of (b ∷ bs) k root ≡ block_of bs k root = rw (kind_other b.kind k other) refl in
    r)
    (kind_cases b.kind k)

pub record IsFoundBlock (bs : List Block) (k : BlockKind) (root : ℕ) (b : Block) : Type 0 where
  pub listed : Contains bs b
  pub is : IsBlockOf k root b

pub block_found : (bs : List Block) (k : BlockKind) (root : ℕ) (b : Block) → block_of bs k root ≡ Some b → IsFoundBlock bs k root b
block_found [] k root b is = absurd (let e : None ≡ Some b = is in cc)
block_found (x ∷ bs) k root b is =
    ⊎_elim
    (λ (first : IsBlockOf k root x).
    let both : Some x ≡ Some b = sym (block_of_first x bs k root first) ∙ is in
    let block : x ≡ b = cc in
    let found : IsFoundBlock (x ∷ bs) k root x = record { listed = contains_first x bs; is = first } in
    subst (λ (y : Block). IsFoundBlock (x ∷ bs) k root y) block found)
    (λ (other : IsBlockOf k root x → ⊥).
    let later : IsFoundBlock bs k root b = block_found bs k root b (sym (block_of_later x bs k root other) ∙ is) in
    let found : IsFoundBlock (x ∷ bs) k root b = record { listed = contains_later x b bs later.listed; is = later.is } in
    found)
    (block_cases k root x)

pub block_contained : (bs : List Block) (k : BlockKind) (root : ℕ) (b : Block) → block_of bs k root ≡ Some b → Contains bs b
block_contained bs k root b is = (block_found bs k root b is).listed

pub block_kind : (bs : List Block) (k : BlockKind) (root : ℕ) (b : Block) → block_of bs k root ≡ Some b → b.kind ≡ k
block_kind bs k root b is = (block_found bs k root b is).is.of_kind

pub block_root : (bs : List Block) (k : BlockKind) (root : ℕ) (b : Block) → block_of bs k root ≡ Some b → b.root ≡ root
block_root bs k root b is = (block_found bs k root b is).is.of_root

pub block_same : (bs : List Block) (k : BlockKind) (root : ℕ) (b x : Block) → block_of bs k root ≡ Some b → block_of bs k root ≡ Some x → b ≡ x
block_same bs k root b x h j =
    let both : Some b ≡ Some x = sym h ∙ j in
    cc

pub rows_of_block : (bs : List Block) (k : BlockKind) (root : ℕ) (b : Block) → block_of bs k root ≡ Some b → rows_in (block_of bs k root) ≡ b.rows
rows_of_block bs k root b is = ap (λ (o : Option Block). rows_in o) is

pub no_rows : (bs : List Block) (k : BlockKind) (root : ℕ) → block_of bs k root ≡ None → rows_in (block_of bs k root) ≡ []
no_rows bs k root none = ap (λ (o : Option Block). rows_in o) none

pub block_of_none : (bs : List Block) (k : BlockKind) (root : ℕ) → ((b : Block) → Contains bs b → IsBlockOf k root b → ⊥) → block_of bs k root ≡ None
block_of_none [] k root none = refl
block_of_none (x ∷ bs) k root none =
    block_of_later x bs k root (none x (contains_first x bs))
    ∙ block_of_none bs k root (λ b there. none b (contains_later x b bs there))

pub block_or_none : (bs : List Block) (k : BlockKind) (root : ℕ) → HasBlock bs k root ⊎ (block_of bs k root ≡ None)
block_or_none [] k root = inr refl
block_or_none (x ∷ bs) k root =
    ⊎_elim
    (λ (first : IsBlockOf k root x).
    let r : HasBlock (x ∷ bs) k root ⊎ (block_of (x ∷ bs) k root ≡ None) = inl (record { block = x; is = block_of_first x bs k root first }) in
    r)
    (λ (other : IsBlockOf k root x → ⊥).
    ⊎_elim
    (λ (there : HasBlock bs k root).
    let r : HasBlock (x ∷ bs) k root ⊎ (block_of (x ∷ bs) k root ≡ None) = inl (record { block = there.block; is = block_of_later x bs k root other ∙ there.is }) in
    r)
    (λ (none : block_of bs k root ≡ None).
    let r : HasBlock (x ∷ bs) k root ⊎ (block_of (x ∷ bs) k root ≡ None) = inr (block_of_later x bs k root other ∙ none) in
    r)
    (block_or_none bs k root))
    (block_cases k root x)

-- a row in what a lookup of a block gives comes from a block
pub record IsRowInBlock (bs : List Block) (k : BlockKind) (root v : ℕ) (r : BlockRow) : Type 0 where
  pub block : Block
  pub is : block_of bs k root ≡ Some block
  pub row : row_of block.rows v ≡ Some r

row_in : (bs : List Block) (k : BlockKind) (root v : ℕ) (r : BlockRow) (o : Option Block) → block_of bs k root ≡ o → row_of (rows_in o) v ≡ Some r → IsRowInBlock bs k root v r
row_in bs k root v r None is row = absurd (let e : None ≡ Some r = row in cc)
row_in bs k root v r (Some b) is row = record { block = b; is = is; row = row }

pub row_in_block : (bs : List Block) (k : BlockKind) (root v : ℕ) (r : BlockRow) → row_of (rows_in (block_of bs k root)) v ≡ Some r → IsRowInBlock bs k root v r
row_in_block bs k root v r row = row_in bs k root v r (block_of bs k root) refl row
