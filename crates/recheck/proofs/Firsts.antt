-- The first check that fails, in lists of checks that are joined.
use Rattle.std.proofs.Common.{◌≡◌, ℕ, ◌+◌, ◌++◌, List, [], ◌∷◌, length, Option, Some, None, refl, sym, ap, ◌∙◌, subst, inl, inr, ⊎_elim}
use Rattle.road_model.specs.Graph.{Graph, IsVertex}
use Rattle.certificate_text.specs.declared.certificate.BlockRow.{BlockRow}
use Rattle.certificate_text.specs.declared.certificate.Block.{Block}
use Rattle.certificate_text.specs.declared.certificate.CertRoute.{CertRoute}
use Rattle.certificate_text.specs.declared.fault.CertKind.TheVariants as word
use Rattle.certificate_text.specs.declared.fault.CertFault.{CertFault}
use Rattle.recheck.specs.Rows.{toward, block_of}
use Rattle.recheck.specs.Paths.{Ground}
pub use Rattle.recheck.specs.Lines.{line_after, line_after_routes}
use Rattle.recheck.specs.Checks.{Checks, done, check, fault_at, FindsFirst, joined, row_checks, rows_checks, end_checks, block_checks, blocks_checks, route_checks, routes_checks}

pub none_then : (cs rest : Checks) (o : Option CertFault) → FindsFirst cs None → FindsFirst rest o → FindsFirst (joined cs rest) o
none_then done rest o h k = k
none_then (check line word P cs) rest None h k = (h.0, none_then cs rest None h.1 k)
none_then (check line word P cs) rest (Some f) h k = inr (h.0, none_then cs rest (Some f) h.1 k)

pub some_then : (cs rest : Checks) (f : CertFault) → FindsFirst cs (Some f) → FindsFirst (joined cs rest) (Some f)
some_then done rest f h = absurd h
some_then (check line word P cs) rest f h =
    ⊎_elim
    (λ (here : (P → ⊥) × (f ≡ fault_at line word)).
    let r : FindsFirst (joined (check line word P cs) rest) (Some f) = inl here in
    r)
    (λ (later : P × FindsFirst cs (Some f)).
    let r : FindsFirst (joined (check line word P cs) rest) (Some f) = inr (later.0, some_then cs rest f later.1) in
    r)
    h

pub none_of_joined : (cs rest : Checks) → FindsFirst (joined cs rest) None → FindsFirst cs None × FindsFirst rest None
none_of_joined done rest h = (tt, h)
none_of_joined (check line word P cs) rest h =
    let later : FindsFirst cs None × FindsFirst rest None = none_of_joined cs rest h.1 in
    ((h.0, later.0), later.1)

pub joined_done : (cs : Checks) → joined cs done ≡ cs
joined_done done = refl
joined_done (check line word P cs) = ap (check line word P) (joined_done cs)

-- the parts of a certificate's checks, each with the rest after it

pub row_joined : (h : Graph) (b : Block) (line before : ℕ) (r : BlockRow) (more rest : Checks) → joined (row_checks h b line before r more) rest ≡ row_checks h b line before r (joined more rest)
row_joined h b line before r more rest = refl

pub rows_joined : (h : Graph) (b : Block) (line before : ℕ) (rs : List BlockRow) (more rest : Checks) → joined (rows_checks h b line before rs more) rest ≡ rows_checks h b line before rs (joined more rest)
rows_joined h b line before [] more rest = refl
rows_joined h b line before (r ∷ rs) more rest =
    ap (λ (cs : Checks). row_checks h b line before r cs) (rows_joined h b (line + 1) r.vertex rs more rest)

pub end_joined : (h : Graph) (b : Block) (line : ℕ) (more rest : Checks) → joined (end_checks h b line more) rest ≡ end_checks h b line (joined more rest)
end_joined h b line more rest = refl

pub block_joined : (g : Graph) (earlier : List Block) (line : ℕ) (b : Block) (more rest : Checks) → joined (block_checks g earlier line b more) rest ≡ block_checks g earlier line b (joined more rest)
block_joined g earlier line b more rest =
    ap (λ (cs : Checks). check line word.Block (IsVertex g.vertices b.root × (block_of earlier b.kind b.root ≡ None)) cs)
    (rows_joined (toward b.kind g) b (line + 1) 0 b.rows (end_checks (toward b.kind g) b (line + 1 + length b.rows) more) rest)

pub blocks_joined : (g : Graph) (earlier : List Block) (line : ℕ) (bs : List Block) (more : ℕ → Checks) (rest : Checks) → joined (blocks_checks g earlier line bs more) rest ≡ blocks_checks g earlier line bs (λ next. joined (more next) rest)
blocks_joined g earlier line [] more rest = refl
blocks_joined g earlier line (b ∷ bs) more rest =
    block_joined g earlier line b (blocks_checks g (earlier ++ b ∷ []) (line + 2 + length b.rows) bs more) rest
    ∙ ap (λ (cs : Checks). block_checks g earlier line b cs) (blocks_joined g (earlier ++ b ∷ []) (line + 2 + length b.rows) bs more rest)

pub route_joined : (o : Ground) (line : ℕ) (before : Option CertRoute) (r : CertRoute) (more rest : Checks) → joined (route_checks o line before r more) rest ≡ route_checks o line before r (joined more rest)
route_joined o line before r more rest = refl

pub routes_joined : (o : Ground) (line : ℕ) (before : Option CertRoute) (rs : List CertRoute) (more : ℕ → Checks) (rest : Checks) → joined (routes_checks o line before rs more) rest ≡ routes_checks o line before rs (λ next. joined (more next) rest)
routes_joined o line before [] more rest = refl
routes_joined o line before (r ∷ rs) more rest =
    ap (λ (cs : Checks). route_checks o line before r cs) (routes_joined o (line + 1) (Some r) rs more rest)

-- what comes after blocks, or routes, that were checked for themselves
pub blocks_ended : (g : Graph) (earlier : List Block) (line : ℕ) (bs : List Block) (rest : ℕ → Checks) → joined (blocks_checks g earlier line bs (λ _. done)) (rest (line_after line bs)) ≡ blocks_checks g earlier line bs rest
blocks_ended g earlier line [] rest = refl
blocks_ended g earlier line (b ∷ bs) rest =
    block_joined g earlier line b (blocks_checks g (earlier ++ b ∷ []) (line + 2 + length b.rows) bs (λ _. done)) (rest (line_after (line + 2 + length b.rows) bs))
    ∙ ap (λ (cs : Checks). block_checks g earlier line b cs) (blocks_ended g (earlier ++ b ∷ []) (line + 2 + length b.rows) bs rest)

pub routes_ended : (o : Ground) (line : ℕ) (before : Option CertRoute) (rs : List CertRoute) (rest : ℕ → Checks) → joined (routes_checks o line before rs (λ _. done)) (rest (line_after_routes line rs)) ≡ routes_checks o line before rs rest
routes_ended o line before [] rest = refl
routes_ended o line before (r ∷ rs) rest =
    ap (λ (cs : Checks). route_checks o line before r cs) (routes_ended o (line + 1) (Some r) rs rest)

-- from the blocks' own checks and those after them to all
pub blocks_split : (g : Graph) (earlier : List Block) (line : ℕ) (bs : List Block) (rest : ℕ → Checks) (o : Option CertFault) → FindsFirst (blocks_checks g earlier line bs (λ _. done)) None → FindsFirst (rest (line_after line bs)) o → FindsFirst (blocks_checks g earlier line bs rest) o
blocks_split g earlier line bs rest o h k =
    subst (λ (cs : Checks). FindsFirst cs o) (blocks_ended g earlier line bs rest)
    (none_then (blocks_checks g earlier line bs (λ _. done)) (rest (line_after line bs)) o h k)

pub blocks_some : (g : Graph) (earlier : List Block) (line : ℕ) (bs : List Block) (rest : ℕ → Checks) (f : CertFault) → FindsFirst (blocks_checks g earlier line bs (λ _. done)) (Some f) → FindsFirst (blocks_checks g earlier line bs rest) (Some f)
blocks_some g earlier line bs rest f h =
    subst (λ (cs : Checks). FindsFirst cs (Some f)) (blocks_ended g earlier line bs rest)
    (some_then (blocks_checks g earlier line bs (λ _. done)) (rest (line_after line bs)) f h)

-- and back
pub blocks_parts : (g : Graph) (earlier : List Block) (line : ℕ) (bs : List Block) (rest : ℕ → Checks) → FindsFirst (blocks_checks g earlier line bs rest) None → FindsFirst (blocks_checks g earlier line bs (λ _. done)) None × FindsFirst (rest (line_after line bs)) None
blocks_parts g earlier line bs rest h =
    none_of_joined (blocks_checks g earlier line bs (λ _. done)) (rest (line_after line bs))
    (subst (λ (cs : Checks). FindsFirst cs None) (sym (blocks_ended g earlier line bs rest)) h)

pub routes_split : (o : Ground) (line : ℕ) (before : Option CertRoute) (rs : List CertRoute) (rest : ℕ → Checks) (x : Option CertFault) → FindsFirst (routes_checks o line before rs (λ _. done)) None → FindsFirst (rest (line_after_routes line rs)) x → FindsFirst (routes_checks o line before rs rest) x
routes_split o line before rs rest x h k =
    subst (λ (cs : Checks). FindsFirst cs x) (routes_ended o line before rs rest)
    (none_then (routes_checks o line before rs (λ _. done)) (rest (line_after_routes line rs)) x h k)

pub routes_some : (o : Ground) (line : ℕ) (before : Option CertRoute) (rs : List CertRoute) (rest : ℕ → Checks) (f : CertFault) → FindsFirst (routes_checks o line before rs (λ _. done)) (Some f) → FindsFirst (routes_checks o line before rs rest) (Some f)
routes_some o line before rs rest f h =
    subst (λ (cs : Checks). FindsFirst cs (Some f)) (routes_ended o line before rs rest)
    (some_then (routes_checks o line before rs (λ _. done)) (rest (line_after_routes line rs)) f h)

pub routes_parts : (o : Ground) (line : ℕ) (before : Option CertRoute) (rs : List CertRoute) (rest : ℕ → Checks) → FindsFirst (routes_checks o line before rs rest) None → FindsFirst (routes_checks o line before rs (λ _. done)) None × FindsFirst (rest (line_after_routes line rs)) None
routes_parts o line before rs rest h =
    none_of_joined (routes_checks o line before rs (λ _. done)) (rest (line_after_routes line rs))
    (subst (λ (cs : Checks). FindsFirst cs None) (sym (routes_ended o line before rs rest)) h)

-- one row, and the ends of rows and of a block, each with the rest after it
pub rows_split : (h : Graph) (b : Block) (line before : ℕ) (rs : List BlockRow) (rest : Checks) (o : Option CertFault) → FindsFirst (rows_checks h b line before rs done) None → FindsFirst rest o → FindsFirst (rows_checks h b line before rs rest) o
rows_split h b line before rs rest o f k =
    subst (λ (cs : Checks). FindsFirst cs o) (rows_joined h b line before rs done rest)
    (none_then (rows_checks h b line before rs done) rest o f k)

pub rows_some : (h : Graph) (b : Block) (line before : ℕ) (rs : List BlockRow) (rest : Checks) (f : CertFault) → FindsFirst (rows_checks h b line before rs done) (Some f) → FindsFirst (rows_checks h b line before rs rest) (Some f)
rows_some h b line before rs rest f k =
    subst (λ (cs : Checks). FindsFirst cs (Some f)) (rows_joined h b line before rs done rest)
    (some_then (rows_checks h b line before rs done) rest f k)

pub block_split : (g : Graph) (earlier : List Block) (line : ℕ) (b : Block) (rest : Checks) (o : Option CertFault) → FindsFirst (block_checks g earlier line b done) None → FindsFirst rest o → FindsFirst (block_checks g earlier line b rest) o
block_split g earlier line b rest o h k =
    subst (λ (cs : Checks). FindsFirst cs o) (block_joined g earlier line b done rest)
    (none_then (block_checks g earlier line b done) rest o h k)

pub block_some : (g : Graph) (earlier : List Block) (line : ℕ) (b : Block) (rest : Checks) (f : CertFault) → FindsFirst (block_checks g earlier line b done) (Some f) → FindsFirst (block_checks g earlier line b rest) (Some f)
block_some g earlier line b rest f h =
    subst (λ (cs : Checks). FindsFirst cs (Some f)) (block_joined g earlier line b done rest)
    (some_then (block_checks g earlier line b done) rest f h)
