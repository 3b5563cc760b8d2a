-- The first failed check of a block, from those of its rows and of its end, and of blocks.
use Rattle.std.proofs.Common.{◌≡◌, ℕ, ◌+◌, ◌<◌, ◌++◌, List, [], ◌∷◌, length, get_or, take, drop, arith, Option, Some, None, refl, sym, ap, ◌∙◌, subst, inl, inr}
use Rattle.std.proofs.lemmas.List.{drop_more, take_more}
use Rattle.road_model.specs.Graph.{Graph, reversed}
use Rattle.certificate_text.specs.declared.certificate.BlockRow.{BlockRow}
use Rattle.certificate_text.specs.declared.certificate.Block.{Block}
use Rattle.certificate_text.specs.declared.certificate.CertRoute.{CertRoute}
use Rattle.certificate_text.specs.declared.fault.CertKind.TheVariants as word
use Rattle.certificate_text.specs.declared.fault.CertFault.{CertFault}
use Rattle.recheck.specs.Rows.{HasRow}
use Rattle.recheck.specs.RowTests.{AreClosed}
use Rattle.recheck.specs.Checks.{done, fault_at, FindsFirst, row_checks, rows_checks, end_checks, block_checks, blocks_checks}
use Rattle.recheck.specs.Lines.{line_after_routes}
use Rattle.recheck.proofs.Firsts.{some_then, block_some, block_split}
use Rattle.recheck.proofs.RowSteps.{closed_of}

pub end_holds : (h m : Graph) (b : Block) (line : ℕ) → HasRow b.rows b.root → AreClosed m b → m ≡ reversed h → FindsFirst (end_checks h b line done) None
end_holds h m b line has all turns = (has, ((closed_of h m b turns).0 all, tt))

pub end_open : (h m : Graph) (b : Block) (line : ℕ) → HasRow b.rows b.root → (AreClosed m b → ⊥) → m ≡ reversed h → FindsFirst (end_checks h b line done) (Some (fault_at line word.Closed))
end_open h m b line has gap turns = inr (has, inl ((λ closed. gap ((closed_of h m b turns).1 closed)), refl))

-- a row fails in its place
pub row_some : (h : Graph) (b : Block) (line before i : ℕ) (rows : List BlockRow) (d : BlockRow) (f : CertFault) → i < length rows → FindsFirst (row_checks h b line before (get_or rows i d) done) (Some f) → FindsFirst (rows_checks h b line before (drop i rows) done) (Some f)
row_some h b line before i rows d f inside here =
    subst (λ (l : List BlockRow). FindsFirst (rows_checks h b line before l done) (Some f)) (sym (drop_more rows i d inside))
    (some_then (row_checks h b line before (get_or rows i d) done) (rows_checks h b (line + 1) (get_or rows i d).vertex (drop (i + 1) rows) done) f here)

-- a block fails in its place
pub block_at_some : (g : Graph) (bs : List Block) (i line : ℕ) (b : Block) (f : CertFault) → i < length bs → b ≡ get_or bs i b → FindsFirst (block_checks g (take i bs) line b done) (Some f) → FindsFirst (blocks_checks g (take i bs) line (drop i bs) (λ _. done)) (Some f)
block_at_some g bs i line b f inside is here =
    let front : drop i bs ≡ b ∷ drop (i + 1) bs = drop_more bs i b inside ∙ ap (λ (x : Block). x ∷ drop (i + 1) bs) (sym is) in
    subst (λ (l : List Block). FindsFirst (blocks_checks g (take i bs) line l (λ _. done)) (Some f)) (sym front)
    (block_some g (take i bs) line b (blocks_checks g (take i bs ++ b ∷ []) (line + 2 + length b.rows) (drop (i + 1) bs) (λ _. done)) f here)

-- it passes, and the next ones follow
pub block_at_none : (g : Graph) (bs : List Block) (i line next : ℕ) (b : Block) (o : Option CertFault) → i < length bs → b ≡ get_or bs i b → next ≡ line + 2 + length b.rows → FindsFirst (block_checks g (take i bs) line b done) None → FindsFirst (blocks_checks g (take (i + 1) bs) next (drop (i + 1) bs) (λ _. done)) o → FindsFirst (blocks_checks g (take i bs) line (drop i bs) (λ _. done)) o
block_at_none g bs i line next b o inside is later_line here rest =
    let front : drop i bs ≡ b ∷ drop (i + 1) bs = drop_more bs i b inside ∙ ap (λ (x : Block). x ∷ drop (i + 1) bs) (sym is) in
    let earlier : take (i + 1) bs ≡ take i bs ++ b ∷ [] = take_more bs i b inside ∙ ap (λ (x : Block). take i bs ++ x ∷ []) (sym is) in
    let later = subst (λ (l : List Block). FindsFirst (blocks_checks g l (line + 2 + length b.rows) (drop (i + 1) bs) (λ _. done)) o) earlier (subst (λ (n : ℕ). FindsFirst (blocks_checks g (take (i + 1) bs) n (drop (i + 1) bs) (λ _. done)) o) later_line rest) in
    subst (λ (l : List Block). FindsFirst (blocks_checks g (take i bs) line l (λ _. done)) o) (sym front)
    (block_split g (take i bs) line b (blocks_checks g (take i bs ++ b ∷ []) (line + 2 + length b.rows) (drop (i + 1) bs) (λ _. done)) o here later)

pub routes_after : (line : ℕ) (rs : List CertRoute) → line + length rs ≡ line_after_routes line rs
routes_after line [] = omega arith
routes_after line (r ∷ rs) = let more : line + length (r ∷ rs) ≡ (line + 1) + length rs = omega arith in more ∙ routes_after (line + 1) rs
