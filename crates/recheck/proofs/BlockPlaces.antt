-- The place of a block, and the block.
use Rattle.std.proofs.Common.{◌≡◌, ℕ, ◌+◌, ◌<◌, ◌≤◌, ◌==◌, ◌&&◌, zero, suc, Bool, true, false, cond, List, [], ◌∷◌, length, take, get_or, Option, Some, None, refl, sym, ap, ◌∙◌, arith}
use Rattle.std.specs.Prelude.{slice_get}
use Rattle.std.specs.Option.{option_map}
use Rattle.std.proofs.lemmas.Option.{slice_get_within, get_or_from_slice_get}
use Rattle.certificate_text.specs.declared.certificate.BlockKind.{BlockKind}
use Rattle.certificate_text.specs.declared.certificate.Block.{Block}
use Rattle.recheck.specs.Rows.{block_of, same_kind}
use Rattle.recheck.specs.Tables.{place_of}

record IsPlaceAfter (o : Option ℕ) (p : ℕ) : Type 0 where
  place : ℕ
  is : o ≡ Some place
  next : place + 1 ≡ p

later_place : (o : Option ℕ) (p : ℕ) → option_map (λ q. q + 1) o ≡ Some p → IsPlaceAfter o p
later_place None p h = absurd (let e : None ≡ Some p = h in cc)
later_place (Some q) p h = record { place = q; is = refl; next = let e : Some (q + 1) ≡ Some p = h in cc }

no_later_place : (o : Option ℕ) → option_map (λ q. q + 1) o ≡ None → o ≡ None
no_later_place None h = refl
no_later_place (Some q) h = absurd (let e : Some (q + 1) ≡ None = h in cc)

pub record IsBlockAt (bs : List Block) (p : ℕ) (o : Option Block) : Type 0 where
  pub block : Block
  pub at : slice_get bs p ≡ Some block
  pub is : o ≡ Some block

block_at_first : (b : Block) (bs : List Block) (p : ℕ) → Some 0 ≡ Some p → IsBlockAt (b ∷ bs) p (Some b)
block_at_first b bs p h =
    let place : 0 ≡ p = cc in
    let at : slice_get (b ∷ bs) p ≡ Some b = ap (λ (n : ℕ). slice_get (b ∷ bs) n) (sym place) in
    record { block = b; at = at; is = refl }

block_at_later : (b : Block) (bs : List Block) (p q : ℕ) (o : Option Block) → q + 1 ≡ p → IsBlockAt bs q o → IsBlockAt (b ∷ bs) p o
block_at_later b bs p q o next h =
    let place : p ≡ suc q = omega arith in
    record { block = h.block; at = ap (λ (n : ℕ). slice_get (b ∷ bs) n) place ∙ h.at; is = h.is }

pub place_found : (bs : List Block) (k : BlockKind) (root p : ℕ) → place_of bs k root ≡ Some p → IsBlockAt bs p (block_of bs k root)
place_found [] k root p h = absurd (let e : None ≡ Some p = h in cc)
place_found (b ∷ bs) k root p h =
    elim (same_kind b.kind k && b.root == root) as (λ (t : Bool). cond t (Some 0) (option_map (λ q. q + 1) (place_of bs k root)) ≡ Some p → IsBlockAt (b ∷ bs) p (cond t (Some b) (block_of bs k root))) [
      | true ↦ (λ e. block_at_first b bs p e)
      | false ↦ (λ e. let later : IsPlaceAfter (place_of bs k root) p = later_place (place_of bs k root) p e in block_at_later b bs p later.place (block_of bs k root) later.next (place_found bs k root later.place later.is))
    ]
    h

pub place_none : (bs : List Block) (k : BlockKind) (root : ℕ) → place_of bs k root ≡ None → block_of bs k root ≡ None
place_none [] k root h = refl
place_none (b ∷ bs) k root h =
    elim (same_kind b.kind k && b.root == root) as (λ (t : Bool). cond t (Some 0) (option_map (λ q. q + 1) (place_of bs k root)) ≡ None → cond t (Some b) (block_of bs k root) ≡ None) [
      | true ↦ (λ e. absurd (let no_place : Some 0 ≡ None = e in cc))
      | false ↦ (λ e. place_none bs k root (no_later_place (place_of bs k root) e))
    ]
    h

-- no block before its place
pub new_at : (bs : List Block) (k : BlockKind) (root i p : ℕ) → place_of bs k root ≡ Some p → i ≤ p → block_of (take i bs) k root ≡ None
new_at bs k root zero p h le = refl
new_at [] k root (suc i) p h le = refl
new_at (b ∷ bs) k root (suc i) p h le =
    elim (same_kind b.kind k && b.root == root) as (λ (t : Bool). cond t (Some 0) (option_map (λ q. q + 1) (place_of bs k root)) ≡ Some p → cond t (Some b) (block_of (take i bs) k root) ≡ None) [
      | true ↦ (λ e. absurd (let place : 0 ≡ p = cc in omega arith))
      | false ↦ (λ e. let later : IsPlaceAfter (place_of bs k root) p = later_place (place_of bs k root) p e in let next = later.next in new_at bs k root i later.place later.is (omega arith))
    ]
    h

pub old_at : (bs : List Block) (k : BlockKind) (root i p : ℕ) → place_of bs k root ≡ Some p → p < i → block_of (take i bs) k root ≡ None → ⊥
old_at bs k root zero p h lt none = omega arith
old_at [] k root (suc i) p h lt none = let e : None ≡ Some p = h in cc
old_at (b ∷ bs) k root (suc i) p h lt none =
    elim (same_kind b.kind k && b.root == root) as (λ (t : Bool). cond t (Some 0) (option_map (λ q. q + 1) (place_of bs k root)) ≡ Some p → cond t (Some b) (block_of (take i bs) k root) ≡ None → ⊥) [
      | true ↦ (λ e n. let both : Some b ≡ None = n in cc)
      | false ↦ (λ e n. let later : IsPlaceAfter (place_of bs k root) p = later_place (place_of bs k root) p e in let next = later.next in old_at bs k root i later.place later.is (omega arith) n)
    ]
    h none

pub new_everywhere : (bs : List Block) (k : BlockKind) (root i : ℕ) → place_of bs k root ≡ None → block_of (take i bs) k root ≡ None
new_everywhere bs k root zero h = refl
new_everywhere [] k root (suc i) h = refl
new_everywhere (b ∷ bs) k root (suc i) h =
    elim (same_kind b.kind k && b.root == root) as (λ (t : Bool). cond t (Some 0) (option_map (λ q. q + 1) (place_of bs k root)) ≡ None → cond t (Some b) (block_of (take i bs) k root) ≡ None) [
      | true ↦ (λ e. absurd (let no_place : Some 0 ≡ None = e in cc))
      | false ↦ (λ e. new_everywhere bs k root i (no_later_place (place_of bs k root) e))
    ]
    h

pub place_inside : (bs : List Block) (k : BlockKind) (root p : ℕ) → place_of bs k root ≡ Some p → p < length bs
place_inside bs k root p h = let found : IsBlockAt bs p (block_of bs k root) = place_found bs k root p h in slice_get_within bs p found.block found.at

pub block_there : (bs : List Block) (k : BlockKind) (root p : ℕ) (b : Block) → place_of bs k root ≡ Some p → b ≡ get_or bs p b → block_of bs k root ≡ Some b
block_there bs k root p b h is =
    let found : IsBlockAt bs p (block_of bs k root) = place_found bs k root p h in
    found.is ∙ ap (λ (x : Block). Some x) (sym (is ∙ get_or_from_slice_get bs p found.block b found.at))
