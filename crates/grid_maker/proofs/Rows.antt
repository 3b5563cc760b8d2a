-- Arcs from a generator, one list of ends after another.
use Rattle.std.proofs.Common.{◌≡◌, ℕ, zero, suc, ◌+◌, ◌*◌, ◌≤◌, List, [], ◌∷◌, ◌++◌, refl, sym, ap, ◌∙◌, subst, append_assoc, add-zero, add-one, zero-add, arith}
use Rattle.std.proofs.lemmas.List.{append-nil}
use Rattle.std.specs.List.{flat_map, range_with_len}
use Rattle.std.proofs.lemmas.List.Concat.{flat_map-append}
use Rattle.rand_xoshiro.specs.SplitMix64.{mix_u64}
use Rattle.road_model.specs.declared.rows.ArcRow.{ArcRow}
use Rattle.grid_maker.specs.declared.streets.Streets.{Streets}
use Rattle.grid_maker.specs.Grid.{grid, grid_ends, row_of, rows_from, state_after}
use Rattle.grid_maker.specs.Making.{AddsStreets, IsEmpty}

pub rows_from-append : (x : ℕ) (ends more : List (ℕ × ℕ)) → rows_from x (ends ++ more) ≡ rows_from x ends ++ rows_from (state_after x ends) more
unfolding rows_from state_after
rows_from-append x [] more = refl
rows_from-append x (e ∷ ends) more = ap (λ (rows : List ArcRow). row_of e (mix_u64 x).0 ∷ rows) (rows_from-append (mix_u64 x).1 ends more)

pub state_after-append : (x : ℕ) (ends more : List (ℕ × ℕ)) → state_after x (ends ++ more) ≡ state_after (state_after x ends) more
unfolding state_after
state_after-append x [] more = refl
state_after-append x (e ∷ ends) more = state_after-append (mix_u64 x).1 ends more

pub adds_none : (a : Streets) → AddsStreets a a []
unfolding rows_from state_after
adds_none a = record { rows = sym (append-nil a.arcs.items); beyond = refl }

pub adds_nothing : (a : Streets) (ends : List (ℕ × ℕ)) → ends ≡ [] → AddsStreets a a ends
adds_nothing a ends none = subst (λ (es : List (ℕ × ℕ)). AddsStreets a a es) (sym none) (adds_none a)

-- one arc takes one word
pub adds_one : (a b : Streets) (e : ℕ × ℕ) (word : ℕ) → (word, b.words) ≡ mix_u64 a.words → b.arcs.items ≡ a.arcs.items ++ row_of e word ∷ [] → AddsStreets a b (e ∷ [])
unfolding rows_from state_after
adds_one a b e word step pushed = record {
  rows = pushed ∙ ap (λ (p : ℕ × ℕ). a.arcs.items ++ row_of e p.0 ∷ []) step;
  beyond = ap (λ (p : ℕ × ℕ). p.1) step;
}

pub adds_then : (a b c : Streets) (ends more : List (ℕ × ℕ)) → AddsStreets a b ends → AddsStreets b c more → AddsStreets a c (ends ++ more)
adds_then a b c ends more first then = record {
  rows =
      then.rows
      ∙ ap (λ (rows : List ArcRow). rows ++ rows_from b.words more) first.rows
      ∙ append_assoc a.arcs.items (rows_from a.words ends) (rows_from b.words more)
      ∙ ap (λ (x : ℕ). a.arcs.items ++ (rows_from a.words ends ++ rows_from x more)) first.beyond
      ∙ ap (λ (rows : List ArcRow). a.arcs.items ++ rows) (sym (rows_from-append a.words ends more));
  beyond = then.beyond ∙ ap (λ (x : ℕ). state_after x more) first.beyond ∙ sym (state_after-append a.words ends more);
}

range_more : (a n : ℕ) → range_with_len a (suc n) ≡ range_with_len a n ++ (a + n) ∷ []
range_more a zero = ap (λ (k : ℕ). k ∷ []) (sym (add-zero a))
range_more a (suc n) =
    let same : a + 1 + n ≡ a + suc n = omega arith in
    ap (λ (ks : List ℕ). a ∷ ks) (range_more (a + 1) n ∙ ap (λ (k : ℕ). range_with_len (a + 1) n ++ k ∷ []) same)

flat_map_more : (f : ℕ → List (ℕ × ℕ)) (n : ℕ) → flat_map f (range_with_len 0 (n + 1)) ≡ flat_map f (range_with_len 0 n) ++ f n
flat_map_more f n =
    ap (λ (k : ℕ). flat_map f (range_with_len 0 k)) (add-one n)
    ∙ ap (flat_map f) (range_more 0 n)
    ∙ flat_map-append f (range_with_len 0 n) ((0 + n) ∷ [])
    ∙ ap (λ (ends : List (ℕ × ℕ)). flat_map f (range_with_len 0 n) ++ ends) (append-nil (f (0 + n)) ∙ ap f (zero-add n))

-- one more of the pieces that a loop adds
pub adds_more : (f : ℕ → List (ℕ × ℕ)) (n : ℕ) (a b c : Streets) → AddsStreets a b (flat_map f (range_with_len 0 n)) → AddsStreets b c (f n) → AddsStreets a c (flat_map f (range_with_len 0 (n + 1)))
adds_more f n a b c before last =
    subst (λ (ends : List (ℕ × ℕ)). AddsStreets a c ends) (sym (flat_map_more f n)) (adds_then a b c (flat_map f (range_with_len 0 n)) (f n) before last)

-- all of them, at the end of the loop
pub adds_all : (f : ℕ → List (ℕ × ℕ)) (n m : ℕ) (a b : Streets) → n ≤ m → m ≤ n → AddsStreets a b (flat_map f (range_with_len 0 n)) → AddsStreets a b (flat_map f (range_with_len 0 m))
adds_all f n m a b low high =
    let same : n ≡ m = omega arith in
    subst (λ (k : ℕ). AddsStreets a b (flat_map f (range_with_len 0 k))) same

-- the streets of a whole grid, added to none, are its arcs
pub grid_made : (seed w h n : ℕ) (a b : Streets) (rows : List ArcRow) → IsEmpty seed a → AddsStreets a b (grid_ends w h) → n ≡ w * h → rows ≡ b.arcs.items → record { vertices = n; arcs = rows } ≡ grid seed w h
unfolding grid
grid_made seed w h n a b rows empty added counted listed =
    let rows_are : rows ≡ rows_from seed (grid_ends w h) =
    listed ∙ added.rows
    ∙ ap (λ (items : List ArcRow). items ++ rows_from a.words (grid_ends w h)) empty.no_arc
    ∙ ap (λ (x : ℕ). rows_from x (grid_ends w h)) empty.begun
    in
    rw (counted, rows_are) refl

pub grid_same : (seed v h w k : ℕ) → v ≡ w → h ≡ k → grid seed v h ≡ grid seed w k
grid_same seed v h w k widths heights = ap (λ (n : ℕ). grid seed n h) widths ∙ ap (grid seed w) heights
