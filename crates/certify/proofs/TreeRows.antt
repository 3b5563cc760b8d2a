-- The rows of a tree, one vertex after the other.
use Rattle.std.proofs.Common.{◌≡◌, ℕ, ◌<◌, ◌≤◌, ◌+◌, List, [], ◌∷◌, ◌++◌, length, get_or, take, map, reverse, Option, Some, None, Contains, refl, sym, ap, ◌∙◌, subst, arith, inl, inr, ⊎_elim}
use Rattle.std.specs.List.Sorted.{IsStrictlyIncreasing}
use Rattle.std.proofs.lemmas.List.{take_more, take_all, map-append, get_or-map, length-map, reverse-append}
use Rattle.std.proofs.lemmas.List.Elements.{All-nil, All-push, All-contains, Contains-get_or}
use Rattle.road_model.specs.Graph.{Graph, reversed}
use Rattle.road_model.specs.Dist.{IsDist}
use Rattle.road_model.specs.Canonical.{IsLast}
use Rattle.forward_star.proofs.Turned.{IsDist-reversed, IsDist-unreversed}
use Rattle.tree_search.specs.Ball.{IsWithin}
use Rattle.canonical_trees.specs.Trees.{Trees, IsInside, IsOutside, IsLabel, IsFromArc, IsToArc}
use Rattle.canonical_trees.proofs.Balls.{apart}
use Rattle.canonical_trees.proofs.Turned.{IsLast-reversed}
use Rattle.certificate_text.specs.declared.certificate.BlockKind.{BlockKind}
use Rattle.certificate_text.specs.declared.certificate.BlockKind.TheVariants as kind
use Rattle.certificate_text.specs.declared.certificate.BlockRow.{BlockRow}
use Rattle.certificate_text.specs.declared.certificate.Block.{Block}
use Rattle.recheck.specs.Rows.{toward, row_of, HasRow}
use Rattle.recheck.specs.Standing.{IsRising}
use Rattle.recheck.proofs.RowLookups.{row_of_rising}
use Rattle.certify.specs.Written.{IsTreeBlock}
use Rattle.certify.specs.Blocks.{IsRowFor, AreRows, AreRowsFrom, AreRowsTo}

-- one row

abbrev pub row_with : ℕ → ℕ → ℕ → BlockRow
row_with v label arc = record { vertex = v; label = label; arc = arc }

pub row_as : (h : Graph) (root : ℕ) (radius : Option ℕ) (v label arc n a : ℕ) → n ≡ v → a ≡ arc → IsRowFor h root radius v (row_with v label arc) → IsRowFor h root radius v (row_with n label a)
row_as h root radius v label arc n a same_vertex same_arc row =
    subst (λ (x : ℕ). IsRowFor h root radius v (row_with x label a)) (sym same_vertex) (subst (λ (x : ℕ). IsRowFor h root radius v (row_with v label x)) (sym same_arc) row)

pub from_last : (g : Graph) (radius : Option ℕ) (s v label arc : ℕ) → IsInside g radius s v → IsLabel g radius s v (Some label) → IsFromArc g radius s v (Some arc) → IsRowFor (reversed g) s radius v (row_with v label arc)
from_last g radius s v label arc inside labelled last =
    record {
      is_vertex = refl;
      own = record {
        dist = IsDist-reversed g s v (Some label) labelled.0;
        arc = inr (record {
          other = last.other;
          back = reverse last.prefix;
          path = subst (λ (p : List ℕ). IsLast (reversed g) v p s) (reverse-append last.prefix (arc ∷ [])) (IsLast-reversed g s v (last.prefix ++ arc ∷ []) last.path);
        });
      };
      within = labelled.1;
    }

pub from_root : (g : Graph) (radius : Option ℕ) (s v label : ℕ) → IsInside g radius s v → IsLabel g radius s v (Some label) → IsFromArc g radius s v None → IsRowFor (reversed g) s radius v (row_with v label 0)
from_root g radius s v label inside labelled none =
    record {
      is_vertex = refl;
      own = record {
        dist = IsDist-reversed g s v (Some label) labelled.0;
        arc = ⊎_elim
            (λ (same : v ≡ s). inl (same, refl))
            (λ (outside : IsOutside g radius s v). absurd (apart g radius s v inside outside))
            none;
      };
      within = labelled.1;
    }

pub to_first : (g : Graph) (radius : Option ℕ) (v t label arc : ℕ) → IsInside g radius v t → IsLabel g radius v t (Some label) → IsToArc g radius v t (Some arc) → IsRowFor g t radius v (row_with v label arc)
to_first g radius v t label arc inside labelled first =
    record {
      is_vertex = refl;
      own = record {
        dist = labelled.0;
        arc = inr (record { other = first.other; back = first.back; path = first.path });
      };
      within = labelled.1;
    }

pub to_root : (g : Graph) (radius : Option ℕ) (v t label : ℕ) → IsInside g radius v t → IsLabel g radius v t (Some label) → IsToArc g radius v t None → IsRowFor g t radius v (row_with v label 0)
to_root g radius v t label inside labelled none =
    record {
      is_vertex = refl;
      own = record {
        dist = labelled.0;
        arc = ⊎_elim
            (λ (same : v ≡ t). inl (same, refl))
            (λ (outside : IsOutside g radius v t). absurd (apart g radius v t inside outside))
            none;
      };
      within = labelled.1;
    }

-- rows in a row

pub rows_start : (h : Graph) (root : ℕ) (radius : Option ℕ) (vs : List ℕ) → AreRows h root radius (take 0 vs) []
rows_start h root radius vs = record { each = All-nil (λ (r : BlockRow). IsRowFor h root radius r.vertex r); vertices = refl }

pub rows_more : (h : Graph) (root : ℕ) (radius : Option ℕ) (vs : List ℕ) (i v : ℕ) (rows now : List BlockRow) (r : BlockRow) → i < length vs → v ≡ get_or vs i v → now ≡ rows ++ r ∷ [] → AreRows h root radius (take i vs) rows → IsRowFor h root radius v r → AreRows h root radius (take (i + 1) vs) now
rows_more h root radius vs i v rows now r lt is more before row =
    subst (λ (l : List BlockRow). AreRows h root radius (take (i + 1) vs) l) (sym more)
    (record {
      each = All-push (λ (x : BlockRow). IsRowFor h root radius x.vertex x) rows r before.each (subst (λ (n : ℕ). IsRowFor h root radius n r) (sym row.is_vertex) row);
      vertices = map-append (λ (x : BlockRow). x.vertex) rows (r ∷ [])
          ∙ ap (λ (l : List ℕ). l ++ r.vertex ∷ []) before.vertices
          ∙ ap (λ (n : ℕ). take i vs ++ n ∷ []) (row.is_vertex ∙ is)
          ∙ sym (take_more vs i v lt);
    })

pub rows_end : (h : Graph) (root : ℕ) (radius : Option ℕ) (vs : List ℕ) (i : ℕ) (rows : List BlockRow) → length vs ≤ i → AreRows h root radius (take i vs) rows → AreRows h root radius vs rows
rows_end h root radius vs i rows ge are = subst (λ (l : List ℕ). AreRows h root radius l rows) (take_all i vs ge) are

-- the block

HasRow-contained : (h : Graph) (root : ℕ) (radius : Option ℕ) (vs : List ℕ) (rows : List BlockRow) (v : ℕ) → AreRows h root radius vs rows → IsStrictlyIncreasing vs → Contains vs v → HasRow rows v
HasRow-contained h root radius vs rows v are rising has =
    let d : BlockRow = row_with 0 0 0 in
    let there : Contains (map (λ (r : BlockRow). r.vertex) rows) v = subst (λ (l : List ℕ). Contains l v) (sym are.vertices) has in
    let inside : there.0 < length rows = omega (arith, there.1, length-map rows (λ (r : BlockRow). r.vertex)) in
    let row : BlockRow = get_or rows there.0 d in
    let is : row.vertex ≡ v = sym (get_or-map (λ (r : BlockRow). r.vertex) rows there.0 d v inside) ∙ there.2 in
    let up : IsRising rows = subst (λ (l : List ℕ). IsStrictlyIncreasing l) (sym are.vertices) rising in
    let listed : Contains rows row = Contains-get_or rows there.0 d inside in
    record { row = row; is = subst (λ (n : ℕ). row_of rows n ≡ Some row) is (row_of_rising rows row up listed) }

pub tree_block : (g : Graph) (k : BlockKind) (root : ℕ) (radius : Option ℕ) (vs : List ℕ) (b : Block) → b.kind ≡ k → b.root ≡ root → b.radius ≡ radius → AreRows (toward k g) root radius vs b.rows → IsStrictlyIncreasing vs →
    ((v d : ℕ) → IsDist (toward k g) v root (Some d) → IsWithin radius d → Contains vs v) → IsTreeBlock g k root radius b
tree_block g k root radius vs b is_kind is_root is_radius are rising every =
    record {
      is_kind = is_kind;
      is_root = is_root;
      is_radius = is_radius;
      rising = subst (λ (l : List ℕ). IsStrictlyIncreasing l) (sym are.vertices) rising;
      each = (λ r there.
          let own = All-contains (λ (x : BlockRow). IsRowFor (toward k g) root radius x.vertex x) b.rows r are.each there in
          (own.own, own.within));
      every = (λ v d dist within. HasRow-contained (toward k g) root radius vs b.rows v are rising (every v d dist within));
    }

pub from_tree_block : (ts : Trees) (b : Block) (rows : List BlockRow) → b.kind ≡ kind.From → b.root ≡ ts.source → b.radius ≡ ts.radius → b.rows ≡ rows → AreRowsFrom ts rows → IsTreeBlock ts.graph kind.From ts.source ts.radius b
from_tree_block ts b rows is_kind is_root is_radius same are =
    tree_block ts.graph kind.From ts.source ts.radius are.members b is_kind is_root is_radius
    (subst (λ (l : List BlockRow). AreRows (reversed ts.graph) ts.source ts.radius are.members l) (sym same) are.are)
    are.inside.ascending
    (λ v d dist within. are.inside.every v (record { distance = d; dist = IsDist-unreversed ts.graph v ts.source (Some d) dist; within = within }))

pub to_tree_block : (ts : Trees) (b : Block) (rows : List BlockRow) → b.kind ≡ kind.To → b.root ≡ ts.target → b.radius ≡ ts.radius → b.rows ≡ rows → AreRowsTo ts rows → IsTreeBlock ts.graph kind.To ts.target ts.radius b
to_tree_block ts b rows is_kind is_root is_radius same are =
    tree_block ts.graph kind.To ts.target ts.radius are.members b is_kind is_root is_radius
    (subst (λ (l : List BlockRow). AreRows ts.graph ts.target ts.radius are.members l) (sym same) are.are)
    are.inside.ascending
    (λ v d dist within. are.inside.every v (record { distance = d; dist = dist; within = within }))
