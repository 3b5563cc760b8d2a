-- The near vertices, by a test, and as a list.
use Rattle.std.proofs.Common.{◌≡◌, ◌≢◌, ◌↔◌, ℕ, ◌+◌, ◌*◌, ◌<◌, ◌≤◌, Bool, true, false, cond, List, [], ◌∷◌, ◌++◌, length, get_or, take, map, Option, Some, None, Contains, refl, sym, ap, ◌∙◌, subst, arith, ⊎_elim}
use Rattle.std.specs.List.{filter}
use Rattle.std.proofs.Math.Dec.{leb}
use Rattle.std.proofs.lemmas.Bool.{leb-true, le-leb, cases_eq, cond-true, cond-false, false_from_ne_true}
use Rattle.std.proofs.lemmas.List.{append-nil, get_or-map, take_all, length-map}
use Rattle.std.proofs.lemmas.List.Elements.{All-contains, filter_passes, filter_more, Contains-append_right}
use Rattle.std.proofs.lemmas.List.Kept.{IsStrictlyIncreasing-filter}
use Rattle.certificate_text.specs.declared.certificate.BlockRow.{BlockRow}
use Rattle.recheck.specs.Rows.{row_of}
use Rattle.recheck.specs.Paths.{Ground, IsNear}
use Rattle.recheck.specs.Standing.{IsRising}
use Rattle.recheck.specs.Nears.{AreNears}
use Rattle.recheck.proofs.RowLookups.{row_of_later}

abbrev pub is_low : Ground → Option BlockRow → Option BlockRow → Bool
is_low o None b = false
is_low o (Some a) None = false
is_low o (Some a) (Some b) = leb ((a.label + b.label) * o.query.epsilon.den) ((o.query.epsilon.den + o.query.epsilon.num) * o.best)

abbrev pub nears : Ground → ℕ → Bool
nears o v = is_low o (row_of o.from_rows v) (row_of o.to_rows v)

near_of_low : (o : Ground) (v : ℕ) (a b : Option BlockRow) → row_of o.from_rows v ≡ a → row_of o.to_rows v ≡ b → is_low o a b ≡ true → IsNear o v
near_of_low o v None b is_near is_far low = absurd (let e : false ≡ true = low in cc)
near_of_low o v (Some a) None is_near is_far low = absurd (let e : false ≡ true = low in cc)
near_of_low o v (Some a) (Some b) is_near is_far low = record { near = a; far = b; is_near = is_near; is_far = is_far; low = leb-true _ _ low }

pub nears_tells : (o : Ground) (v : ℕ) → (nears o v ≡ true) ↔ IsNear o v
nears_tells o v = (
  near_of_low o v (row_of o.from_rows v) (row_of o.to_rows v) refl refl,
  (λ h. ap (λ (a : Option BlockRow). is_low o a (row_of o.to_rows v)) h.is_near ∙ ap (λ (b : Option BlockRow). is_low o (Some h.near) b) h.is_far ∙ le-leb _ _ h.low),
)

abbrev pub vertices_of : List BlockRow → List ℕ
vertices_of rows = map (λ (r : BlockRow). r.vertex) rows

every_near : (p : ℕ → Bool) (rows : List BlockRow) (v : ℕ) (r : BlockRow) → row_of rows v ≡ Some r → p v ≡ true → Contains (filter p (map (λ (x : BlockRow). x.vertex) rows)) v
every_near p [] v r is low = absurd (let e : None ≡ Some r = is in cc)
every_near p (x ∷ xs) v r is low =
    let rest : List ℕ = filter p (map (λ (y : BlockRow). y.vertex) xs) in
    ⊎_elim
    (λ (same : x.vertex ≡ v).
    let here : Contains (x.vertex ∷ rest) v = (0, omega arith, same) in
    subst (λ (l : List ℕ). Contains l v) (sym (cond-true (p x.vertex) (x.vertex ∷ rest) rest (ap p same ∙ low))) here)
    (λ (other : x.vertex ≢ v).
    let later : Contains rest v = every_near p xs v r (sym (row_of_later x xs v other) ∙ is) low in
    elim (p x.vertex) as (λ (b : Bool). Contains (cond b (x.vertex ∷ rest) rest) v)
    [ true ↦ Contains-append_right (x.vertex ∷ []) rest v later | false ↦ later ])
    (cases_eq x.vertex v)

pub nears_more : (o : Ground) (rows : List BlockRow) (i v : ℕ) (d : BlockRow) → i < length rows → (get_or rows i d).vertex ≡ v → filter (nears o) (take (i + 1) (vertices_of rows)) ≡ filter (nears o) (take i (vertices_of rows)) ++ cond (nears o v) (v ∷ []) []
nears_more o rows i v d lt is =
    let at : get_or (vertices_of rows) i 0 ≡ v = get_or-map (λ (r : BlockRow). r.vertex) rows i d 0 lt ∙ is in
    let inside : i < length (vertices_of rows) = omega (arith, length-map rows (λ (r : BlockRow). r.vertex)) in
    subst (λ (n : ℕ). filter (nears o) (take (i + 1) (vertices_of rows)) ≡ filter (nears o) (take i (vertices_of rows)) ++ cond (nears o n) (n ∷ []) []) at (filter_more (nears o) (vertices_of rows) i 0 inside)

pub nears_pushed : (o : Ground) (rows : List BlockRow) (i v : ℕ) (d : BlockRow) (vs ws : List ℕ) → i < length rows → (get_or rows i d).vertex ≡ v → vs ≡ filter (nears o) (take i (vertices_of rows)) → IsNear o v → ws ≡ vs ++ v ∷ [] → ws ≡ filter (nears o) (take (i + 1) (vertices_of rows))
nears_pushed o rows i v d vs ws lt is so near more =
    more ∙ ap (λ (l : List ℕ). l ++ v ∷ []) so
    ∙ ap (λ (l : List ℕ). filter (nears o) (take i (vertices_of rows)) ++ l) (sym (cond-true (nears o v) (v ∷ []) [] ((nears_tells o v).1 near)))
    ∙ sym (nears_more o rows i v d lt is)

pub nears_skipped : (o : Ground) (rows : List BlockRow) (i v : ℕ) (d : BlockRow) (vs : List ℕ) → i < length rows → (get_or rows i d).vertex ≡ v → vs ≡ filter (nears o) (take i (vertices_of rows)) → (IsNear o v → ⊥) → vs ≡ filter (nears o) (take (i + 1) (vertices_of rows))
nears_skipped o rows i v d vs lt is so other =
    let no : nears o v ≡ false = false_from_ne_true (nears o v) (λ low. other ((nears_tells o v).0 low)) in
    so ∙ sym (append-nil (filter (nears o) (take i (vertices_of rows))))
    ∙ ap (λ (l : List ℕ). filter (nears o) (take i (vertices_of rows)) ++ l) (sym (cond-false (nears o v) (v ∷ []) [] no))
    ∙ sym (nears_more o rows i v d lt is)

pub AreNears-of : (o : Ground) (rows : List BlockRow) (vs : List ℕ) (i : ℕ) → rows ≡ o.from_rows → IsRising o.from_rows → length rows ≤ i → vs ≡ filter (nears o) (take i (vertices_of rows)) → AreNears o vs
AreNears-of o rows vs i same rising ge is =
    let whole : vs ≡ filter (nears o) (vertices_of o.from_rows) =
    is ∙ ap (λ (l : List ℕ). filter (nears o) l) (take_all i (vertices_of rows) (omega (arith, length-map rows (λ (r : BlockRow). r.vertex))))
    ∙ ap (λ (l : List BlockRow). filter (nears o) (vertices_of l)) same in
    subst (λ (l : List ℕ). AreNears o l) (sym whole) (record {
      each = (λ v. (
        (λ there. (nears_tells o v).0 (All-contains (λ x. nears o x ≡ true) (filter (nears o) (vertices_of o.from_rows)) v (filter_passes (nears o) (vertices_of o.from_rows)) there)),
        (λ near. every_near (nears o) o.from_rows v near.near near.is_near ((nears_tells o v).1 near)),
      ));
      rising = IsStrictlyIncreasing-filter (nears o) (vertices_of o.from_rows) rising;
    })
