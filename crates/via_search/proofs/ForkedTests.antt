-- What the pieces of a list give together.
use Rattle.std.proofs.Common.{◌≡◌, ℕ, ◌+◌, ◌*◌, ◌/◌, ◌%◌, ◌<◌, ◌≤◌, min, suc, List, [], ◌∷◌, ◌++◌, length, get_or, set, take, drop, map, All, refl, sym, ap, ◌∙◌, subst, arith}
use Rattle.std.specs.List.{AllZip, sum_by}
use Rattle.std.proofs.Math.Nat.{div-mul-le_self, mul-le-mul_left}
use Rattle.std.proofs.lemmas.Nat.{div-add-mod'}
use Rattle.std.proofs.lemmas.List.{map-append, take-append-drop}
use Rattle.std.specs.Result.{IfOk}
use Rattle.std.specs.Prelude.{Result, Ok, Err}
use Rattle.std.proofs.lemmas.List.Elements.{All-take, All-drop}
use Rattle.std.proofs.lemmas.List.Sums.{sum_by-append}
use Rattle.road_model.specs.Graph.{Graph}
use Rattle.road_model.specs.Dist.{HaveSameDist}
use Rattle.via_search.specs.declared.sifting.Sifted.{Sifted}
use Rattle.via_search.specs.Settings.{Givens}
use Rattle.via_search.specs.Judging.{StaysCounted}
use Rattle.via_search.specs.Sifting.{IsSifted, IsPut, ArePut, AsksForAll}
use Rattle.road_model.specs.declared.answer.Route.{Route}
use Rattle.via_search.proofs.Gathering.{gathers_append}
use Rattle.via_search.specs.Forking.{CanTest, HaveTested, StayCounted}

zip_append : {A B : Type 0} (R : A → B → Type 0) (xs us : List A) (ys vs : List B) → AllZip R xs ys → AllZip R us vs → AllZip R (xs ++ us) (ys ++ vs)
zip_append R [] us [] vs h k = k
zip_append R [] us (y ∷ ys) vs h k = absurd h
zip_append R (x ∷ xs) us [] vs h k = absurd h
zip_append R (x ∷ xs) us (y ∷ ys) vs h k = (h.0, zip_append R xs us ys vs h.1 k)

pub stay_same : {T : Type 0} (asked : T → ℕ) (os : List T) → StayCounted asked os os
stay_same asked [] = tt
stay_same asked (o ∷ os) = ((λ lt. (omega arith, lt)), stay_same asked os)

-- a first share of equal parts
pub share_fits : (total low count : ℕ) → low ≤ count → total / count * low ≤ total
share_fits total low count le = omega (arith, mul-le-mul_left (total / count) le, div-mul-le_self total count)

pub share_inside : (total low count : ℕ) → low ≤ count → total / count * low + min (total % count) low ≤ total
share_inside total low count le = omega (arith, mul-le-mul_left (total / count) le, div-add-mod' total count)

pub asks_both : (x : Givens) (ss zs : List Sifted) (a b c d : ℕ) → AsksForAll x ss a b → AsksForAll x zs c d → AsksForAll x (ss ++ zs) (a + c) (b + d)
asks_both x ss zs a b c d h k f each =
    omega (arith, h f each, k f each, sum_by-append (λ (s : Sifted). f s.plateau.least) ss zs)

-- the routes of two pieces, one after the other
pub put_both : {E : Type 0} (x : Givens) (ss zs : List Sifted) (rs qs : List Route) (r : Result (List Route) E) → ArePut x ss rs → ArePut x zs qs → IfOk r (λ all. all ≡ rs ++ qs) → IfOk r (ArePut x (ss ++ zs))
put_both x ss zs rs qs (Ok all) h k same =
    subst (λ (l : List Route). ArePut x (ss ++ zs) l) (sym same) (gathers_append (IsPut x) ss zs rs qs h k)
put_both x ss zs rs qs (Err e) h k none = none

module _ {T : Type 0} (graph : T → Graph) where
  -- one oracle, to which all are put
  pub only_oracle : (x : Givens) (ss : List Sifted) (part : ℕ) (os : List T) (d : T) → CanTest graph x ss part os → HaveSameDist x.graph (graph (get_or os 0 d))
  only_oracle x ss part os d h = h.same 0 d h.some

  pub can_left : (x : Givens) (ss near : List Sifted) (part low : ℕ) (os left : List T) → CanTest graph x ss part os → (cut : ℕ) → near ≡ take cut ss → left ≡ take low os → length left ≡ low → 0 < low → low < length os → CanTest graph x near part left
  can_left x ss near part low os left h cut near_is left_is count some less =
      record {
        some = omega arith;
        few = omega (arith, h.few);
        same = subst (λ (l : List T). All (λ (o : T). HaveSameDist x.graph (graph o)) l) (sym left_is) (All-take (λ (o : T). HaveSameDist x.graph (graph o)) low os h.same);
        bound = h.bound;
        sifted = subst (λ (l : List Sifted). All (IsSifted x) l) (sym near_is) (All-take (IsSifted x) cut ss h.sifted);
      }

  pub can_right : (x : Givens) (ss far : List Sifted) (part low : ℕ) (os right : List T) → CanTest graph x ss part os → (cut : ℕ) → far ≡ drop cut ss → right ≡ drop low os → length right + low ≡ length os → low < length os → CanTest graph x far (part + low) right
  can_right x ss far part low os right h cut far_is right_is count less =
      record {
        some = omega arith;
        few = omega (arith, h.few);
        same = subst (λ (l : List T). All (λ (o : T). HaveSameDist x.graph (graph o)) l) (sym right_is) (All-drop (λ (o : T). HaveSameDist x.graph (graph o)) low os h.same);
        bound = h.bound;
        sifted = subst (λ (l : List Sifted). All (IsSifted x) l) (sym far_is) (All-drop (IsSifted x) cut ss h.sifted);
      }

  module _ (asked : T → ℕ) where
    pub tested_one : (x : Givens) (ss : List Sifted) (os : List T) (o new : T) → length os ≡ 1 → o ≡ get_or os 0 o → graph new ≡ graph o → StaysCounted (asked o) (asked new) → AsksForAll x ss (asked o) (asked new) → HaveTested graph asked x ss os (set os 0 new)
    tested_one x ss [] o new one at same counted asks = absurd (let none : 0 ≡ 1 = one in omega arith)
    tested_one x ss (p ∷ []) o new one at same counted asks =
        record {
          same = ap (λ (g : Graph). g ∷ []) (same ∙ ap graph at);
          counted = (subst (λ (y : T). StaysCounted (asked y) (asked new)) at counted, tt);
          asks = (λ f each. omega (arith, asks f each, ap asked at));
        }
    tested_one x ss (p ∷ r ∷ os) o new one at same counted asks = absurd (let none : suc (suc (length os)) ≡ 1 = one in omega arith)

    pub tested_nothing : (x : Givens) (ss : List Sifted) (os : List T) → HaveTested graph asked x ss os os
    tested_nothing x ss os = record { same = refl; counted = stay_same asked os; asks = (λ f each. omega arith) }

    pub tested_both : (x : Givens) (ss zs : List Sifted) (os ps ns ms : List T) → HaveTested graph asked x ss os ns → HaveTested graph asked x zs ps ms → HaveTested graph asked x (ss ++ zs) (os ++ ps) (ns ++ ms)
    tested_both x ss zs os ps ns ms h k =
        record {
          same = map-append graph ns ms ∙ (ap (λ (l : List Graph). l ++ map graph ms) h.same ∙ (ap (λ (l : List Graph). map graph os ++ l) k.same ∙ sym (map-append graph os ps)));
          counted = zip_append (λ a b. StaysCounted (asked a) (asked b)) os ps ns ms h.counted k.counted;
          asks = (λ f each. omega (arith, asks_both x ss zs (sum_by asked os) (sum_by asked ns) (sum_by asked ps) (sum_by asked ms) h.asks k.asks f each, sum_by-append asked os ps, sum_by-append asked ns ms));
        }

    pub tested_halves : (x : Givens) (ss near far : List Sifted) (cut : ℕ) (os left right ns ms : List T) → near ≡ take cut ss → far ≡ drop cut ss → os ≡ left ++ right → HaveTested graph asked x near left ns → HaveTested graph asked x far right ms → HaveTested graph asked x ss os (ns ++ ms)
    tested_halves x ss near far cut os left right ns ms near_is far_is os_is h k =
        let whole : near ++ far ≡ ss = ap (λ (l : List Sifted). l ++ far) near_is ∙ (ap (λ (l : List Sifted). take cut ss ++ l) far_is ∙ take-append-drop cut ss) in
        subst (λ (l : List T). HaveTested graph asked x ss l (ns ++ ms)) (sym os_is)
        (subst (λ (l : List Sifted). HaveTested graph asked x l (left ++ right) (ns ++ ms)) whole (tested_both x near far left right ns ms h k))
