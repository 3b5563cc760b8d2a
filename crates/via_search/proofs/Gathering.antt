-- What is gathered from a list, one answer for each element.
use Rattle.std.proofs.Common.{◌≡◌, ℕ, ◌+◌, ◌<◌, zero, suc, List, [], ◌∷◌, ◌++◌, length, get_or, take, Option, Some, None, All, AllPairs, Contains, refl, sym, ap, ◌∙◌, subst, arith}
use Rattle.std.specs.List.{cons_option}
use Rattle.std.proofs.lemmas.List.{append-nil}
use Rattle.std.proofs.lemmas.List.Elements.{All-nil, All-cons}
use Rattle.std.proofs.lemmas.List.Kept.{AllPairs-cons}
use Rattle.std.proofs.lemmas.Grind.{take_at_read}
use Rattle.via_search.specs.Sifting.{Gathers}

onto_both : {B : Type 0} (found : Option B) (ys zs : List B) → cons_option found ys ++ zs ≡ cons_option found (ys ++ zs)
onto_both None ys zs = refl
onto_both (Some y) ys zs = refl

module _ {A B : Type 0} (F : A → Option B → Type 0) where
  pub gathers_append : (xs us : List A) (ys zs : List B) → Gathers F xs ys → Gathers F us zs → Gathers F (xs ++ us) (ys ++ zs)
  gathers_append [] us ys zs h k = subst (λ (l : List B). Gathers F us (l ++ zs)) (sym h) k
  gathers_append (x ∷ xs) us ys zs h k =
      (h.0, h.1 ++ zs, h.2, gathers_append xs us h.1 zs h.3 k, ap (λ (l : List B). l ++ zs) h.4 ∙ onto_both h.0 h.1 zs)

  pub gathers_one : (x : A) (found : Option B) → F x found → Gathers F (x ∷ []) (cons_option found [])
  gathers_one x found is = (found, [], is, refl, refl)

  -- one more element of a list
  pub gathers_none : (xs : List A) (i : ℕ) (x : A) (ys now : List B) (found : Option B) → i < length xs → x ≡ get_or xs i x → Gathers F (take i xs) ys → F x found → found ≡ None → now ≡ ys → Gathers F (take (i + 1) xs) now
  gathers_none xs i x ys now found lt at h is none same =
      let own : F x None = subst (F x) none is in
      let more : take (i + 1) xs ≡ take i xs ++ x ∷ [] = (take_at_read xs i x lt).1 ∙ ap (λ (z : A). take i xs ++ z ∷ []) (sym at) in
      let all : Gathers F (take i xs ++ x ∷ []) (ys ++ []) = gathers_append (take i xs) (x ∷ []) ys [] h (gathers_one x None own) in
      subst (λ (l : List A). Gathers F l now) (sym more)
      (subst (λ (l : List B). Gathers F (take i xs ++ x ∷ []) l) (append-nil ys ∙ sym same) all)

  pub gathers_some : (xs : List A) (i : ℕ) (x : A) (ys now : List B) (found : Option B) (y : B) → i < length xs → x ≡ get_or xs i x → Gathers F (take i xs) ys → F x found → found ≡ Some y → now ≡ ys ++ y ∷ [] → Gathers F (take (i + 1) xs) now
  gathers_some xs i x ys now found y lt at h is some same =
      let own : F x (Some y) = subst (F x) some is in
      let more : take (i + 1) xs ≡ take i xs ++ x ∷ [] = (take_at_read xs i x lt).1 ∙ ap (λ (z : A). take i xs ++ z ∷ []) (sym at) in
      let all : Gathers F (take i xs ++ x ∷ []) (ys ++ y ∷ []) = gathers_append (take i xs) (x ∷ []) ys (y ∷ []) h (gathers_one x (Some y) own) in
      subst (λ (l : List A). Gathers F l now) (sym more)
      (subst (λ (l : List B). Gathers F (take i xs ++ x ∷ []) l) (sym same) all)

  cons_all : (P : B → Type 0) (x : A) (found : Option B) (rest : List B) → ((y : B) → F x (Some y) → P y) → F x found → All P rest → All P (cons_option found rest)
  cons_all P x None rest to is all = all
  cons_all P x (Some y) rest to is all = All-cons P y rest (to y is) all

  pub gathers_all : (Q : A → Type 0) (P : B → Type 0) → ((x : A) (y : B) → Q x → F x (Some y) → P y) → (xs : List A) (ys : List B) → All Q xs → Gathers F xs ys → All P ys
  gathers_all Q P to [] ys all h = subst (λ (l : List B). All P l) (sym h) (All-nil P)
  gathers_all Q P to (x ∷ xs) ys all h =
      subst (λ (l : List B). All P l) (sym h.4)
      (cons_all P x h.0 h.1 (λ y is. to x y (all zero x (omega arith)) is) h.2
      (gathers_all Q P to xs h.1 (λ k d lt. all (suc k) d (omega arith)) h.3))

  cons_rising : (b : B → ℕ) (x : A) (found : Option B) (rest : List B) → ((y : B) → F x (Some y) → All (λ (r : B). b y < b r) rest) → F x found → AllPairs (λ (y z : B). b y < b z) rest → AllPairs (λ (y z : B). b y < b z) (cons_option found rest)
  cons_rising b x None rest low is more = more
  cons_rising b x (Some y) rest low is more = AllPairs-cons (λ (y z : B). b y < b z) y rest (low y is) more

  pub gathers_rising : (a : A → ℕ) (b : B → ℕ) → ((x : A) (y : B) → F x (Some y) → b y ≡ a x) → (xs : List A) (ys : List B) → AllPairs (λ (x z : A). a x < a z) xs → Gathers F xs ys → AllPairs (λ (y z : B). b y < b z) ys
  gathers_rising a b same [] ys rising h =
      subst (λ (l : List B). AllPairs (λ (y z : B). b y < b z) l) (sym h)
      (λ i j d lt within. absurd (let none : j < 0 = within in omega arith))
  gathers_rising a b same (x ∷ xs) ys rising h =
      subst (λ (l : List B). AllPairs (λ (y z : B). b y < b z) l) (sym h.4)
      (cons_rising b x h.0 h.1
      (λ y is. gathers_all (λ (z : A). a x < a z) (λ (r : B). b y < b r) (λ z r lt own. omega (arith, same x y is, same z r own)) xs h.1
      (λ k d lt. rising zero (suc k) d (omega arith) (omega arith)) h.3)
      h.2
      (gathers_rising a b same xs h.1 (λ i j d lt within. rising (suc i) (suc j) d (omega arith) (omega arith)) h.3))

  later : (found : Option B) (rest : List B) (y : B) → Contains rest y → Contains (cons_option found rest) y
  later None rest y h = h
  later (Some x) rest y h = (suc h.0, omega (arith, h.1), h.2)

  here : (x : A) (found : Option B) (rest : List B) → F x found → (F x None → ⊥) → (y : B) × Contains (cons_option found rest) y × F x (Some y)
  here x None rest is some = absurd (some is)
  here x (Some y) rest is some = (y, (zero, omega arith, refl), is)

  every_at : (xs : List A) (ys : List B) (k : ℕ) (x : A) → Gathers F xs ys → k < length xs → get_or xs k x ≡ x → (F x None → ⊥) → (y : B) × Contains ys y × F x (Some y)
  every_at [] ys k x h lt is some = absurd (let none : k < 0 = lt in omega arith)
  every_at (z ∷ zs) ys zero x h lt is some =
      let own = here z h.0 h.1 h.2 (λ (e : F z None). some (subst (λ (w : A). F w None) is e)) in
      (own.0, subst (λ (l : List B). Contains l own.0) (sym h.4) own.1, subst (λ (w : A). F w (Some own.0)) is own.2)
  every_at (z ∷ zs) ys (suc k) x h lt is some =
      let own = every_at zs h.1 k x h.3 (omega (arith, lt)) is some in
      (own.0, subst (λ (l : List B). Contains l own.0) (sym h.4) (later h.0 h.1 own.0 own.1), own.2)

  pub gathers_every : (xs : List A) (ys : List B) (x : A) → Gathers F xs ys → Contains xs x → (F x None → ⊥) → (y : B) × Contains ys y × F x (Some y)
  gathers_every xs ys x h place some = every_at xs ys place.0 x h place.1 place.2 some
