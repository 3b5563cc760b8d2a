-- The walks that the arcs of rows give: how they go on, and that there is one at most.
use Rattle.std.proofs.Common.{◌≡◌, ◌≢◌, ℕ, ◌+◌, ◌<◌, ◌≤◌, ◌↔◌, List, [], ◌∷◌, ◌++◌, length, get_or, drop, reverse, Option, Some, None, refl, sym, ap, ◌∙◌, subst, arith, append_assoc}
use Rattle.std.proofs.lemmas.List.{append-nil, drop_more, drop_all}
use Rattle.road_model.specs.declared.rows.ArcRow.{ArcRow}
use Rattle.road_model.specs.Graph.{Graph, arc_at, IsGraph, reversed}
use Rattle.road_model.proofs.Walks.{IsArc-at}
use Rattle.certificate_text.specs.declared.certificate.BlockRow.{BlockRow}
use Rattle.recheck.specs.Rows.{row_of, HasRow, IsTightFor}
use Rattle.recheck.specs.Paths.{Ground, Follows, IsThrough}
use Rattle.recheck.specs.Steps.{IsStepDown, LeadsAlong, IsAlong}

pub step_is : (h : Graph) (rows : List BlockRow) (v : ℕ) (r : BlockRow) (x : ArcRow) → row_of rows v ≡ Some r → IsTightFor h rows r r.arc → arc_at h r.arc ≡ Some x → IsStepDown h rows v r.arc x
step_is h rows v r x is t at =
    let row : Some t.leads.arc ≡ Some x = sym t.leads.is ∙ at in
    let same : t.leads.arc ≡ x = cc in
    record {
      row = r;
      is = is;
      number = refl;
      arc = at;
      next = t.leads.next;
      beyond = subst (λ (y : ArcRow). row_of rows y.head ≡ Some t.leads.next) same t.leads.beyond;
      sum = subst (λ (y : ArcRow). t.leads.next.label + y.length ≡ r.label) same t.sum;
    }

-- a label, and 0 where there is no row
abbrev pub label_of : Option BlockRow → ℕ
label_of None = 0
label_of (Some r) = r.label

pub label_falls : (h : Graph) (rows : List BlockRow) (v a w : ℕ) (x : ArcRow) → IsGraph h → IsStepDown h rows v a x → w ≡ x.head → label_of (row_of rows w) < label_of (row_of rows v)
label_falls h rows v a w x sound step is =
    let one : 1 ≤ x.length = (IsArc-at h a x sound step.arc).positive in
    let here : label_of (row_of rows v) ≡ step.row.label = ap label_of step.is in
    let beyond : label_of (row_of rows w) ≡ step.next.label = ap (λ (n : ℕ). label_of (row_of rows n)) is ∙ ap label_of step.beyond in
    let sum : step.next.label + x.length ≡ step.row.label = step.sum in
    omega arith

-- the walk so far leads from v to a vertex with a row, and goes on as that vertex's walk does
pub record WalksTo (h : Graph) (rows : List BlockRow) (root v at : ℕ) (walk : List ℕ) : Type 0 where
  pub here : HasRow rows at
  pub on : (rest : List ℕ) → Follows h rows root at rest → Follows h rows root v (walk ++ rest)

pub WalksTo-start : (h : Graph) (rows : List BlockRow) (root v : ℕ) → HasRow rows v → WalksTo h rows root v v []
WalksTo-start h rows root v here = record { here = here; on = (λ rest f. f) }

pub WalksTo-more : (h : Graph) (rows : List BlockRow) (root v at a w : ℕ) (walk more : List ℕ) (x : ArcRow) → WalksTo h rows root v at walk → IsStepDown h rows at a x → at ≢ root → w ≡ x.head → more ≡ walk ++ a ∷ [] → WalksTo h rows root v w more
WalksTo-more h rows root v at a w walk more x t step other is longer =
    record {
      here = record { row = step.next; is = ap (λ (n : ℕ). row_of rows n) is ∙ step.beyond };
      on = (λ rest f.
          let further : Follows h rows root at (a ∷ rest) = (step.row, x, step.is, step.number, other, step.arc, subst (λ (n : ℕ). Follows h rows root n rest) is f) in
          subst (λ (l : List ℕ). Follows h rows root v l) (sym (ap (λ (l : List ℕ). l ++ rest) longer ∙ append_assoc walk (a ∷ []) rest)) (t.on (a ∷ rest) further));
    }

pub WalksTo-end : (h : Graph) (rows : List BlockRow) (root v at : ℕ) (walk : List ℕ) → WalksTo h rows root v at walk → at ≡ root → Follows h rows root v walk
WalksTo-end h rows root v at walk t is = subst (λ (l : List ℕ). Follows h rows root v l) (append-nil walk) (t.on [] is)

-- what is left to follow, after i arcs
pub record IsLeft (h : Graph) (rows : List BlockRow) (root v : ℕ) (p : List ℕ) (i at : ℕ) : Type 0 where
  pub on : Follows h rows root at (drop i p) → Follows h rows root v p
  pub off : Follows h rows root v p → Follows h rows root at (drop i p)

along_of : (h : Graph) (rows : List BlockRow) (root v a : ℕ) (p : List ℕ) (f : Follows h rows root v (a ∷ p)) → LeadsAlong h rows root v a f.1.head
along_of h rows root v a p f = record { row = f.0; is = f.2; number = f.3; other = f.4; arc = f.1; found = f.5; end = refl }

pub along_one : (h : Graph) (rows : List BlockRow) (root v a x y : ℕ) → LeadsAlong h rows root v a x → LeadsAlong h rows root v a y → x ≡ y
along_one h rows root v a x y s t =
    let row : Some s.arc ≡ Some t.arc = sym s.found ∙ t.found in
    let same : s.arc ≡ t.arc = cc in
    sym s.end ∙ ap (λ (r : ArcRow). r.head) same ∙ t.end

further_on : (h : Graph) (rows : List BlockRow) (root v a head : ℕ) (p : List ℕ) → LeadsAlong h rows root v a head → Follows h rows root head p → Follows h rows root v (a ∷ p)
further_on h rows root v a head p s f = (s.row, s.arc, s.is, s.number, s.other, s.found, subst (λ (n : ℕ). Follows h rows root n p) (sym s.end) f)

further_off : (h : Graph) (rows : List BlockRow) (root v a head : ℕ) (p : List ℕ) → LeadsAlong h rows root v a head → Follows h rows root v (a ∷ p) → Follows h rows root head p
further_off h rows root v a head p s f = subst (λ (n : ℕ). Follows h rows root n p) (along_one h rows root v a f.1.head head (along_of h rows root v a p f) s) f.6

pub IsLeft-more : (h : Graph) (rows : List BlockRow) (root v at head : ℕ) (p : List ℕ) (i a : ℕ) → IsLeft h rows root v p i at → i < length p → a ≡ get_or p i 0 → LeadsAlong h rows root at a head → IsLeft h rows root v p (i + 1) head
IsLeft-more h rows root v at head p i a t lt is s =
    let split : drop i p ≡ a ∷ drop (i + 1) p = drop_more p i 0 lt ∙ ap (λ (n : ℕ). n ∷ drop (i + 1) p) (sym is) in
    record {
      on = (λ f. t.on (subst (λ (l : List ℕ). Follows h rows root at l) (sym split) (further_on h rows root at a head (drop (i + 1) p) s f)));
      off = (λ f. further_off h rows root at a head (drop (i + 1) p) s (subst (λ (l : List ℕ). Follows h rows root at l) split (t.off f)));
    }

pub IsLeft-none : (h : Graph) (rows : List BlockRow) (root v at : ℕ) (p : List ℕ) (i a : ℕ) → IsLeft h rows root v p i at → i < length p → a ≡ get_or p i 0 → IsAlong h rows root at a None → Follows h rows root v p → ⊥
IsLeft-none h rows root v at p i a t lt is none f =
    let split : drop i p ≡ a ∷ drop (i + 1) p = drop_more p i 0 lt ∙ ap (λ (n : ℕ). n ∷ drop (i + 1) p) (sym is) in
    let rest : Follows h rows root at (a ∷ drop (i + 1) p) = subst (λ (l : List ℕ). Follows h rows root at l) split (t.off f) in
    none rest.1.head (along_of h rows root at a (drop (i + 1) p) rest)

pub IsLeft-end : (h : Graph) (rows : List BlockRow) (root v at : ℕ) (p : List ℕ) (i : ℕ) → IsLeft h rows root v p i at → length p ≤ i → (at ≡ root) ↔ Follows h rows root v p
IsLeft-end h rows root v at p i t ge =
    let done : drop i p ≡ [] = drop_all i p ge in (
      (λ is. t.on (subst (λ (l : List ℕ). Follows h rows root at l) (sym done) is)),
      (λ f. subst (λ (l : List ℕ). Follows h rows root at l) done (t.off f)),
    )

-- there is one walk at most
pub Follows-unique : (h : Graph) (rows : List BlockRow) (root v : ℕ) (p q : List ℕ) → Follows h rows root v p → Follows h rows root v q → p ≡ q
Follows-unique h rows root v [] [] f k = refl
Follows-unique h rows root v [] (b ∷ q) f k = absurd (k.4 f)
Follows-unique h rows root v (a ∷ p) [] f k = absurd (f.4 k)
Follows-unique h rows root v (a ∷ p) (b ∷ q) f k =
    let row : Some f.0 ≡ Some k.0 = sym f.2 ∙ k.2 in
    let same : f.0 ≡ k.0 = cc in
    let number : a ≡ b = sym f.3 ∙ ap (λ (r : BlockRow). r.arc) same ∙ k.3 in
    let arc : Some f.1 ≡ Some k.1 = sym f.5 ∙ ap (λ (n : ℕ). arc_at h n) number ∙ k.5 in
    let found : f.1 ≡ k.1 = cc in
    let rest : p ≡ q = Follows-unique h rows root f.1.head p q f.6 (subst (λ (x : ArcRow). Follows h rows root x.head q) (sym found) k.6) in
    ap (λ (n : ℕ). n ∷ p) number ∙ ap (λ (l : List ℕ). b ∷ l) rest

pub IsThrough-unique : (o : Ground) (v : ℕ) (p q : List ℕ) → IsThrough o v p → IsThrough o v q → p ≡ q
IsThrough-unique o v p q s t =
    let prefix : s.prefix ≡ t.prefix = Follows-unique (reversed o.graph) o.from_rows o.query.from v s.prefix t.prefix s.to_source t.to_source in
    let back : s.back ≡ t.back = Follows-unique o.graph o.to_rows o.query.to v s.back t.back s.to_target t.to_target in
    s.joined ∙ ap (λ (l : List ℕ). reverse l ++ s.back) prefix ∙ ap (λ (l : List ℕ). reverse t.prefix ++ l) back ∙ sym t.joined

-- two lists are one where one of them is the path and the other is too
pub through_same : (o : Ground) (v : ℕ) (p q : List ℕ) → IsThrough o v p → (p ≡ q) ↔ IsThrough o v q
through_same o v p q h = (
  (λ is. subst (λ (l : List ℕ). IsThrough o v l) is h),
  (λ k. IsThrough-unique o v p q h k),
)
