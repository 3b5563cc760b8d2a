-- Where the arc of a row leads, and how a path along rows is cut at its vertices.
use Rattle.std.proofs.Common.{◌≡◌, ◌≢◌, ℕ, List, [], ◌∷◌, ◌++◌, true, false, Some, None, sym, ap, ◌∙◌, subst, ⊎_elim, ◌+◌}
use Rattle.std.specs.Prelude.{◌==◌}
use Rattle.std.proofs.lemmas.Bool.{cases_Bool, eqb-true, cond-true, cond-false}
use Rattle.road_model.specs.declared.rows.ArcRow.{ArcRow}
use Rattle.road_model.specs.Graph.{Graph, arc_at}
use Rattle.certificate_text.specs.declared.certificate.BlockRow.{BlockRow}
use Rattle.recheck.specs.Rows.{row_of, IsTightFor}
use Rattle.recheck.specs.Paths.{Follows}
use Rattle.recheck.specs.Standing.{LeadsDown}

pub same_row : (rows : List BlockRow) (v : ℕ) (a b : BlockRow) → row_of rows v ≡ Some a → row_of rows v ≡ Some b → a ≡ b
same_row rows v a b h k = let e : Some a ≡ Some b = sym h ∙ k in cc

pub same_arc : (h : Graph) (a : ℕ) (x y : ArcRow) → arc_at h a ≡ Some x → arc_at h a ≡ Some y → x ≡ y
same_arc h a x y i j = let e : Some x ≡ Some y = sym i ∙ j in cc

pub vertex_of_row : (rows : List BlockRow) (v : ℕ) (r : BlockRow) → row_of rows v ≡ Some r → r.vertex ≡ v
vertex_of_row [] v r is = absurd (let e : None ≡ Some r = is in cc)
vertex_of_row (x ∷ rows) v r is =
    ⊎_elim
    (λ (yes : (x.vertex == v) ≡ true).
    let e : Some x ≡ Some r = sym (cond-true (x.vertex == v) (Some x) (row_of rows v) yes) ∙ is in
    let same : x ≡ r = cc in
    let at : x.vertex ≡ v = eqb-true x.vertex v yes in
    ap (λ (y : BlockRow). y.vertex) (sym same) ∙ at)
    (λ (no : (x.vertex == v) ≡ false). vertex_of_row rows v r (sym (cond-false (x.vertex == v) (Some x) (row_of rows v) no) ∙ is))
    (cases_Bool (x.vertex == v))

-- where a row that isn't the root's leads
pub record StepsDown (h : Graph) (rows : List BlockRow) (root v : ℕ) (r : BlockRow) (x : ArcRow) : Type 0 where
  pub other : v ≢ root
  pub tail : x.tail ≡ v
  pub next : BlockRow
  pub is : row_of rows x.head ≡ Some next
  pub sum : next.label + x.length ≡ r.label

pub steps_down : (h : Graph) (rows : List BlockRow) (root v : ℕ) (r : BlockRow) (x : ArcRow) → LeadsDown h rows root → row_of rows v ≡ Some r → arc_at h r.arc ≡ Some x → StepsDown h rows root v r x
steps_down h rows root v r x leads is arc =
    let other : v ≢ root =
    (λ (e : v ≡ root).
    let zero_arc : r.arc ≡ 0 = leads.none r (subst (λ (n : ℕ). row_of rows n ≡ Some r) e is) in
    let gone : arc_at h 0 ≡ Some x = subst (λ (n : ℕ). arc_at h n ≡ Some x) zero_arc arc in
    absurd (let e : None ≡ Some x = gone in cc)) in
    let tight : IsTightFor h rows r r.arc = leads.tight v r is other in
    let same : tight.leads.arc ≡ x = same_arc h r.arc tight.leads.arc x tight.leads.is arc in
    let at : r.vertex ≡ v = vertex_of_row rows v r is in
    record {
      other = other;
      tail = ap (λ (y : ArcRow). y.tail) (sym same) ∙ (tight.leads.tail ∙ at);
      next = tight.leads.next;
      is = subst (λ (y : ArcRow). row_of rows y.head ≡ Some tight.leads.next) same tight.leads.beyond;
      sum = subst (λ (y : ArcRow). tight.leads.next.label + y.length ≡ r.label) same tight.sum;
    }

-- a path from a vertex begins with the arc of its row
pub record BeginsBy (h : Graph) (rows : List BlockRow) (root : ℕ) (r : BlockRow) (x : ArcRow) (p : List ℕ) : Type 0 where
  pub rest : List ℕ
  pub is : p ≡ r.arc ∷ rest
  pub follows : Follows h rows root x.head rest

pub begins_by : (h : Graph) (rows : List BlockRow) (root v : ℕ) (r : BlockRow) (x : ArcRow) (p : List ℕ) → v ≢ root → row_of rows v ≡ Some r → arc_at h r.arc ≡ Some x → Follows h rows root v p → BeginsBy h rows root r x p
begins_by h rows root v r x [] other is arc f = absurd (other f)
begins_by h rows root v r x (a ∷ p) other is arc f =
    let row : f.0 ≡ r = same_row rows v f.0 r f.2 is in
    let one : a ≡ r.arc = sym f.3 ∙ ap (λ (y : BlockRow). y.arc) row in
    let same : f.1 ≡ x = same_arc h r.arc f.1 x (subst (λ (n : ℕ). arc_at h n ≡ Some f.1) one f.5) arc in
    record {
      rest = p;
      is = ap (λ (n : ℕ). n ∷ p) one;
      follows = subst (λ (y : ArcRow). Follows h rows root y.head p) same f.6;
    }

-- the rest of a path is what the rows give from the tail of its first arc
pub follows_from : (h : Graph) (rows : List BlockRow) (root w : ℕ) (m : List ℕ) (a : ℕ) (q : List ℕ) (y : ArcRow) → LeadsDown h rows root → arc_at h a ≡ Some y → Follows h rows root w (m ++ (a ∷ q)) → Follows h rows root y.tail (a ∷ q)
follows_from h rows root w [] a q y leads arc f =
    let down = steps_down h rows root w f.0 y leads f.2 (subst (λ (n : ℕ). arc_at h n ≡ Some y) (sym f.3) arc) in
    subst (λ (n : ℕ). Follows h rows root n (a ∷ q)) (sym down.tail) f
follows_from h rows root w (b ∷ m) a q y leads arc f = follows_from h rows root f.1.head m a q y leads arc f.6

-- a path is that of one vertex
pub follows_one : (h : Graph) (rows : List BlockRow) (root v w : ℕ) (p : List ℕ) → LeadsDown h rows root → Follows h rows root v p → Follows h rows root w p → v ≡ w
follows_one h rows root v w [] leads f k = f ∙ sym k
follows_one h rows root v w (a ∷ p) leads f k =
    let one = steps_down h rows root v f.0 f.1 leads f.2 (subst (λ (n : ℕ). arc_at h n ≡ Some f.1) (sym f.3) f.5) in
    let two = steps_down h rows root w k.0 f.1 leads k.2 (subst (λ (n : ℕ). arc_at h n ≡ Some f.1) (sym k.3) f.5) in
    sym one.tail ∙ two.tail
