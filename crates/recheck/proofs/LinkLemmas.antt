-- Along a link the path stays, and so does the sum of the two labels.
use Rattle.std.proofs.Common.{◌≡◌, ◌≢◌, ℕ, ◌+◌, ◌<◌, ◌≤◌, List, [], ◌∷◌, ◌++◌, reverse, Some, refl, sym, ap, ◌∙◌, subst, arith, append_assoc}
use Rattle.road_model.specs.declared.rows.ArcRow.{ArcRow}
use Rattle.road_model.specs.Graph.{arc_at, turned, reversed}
use Rattle.road_model.specs.Fraction.{Stretches}
use Rattle.road_model.proofs.Basics.{reverse-cons}
use Rattle.road_model.proofs.Walks.{IsArc-at}
use Rattle.forward_star.proofs.Turned.{arc_at-reversed_some}
use Rattle.certificate_text.specs.declared.certificate.BlockRow.{BlockRow}
use Rattle.recheck.specs.Rows.{row_of}
use Rattle.recheck.specs.Paths.{Ground, Follows, IsNear, IsThrough}
use Rattle.recheck.specs.Standing.{IsSound}
use Rattle.recheck.specs.Runs.{IsLinked, label_of, row_label}
use Rattle.recheck.proofs.OnePath.{same_row, same_arc, steps_down, begins_by}

-- a link is told by the row of its tail, or by that of its head
pub link_from : (o : Ground) (u : ℕ) (out into : BlockRow) (x : ArcRow) → IsSound o → row_of o.to_rows u ≡ Some out → arc_at o.graph out.arc ≡ Some x → row_of o.from_rows x.head ≡ Some into → into.arc ≡ out.arc → IsLinked o u x.head
link_from o u out into x sound is arc beyond same =
    let down = steps_down o.graph o.to_rows o.query.to u out x sound.to is arc in
    record { out = out; into = into; arc = x; is_out = is; is_into = beyond; same = same; is = arc; tail = down.tail; head = refl }

pub link_to : (o : Ground) (v : ℕ) (out into : BlockRow) (x : ArcRow) → IsSound o → row_of o.from_rows v ≡ Some into → arc_at o.graph into.arc ≡ Some x → row_of o.to_rows x.tail ≡ Some out → out.arc ≡ into.arc → IsLinked o x.tail v
link_to o v out into x sound is arc beyond same =
    let down = steps_down (reversed o.graph) o.from_rows o.query.from v into (turned x) sound.from is (arc_at-reversed_some o.graph into.arc x arc) in
    record { out = out; into = into; arc = x; is_out = beyond; is_into = is; same = sym same; is = subst (λ (n : ℕ). arc_at o.graph n ≡ Some x) (sym same) arc; tail = refl; head = down.tail }

-- the same of the vertices that a search of the rows is given
pub linked_from : (o : Ground) (u head : ℕ) (out into : BlockRow) (x : ArcRow) → IsSound o → row_of o.to_rows u ≡ Some out → arc_at o.graph out.arc ≡ Some x → head ≡ x.head → row_of o.from_rows head ≡ Some into → into.arc ≡ out.arc → IsLinked o u head
linked_from o u head out into x sound is arc at beyond same =
    subst (λ (n : ℕ). IsLinked o u n) (sym at) (link_from o u out into x sound is arc (subst (λ (n : ℕ). row_of o.from_rows n ≡ Some into) at beyond) same)

pub linked_to : (o : Ground) (v tail : ℕ) (out into : BlockRow) (x : ArcRow) → IsSound o → row_of o.from_rows v ≡ Some into → arc_at o.graph into.arc ≡ Some x → tail ≡ x.tail → row_of o.to_rows tail ≡ Some out → out.arc ≡ into.arc → IsLinked o tail v
linked_to o v tail out into x sound is arc at beyond same =
    subst (λ (n : ℕ). IsLinked o n v) (sym at) (link_to o v out into x sound is arc (subst (λ (n : ℕ). row_of o.to_rows n ≡ Some out) at beyond) same)

-- where a link leads to, and where it leads from
pub link_onward : (o : Ground) (u v w : ℕ) → IsLinked o u v → IsLinked o u w → v ≡ w
link_onward o u v w h k =
    let row : h.out ≡ k.out = same_row o.to_rows u h.out k.out h.is_out k.is_out in
    let arc : h.arc ≡ k.arc = same_arc o.graph h.out.arc h.arc k.arc h.is (subst (λ (r : BlockRow). arc_at o.graph r.arc ≡ Some k.arc) (sym row) k.is) in
    sym h.head ∙ (ap (λ (x : ArcRow). x.head) arc ∙ k.head)

pub link_back : (o : Ground) (w u v : ℕ) → IsLinked o u w → IsLinked o v w → u ≡ v
link_back o w u v h k =
    let row : h.into ≡ k.into = same_row o.from_rows w h.into k.into h.is_into k.is_into in
    let one : k.out.arc ≡ h.out.arc = sym k.same ∙ (ap (λ (r : BlockRow). r.arc) (sym row) ∙ h.same) in
    let arc : h.arc ≡ k.arc = same_arc o.graph h.out.arc h.arc k.arc h.is (subst (λ (n : ℕ). arc_at o.graph n ≡ Some k.arc) one k.is) in
    sym h.tail ∙ (ap (λ (x : ArcRow). x.tail) arc ∙ k.tail)

-- what the rows of both ends say
pub record LinkRows (o : Ground) (u v : ℕ) (l : IsLinked o u v) : Type 0 where
  pub positive : 1 ≤ l.arc.length
  pub tail_other : u ≢ o.query.to
  pub head_other : v ≢ o.query.from
  pub far : BlockRow
  pub is_far : row_of o.to_rows v ≡ Some far
  pub far_sum : far.label + l.arc.length ≡ l.out.label
  pub near : BlockRow
  pub is_near : row_of o.from_rows u ≡ Some near
  pub near_sum : near.label + l.arc.length ≡ l.into.label

pub link_rows : (o : Ground) (u v : ℕ) → IsSound o → (l : IsLinked o u v) → LinkRows o u v l
link_rows o u v sound l =
    let to = steps_down o.graph o.to_rows o.query.to u l.out l.arc sound.to l.is_out l.is in
    let is_arc : arc_at o.graph l.into.arc ≡ Some l.arc = subst (λ (n : ℕ). arc_at o.graph n ≡ Some l.arc) (sym l.same) l.is in
    let from = steps_down (reversed o.graph) o.from_rows o.query.from v l.into (turned l.arc) sound.from l.is_into (arc_at-reversed_some o.graph l.into.arc l.arc is_arc) in
    record {
      positive = (IsArc-at o.graph l.out.arc l.arc sound.limits.is_graph l.is).positive;
      tail_other = to.other;
      head_other = from.other;
      far = to.next;
      is_far = subst (λ (n : ℕ). row_of o.to_rows n ≡ Some to.next) l.head to.is;
      far_sum = to.sum;
      near = from.next;
      is_near = subst (λ (n : ℕ). row_of o.from_rows n ≡ Some from.next) l.tail from.is;
      near_sum = from.sum;
    }

-- the label from the source rises along a link, and that to the target falls
pub label_rises : (o : Ground) (u v : ℕ) → IsSound o → IsLinked o u v → label_of o.from_rows u < label_of o.from_rows v
label_rises o u v sound l =
    let rows = link_rows o u v sound l in
    let one : label_of o.from_rows u ≡ rows.near.label = ap row_label rows.is_near in
    let two : label_of o.from_rows v ≡ l.into.label = ap row_label l.is_into in
    omega (arith, rows.near_sum, rows.positive)

pub label_falls : (o : Ground) (u v : ℕ) → IsSound o → IsLinked o u v → label_of o.to_rows v < label_of o.to_rows u
label_falls o u v sound l =
    let rows = link_rows o u v sound l in
    let one : label_of o.to_rows v ≡ rows.far.label = ap row_label rows.is_far in
    let two : label_of o.to_rows u ≡ l.out.label = ap row_label l.is_out in
    omega (arith, rows.far_sum, rows.positive)

-- the sum of the labels of a near vertex stays
stretches_by : (o : Ground) (a b : ℕ) → a ≡ b → Stretches o.query.epsilon a o.best → Stretches o.query.epsilon b o.best
stretches_by o a b same h = subst (λ (n : ℕ). Stretches o.query.epsilon n o.best) same h

pub near_on : (o : Ground) (u v : ℕ) → IsSound o → IsNear o u → IsLinked o u v → IsNear o v
near_on o u v sound h l =
    let rows = link_rows o u v sound l in
    let near : h.near ≡ rows.near = same_row o.from_rows u h.near rows.near h.is_near rows.is_near in
    let far : h.far ≡ l.out = same_row o.to_rows u h.far l.out h.is_far l.is_out in
    let one : h.near.label ≡ rows.near.label = ap (λ (r : BlockRow). r.label) near in
    let two : h.far.label ≡ l.out.label = ap (λ (r : BlockRow). r.label) far in
    record {
      near = l.into;
      far = rows.far;
      is_near = l.is_into;
      is_far = rows.is_far;
      low = stretches_by o (h.near.label + h.far.label) (l.into.label + rows.far.label) (omega (arith, rows.far_sum, rows.near_sum)) h.low;
    }

pub near_back : (o : Ground) (u v : ℕ) → IsSound o → IsNear o v → IsLinked o u v → IsNear o u
near_back o u v sound h l =
    let rows = link_rows o u v sound l in
    let near : h.near ≡ l.into = same_row o.from_rows v h.near l.into h.is_near l.is_into in
    let far : h.far ≡ rows.far = same_row o.to_rows v h.far rows.far h.is_far rows.is_far in
    let one : h.near.label ≡ l.into.label = ap (λ (r : BlockRow). r.label) near in
    let two : h.far.label ≡ rows.far.label = ap (λ (r : BlockRow). r.label) far in
    record {
      near = rows.near;
      far = l.out;
      is_near = rows.is_near;
      is_far = l.is_out;
      low = stretches_by o (h.near.label + h.far.label) (rows.near.label + l.out.label) (omega (arith, rows.far_sum, rows.near_sum)) h.low;
    }

-- one arc more in the prefix is one arc less after it
pub moved_over : (p : List ℕ) (a : ℕ) (q : List ℕ) → reverse p ++ (a ∷ q) ≡ reverse (a ∷ p) ++ q
moved_over p a q = sym (ap (λ (l : List ℕ). l ++ q) (reverse-cons a p) ∙ append_assoc (reverse p) (a ∷ []) q)

pub through_on : (o : Ground) (u v : ℕ) (p : List ℕ) → IsSound o → IsThrough o u p → IsLinked o u v → IsThrough o v p
through_on o u v p sound h l =
    let rows = link_rows o u v sound l in
    let begins = begins_by o.graph o.to_rows o.query.to u l.out l.arc h.back rows.tail_other l.is_out l.is h.to_target in
    let is_arc = arc_at-reversed_some o.graph l.out.arc l.arc l.is in
    let tail : u ≡ (turned l.arc).head = sym l.tail in
    record {
      prefix = l.out.arc ∷ h.prefix;
      back = begins.rest;
      to_source = (l.into, turned l.arc, l.is_into, l.same, rows.head_other, is_arc, subst (λ (n : ℕ). Follows (reversed o.graph) o.from_rows o.query.from n h.prefix) tail h.to_source);
      to_target = subst (λ (n : ℕ). Follows o.graph o.to_rows o.query.to n begins.rest) l.head begins.follows;
      joined = h.joined ∙ (ap (λ (q : List ℕ). reverse h.prefix ++ q) begins.is ∙ moved_over h.prefix l.out.arc begins.rest);
    }

pub through_back : (o : Ground) (u v : ℕ) (p : List ℕ) → IsSound o → IsThrough o v p → IsLinked o u v → IsThrough o u p
through_back o u v p sound h l =
    let rows = link_rows o u v sound l in
    let is_arc : arc_at o.graph l.into.arc ≡ Some l.arc = subst (λ (n : ℕ). arc_at o.graph n ≡ Some l.arc) (sym l.same) l.is in
    let begins = begins_by (reversed o.graph) o.from_rows o.query.from v l.into (turned l.arc) h.prefix rows.head_other l.is_into (arc_at-reversed_some o.graph l.into.arc l.arc is_arc) h.to_source in
    record {
      prefix = begins.rest;
      back = l.into.arc ∷ h.back;
      to_source = subst (λ (n : ℕ). Follows (reversed o.graph) o.from_rows o.query.from n begins.rest) l.tail begins.follows;
      to_target = (l.out, l.arc, l.is_out, sym l.same, rows.tail_other, is_arc, subst (λ (n : ℕ). Follows o.graph o.to_rows o.query.to n h.back) (sym l.head) h.to_target);
      joined = h.joined ∙ (ap (λ (q : List ℕ). reverse q ++ h.back) begins.is ∙ sym (moved_over begins.rest l.into.arc h.back));
    }
