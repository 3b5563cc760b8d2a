-- The arcs that a scan finds are the last, or the first, of canonical paths.
use Rattle.std.proofs.Common.{◌≡◌, ℕ, ◌+◌, List, ◌∷◌, reverse, Option, Some, None, sym, ap, ◌∙◌, subst, inl, inr}
use Rattle.road_model.specs.declared.rows.ArcRow.{ArcRow}
use Rattle.road_model.specs.declared.network.Step.{Step}
use Rattle.road_model.specs.Graph.{Graph, turned, reversed}
use Rattle.road_model.specs.Canonical.{IsFirst}
use Rattle.road_model.proofs.Basics.{reverse-cons}
use Rattle.tree_search.specs.Ball.{Reached}
use Rattle.canonical_trees.specs.Tight.{IsRooted, IsLeastStep, IsStepDown}
use Rattle.canonical_trees.specs.Trees.{IsLastStep, IsFirstStep, IsFromStep, IsToStep, IsLastArc, IsFirstArc, IsTreeFrom, IsTreeTo}
use Rattle.canonical_trees.proofs.Turned.{arc_unreversed, IsFirst-unreversed}
use Rattle.canonical_trees.proofs.StepsDown.{IsLast-step}
use Rattle.canonical_trees.proofs.Existence.{last_exists}
use Rattle.canonical_trees.proofs.Balls.{rooted_from, rooted_to, inside_of, IsInside-unreversed, IsLabel-unreversed}

row_is : (r : ArcRow) (tail head length : ℕ) → r.tail ≡ tail → r.head ≡ head → r.length ≡ length → r ≡ record { tail = tail; head = head; length = length }
row_is r tail head length a b c =
    let row : ℕ → ℕ → ℕ → ArcRow = λ t h l. record { tail = t; head = h; length = l } in
    ap (λ (t : ℕ). row t r.head r.length) a ∙ ap (λ (h : ℕ). row tail h r.length) b ∙ ap (λ (l : ℕ). row tail head l) c

last_step : (g : Graph) (s v : ℕ) (radius : Option ℕ) (b : Reached) (x : Step) → IsTreeFrom g s radius b → IsLeastStep (reversed g) s b.labels v x → IsLastStep g radius s v x
last_step g s v radius b x tree h =
    let rooted = rooted_from g s radius b tree in
    let rest = last_exists (reversed g) s x.head h.near b.labels rooted h.beyond in
    let whole = IsFirst-unreversed g s v (x.arc ∷ rest.path) (IsLast-step (reversed g) s v b.labels x rest.path rooted h rest.last) in
    let tight = h.least.tight in
    record {
      inside = inside_of g s v (x.length + h.near) radius b.labels tree.ball.labelled h.label;
      other = h.other;
      arc = arc_unreversed g x.arc h.row tight.is ∙ ap (λ (r : ArcRow). Some (turned r)) (row_is h.row v x.head x.length tight.tail (sym h.head) (sym h.long));
      prefix = reverse rest.path;
      beyond = IsFirst-unreversed g s x.head rest.path rest.last;
      path = subst (λ (p : List ℕ). IsFirst g s p v) (reverse-cons x.arc rest.path) whole;
    }

pub from_step : (g : Graph) (s v : ℕ) (radius : Option ℕ) (b : Reached) (o : Option Step) → IsTreeFrom g s radius b → IsStepDown (reversed g) s b.labels v o → IsFromStep g radius s v o
from_step g s v radius b None tree (inl same) = inl same
from_step g s v radius b None tree (inr none) = inr (tree.ball.labelled.far v none)
from_step g s v radius b (Some x) tree h = last_step g s v radius b x tree h

first_step : (g : Graph) (t v : ℕ) (radius : Option ℕ) (b : Reached) (x : Step) → IsTreeTo g t radius b → IsLeastStep g t b.labels v x → IsFirstStep g radius v t x
first_step g t v radius b x tree h =
    let rooted = rooted_to g t radius b tree in
    let rest = last_exists g t x.head h.near b.labels rooted h.beyond in
    let tight = h.least.tight in
    record {
      inside = IsInside-unreversed g t v radius (inside_of (reversed g) t v (x.length + h.near) radius b.labels tree.ball.labelled h.label);
      other = h.other;
      arc = tight.is ∙ ap (λ (r : ArcRow). Some r) (row_is h.row v x.head x.length tight.tail (sym h.head) (sym h.long));
      back = rest.path;
      beyond = rest.last;
      path = IsLast-step g t v b.labels x rest.path rooted h rest.last;
    }

pub to_step : (g : Graph) (t v : ℕ) (radius : Option ℕ) (b : Reached) (o : Option Step) → IsTreeTo g t radius b → IsStepDown g t b.labels v o → IsToStep g radius v t o
to_step g t v radius b None tree (inl same) = inl same
to_step g t v radius b None tree (inr none) =
    inr (IsLabel-unreversed g t v radius None (tree.ball.labelled.far v none))
to_step g t v radius b (Some x) tree h = first_step g t v radius b x tree h

pub last_arc : (g : Graph) (s v : ℕ) (radius : Option ℕ) (x : Step) → IsLastStep g radius s v x → IsLastArc g radius s v x.arc
last_arc g s v radius x h = record { inside = h.inside; other = h.other; prefix = h.prefix; path = h.path }

pub first_arc : (g : Graph) (t v : ℕ) (radius : Option ℕ) (x : Step) → IsFirstStep g radius v t x → IsFirstArc g radius v t x.arc
first_arc g t v radius x h = record { inside = h.inside; other = h.other; back = h.back; path = h.path }

-- the same of what a scan of the reversed star answers, by equations between what the code names
pub rooted_scan_from : (g h : Graph) (s : ℕ) (radius : Option ℕ) (b : Reached) (labels : List (Option ℕ)) → h ≡ reversed g → labels ≡ b.labels → IsTreeFrom g s radius b → IsRooted h s labels
rooted_scan_from g h s radius b labels same kept tree =
    subst (λ (x : Graph). IsRooted x s labels) (sym same)
    (subst (λ (l : List (Option ℕ)). IsRooted (reversed g) s l) (sym kept) (rooted_from g s radius b tree))

pub scan_from : (g h : Graph) (s v : ℕ) (radius : Option ℕ) (b : Reached) (labels : List (Option ℕ)) (o : Option Step) → h ≡ reversed g → labels ≡ b.labels → IsTreeFrom g s radius b → IsStepDown h s labels v o → IsFromStep g radius s v o
scan_from g h s v radius b labels o same kept tree down =
    from_step g s v radius b o tree
    (subst (λ (x : Graph). IsStepDown x s b.labels v o) same
    (subst (λ (l : List (Option ℕ)). IsStepDown h s l v o) kept down))

pub rooted_scan_to : (g : Graph) (t : ℕ) (radius : Option ℕ) (b : Reached) (labels : List (Option ℕ)) → labels ≡ b.labels → IsTreeTo g t radius b → IsRooted g t labels
rooted_scan_to g t radius b labels kept tree =
    subst (λ (l : List (Option ℕ)). IsRooted g t l) (sym kept) (rooted_to g t radius b tree)

pub scan_to : (g : Graph) (t v : ℕ) (radius : Option ℕ) (b : Reached) (labels : List (Option ℕ)) (o : Option Step) → labels ≡ b.labels → IsTreeTo g t radius b → IsStepDown g t labels v o → IsToStep g radius v t o
scan_to g t v radius b labels o kept tree down =
    to_step g t v radius b o tree (subst (λ (l : List (Option ℕ)). IsStepDown g t l v o) kept down)
