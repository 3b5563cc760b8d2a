-- A star after the first changes of a batch.
use Rattle.std.proofs.Common.{◌≡◌, ◌+◌, ◌<◌, ◌≤◌, ℕ, List, ◌∷◌, length, drop, get_or, None, sym, ap, ◌∙◌, subst}
use Rattle.std.proofs.lemmas.List.{drop_more, drop_all}
use Rattle.road_model.specs.declared.change.Change.{Change}
use Rattle.road_model.specs.Graph.{Graph, arc_count}
use Rattle.road_model.specs.Changes.{after, changed, fault_of, change_fault}
use Rattle.road_model.specs.File.{IsWithinLimits}
use Rattle.forward_star.specs.declared.lengths.Lengths.{Lengths}
use Rattle.forward_star.specs.declared.topology.Topology.{Topology}
use Rattle.forward_star.specs.Layout.{IsMeasured, arcs_of, graph_of, IsStar}
use Rattle.forward_star.proofs.Changed.{first_sound, fault_of-count}
use Rattle.forward_star.proofs.Stars.{count_of_star}

-- after i changes of a batch what is left of it has no fault, and makes of the star what the batch makes of g
pub record IsChanged (g : Graph) (changes : List Change) (i : ℕ) (t : Topology) (l : Lengths) : Type 0 where
  pub star : IsStar t l
  pub count : arc_count (graph_of t l) ≡ arc_count g
  pub sound : change_fault g (drop i changes) ≡ None
  pub rest : after (graph_of t l) (drop i changes) ≡ after g changes

first_left : (changes : List Change) (i : ℕ) (c : Change) → i < length changes → c ≡ get_or changes i c → drop i changes ≡ c ∷ drop (i + 1) changes
first_left changes i c inside is =
    drop_more changes i c inside ∙ ap (λ (x : Change). x ∷ drop (i + 1) changes) (sym is)

-- the next change has no fault
pub next_sound : (g : Graph) (changes : List Change) (i : ℕ) (t u : Topology) (l : Lengths) (c : Change) → IsChanged g changes i t l → u ≡ t → i < length changes → c ≡ get_or changes i c → fault_of (graph_of u l) c ≡ None
next_sound g changes i t u l c h same inside is =
    let left : change_fault g (c ∷ drop (i + 1) changes) ≡ None = ap (λ (b : List Change). change_fault g b) (sym (first_left changes i c inside is)) ∙ h.sound in
    let here : fault_of g c ≡ None = (first_sound g c (drop (i + 1) changes) left).0 in
    ap (λ (x : Topology). fault_of (graph_of x l) c) same ∙ fault_of-count g (graph_of t l) c h.count ∙ here

pub IsChanged-more : (g : Graph) (changes : List Change) (i : ℕ) (t u : Topology) (l m : Lengths) (c : Change) → IsChanged g changes i t l → u ≡ t → i < length changes → c ≡ get_or changes i c → IsStar u m → graph_of u m ≡ changed (graph_of u l) c → IsChanged g changes (i + 1) t m
IsChanged-more g changes i t u l m c h same inside is star makes =
    let left : change_fault g (c ∷ drop (i + 1) changes) ≡ None = ap (λ (b : List Change). change_fault g b) (sym (first_left changes i c inside is)) ∙ h.sound in
    let star_here : IsStar t m = subst (λ (x : Topology). IsStar x m) same star in
    let makes_here : graph_of t m ≡ changed (graph_of t l) c = subst (λ (x : Topology). graph_of x m ≡ changed (graph_of x l) c) same makes in
    let first : after (graph_of t l) (c ∷ drop (i + 1) changes) ≡ after g changes = ap (λ (b : List Change). after (graph_of t l) b) (sym (first_left changes i c inside is)) ∙ h.rest in
    record {
      star = star_here;
      count = count_of_star t m star_here ∙ sym (count_of_star t l h.star) ∙ h.count;
      sound = (first_sound g c (drop (i + 1) changes) left).1;
      rest = ap (λ (x : Graph). after x (drop (i + 1) changes)) makes_here ∙ first;
    }

pub after_all_changes : (g : Graph) (changes : List Change) (i : ℕ) (t : Topology) (l : Lengths) → IsChanged g changes i t l → length changes ≤ i → graph_of t l ≡ after g changes
after_all_changes g changes i t l h end =
    ap (λ (b : List Change). after (graph_of t l) b) (sym (drop_all i changes end)) ∙ h.rest

-- a star with copied lengths
pub IsStar-copied : (t u : Topology) (l m : Lengths) → IsStar t l → u ≡ t → m.by_number.items ≡ l.by_number.items → m.by_tail.items ≡ l.by_tail.items → m.by_head.items ≡ l.by_head.items → IsStar u m
IsStar-copied t u l m star same number out into =
    subst (λ (x : Topology). IsStar x m) (sym same)
    (record {
      limits = subst (λ (x : List ℕ). IsWithinLimits (record { vertices = t.vertices; arcs = arcs_of t.tails.items t.heads.items x })) (sym number) star.limits;
      heads = star.heads;
      numbers = ap (λ (x : List ℕ). length x) number ∙ star.numbers;
      by_tail = star.by_tail;
      by_head = star.by_head;
      out = subst (λ (x : List ℕ). IsMeasured t.tails.items x m.by_tail.items) (sym number) (subst (λ (x : List ℕ). IsMeasured t.tails.items l.by_number.items x) (sym out) star.out);
      into = subst (λ (x : List ℕ). IsMeasured t.heads.items x m.by_head.items) (sym number) (subst (λ (x : List ℕ). IsMeasured t.heads.items l.by_number.items x) (sym into) star.into);
    })

pub IsChanged-none : (g : Graph) (changes : List Change) (t u : Topology) (l m : Lengths) → IsStar t l → graph_of t l ≡ g → u ≡ t → m.by_number.items ≡ l.by_number.items → m.by_tail.items ≡ l.by_tail.items → m.by_head.items ≡ l.by_head.items → change_fault g changes ≡ None → IsChanged g changes 0 u m
IsChanged-none g changes t u l m star is same number out into sound =
    let copied : graph_of u m ≡ g =
    ap (λ (x : Topology). graph_of x m) same
    ∙ ap (λ (x : List ℕ). record { vertices = t.vertices; arcs = arcs_of t.tails.items t.heads.items x }) number
    ∙ is in
    record {
      star = IsStar-copied t u l m star same number out into;
      count = ap (λ (x : Graph). arc_count x) copied;
      sound = sound;
      rest = ap (λ (x : Graph). after x changes) copied;
    }
