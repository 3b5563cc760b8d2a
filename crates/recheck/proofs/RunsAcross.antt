-- Links join the vertices that one path leads through.
use Rattle.std.proofs.Common.{◌≡◌, ℕ, ◌<◌, ◌≤◌, ◌⊎◌, List, [], ◌∷◌, ◌++◌, length, reverse, Some, refl, sym, ap, ◌∙◌, subst, arith, inl, inr, ⊎_elim}
use Rattle.std.proofs.lemmas.Bool.{cases_lt}
use Rattle.std.proofs.lemmas.List.{reverse-append, reverse-reverse}
use Rattle.road_model.specs.Graph.{arc_at, turned, reversed}
use Rattle.forward_star.proofs.Turned.{arc_at-reversed_some}
use Rattle.recheck.specs.Paths.{Ground, Follows, IsThrough}
use Rattle.recheck.specs.Standing.{IsSound}
use Rattle.recheck.specs.Runs.{IsLinked, IsLinkedBack, Leads}
use Rattle.recheck.proofs.OnePath.{follows_from, follows_one}
use Rattle.recheck.proofs.LinkLemmas.{link_from, moved_over}
use Rattle.recheck.proofs.Chains.{leads_back}

-- two cuts of one list
pub record Cuts (a b c d : List ℕ) : Type 0 where
  pub middle : List ℕ
  pub later : c ≡ a ++ middle
  pub rest : b ≡ middle ++ d

pub cuts : (a b c d : List ℕ) → a ++ b ≡ c ++ d → length a ≤ length c → Cuts a b c d
cuts [] b c d same le = record { middle = c; later = refl; rest = same }
cuts (x ∷ a) b [] d same le = absurd (omega arith)
cuts (x ∷ a) b (y ∷ c) d same le =
    let head : x ≡ y = cc in
    let tail : a ++ b ≡ c ++ d = cc in
    let more = cuts a b c d tail (omega arith) in
    record { middle = more.middle; later = let later : c ≡ a ++ more.middle = more.later in cc; rest = more.rest }

links_over : (o : Ground) (w : ℕ) (middle : List ℕ) (v : ℕ) (prefix back : List ℕ) → IsSound o → Follows (reversed o.graph) o.from_rows o.query.from w (reverse middle ++ prefix) → Follows (reversed o.graph) o.from_rows o.query.from v prefix → Follows o.graph o.to_rows o.query.to v (middle ++ back) → Leads (IsLinked o) v (length middle) w
links_over o w [] v prefix back sound f h k = follows_one (reversed o.graph) o.from_rows o.query.from v w prefix sound.from h f
links_over o w (a ∷ m) v prefix back sound f h k =
    let turned_arc = arc_at-reversed_some o.graph a k.1 k.5 in
    let on : Follows (reversed o.graph) o.from_rows o.query.from w (reverse m ++ (a ∷ prefix)) = subst (λ (q : List ℕ). Follows (reversed o.graph) o.from_rows o.query.from w q) (sym (moved_over m a prefix)) f in
    let next : Follows (reversed o.graph) o.from_rows o.query.from k.1.head (a ∷ prefix) = follows_from (reversed o.graph) o.from_rows o.query.from w (reverse m) a prefix (turned k.1) sound.from turned_arc on in
    let link : IsLinked o v k.1.head = link_from o v k.0 next.0 k.1 sound k.2 (subst (λ (n : ℕ). arc_at o.graph n ≡ Some k.1) (sym k.3) k.5) next.2 (next.3 ∙ sym k.3) in
    (k.1.head, link, links_over o w m k.1.head (a ∷ prefix) back sound on next k.6)

links_after : (o : Ground) (v w : ℕ) (p : List ℕ) → IsSound o → (h : IsThrough o v p) → (k : IsThrough o w p) → length (reverse h.prefix) ≤ length (reverse k.prefix) → (n : ℕ) × Leads (IsLinked o) v n w
links_after o v w p sound h k le =
    let parts = cuts (reverse h.prefix) h.back (reverse k.prefix) k.back (sym h.joined ∙ k.joined) le in
    let prefix : k.prefix ≡ reverse parts.middle ++ h.prefix =
    sym (reverse-reverse k.prefix)
    ∙ (ap (λ (q : List ℕ). reverse q) parts.later
    ∙ (reverse-append (reverse h.prefix) parts.middle ∙ ap (λ (q : List ℕ). reverse parts.middle ++ q) (reverse-reverse h.prefix))) in (
      length parts.middle,
      links_over o w parts.middle v h.prefix k.back sound
          (subst (λ (q : List ℕ). Follows (reversed o.graph) o.from_rows o.query.from w q) prefix k.to_source)
          h.to_source
          (subst (λ (q : List ℕ). Follows o.graph o.to_rows o.query.to v q) parts.rest h.to_target),
    )

-- of two vertices that a path leads through, links lead from one to the other
pub record Joined (o : Ground) (v w : ℕ) : Type 0 where
  pub steps : ℕ
  pub either : Leads (IsLinked o) v steps w ⊎ Leads (IsLinkedBack o) v steps w

pub joined_by : (o : Ground) (v w : ℕ) (p : List ℕ) → IsSound o → IsThrough o v p → IsThrough o w p → Joined o v w
joined_by o v w p sound h k =
    ⊎_elim
    (λ (lt : length (reverse h.prefix) < length (reverse k.prefix)).
    let l = links_after o v w p sound h k (omega arith) in
    let r : Joined o v w = record { steps = l.0; either = inl l.1 } in
    r)
    (λ (ge : length (reverse k.prefix) ≤ length (reverse h.prefix)).
    let l = links_after o w v p sound k h ge in
    let r : Joined o v w = record { steps = l.0; either = inr (leads_back (IsLinked o) w l.0 v l.1) } in
    r)
    (cases_lt (length (reverse h.prefix)) (length (reverse k.prefix)))
