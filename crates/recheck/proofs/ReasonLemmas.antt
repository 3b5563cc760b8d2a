-- Reasons of via lines.
use Rattle.std.proofs.Common.{◌≡◌, ℕ, ◌+◌, ◌<◌, ◌≤◌, ◌↔◌, Bool, IsTrue, List, ◌∷◌, [], ◌++◌, length, get_or, take, Contains, sym, ap, ◌∙◌, subst, ⊎_elim}
use Rattle.std.proofs.lemmas.List.{take_more, take_all}
use Rattle.std.proofs.lemmas.List.Elements.{Contains-push_cases}
use Rattle.certificate_text.specs.declared.certificate.CertRoute.{CertRoute}
use Rattle.certificate_text.specs.declared.certificate.ViaRow.{ViaRow}
use Rattle.recheck.specs.Paths.{Ground, IsThrough}
use Rattle.recheck.specs.Reasons.{IsListedAs, IsReason, Shows}
use Rattle.recheck.proofs.FollowLemmas.{IsThrough-unique}

pub unlisted_more : (rs : List CertRoute) (p : List ℕ) (n i : ℕ) (r : CertRoute) → i < length rs → r ≡ get_or rs i r → ((r.via ≡ n) × (r.arcs ≡ p) → ⊥) → (IsListedAs (take i rs) p n → ⊥) → IsListedAs (take (i + 1) rs) p n → ⊥
unlisted_more rs p n i r lt is other before h =
    let more : take (i + 1) rs ≡ take i rs ++ r ∷ [] = take_more rs i r lt ∙ ap (λ (x : CertRoute). take i rs ++ x ∷ []) (sym is) in
    let there : Contains (take i rs ++ r ∷ []) h.route = subst (λ (l : List CertRoute). Contains l h.route) more h.listed in
    ⊎_elim
    (λ (early : Contains (take i rs) h.route). before (record { route = h.route; listed = early; named = h.named; same = h.same }))
    (λ (here : r ≡ h.route). other (ap (λ (x : CertRoute). x.via) here ∙ h.named, ap (λ (x : CertRoute). x.arcs) here ∙ h.same))
    (Contains-push_cases (take i rs) r h.route there)

pub unlisted : (rs : List CertRoute) (p : List ℕ) (n i : ℕ) → length rs ≤ i → (IsListedAs (take i rs) p n → ⊥) → IsListedAs rs p n → ⊥
unlisted rs p n i ge before h = before (subst (λ (l : List CertRoute). IsListedAs l p n) (sym (take_all i rs ge)) h)

pub reason_shows : (o : Ground) (rs : List CertRoute) (x : ViaRow) (p : List ℕ) (t : Bool) → IsThrough o x.vertex p → IsTrue t ↔ Shows o rs p x.reason → IsTrue t ↔ IsReason o rs x
reason_shows o rs x p t through test = (
  (λ so. record { path = p; through = through; shows = test.0 so }),
  (λ h. test.1 (subst (λ (l : List ℕ). Shows o rs l x.reason) (IsThrough-unique o x.vertex h.path p h.through through) h.shows)),
)
