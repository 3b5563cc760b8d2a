-- Route lines, and the first check that fails.
use Rattle.std.proofs.Common.{◌≡◌, ℕ, ◌+◌, ◌<◌, ◌≤◌, inr, List, ◌∷◌, length, get_or, drop, Option, Some, None, sym, ap, ◌∙◌, subst}
use Rattle.std.proofs.lemmas.List.{drop_more, drop_all}
use Rattle.road_model.specs.Fraction.{Allows}
use Rattle.certificate_text.specs.declared.certificate.CertRoute.{CertRoute}
use Rattle.certificate_text.specs.declared.fault.CertKind.{CertKind}
use Rattle.certificate_text.specs.declared.fault.CertKind.TheVariants as word
use Rattle.certificate_text.specs.declared.fault.CertFault.{CertFault}
use Rattle.recheck.specs.Paths.{Ground}
use Rattle.recheck.specs.Routes.{IsLeastName, AreNumbers}
use Rattle.recheck.specs.Across.{across_checks, path_checks}
use Rattle.recheck.specs.Checks.{Checks, done, check, FindsFirst, route_checks, routes_checks}
use Rattle.recheck.proofs.Firsts.{none_then, some_then}

-- a check passed, and then the others
passed : (line : ℕ) (kind : CertKind) (P : Type 0) (rest : Checks) (f : Option CertFault) → P → FindsFirst rest f → FindsFirst (check line kind P rest) f
passed line kind P rest None p h = (p, h)
passed line kind P rest (Some f) p h = inr (p, h)

-- what the subpaths tell, of a path that passed the checks before
pub path_passed : (o : Ground) (line : ℕ) (r : CertRoute) (f : Option CertFault) → IsLeastName o r → AreNumbers o r → Allows o.query.gamma r.shared o.best → FindsFirst (across_checks o line r done) f → FindsFirst (path_checks o line r done) f
path_passed o line r f name numbers share rest =
    let shares = passed line word.Share (Allows o.query.gamma r.shared o.best) (across_checks o line r done) f share rest in
    let numbered = passed line word.Numbers (AreNumbers o r) (check line word.Share (Allows o.query.gamma r.shared o.best) (across_checks o line r done)) f numbers shares in
    passed line word.Name (IsLeastName o r) (check line word.Numbers (AreNumbers o r) (check line word.Share (Allows o.query.gamma r.shared o.best) (across_checks o line r done))) f name numbered

-- the first i route lines passed: the next one has a number, and is compared with the one before
pub record RoutesPassed (o : Ground) (first : ℕ) (rs : List CertRoute) (i line : ℕ) (before : Option CertRoute) : Type 0 where
  pub on : (f : Option CertFault) → FindsFirst (routes_checks o line before (drop i rs) (λ _. done)) f → FindsFirst (routes_checks o first None rs (λ _. done)) f

split : (rs : List CertRoute) (i : ℕ) (r : CertRoute) → i < length rs → r ≡ get_or rs i r → drop i rs ≡ r ∷ drop (i + 1) rs
split rs i r lt is = drop_more rs i r lt ∙ ap (λ (x : CertRoute). x ∷ drop (i + 1) rs) (sym is)

pub route_passed : (o : Ground) (first : ℕ) (rs : List CertRoute) (i line next : ℕ) (before : Option CertRoute) (r : CertRoute) → RoutesPassed o first rs i line before → i < length rs → r ≡ get_or rs i r
    → FindsFirst (route_checks o line before r done) None → next ≡ line + 1 → RoutesPassed o first rs (i + 1) next (Some r)
route_passed o first rs i line next before r t lt is none number =
    record {
      on = (λ f h.
          let rest : FindsFirst (routes_checks o (line + 1) (Some r) (drop (i + 1) rs) (λ _. done)) f = subst (λ (n : ℕ). FindsFirst (routes_checks o n (Some r) (drop (i + 1) rs) (λ _. done)) f) number h in
          t.on f (subst (λ (l : List CertRoute). FindsFirst (routes_checks o line before l (λ _. done)) f) (sym (split rs i r lt is))
          (none_then (route_checks o line before r done) (routes_checks o (line + 1) (Some r) (drop (i + 1) rs) (λ _. done)) f none rest)));
    }

pub route_fails : (o : Ground) (first : ℕ) (rs : List CertRoute) (i line : ℕ) (before : Option CertRoute) (r : CertRoute) (f : CertFault) → RoutesPassed o first rs i line before → i < length rs → r ≡ get_or rs i r
    → FindsFirst (route_checks o line before r done) (Some f) → FindsFirst (routes_checks o first None rs (λ _. done)) (Some f)
route_fails o first rs i line before r f t lt is some =
    t.on (Some f) (subst (λ (l : List CertRoute). FindsFirst (routes_checks o line before l (λ _. done)) (Some f)) (sym (split rs i r lt is))
    (some_then (route_checks o line before r done) (routes_checks o (line + 1) (Some r) (drop (i + 1) rs) (λ _. done)) f some))

pub routes_pass : (o : Ground) (first : ℕ) (rs : List CertRoute) (i line : ℕ) (before : Option CertRoute) → RoutesPassed o first rs i line before → length rs ≤ i → FindsFirst (routes_checks o first None rs (λ _. done)) None
routes_pass o first rs i line before t ge =
    t.on None (subst (λ (l : List CertRoute). FindsFirst (routes_checks o line before l (λ _. done)) None) (sym (drop_all i rs ge)) tt)
