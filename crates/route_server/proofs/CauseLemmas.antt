-- What the words of a command make of a graph file that was read under the name among them.
use Rattle.std.proofs.Common.{◌≡◌, ℕ, ◌⊎◌, List, Option, Some, None, IfSome, sym, ap, ◌∙◌, subst, inl, inr, ⊎_elim}
use Rattle.road_io.specs.Told.{Told}
use Rattle.route_server.specs.declared.words.Command.{Command}
use Rattle.route_server.specs.Causes.{IsAccepted, IsReady, IsThere, IsUnjudged}

-- what the command that was read needs is ready
pub ready_as : (kind : Command) (asked found : Option Command) (command : Command) (shelf : Option Told) (words : List (List ℕ)) → found ≡ asked → found ≡ Some command → command ≡ kind → IsReady asked shelf words → IsReady (Some kind) shelf words
ready_as kind asked found command shelf words e f k ready =
    subst (λ (x : Option Command). IsReady x shelf words) (sym e ∙ (f ∙ ap (λ (x : Command). Some x) k)) ready

pub accepted_as : (shelf : Option Told) (name given : List ℕ) → given ≡ name → IsAccepted shelf name → IsAccepted shelf given
accepted_as shelf name given n h = subst (λ (x : List ℕ). IsAccepted shelf x) (sym n) h

pub there_as : (shelf : Option Told) (name given : List ℕ) → given ≡ name → IsThere shelf name → IsThere shelf given
there_as shelf name given n h = subst (λ (x : List ℕ). IsThere shelf x) (sym n) h

pub first_fault_as : (shelf after : Option Told) (name given : List ℕ) (Risen Other : Type 0) → given ≡ name → IfSome shelf (λ told. IsUnjudged told given after ⊎ (IsAccepted shelf given × Risen)) → IfSome shelf (λ told. IsUnjudged told name after ⊎ (IsAccepted shelf name × (Risen ⊎ Other)))
first_fault_as None after name given Risen Other n h = tt
first_fault_as (Some told) after name given Risen Other n h =
    subst (λ (x : List ℕ). IsUnjudged told x after ⊎ (IsAccepted (Some told) x × (Risen ⊎ Other))) n
    (⊎_elim (λ (u : IsUnjudged told given after). inl u) (λ (a : IsAccepted (Some told) given × Risen). inr (a.0, inl a.1)) h)

-- the fault of a run over two files
pub either_fault : (shelf after : Option Told) (name given : List ℕ) (Risen Other : Type 0) → given ≡ name → Other → IfSome shelf (λ told. IsUnjudged told given after ⊎ IsAccepted shelf given) → IfSome shelf (λ told. IsUnjudged told name after ⊎ (IsAccepted shelf name × (Risen ⊎ Other)))
either_fault None after name given Risen Other n other h = tt
either_fault (Some told) after name given Risen Other n other h =
    subst (λ (x : List ℕ). IsUnjudged told x after ⊎ (IsAccepted (Some told) x × (Risen ⊎ Other))) n
    (⊎_elim (λ (u : IsUnjudged told given after). inl u) (λ (a : IsAccepted (Some told) given). inr (a, inr other)) h)
