-- A run that writes a certificate.
use Rattle.std.proofs.Common.{◌≡◌, ℕ, List, Option, Some, None, IfSome, Ok, refl, sym, subst}
use Rattle.road_io.specs.Told.{Told}
use Rattle.road_model.specs.Graph.{Graph}
use Rattle.route_server.specs.declared.words.Command.{Command}
use Rattle.route_server.specs.declared.words.Command.TheVariants.{Certify}
use Rattle.route_server.specs.declared.words.Ends.{Ends}
use Rattle.route_server.specs.Loading.{Loads}
use Rattle.route_server.specs.Causes.{AreEnds, IsInside, IsOutside}

-- a graph without one of the ends was loaded
outside_file : (told : Told) (name : List ℕ) (file : Option (List ℕ)) (g : Graph) (ends : Ends) → told.files name ≡ file → Loads file (Ok g) → (AreEnds g ends → ⊥) → IsOutside (Some told) name ends
outside_file told name None g ends e l out = absurd l
outside_file told name (Some bytes) g ends e l out =
    record { accepted = record { told = told; is = refl; bytes = bytes; file = e; graph = g; whole = l }; outside = out }

pub outside_loaded : (shelf : Option Told) (name : List ℕ) (g : Graph) (ends : Ends) → IfSome shelf (λ told. Loads (told.files name) (Ok g)) → (AreEnds g ends → ⊥) → IfSome shelf (λ told. IsOutside (Some told) name ends)
outside_loaded None name g ends l out = tt
outside_loaded (Some told) name g ends l out = outside_file told name (told.files name) g ends refl l out

-- under the name that was read among the words
pub inside_as : (shelf : Option Told) (name given : List ℕ) (ends : Ends) → given ≡ name → IsInside shelf name ends → IsInside shelf given ends
inside_as shelf name given ends n h = subst (λ (x : List ℕ). IsInside shelf x ends) (sym n) h

pub outside_as : (shelf : Option Told) (name given : List ℕ) (asked ends : Ends) → given ≡ name → asked ≡ ends → IsOutside shelf name asked → IsOutside shelf given ends
outside_as shelf name given asked ends n e h =
    subst (λ (x : List ℕ). IsOutside shelf x ends) (sym n) (subst (λ (x : Ends). IsOutside shelf name x) e h)

-- the ends of the command that was read
pub same_ends : (asked found : Option Command) (command : Command) (a b : Ends) → found ≡ asked → found ≡ Some command → command ≡ Certify b → asked ≡ Some (Certify a) → a ≡ b
same_ends asked found command a b e f k h = cc
