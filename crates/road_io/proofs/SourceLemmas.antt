-- What any read leaves.
use Rattle.std.proofs.Common.{◌≡◌, ℕ, List, [], ◌++◌, take, Option, sym, ◌∙◌}
use Rattle.road_io.specs.Told.{Told, IfTold}
use Rattle.road_io.specs.Source.{Reads}
use Rattle.road_io.specs.declared.reading.Read.{Read}
use Rattle.road_io.specs.declared.reading.Read.TheVariants.{Took, End, Failed}
use Rattle.road_io.proofs.ToldLemmas.{IfTold_then}

-- whatever a read answers, it leaves an end of what was left
pub Reads_leave : (room : List ℕ) (old new : Option Told) (answer : Read) → Reads room old new answer → IfTold old new (λ before after. (prefix : List ℕ) × (before ≡ prefix ++ after))
Reads_leave room old new (Took n) h =
    IfTold_then old new _ _ (λ (x y : List ℕ) (e : x ≡ take n room ++ y). (take n room, e)) h.2
Reads_leave room old new End h =
    IfTold_then old new _ _ (λ (x y : List ℕ) (e : (x ≡ []) × (y ≡ [])). ([], e.0 ∙ sym e.1)) h
Reads_leave room old new Failed h =
    IfTold_then old new _ _ (λ (x y : List ℕ) (e : y ≡ x). ([], sym e)) h
