-- Tests that were passed.
use Rattle.std.proofs.Common.{◌≡◌, Bool, true, false, List, [], ◌∷◌, Result, Ok, Err}
use Rattle.road_model.specs.declared.request.ErrorKind.{ErrorKind}
use Rattle.desk_core.specs.declared.refusals.Asked.{Asked}
use Rattle.desk_core.specs.Refusals.{passed}

pub passed_ok : (tests : List (Bool × ErrorKind)) (x y : Asked) → passed tests x ≡ Ok y → x ≡ y
passed_ok [] x y e = cc
passed_ok ((true, kind) ∷ tests) x y e = absurd (let f : ◌≡◌ {A = Result Asked ErrorKind} (Err kind) (Ok y) = e in cc)
passed_ok ((false, kind) ∷ tests) x y e = passed_ok tests x y e
