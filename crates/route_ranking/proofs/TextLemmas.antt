-- The text of a cursor as its first number, and then a dot and a number for each other.
use Rattle.std.proofs.Common.{◌≡◌, ℕ, List, [], ◌∷◌, ◌++◌}
use Rattle.std.specs.Prelude.{decimal}
use Rattle.std.specs.List.{flat_map}
use Rattle.std.proofs.lemmas.List.{append-nil}
use Rattle.road_model.specs.declared.request.Cursor.{Cursor}
use Rattle.route_ranking.specs.Cursors.{cursor_text}

abbrev pub dotted : ℕ → List ℕ
dotted n = 46 ∷ decimal n

abbrev pub text_with : ℕ → List ℕ → List ℕ
text_with first others = decimal first ++ flat_map dotted others

abbrev pub others_of : Cursor → List ℕ
others_of c =
    c.query.from ∷ c.query.to
    ∷ c.query.gamma.0 ∷ c.query.gamma.1 ∷ c.query.alpha.0 ∷ c.query.alpha.1 ∷ c.query.epsilon.0 ∷ c.query.epsilon.1
    ∷ c.size ∷ c.offset ∷ []

pub text_with-others : (c : Cursor) → text_with c.version (others_of c) ≡ cursor_text c
text_with-others c = simp append-nil
