-- The line of a cursor, from its fields to its request.
use Rattle.std.proofs.Common.{◌≡◌, ℕ, ◌≤◌, true, List, [], ◌∷◌, ◌++◌, length, codes, Option, Some, refl, ap, ◌∙◌, arith, lit<}
use Rattle.std.proofs.lemmas.Bool.{le-ltb}
use Rattle.road_model.specs.declared.request.Cursor.{Cursor}
use Rattle.road_model.specs.declared.request.Request.TheVariants.{Next}
use Rattle.road_text.specs.Fields.{fields_of}
use Rattle.road_text.proofs.FieldLemmas.{fields_of-field, fields_of-last}
use Rattle.route_ranking.specs.Cursors.{IsSmall, cursor_text}
use Rattle.route_ranking.proofs.CursorLemmas.{cursor_of-cursor_text, cursor_text-no_blank, cursor_text-nonempty, length-cursor_text-le}
use Rattle.line_front.specs.Requests.{by_fields, for_role, is_reader, longest, or_bad, parsed_of}
use Rattle.line_front.specs.declared.requests.Parsed.TheVariants as parsed
use Rattle.line_front.specs.declared.requests.Role.{Role}
use Rattle.line_front.specs.declared.requests.Role.TheVariants as role

pub parsed_of-short : (who : Role) (line : List ℕ) → length line ≤ longest → parsed_of who line ≡ by_fields who (fields_of line)
unfolding parsed_of
parsed_of-short who line short = rw (le-ltb longest (length line) short) refl

abbrev next_line : Cursor → List ℕ
next_line c = codes "next " ++ cursor_text c

next_fields : (c : Cursor) → IsSmall c → fields_of (next_line c) ≡ codes "next" ∷ cursor_text c ∷ []
next_fields c small =
    fields_of-field (codes "next") 32 (cursor_text c) (lit< tt) (refl, (refl, (refl, (refl, tt)))) refl
    ∙ ap (λ (fs : List (List ℕ)). codes "next" ∷ fs) (fields_of-last (cursor_text c) (cursor_text-nonempty c small) (cursor_text-no_blank c small))

asks_next : (who : Role) (c : Cursor) → is_reader who ≡ true → for_role who (Some (or_bad (Some c))) ≡ parsed.Request (Next c)
asks_next role.Both c may = refl
asks_next role.Reader c may = refl
asks_next role.Publisher c may = cc

pub parsed_of-next : (who : Role) (c : Cursor) → is_reader who ≡ true → IsSmall c → parsed_of who (next_line c) ≡ parsed.Request (Next c)
parsed_of-next who c may small =
    parsed_of-short who (next_line c) (let few = length-cursor_text-le c small in omega arith)
    ∙ ap (by_fields who) (next_fields c small)
    ∙ ap (λ (o : Option Cursor). for_role who (Some (or_bad o))) (cursor_of-cursor_text c small)
    ∙ asks_next who c may
