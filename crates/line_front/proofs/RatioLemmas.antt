-- The numbers of a ratio, by where its first slash stands.
use Rattle.std.proofs.Common.{◌≡◌, ℕ, ◌+◌, ◌<◌, ◌≤◌, Bool, cond, ltb, List, [], length, take, drop, Option, Some, None, refl, sym, ap, ◌∙◌, ⊎_elim, inl, arith}
use Rattle.std.specs.List.{position, position_or_len}
use Rattle.std.specs.Option.{option_zip}
use Rattle.std.proofs.lemmas.Bool.{cases_lt, lt-ltb}
use Rattle.std.proofs.lemmas.List.{drop_all}
use Rattle.std.proofs.lemmas.Option.{cond_some, none-some}
use Rattle.road_text.specs.Numbers.{number_of}
use Rattle.road_text.proofs.NumberLemmas.{number_of-wrong_length}
use Rattle.line_front.specs.Requests.{is_slash, ratio_of}

zip_none : (o : Option ℕ) → option_zip {U = ℕ} o None ≡ None
zip_none None = refl
zip_none (Some n) = refl

pub ratio_of-unsplit : (field : List ℕ) → position is_slash field ≡ None → ratio_of field ≡ None
unfolding ratio_of
ratio_of-unsplit field e =
    let place : ℕ = position_or_len is_slash field in
    ⊎_elim
    (λ (within : place < length field).
    absurd (none-some place (sym e ∙ ap (λ (b : Bool). cond b (Some place) None) (lt-ltb place (length field) within))))
    (λ (past : length field ≤ place).
    let nothing : number_of (drop (place + 1) field) ≡ None = ap number_of (drop_all (place + 1) field (omega arith)) ∙ number_of-wrong_length [] (inl refl) in
    ap (λ (o : Option ℕ). option_zip (number_of (take place field)) o) nothing ∙ zip_none (number_of (take place field)))
    (cases_lt place (length field))

pub ratio_of-split : (field : List ℕ) (slash : ℕ) → position is_slash field ≡ Some slash → ratio_of field ≡ option_zip (number_of (take slash field)) (number_of (drop (slash + 1) field))
unfolding ratio_of
ratio_of-split field slash e =
    let place : ℕ = position_or_len is_slash field in
    let same : place ≡ slash = (cond_some (ltb place (length field)) place slash e).1 in
    ap (λ (k : ℕ). option_zip (number_of (take k field)) (number_of (drop (k + 1) field))) same
