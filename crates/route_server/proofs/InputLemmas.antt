-- What the steps of a reader of lines make of the lines of an input.
use Rattle.std.proofs.Common.{◌≡◌, ℕ, ◌<◌, true, false, Bool, cond, ltb, List, ◌++◌, length, Option, sym, ap, arith}
use Rattle.std.proofs.lemmas.Bool.Decides.{nat_tests}
use Rattle.road_text.specs.declared.line_reader.LineReader.{LineReader}
use Rattle.road_text.specs.declared.line_reader.Advance.TheVariants as advance
use Rattle.road_text.specs.Reader.{held, line_of, Steps, IsLongLine}
use Rattle.road_text.proofs.BeyondLemmas.{beyond_whole, beyond_long, read_last, read_long, read_end, over_spent, broken_failed}
use Rattle.road_model.specs.declared.request.ErrorKind.TheVariants.{Long}
use Rattle.line_front.specs.declared.requests.Parsed.{Parsed}
use Rattle.line_front.specs.declared.requests.Parsed.TheVariants as parsed
use Rattle.line_front.specs.declared.requests.Role.TheVariants as role
use Rattle.line_front.specs.Requests.{by_fields, parsed_of}
use Rattle.road_text.specs.Fields.{fields_of}
use Rattle.route_server.specs.declared.input.NextLine.TheVariants as the
use Rattle.route_server.specs.Asking.{asked_by, most_input}
use Rattle.route_server.specs.Input.{Goes}

long_test : (n m : ℕ) → m < n → ltb m n ≡ true
long_test n m h = grind (arith, nat_tests)

asked_long : (line : List ℕ) → 1024 < length line → asked_by line ≡ parsed.Error Long
unfolding parsed_of
asked_long line h = ap (λ (b : Bool). cond {A = Parsed} b (parsed.Error Long) (by_fields role.Both (fields_of line))) (long_test (length line) 1024 h)

pub go_whole : (old new : LineReader) (asked : Parsed) → asked ≡ asked_by (line_of new) → (rest after : List ℕ) → Steps old new (held old ++ rest) after advance.Whole → Goes old new rest after (the.More asked)
go_whole old new asked e rest after step text before at' =
    record { line = line_of new; is = e; beyond = beyond_whole most_input old new text rest after before at' step }

pub go_last : (old new : LineReader) (asked : Parsed) → asked ≡ asked_by (line_of new) → (rest after : List ℕ) → Steps old new (held old ++ rest) after advance.Last → Goes old new rest after (the.Last asked)
go_last old new asked e rest after step text before at' =
    record { line = line_of new; is = e; read = read_last most_input old new text rest after before at' step }

long_line : (longest : ℕ) (line : List ℕ) (first : Option ℕ) → longest ≡ 1024 → IsLongLine longest line first → (parsed.Error Long) ≡ asked_by line
long_line longest line first e h = let long : longest < length line = h.long in sym (asked_long line (omega arith))

go_long : (old new : LineReader) (first : Option ℕ) → old.longest ≡ 1024 → (rest after : List ℕ) → Steps old new (held old ++ rest) after (advance.Long true first) → Goes old new rest after (the.More (parsed.Error Long))
go_long old new first e rest after step text before at' =
    let found = beyond_long most_input old new text rest after before first at' step in
    record { line = found.0; is = long_line old.longest found.0 first e found.1; beyond = found.2 }

go_long_last : (old new : LineReader) (first : Option ℕ) → old.longest ≡ 1024 → (rest after : List ℕ) → Steps old new (held old ++ rest) after (advance.Long false first) → Goes old new rest after (the.Last (parsed.Error Long))
go_long_last old new first e rest after step text before at' =
    let found = read_long most_input old new text rest after before first at' step in
    record { line = found.0; is = long_line old.longest found.0 first e found.1; read = found.2 }

pub go_long_told : (old new : LineReader) (whole : Bool) (first : Option ℕ) → whole ≡ true → old.longest ≡ 1024 → (rest after : List ℕ) → Steps old new (held old ++ rest) after (advance.Long whole first) → Goes old new rest after (the.More (parsed.Error Long))
go_long_told old new true first w e rest after step = go_long old new first e rest after step
go_long_told old new false first w e rest after step = absurd (let h : false ≡ true = w in cc)

pub go_long_last_told : (old new : LineReader) (whole : Bool) (first : Option ℕ) → whole ≡ false → old.longest ≡ 1024 → (rest after : List ℕ) → Steps old new (held old ++ rest) after (advance.Long whole first) → Goes old new rest after (the.Last (parsed.Error Long))
go_long_last_told old new true first w e rest after step = absurd (let h : true ≡ false = w in cc)
go_long_last_told old new false first w e rest after step = go_long_last old new first e rest after step

pub go_end : (old new : LineReader) (rest after : List ℕ) → Steps old new (held old ++ rest) after advance.End → Goes old new rest after the.End
go_end old new rest after step text before at' = read_end most_input old new text rest after before at' step

pub go_over : (old new : LineReader) (rest after : List ℕ) → Steps old new (held old ++ rest) after advance.Spent → Goes old new rest after the.Over
go_over old new rest after step text before at' = over_spent most_input old new text rest after before at' step

pub go_failed : (old new : LineReader) (rest after : List ℕ) → Steps old new (held old ++ rest) after advance.Failed → Goes old new rest after the.Failed
go_failed old new rest after step text before at' = broken_failed most_input old new text rest after before at' step
