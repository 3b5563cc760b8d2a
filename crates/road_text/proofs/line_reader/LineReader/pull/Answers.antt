use Rattle.std.proofs.Common.{◌≡◌, ℕ, ◌+◌, ◌<◌, ◌≤◌, List, ◌++◌, length, take, arith, ap, ◌∙◌}
use Rattle.std.specs.List.{between}
use Rattle.std.proofs.lemmas.List.{length-take-le, with_items_is}
use Rattle.std.proofs.lemmas.List.Edits.{length-between}
use Rattle.road_io.proofs.ToldLemmas.{IfTold_then}
use Rattle.road_text.proofs.HeldLemmas.{between-grown, text_same}
use Rattle.road_text.proofs.line_reader.LineReader.pull.Goals as goal

pub returns-in-Took-clause-grows : goal.returns-in-Took-clause-grows
returns-in-Took-clause-grows g c =
    let xs : List ℕ = c.args.self.now.buffer.items in
    let ys : List ℕ = c.read_into.new.buffer in
    let from : ℕ = c.args.self.now.end in
    let room : ℕ = c.min-room.result in
    let n : ℕ = c.in-Took.size in
    let piece : List ℕ = take n (between from (from + room) ys) in
    let some : 0 < n = c.in-Took.ensures.reads.0 in
    let few : n ≤ length (between from (from + room) ys) = c.in-Took.ensures.reads.1 in
    let len : length piece ≡ n = length-take-le n (between from (from + room) ys) few in
    let high : from + room ≤ length ys = omega (arith, c.as_mut_slice.ensures.len, c.args.self.now.room, c.requires.room) in
    let prefix : take from ys ≡ take from xs = c.read_into.ensures.prefix ∙ ap (λ (zs : List ℕ). take from zs) c.as_mut_slice.ensures.value in
    let within : n ≤ room = omega (arith, length-between ys from (from + room) high) in
    let stored = with_items_is c.args.self.now.buffer ys (omega (arith, c.as_mut_slice.ensures.len)) in
    (piece, omega arith, ap (λ (zs : List ℕ). between c.args.self.now.start (from + n) zs) stored ∙ between-grown xs ys c.args.self.now.start from room n c.requires.prefix prefix within, omega arith)

pub returns-in-Took-clause-told : goal.returns-in-Took-clause-told
returns-in-Took-clause-told g c =
    let xs : List ℕ = c.args.self.now.buffer.items in
    let ys : List ℕ = c.read_into.new.buffer in
    let from : ℕ = c.args.self.now.end in
    let room : ℕ = c.min-room.result in
    let n : ℕ = c.in-Took.size in
    let piece : List ℕ = take n (between from (from + room) ys) in
    let few : n ≤ length (between from (from + room) ys) = c.in-Took.ensures.reads.1 in
    let high : from + room ≤ length ys = omega (arith, c.as_mut_slice.ensures.len, c.args.self.now.room, c.requires.room) in
    let prefix : take from ys ≡ take from xs = c.read_into.ensures.prefix ∙ ap (λ (zs : List ℕ). take from zs) c.as_mut_slice.ensures.value in
    let within : n ≤ room = omega (arith, length-between ys from (from + room) high) in
    let stored = with_items_is c.args.self.now.buffer ys (omega (arith, c.as_mut_slice.ensures.len)) in
    let grown = ap (λ (zs : List ℕ). between c.args.self.now.start (from + n) zs) stored ∙ between-grown xs ys c.args.self.now.start from room n c.requires.prefix prefix within in
    IfTold_then _ _ _ _ (λ (before after : List ℕ) (e : before ≡ piece ++ after). text_same (between c.args.self.now.start from xs) _ piece before after grown e) c.in-Took.ensures.reads.2
