use Rattle.std.proofs.Common.{ℕ, List, length, subst}
use Rattle.std.proofs.lemmas.List.{take_rest}
use Rattle.memchr.specs.Find.{Nowhere, NoneBefore, Passes, is_byte}
use Rattle.road_text.proofs.LineLemmas.{find_feed-none, find_feed-some}
use Rattle.road_text.proofs.feeds.find_feed.Goals as goal

pub returns-in-Some : goal.returns-in-Some
returns-in-Some c =
    let bytes = c.args.bytes.now in
    let from = c.args.from in
    let k = c.in-Some.feed in
    let Before : List ℕ → Type 0 = λ r. NoneBefore (Passes (is_byte 10) r) 0 (length r) k in
    let Hit : List ℕ → Type 0 = λ r. Passes (is_byte 10) r k in
    find_feed-some bytes from k c.requires.within c.requires.before
    (subst Before (take_rest bytes from) c.in-Some.ensures.0)
    (subst Hit (take_rest bytes from) c.in-Some.ensures.1)

pub returns-in-None : goal.returns-in-None
returns-in-None c =
    let bytes = c.args.bytes.now in
    let from = c.args.from in
    let None' : List ℕ → Type 0 = λ r. Nowhere (Passes (is_byte 10) r) 0 (length r) in
    find_feed-none bytes from c.requires.within c.requires.before (subst None' (take_rest bytes from) c.in-None.ensures)
