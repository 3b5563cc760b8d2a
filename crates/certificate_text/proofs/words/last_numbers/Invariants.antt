use Rattle.std.proofs.Common.{◌≡◌, ℕ, suc, List, length, Option, Some, None}
use Rattle.std.specs.Borrow.{Bor}
use Rattle.certificate_text.specs.Words.{left, numbers_in}
use Rattle.certificate_text.proofs.WordLemmas.{after_opening}
use Rattle.certificate_text.proofs.words.last_numbers.Given as goal

abbrev pub invariant-words : goal.invariant-words
invariant-words l = after_opening l.numbers (numbers_in (left 32 l.rest)) ≡ numbers_in (left 32 l.fn.words)

abbrev size : Option (Bor (List ℕ)) → ℕ
size None = 0
size (Some bytes) = suc (length bytes.now)

abbrev pub decreases-words : goal.decreases-words
decreases-words l = size l.rest
