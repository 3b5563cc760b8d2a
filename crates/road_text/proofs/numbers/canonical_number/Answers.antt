use Rattle.std.proofs.Common.{◌≡◌, ◌∙◌, false, sym, arith}
use Rattle.std.proofs.lemmas.Bool.Decides.{nat_tests}
use Rattle.road_text.specs.Numbers.{has_leading_zero}
use Rattle.road_text.proofs.NumberLemmas.{canonical_of-zero, canonical_of-plain}
use Rattle.road_text.proofs.numbers.canonical_number.Goals as goal
use Rattle.road_text.proofs.numbers.canonical_number.Goals.{else-bytes-gt1-via-then-bytes-gt1+else-bytes-eq48, else-bytes-gt1-via-else-bytes-gt1}

pub returns-then-bytes-eq48 : goal.returns-then-bytes-eq48
returns-then-bytes-eq48 c = sym (canonical_of-zero c.args.bytes.now (omega arith) c.if-bytes-eq48.true)

pub returns : goal.returns
returns c =
    let plain : has_leading_zero c.args.bytes.now ≡ false = elim c.else-bytes-gt1.branch [
      | else-bytes-gt1-via-then-bytes-gt1+else-bytes-eq48 w ↦ grind (arith, nat_tests)
      | else-bytes-gt1-via-else-bytes-gt1 w ↦ grind (arith, nat_tests)
    ] in
    c.number.ensures ∙ sym (canonical_of-plain c.args.bytes.now plain)
