use Rattle.std.proofs.Common.{◌≡◌, false, true, refl, arith}
use Rattle.recheck.proofs.Splits.{local_up_to}
use Rattle.recheck.proofs.across.is_local_at.Goals as goal

-- no longer subpath has to be shortest
pub returns-then-not-is_tested : goal.returns-then-not-is_tested
returns-then-not-is_tested c = (
  (λ _. local_up_to c.args.basis.now c.args.places.now c.args.first c.args.via_at c.loop-last.last c.requires.measured c.requires.before (omega arith) c.loop-last.invariant
      (λ tested. absurd (let yes : c.is_tested.result ≡ true = c.is_tested.ensures.1 tested in let no : c.is_tested.result ≡ false = c.if-not-is_tested.true in cc))),
  (λ _. refl),
)
