use Rattle.std.proofs.Common.{◌≡◌, ◌<◌, ◌↔◌, IsTrue, List, ℕ, length, get_or, arith, subst}
use Rattle.std.proofs.lemmas.Bool.{iff_false}
use Rattle.recheck.proofs.ViaLemmas.{end_fails, end_passes, next_fails, passed_more, reason_fails}
use Rattle.recheck.proofs.vias.vias_fault.Goals as goal
use Rattle.recheck.proofs.vias.vias_fault.Goals.{After-stands_at}

-- what the test of the place tells, of the list of near vertices
stands : (c : After-stands_at) → IsTrue c.stands_at.result ↔ ((c.loop-via.place < length c.in_ok-nears.nears.items) × (get_or c.in_ok-nears.nears.items c.loop-via.place 0 ≡ c.via-item.result.vertex))
stands c =
    subst (λ (l : List ℕ). IsTrue c.stands_at.result ↔ ((c.loop-via.place < length l) × (get_or l c.loop-via.place 0 ≡ c.via-item.result.vertex)))
    c.deref-in-loop-via.ensures.value c.stands_at.ensures

pub returns-then-not-stands_at : goal.returns-then-not-stands_at
returns-then-not-stands_at c =
    next_fails c.args.basis.now c.args.routes.now c.in_ok-nears.nears.items c.args.line c.loop-via.at c.loop-via.place c.loop-via.via-index c.args.vias.now c.via-item.result c.fault.result
    c.in_ok-nears.ensures c.loop-via.invariant c.loop-via-test.true c.via-item.is
    (iff_false (stands (goal.at.returns-then-not-stands_at c).After-stands_at) c.if-not-stands_at.true) c.fault.ensures

pub returns-then-not-branch : goal.returns-then-not-branch
returns-then-not-branch c =
    reason_fails c.args.basis.now c.args.routes.now c.in_ok-nears.nears.items c.args.line c.loop-via.at c.loop-via.place c.loop-via.via-index c.args.vias.now c.via-item.result c.fault-then-not-branch.result
    c.in_ok-nears.ensures c.loop-via.invariant c.loop-via-test.true c.via-item.is
    ((stands (goal.at.returns-then-not-branch c).After-stands_at).0 c.if-not-stands_at.false)
    (iff_false c.in_ok-has_reason.ensures c.if-not-branch.true) c.fault-then-not-branch.ensures

pub loop-via-preserved : goal.loop-via-preserved
loop-via-preserved c =
    passed_more c.args.basis.now c.args.routes.now c.in_ok-nears.nears.items c.args.line c.loop-via.at c.in_ok-at.at c.loop-via.place c.loop-via.via-index c.args.vias.now c.via-item.result
    c.in_ok-nears.ensures c.loop-via.invariant c.loop-via-test.true c.via-item.is
    ((stands (goal.at.loop-via-preserved c).After-stands_at).0 c.if-not-stands_at.false)
    (c.in_ok-has_reason.ensures.0 c.if-not-branch.false) c.in_ok-at.ensures

pub returns-then-place-len : goal.returns-then-place-len
returns-then-place-len c =
    end_fails c.args.basis.now c.args.routes.now c.in_ok-nears.nears.items c.args.line c.loop-via.at c.loop-via.place c.loop-via.via-index c.args.vias.now c.fault-then-place-len.result
    c.in_ok-nears.ensures c.loop-via.invariant c.loop-via-test.false (omega arith) c.fault-then-place-len.ensures

pub returns : goal.returns
returns c =
    end_passes c.args.basis.now c.args.routes.now c.in_ok-nears.nears.items c.args.line c.loop-via.at c.loop-via.place c.loop-via.via-index c.args.vias.now
    c.in_ok-nears.ensures c.loop-via.invariant c.loop-via-test.false (omega arith)
