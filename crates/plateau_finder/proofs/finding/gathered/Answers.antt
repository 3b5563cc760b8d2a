use Rattle.std.proofs.Common.{◌≡◌, [], ◌∷◌, ◌++◌, List, ℕ, length, refl, sym, subst, arith}
use Rattle.std.specs.List.Sorted.{IsStrictlyIncreasing}
use Rattle.std.proofs.lemmas.Option.{slice_get_read}
use Rattle.road_model.proofs.Walks.{sound_of}
use Rattle.plateau_finder.proofs.Gathered.{gathering_none, gathering_some, gathered_all}
use Rattle.plateau_finder.proofs.finding.gathered.Goals as goal
use Rattle.plateau_finder.proofs.finding.gathered.Goals.{in-Some+in_ok-push, in_default}

pub loop-v-preserved : goal.loop-v-preserved
loop-v-preserved c =
    let ts = c.args.pair.now in
    let items = c.as_slice-v-items.result.now in
    let here = slice_get_read c.as_slice-v-items.result.now (length c.as_slice-v-items.result.now) c.loop-v.v-index c.v-item.result refl c.loop-v-test.true c.v-item.is in
    let ascending = subst (λ (l : List ℕ). IsStrictlyIncreasing l) (sym c.as_slice-v-items.ensures) c.from_members.ensures.ascending in
    elim c.match-plateau_at.branch [
      | in-Some+in_ok-push w ↦
          let kept = w.found-is in
          let pushed = w.in_ok-push.ensures.items in
          let now : c.match-plateau_at.found.items ≡ c.loop-v.found.items ++ w.in-Some.plateau ∷ [] = cc in
          gathering_some ts c.args.bound items c.loop-v.v-index c.v-item.result c.loop-v.found.items c.match-plateau_at.found.items c.plateau_at.result w.in-Some.plateau ascending c.loop-v.invariant here c.plateau_at.ensures w.in-Some.is now
      | in_default w ↦
          let kept = w.found-is in
          let now : c.match-plateau_at.found.items ≡ c.loop-v.found.items = cc in
          gathering_none ts c.args.bound items c.loop-v.v-index c.v-item.result c.loop-v.found.items c.match-plateau_at.found.items c.plateau_at.result c.loop-v.invariant here c.plateau_at.ensures w.in_default.is now
    ]

pub returns : goal.returns
returns c =
    gathered_all c.args.pair.now c.args.bound c.as_slice-v-items.result.now c.from_members.result.now c.loop-v.v-index c.loop-v.found.items
    (sound_of c.args.pair.now.graph c.star.result.now c.star.ensures c.within_limits.ensures)
    c.from_members.ensures c.as_slice-v-items.ensures (omega arith) c.loop-v.invariant
