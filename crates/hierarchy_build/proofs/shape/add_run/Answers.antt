use Rattle.std.proofs.Common.{◌≡◌, ◌+◌, ◌<◌, [], ℕ, List, length, slice_index, ap, ◌∙◌, subst, arith}
use Rattle.std.proofs.Math.ListN.{length-set}
use Rattle.std.proofs.lemmas.List.Elements.{Contains-get_or}
use Rattle.std.specs.List.{Contains}
use Rattle.hierarchy_build.specs.Waits.{IsRun}
use Rattle.hierarchy_build.proofs.Waits.{Turned, turned}
use Rattle.hierarchy_build.proofs.shape.add_run.Goals as goal

pub send-requires : goal.send-requires
send-requires c = λ k inside.
    let run : IsRun c.take-run.result.items c.into_run.new.heads.items = c.into_run.ensures in
    let is : c.as_slice-2.result.now ≡ c.into_run.new.heads.items = c.as_slice-2.ensures.value in
    let low : k < length c.into_run.new.heads.items = subst (λ (l : List ℕ). k < length l) is inside in
    let member = run.only (slice_index c.into_run.new.heads.items k) (Contains-get_or c.into_run.new.heads.items k 0 low) in
    let within : slice_index c.into_run.new.heads.items k < c.args.ranks = c.requires.so_far.waits.within c.args.v (slice_index c.into_run.new.heads.items k) (subst (λ (l : List ℕ). Contains l (slice_index c.into_run.new.heads.items k)) c.take-run.ensures.taken member) in
    let size : length c.take-run.new.self ≡ c.args.ranks = ap (λ (l : List (List ℕ)). length l) c.take-run.ensures.rest ∙ length-set c.args.layout.now.pending c.args.v [] ∙ c.requires.so_far.waits.size in
    let read : slice_index c.as_slice-2.result.now k ≡ slice_index c.into_run.new.heads.items k = ap (λ (l : List ℕ). slice_index l k) is in
    omega arith

pub returns-clause-so_far : goal.returns-clause-so_far
returns-clause-so_far c =
    let old = c.args.layout.now in
    let end : c.len.result + c.len-2.result ≡ length c.args.layout.now.head.items + length c.into_run.new.heads.items = omega (arith, c.args.layout.now.head.ok.0, c.into_run.new.heads.ok.0) in
    let whole : Turned c.args.ranks c.args.v c.args.layout.now.first.items c.args.layout.now.head.items c.args.layout.now.pending c.push.new.self.items c.extend_from_slice.new.self.items c.send.new.pending =
    turned c.args.ranks c.args.v c.args.layout.now.first.items c.args.layout.now.head.items c.args.layout.now.pending c.take-run.result.items c.into_run.new.heads.items c.take-run.new.self c.as_slice.result.now c.as_slice-2.result.now (c.len.result + c.len-2.result) c.push.new.self.items c.extend_from_slice.new.self.items c.send.new.pending c.requires.so_far c.requires.rank c.take-run.ensures.taken c.take-run.ensures.rest c.into_run.ensures c.as_slice.ensures.value c.as_slice-2.ensures.value end c.in_ok-extend_from_slice.ensures.items c.in_ok-push.ensures.items c.in_ok-send.ensures in
    whole.so_far

pub returns-clause-waits : goal.returns-clause-waits
returns-clause-waits c =
    let old = c.args.layout.now in
    let end : c.len.result + c.len-2.result ≡ length c.args.layout.now.head.items + length c.into_run.new.heads.items = omega (arith, c.args.layout.now.head.ok.0, c.into_run.new.heads.ok.0) in
    let whole : Turned c.args.ranks c.args.v c.args.layout.now.first.items c.args.layout.now.head.items c.args.layout.now.pending c.push.new.self.items c.extend_from_slice.new.self.items c.send.new.pending =
    turned c.args.ranks c.args.v c.args.layout.now.first.items c.args.layout.now.head.items c.args.layout.now.pending c.take-run.result.items c.into_run.new.heads.items c.take-run.new.self c.as_slice.result.now c.as_slice-2.result.now (c.len.result + c.len-2.result) c.push.new.self.items c.extend_from_slice.new.self.items c.send.new.pending c.requires.so_far c.requires.rank c.take-run.ensures.taken c.take-run.ensures.rest c.into_run.ensures c.as_slice.ensures.value c.as_slice-2.ensures.value end c.in_ok-extend_from_slice.ensures.items c.in_ok-push.ensures.items c.in_ok-send.ensures in
    whole.waits
