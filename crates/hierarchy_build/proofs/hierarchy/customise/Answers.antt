use Rattle.std.proofs.Common.{rules, arith}
use Rattle.hierarchy_build.proofs.Whole.{IsBuilt-read}
use Rattle.hierarchy_build.proofs.Own.{IsOwn-built, HaveSameDist-own}
use Rattle.hierarchy_build.proofs.hierarchy.customise.Goals as goal

pub invariant_of-result : goal.invariant_of-result
invariant_of-result c =
    let g = c.args.star.now in
    let limits = c.within_limits.ensures in
    let full = c.in_ok-lengths.lengths in
    let best = c.in_ok-best.best in
    let few = limits.few_vertices in
    let built = IsBuilt-read c.args.star.now (record { shape = c.args.shape.value; up = c.in_ok-up.up; down = c.in_ok-down.down }) c.deref.result.now c.deref-2.result.now c.deref-3.result.now c.deref-4.result.now full.up full.down best.up best.down c.deref.ensures c.deref-2.ensures c.deref-3.ensures c.deref-4.ensures c.requires c.in_ok-lengths.ensures c.in_ok-best.ensures.keeps c.in_ok-best.ensures.beaten c.in_ok-up.ensures c.in_ok-down.ensures in
    IsOwn-built g (record { shape = c.args.shape.value; up = c.in_ok-up.up; down = c.in_ok-down.down }) limits.is_graph (omega arith) built

pub returns : goal.returns
returns c =
    let g = c.args.star.now in
    let full = c.in_ok-lengths.lengths in
    let best = c.in_ok-best.best in
    let sound = c.within_limits.ensures.is_graph in
    let built = IsBuilt-read c.args.star.now (record { shape = c.args.shape.value; up = c.in_ok-up.up; down = c.in_ok-down.down }) c.deref.result.now c.deref-2.result.now c.deref-3.result.now c.deref-4.result.now full.up full.down best.up best.down c.deref.ensures c.deref-2.ensures c.deref-3.ensures c.deref-4.ensures c.requires c.in_ok-lengths.ensures c.in_ok-best.ensures.keeps c.in_ok-best.ensures.beaten c.in_ok-up.ensures c.in_ok-down.ensures in
    record {
      hierarchy = built.hierarchy;
      same = HaveSameDist-own g (record { shape = c.args.shape.value; up = c.in_ok-up.up; down = c.in_ok-down.down }) sound built;
      shape = search rules;
    }
