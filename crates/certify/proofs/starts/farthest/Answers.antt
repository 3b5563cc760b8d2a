use Rattle.std.proofs.Common.{rules, List, sym, subst}
use Rattle.std.proofs.lemmas.List.Sorted.{answers_always}
use Rattle.certify.specs.declared.starts.Start.{Start}
use Rattle.certify.specs.Starts.{IsSorted, AreFarthest}
use Rattle.certify.proofs.StartRuns.{IsSorted-from_sort, farthest_moved}
use Rattle.certify.proofs.starts.farthest.Goals as goal

pub run_ends-requires : goal.run_ends-requires
run_ends-requires c =
    subst (λ (l : List Start). IsSorted l) (sym c.as_slice.ensures.value)
    (IsSorted-from_sort _ (c.in_ok-sort_by_key.ensures.sorted (λ (s : Start). (s.vertex, s.rest)) (answers_always _ _ _ (λ f a r g h. search rules))))

pub returns : goal.returns
returns c =
    farthest_moved c.args.starts.items c.sort_by_key.new.self.items c.args.source c.in_ok-kept.kept.items c.in_ok-sort_by_key.ensures.permutation
    (subst (λ (l : List Start). AreFarthest l c.args.source c.in_ok-kept.kept.items) c.as_slice.ensures.value c.in_ok-kept.ensures)
