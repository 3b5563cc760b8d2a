use Rattle.std.proofs.Common.{ℕ, subst, sym, ◌∙◌}
use Rattle.tree_tests.specs.Ancestors.{IsOn}
use Rattle.tree_tests.proofs.OnPaths.{lifted_itself, lifted_both, higher_some}
use Rattle.tree_tests.proofs.ancestors.met.Goals as goal

pub loop-init : goal.loop-init
loop-init c = λ ts side all. (lifted_itself ts side c.args.w, lifted_itself ts side c.args.x)

pub returns-then-number : goal.returns-then-number
returns-then-number c = λ ts side all on_w on_x.
    let both = c.loop.invariant ts side all in
    (both.0 c.args.w on_w, subst (λ (y : ℕ). IsOn ts side y c.args.x) (sym c.number-in-loop.ensures.value ∙ sym c.if-number.true ∙ c.number.ensures.value) (both.1 c.args.x on_x))

pub loop-preserved : goal.loop-preserved
loop-preserved c = λ ts side all.
    let both = c.loop.invariant ts side all in
    let up = higher_some ts side c.loop.two c.higher.result c.in-Some.next (c.higher.ensures ts side all) c.in-Some.is in
    (lifted_both ts side c.args.w c.loop.two.first c.in-Some.next.first both.0 up.first, lifted_both ts side c.args.x c.loop.two.second c.in-Some.next.second both.1 up.second)
