use Rattle.tree_tests.proofs.OnPaths.{lifted_by, entry_at}
use Rattle.tree_tests.proofs.ancestors.both_lifted.Goals as goal

pub returns-then-number : goal.returns-then-number
returns-then-number c = λ ts side all. record {
  first = lifted_by ts side c.args.two.first c.in-Some.first.parent (entry_at ts side c.args.table.now c.args.two.first c.known.result c.in-Some.first all c.known.ensures c.in-Some.is).parent;
  second = lifted_by ts side c.args.two.second c.in-Some-known.second.parent (entry_at ts side c.args.table.now c.args.two.second c.known-2.result c.in-Some-known.second all c.known-2.ensures c.in-Some-known.is).parent;
}

pub returns : goal.returns
returns c = λ ts side all. record {
  first = lifted_by ts side c.args.two.first c.in-Some.first.jump (entry_at ts side c.args.table.now c.args.two.first c.known.result c.in-Some.first all c.known.ensures c.in-Some.is).jump;
  second = lifted_by ts side c.args.two.second c.in-Some-known.second.jump (entry_at ts side c.args.table.now c.args.two.second c.known-2.result c.in-Some-known.second all c.known-2.ensures c.in-Some-known.is).jump;
}
