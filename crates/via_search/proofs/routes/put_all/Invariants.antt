use Rattle.std.proofs.Common.{◌≡◌, take}
use Rattle.via_search.specs.Judging.{StaysCounted}
use Rattle.via_search.specs.Sifting.{ArePut, AsksForAll}
use Rattle.via_search.proofs.routes.put_all.Given as goal

abbrev pub invariant-loop-one : goal.invariant-loop-one
invariant-loop-one g l = record {
  same : g.O.Oracle.graph l.oracle ≡ g.O.Oracle.graph l.fn.oracle;
  counted : StaysCounted (g.O.Oracle.asked l.fn.oracle) (g.O.Oracle.asked l.oracle);
  asks : AsksForAll l.setting (take l.one-index l.sifted) (g.O.Oracle.asked l.fn.oracle) (g.O.Oracle.asked l.oracle);
  put : ArePut l.setting (take l.one-index l.sifted) l.routes;
}
