-- Cursors whose texts are in the grammar.
use Rattle.std.proofs.Common.{◌<◌, ◌^◌}
use Rattle.std.proofs.lemmas.List.Elements.{All-from_recursion}
use Rattle.road_model.specs.declared.request.Cursor.{Cursor}
use Rattle.route_ranking.specs.Cursors.{IsSmall, numbers_of}
use Rattle.desk_core.specs.SmallNumbers.{AreQuerySmall}

pub small_cursor : (c : Cursor) → c.version < 10 ^ 19 → AreQuerySmall c.query → c.size < 10 ^ 19 → c.offset < 10 ^ 19 → IsSmall c
small_cursor c version q size offset =
    All-from_recursion (λ n. n < 10 ^ 19) (numbers_of c)
    (version, (q.source, (q.target, (q.gamma.num, (q.gamma.den, (q.alpha.num, (q.alpha.den, (q.epsilon.num, (q.epsilon.den, (size, (offset, tt)))))))))))
