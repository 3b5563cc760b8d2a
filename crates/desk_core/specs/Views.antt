-- What a contract sees of a desk's cache.
--   kept_of e     an entry of the cache
--   desk_of c     the cache
use Rattle.std.specs.Prelude.{map}
use Rattle.std.specs.declared.sync.Arc.{Arc}
use Rattle.road_model.specs.declared.answer.Plan.{Plan}
use Rattle.lru.specs.LruCache.{LruCache}
use Rattle.desk_core.specs.States.{Key}
use Rattle.desk_core.specs.Desks.{Kept, DeskState}

abbrev pub kept_of : {Z : Type 0} → Key × Arc Plan Z → Kept
kept_of e = record { key = e.0; plan = e.1.value }

abbrev pub desk_of : {Z : Type 0} → LruCache Key (Arc Plan Z) → DeskState
desk_of c = record { room = c.cap; kept = map kept_of c.entries }
