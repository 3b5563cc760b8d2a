-- What a run of requests keeps from one to the next.
--   Key                 what an answer is kept by: a version, and the numbers of a query as they were given
--   State               the batches of changes that were published, the changes that are staged for the next one, how
--                       many answers may be kept, and the keys of those that are, the last used first
--   at_start room       nothing yet, with room for so many answers
--   newest state        the number of the newest version: version 1 is the graph itself, and each batch makes one more
--   graph_at g state n  the graph of version n, where g is version 1
--   same_pair, same_query, same_key   whether two ratios, the numbers of two queries, or two keys are the same
--   is_kept state key   the answer of this key is kept
--   used state key      it becomes the last used; where there is no room the one used longest ago goes
--   key_in number r     the key that a request asks by, where `number` is the pinned version
--   limits_in g state r what a request is tested against
--   staging state c     one more change is staged
--   published state     what is staged becomes the batch of a new version, and nothing is staged
use Rattle.std.specs.Prelude.{ℕ, ◌+◌, ◌-◌, ◌==◌, ◌&&◌, not, Bool, false, List, [], ◌∷◌, ◌++◌, Option, Some, None, length, take, filter}
use Rattle.std.specs.List.{list_any}
use Rattle.road_model.specs.declared.change.Change.{Change}
use Rattle.road_model.specs.declared.request.CursorQuery.{CursorQuery}
use Rattle.road_model.specs.declared.request.Request.{Request}
use Rattle.road_model.specs.declared.request.Request.TheVariants as the
use Rattle.road_model.specs.Graph.{Graph, arc_count}
use Rattle.road_model.specs.Changes.{after_all}
use Rattle.desk_core.specs.declared.refusals.Limits.{Limits}

pub record Key : Type 0 where
  pub version : ℕ
  pub query : CursorQuery

pub record State : Type 0 where
  pub batches : List (List Change)
  pub staged : List Change
  pub room : ℕ
  pub keys : List Key

abbrev pub at_start : ℕ → State
at_start room = record { batches = []; staged = []; room = room; keys = [] }

abbrev pub newest : State → ℕ
newest state = length state.batches + 1

abbrev pub graph_at : Graph → State → ℕ → Graph
graph_at g state n = after_all g (take (n - 1) state.batches)

abbrev pub same_pair : ℕ × ℕ → ℕ × ℕ → Bool
same_pair a b = (a.0 == b.0) && (a.1 == b.1)

abbrev pub same_query : CursorQuery → CursorQuery → Bool
same_query a b =
    (a.from == b.from) && ((a.to == b.to) && (same_pair a.gamma b.gamma && (same_pair a.alpha b.alpha && same_pair a.epsilon b.epsilon)))

abbrev pub same_key : Key → Key → Bool
same_key a b = (a.version == b.version) && same_query a.query b.query

abbrev pub is_kept : State → Option Key → Bool
is_kept state None = false
is_kept state (Some key) = list_any (λ k. same_key key k) state.keys

abbrev pub used : State → Key → State
used state key = record state { keys = take state.room (key ∷ filter (λ k. not (same_key key k)) state.keys) }

abbrev pub key_in : ℕ → Request → Option Key
key_in number (the.Best from to) = None
key_in number (the.Route q size since) = Some (record { version = number; query = q })
key_in number (the.Next c) = Some (record { version = c.version; query = c.query })
key_in number the.BadCursor = None
key_in number (the.Why q via since) = None
key_in number the.Version = None
key_in number (the.Length arc length) = None
key_in number the.Publish = None
key_in number the.Quit = None

abbrev pub limits_in : Graph → State → Request → Limits
limits_in g state r = record {
  vertices = g.vertices;
  arcs = arc_count g;
  number = newest state;
  kept = is_kept state (key_in (newest state) r);
}

-- one more change is staged
abbrev pub staging : State → Change → State
staging state change = record state { staged = state.staged ++ change ∷ [] }

-- what is staged becomes the batch of a new version
abbrev pub published : State → State
published state = record state { batches = state.batches ++ state.staged ∷ []; staged = [] }
