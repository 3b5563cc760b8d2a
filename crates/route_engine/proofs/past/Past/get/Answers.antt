use Rattle.std.proofs.Common.{◌≡◌, ◌≤◌, ◌-◌, ◌*◌, ◌/◌, ◌%◌, List, length, slice_get, option_copied, Some, None, ap, sym, ◌∙◌, arith}
use Rattle.road_model.specs.declared.change.Change.{Change}
use Rattle.route_engine.proofs.Chunks.{slice_get-full, slice_get-last, past_end}
use Rattle.route_engine.proofs.past.Past.get.Goals as goal

pub returns-in-Some : goal.returns-in-Some
returns-in-Some c =
    let found : Some c.in-Some.chunk.now ≡ slice_get c.self.inside.full.value (c.args.place / 1024) =
    sym (ap option_copied c.in-Some.is) ∙ c.get.ensures ∙ ap (λ (xs : List (List (List Change))). slice_get xs (c.args.place / 1024)) c.deref.ensures in
    c.get-in-Some.ensures
    ∙ sym (slice_get-full c.self.inside.full.value c.self.inside.last (c.args.place / 1024) (c.args.place % 1024) c.args.place c.in-Some.chunk.now c.self.invariant (omega arith) (omega arith) found)
    ∙ ap (λ (xs : List (List Change)). slice_get xs c.args.place) c.self.view_is

pub returns-in-None : goal.returns-in-None
returns-in-None c =
    let missing : None ≡ slice_get c.self.inside.full.value (c.args.place / 1024) =
    sym (ap option_copied c.in-None.is) ∙ c.get.ensures ∙ ap (λ (xs : List (List (List Change))). slice_get xs (c.args.place / 1024)) c.deref.ensures in
    let past : length c.self.inside.full.value ≤ c.args.place / 1024 = past_end c.self.inside.full.value (c.args.place / 1024) missing in
    let full : c.len.result ≡ length c.self.inside.full.value = c.len.ensures ∙ ap length c.deref-in-None.ensures in
    c.get-in-None.ensures
    ∙ sym (slice_get-last c.self.inside.full.value c.self.inside.last c.args.place (c.args.place - c.len.result * 1024) c.self.invariant (omega arith))
    ∙ ap (λ (xs : List (List Change)). slice_get xs c.args.place) c.self.view_is
