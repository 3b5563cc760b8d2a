use Rattle.std.proofs.Common.{◌≡◌, ◌≤◌, ◌++◌, ◌∷◌, [], List, length, sym, subst, arith}
use Rattle.road_model.specs.declared.change.Change.{Change}
use Rattle.route_engine.specs.Past.{AreChunks}
use Rattle.route_engine.proofs.Chunks.{chunk_added}
use Rattle.route_engine.proofs.past.Past.with.Goals as goal

pub invariant_of-result-2 : goal.invariant_of-result-2
invariant_of-result-2 c =
    let grown : c.in_ok-last.last ≡ c.self.inside.last ++ c.in_ok-batch.batch.value ∷ [] = c.in_ok-last.ensures in
    let chunk : c.in_ok-new.field-0.value ≡ c.in_ok-last.last = c.in_ok-new.ensures.ok in
    let more : c.in_ok-full-2.full ≡ c.deref.result.now ++ c.in_ok-new.field-0.value ∷ [] = c.in_ok-full-2.ensures in
    let full : c.in_ok-full-3.full.value ≡ c.in_ok-full-2.full = c.in_ok-full-3.ensures.ok in
    let before : c.deref.result.now ≡ c.self.inside.full.value = c.deref.ensures in
    let added : c.in_ok-full-3.full.value ≡ c.self.inside.full.value ++ c.in_ok-last.last ∷ [] = cc in
    let enough : 1024 ≤ length c.in_ok-last.last = omega arith in
    let chunks : AreChunks c.in_ok-full-3.full.value [] =
    chunk_added c.self.inside.full.value c.self.inside.last c.in_ok-last.last c.in_ok-batch.batch.value c.args.self.now c.in_ok-full-3.full.value c.self.invariant c.self.view_is c.requires grown enough added in
    let P : List (List Change) → Type 0 = AreChunks c.in_ok-full-3.full.value in
    subst P (sym c.new-last.ensures) chunks
