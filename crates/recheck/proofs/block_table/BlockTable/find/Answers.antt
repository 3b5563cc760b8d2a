use Rattle.std.proofs.Common.{◌≡◌, ◌<◌, List, length, Some, sym, ap, ◌∙◌, subst, arith, slice_index_or}
use Rattle.certificate_text.specs.declared.certificate.Block.{Block}
use Rattle.recheck.proofs.BlockPlaces.{place_inside, place_none, block_there}
use Rattle.recheck.proofs.block_table.BlockTable.find.Goals as goal

pub bounds-self-inside-place : goal.bounds-self-inside-place
bounds-self-inside-place c =
    let inside = place_inside c.args.self.now c.args.kind c.args.root c.in-Some.place (sym c.in-Some.ensures) in
    subst (λ (l : List Block). c.in-Some.place < length l) (sym c.self.view_is) inside

pub offset_bounds-self-inside-place : goal.offset_bounds-self-inside-place
offset_bounds-self-inside-place c =
    let inside : c.in-Some.place < length c.self.inside.blocks.now = subst (λ (l : List Block). c.in-Some.place < length l) (sym c.self.view_is) (place_inside c.args.self.now c.args.kind c.args.root c.in-Some.place (sym c.in-Some.ensures)) in
    let room = c.self.told in
    omega arith

pub returns-in-Some : goal.returns-in-Some
returns-in-Some c =
    let is : c.index-self-place.result ≡ slice_index_or c.args.self.now c.in-Some.place c.index-self-place.result = subst (λ (l : List Block). c.index-self-place.result ≡ slice_index_or l c.in-Some.place c.index-self-place.result) c.self.view_is c.index-self-place.is in
    sym (block_there c.args.self.now c.args.kind c.args.root c.in-Some.place c.index-self-place.result (sym c.in-Some.ensures) is ∙ ap (λ (b : Block). Some b) c.index-self-place.is)

pub returns-in-None : goal.returns-in-None
returns-in-None c = sym (place_none c.args.self.now c.args.kind c.args.root (sym c.in-None.ensures))
