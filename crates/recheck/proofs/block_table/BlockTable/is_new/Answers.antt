use Rattle.std.proofs.Common.{◌≡◌, ◌<◌, ◌≤◌, None, refl, sym, ⊎_elim, take}
use Rattle.std.proofs.lemmas.Bool.{cases_lt, leb-true, le-leb}
use Rattle.recheck.specs.Rows.{block_of}
use Rattle.recheck.proofs.BlockPlaces.{new_at, old_at, new_everywhere}
use Rattle.recheck.proofs.block_table.BlockTable.is_new.Goals as goal

pub returns-in-Some : goal.returns-in-Some
returns-in-Some c = (
  λ yes. new_at c.args.self.now c.args.kind c.args.root c.args.place c.in-Some.first (sym c.in-Some.ensures) (leb-true c.args.place c.in-Some.first yes),
  λ (none : block_of (take c.args.place c.args.self.now) c.args.kind c.args.root ≡ None).
      le-leb c.args.place c.in-Some.first
      (⊎_elim
      (λ (lt : c.in-Some.first < c.args.place). absurd (old_at c.args.self.now c.args.kind c.args.root c.args.place c.in-Some.first (sym c.in-Some.ensures) lt none))
      (λ (ge : c.args.place ≤ c.in-Some.first). ge)
      (cases_lt c.in-Some.first c.args.place)),
)

pub returns-in-None : goal.returns-in-None
returns-in-None c = (λ _. new_everywhere c.args.self.now c.args.kind c.args.root c.args.place (sym c.in-None.ensures), λ _. refl)
