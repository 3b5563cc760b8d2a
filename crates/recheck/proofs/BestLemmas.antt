-- The optimum that a block gives.
use Rattle.std.proofs.Common.{◌≡◌, ℕ, Bool, IsTrue, ◌↔◌, List, reverse, Some, sym, ap, ◌∙◌, subst}
use Rattle.std.proofs.lemmas.List.{reverse-reverse}
use Rattle.road_model.specs.Graph.{reversed}
use Rattle.certificate_text.specs.declared.certificate.BlockKind.TheVariants as kind
use Rattle.certificate_text.specs.declared.certificate.BlockRow.{BlockRow}
use Rattle.recheck.specs.Rows.{row_of, HasBlock}
use Rattle.recheck.specs.Paths.{Ground, Follows, IsBest}

pub best_is : (o : Ground) (row : BlockRow) (walk : List ℕ) (t : Bool) → HasBlock o.blocks kind.From o.query.from → HasBlock o.blocks kind.To o.query.to → row_of o.from_rows o.query.to ≡ Some row → o.best ≡ row.label
    → walk ≡ reverse o.optimum → IsTrue t ↔ Follows (reversed o.graph) o.from_rows o.query.from o.query.to walk → IsTrue t ↔ IsBest o
best_is o row walk t source target is length turned test = (
  (λ yes. record {
    source = source;
    target = target;
    row = row;
    is = is;
    length = length;
    path = walk;
    follows = test.0 yes;
    arcs = sym (ap (λ (l : List ℕ). reverse l) turned ∙ reverse-reverse o.optimum);
  }),
  (λ best.
      let same : best.path ≡ walk = sym (reverse-reverse best.path) ∙ ap (λ (l : List ℕ). reverse l) (sym best.arcs) ∙ sym turned in
      test.1 (subst (λ (l : List ℕ). Follows (reversed o.graph) o.from_rows o.query.from o.query.to l) same best.follows)),
)
