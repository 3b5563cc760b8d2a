-- What entries tell at a stamp.
use Rattle.std.proofs.Common.{◌≡◌, ◌<◌, ◌==◌, ℕ, zero, suc, List, [], ◌∷◌, ◌++◌, map, take, replicate, set, Option, Some, None, refl, sym, ap, ◌∙◌, subst, arith}
use Rattle.std.proofs.lemmas.Bool.{cond-true, cond-false, eq-eqb, ne_eqb}
use Rattle.std.proofs.lemmas.List.{map-set}
use Rattle.std.proofs.lemmas.List.Elements.{All-append, All-replicate, All-take}
use Rattle.stamped_table.specs.declared.table.Stamped.{Stamped}
use Rattle.stamped_table.specs.Tables.{told, AreOlder, IsEmpty}

module _ {X : Type 0} where
  none_told : (now : ℕ) (e : Stamped X) → e.stamp < now → told now e ≡ None
  none_told now e older = cond-false (e.stamp == now) (Some e.value) None (ne_eqb e.stamp now (λ same. omega (arith, same, older)))

  -- a table whose entries are all older is empty
  pub older_told : (now : ℕ) (es : List (Stamped X)) → AreOlder now es → IsEmpty (map (told now) es)
  older_told now [] h place = refl
  older_told now (e ∷ es) h zero = none_told now e (h zero e (omega arith))
  older_told now (e ∷ es) h (suc place) = older_told now es (λ k d lt. h (suc k) d (omega arith)) place

  -- it stays so with more places of stamp 0
  pub older_more : (now n m : ℕ) (es new : List (Stamped X)) (x : X) → 0 < now → AreOlder now es → new ≡ take n es ++ replicate m (record { stamp = 0; value = x }) → IsEmpty (map (told now) new)
  older_more now n m es new x some h is =
      older_told now new (subst (λ (l : List (Stamped X)). AreOlder now l) (sym is)
      (All-append (λ e. e.stamp < now) (take n es) (replicate m (record { stamp = 0; value = x }))
      (All-take (λ e. e.stamp < now) n es h)
      (All-replicate (λ e. e.stamp < now) m (record { stamp = 0; value = x }) some)))

  -- a write with the stamp now is a write of the value
  pub told_set : (now place : ℕ) (es : List (Stamped X)) (x : X) → map (told now) (set es place (record { stamp = now; value = x })) ≡ set (map (told now) es) place (Some x)
  told_set now place es x =
      map-set (told now) es place (record { stamp = now; value = x }) ∙
      ap (λ (o : Option X). set (map (told now) es) place o) (cond-true (now == now) (Some x) None (eq-eqb now now refl))
