-- Sorted lists rise: no item is smaller than one before it.
use Rattle.std.proofs.Common.{◌≡◌, ℕ, ◌≤◌, false, List, [], ◌∷◌, Some, sym, ◌∙◌, subst, arith, zero, suc}
use Rattle.std.specs.List.{slice_get}
use Rattle.std.proofs.lemmas.Option.{none-some, same_Some}
use Rattle.klsm_run.specs.declared.item.Item.{Item}
use Rattle.klsm_run.specs.ItemOrder.{is_smaller}
use Rattle.klsm_run.proofs.ContentLemmas.{not_smaller_itself}
use Rattle.klsm_run.proofs.IndexLemmas.{at_each}
use Rattle.klsm_run.proofs.RankLemmas.{IsRising}

-- an item at a later index is not smaller than one at an earlier index
pub later_not_smaller : (xs : List Item) (i j : ℕ) (x y : Item) → IsRising xs → i ≤ j → slice_get xs i ≡ Some x → slice_get xs j ≡ Some y → is_smaller y x ≡ false
later_not_smaller [] i j x y up order here there = absurd (none-some x here)
later_not_smaller (z ∷ zs) zero zero x y up order here there = not_smaller_itself x y (sym (same_Some z y there) ∙ same_Some z x here)
later_not_smaller (z ∷ zs) zero (suc j) x y up order here there = subst (λ w. is_smaller y w ≡ false) (same_Some z x here) (at_each (λ w. is_smaller w z ≡ false) zs j y up.0 there)
later_not_smaller (z ∷ zs) (suc i) zero x y up order here there = absurd (omega (arith, order))
later_not_smaller (z ∷ zs) (suc i) (suc j) x y up order here there = later_not_smaller zs i j x y up.1 (omega (arith, order)) here there
