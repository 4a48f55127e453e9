-- What stays true of an ascending list when an item is removed.
use Rattle.std.proofs.Common.{ℕ, List, [], ◌∷◌, remove, zero, suc}
use Rattle.std.specs.List.{AllByRecursion}
use Rattle.klsm_run.specs.declared.item.Item.{Item}
use Rattle.klsm_run.specs.ItemOrder.{IsSmaller}
use Rattle.klsm_run.specs.Content.{IsAscending}

pub all_remove : (P : Item → Type 0) (xs : List Item) (i : ℕ) → AllByRecursion P xs → AllByRecursion P (remove xs i)
all_remove P [] zero h = tt
all_remove P [] (suc i) h = tt
all_remove P (x ∷ xs) zero h = h.1
all_remove P (x ∷ xs) (suc i) h = (h.0, all_remove P xs i h.1)

pub ascending_remove : (xs : List Item) (i : ℕ) → IsAscending xs → IsAscending (remove xs i)
ascending_remove [] zero h = tt
ascending_remove [] (suc i) h = tt
ascending_remove (x ∷ xs) zero h = h.1
ascending_remove (x ∷ xs) (suc i) h = (all_remove (IsSmaller x) xs i h.0, ascending_remove xs i h.1)
