-- What stays true of the first and of the last items of an ascending list.
use Rattle.std.proofs.Common.{ℕ, List, [], ◌∷◌, take, drop, zero, suc}
use Rattle.std.specs.List.{AllByRecursion}
use Rattle.klsm_run.specs.declared.item.Item.{Item}
use Rattle.klsm_run.specs.ItemOrder.{IsSmaller}
use Rattle.klsm_run.specs.Content.{IsAscending}

all_take : (P : Item → Type 0) (n : ℕ) (xs : List Item) → AllByRecursion P xs → AllByRecursion P (take n xs)
all_take P zero xs h = tt
all_take P (suc n) [] h = tt
all_take P (suc n) (x ∷ xs) h = (h.0, all_take P n xs h.1)

-- the first items of an ascending list ascend
pub ascending_take : (n : ℕ) (xs : List Item) → IsAscending xs → IsAscending (take n xs)
ascending_take zero xs h = tt
ascending_take (suc n) [] h = tt
ascending_take (suc n) (x ∷ xs) h = (all_take (IsSmaller x) n xs h.0, ascending_take n xs h.1)

-- the last items of an ascending list ascend
pub ascending_drop : (n : ℕ) (xs : List Item) → IsAscending xs → IsAscending (drop n xs)
ascending_drop zero xs h = h
ascending_drop (suc n) [] h = tt
ascending_drop (suc n) (x ∷ xs) h = ascending_drop n xs h.1
