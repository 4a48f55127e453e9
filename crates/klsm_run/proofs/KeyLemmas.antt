-- Items that are told apart by their keys, for the tests.
use Rattle.std.proofs.Common.{ℕ, ◌<◌, ◌≤◌, List, arith}
use Rattle.std.specs.List.{AllByRecursion}
use Rattle.klsm_run.specs.declared.item.Item.{Item}
use Rattle.klsm_run.proofs.AllLemmas.{all_weaker}

-- each key is below k
abbrev pub KeysBelow : ℕ → List Item → Type 0
KeysBelow k = AllByRecursion (λ x. x.key < k)

pub below_weaker : (k l : ℕ) (xs : List Item) → k ≤ l → KeysBelow k xs → KeysBelow l xs
below_weaker k l xs less = all_weaker (λ x. x.key < k) (λ x. x.key < l) (λ x h. omega (arith, h, less)) xs
