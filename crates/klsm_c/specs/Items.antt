-- Items, and a bound of them, as plain numbers.
use Rattle.std.specs.Prelude.{◌≡◌, ◌++◌, List, length, map, take, drop}
use Rattle.klsm_run.specs.declared.item.Item.{Item}
use Rattle.klsm_board.specs.declared.bounding.Bound.{Bound}
use Rattle.klsm_c.specs.declared.bounding.PlainBound.{PlainBound}
use Rattle.klsm_c.specs.declared.item.PlainItem.{PlainItem}

abbrev pub plain_of : Item → PlainItem
plain_of item = record { key = item.key; load = item.load; number = item.stamp.number; owner = item.stamp.owner }

-- the first items are copied, as far as there is room, and the rest of the room is as it was
abbrev pub IsCopied : List Item → List PlainItem → List PlainItem → Type 0
IsCopied items old new = new ≡ take (length old) (map plain_of items) ++ drop (length items) old

abbrev pub plain_bound_of : Bound → PlainBound
plain_bound_of bound = record { queue = bound.queue; work = bound.work; items = bound.items }
